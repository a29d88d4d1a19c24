pub mod Sizes
pub mod Challenge
pub mod Draw
pub mod InvokeId
pub mod User
pub mod Laws
pub mod Proof
