pub mod Parts
pub mod Forms
pub mod Flat
pub mod Given
pub mod Calls
pub mod Laws
