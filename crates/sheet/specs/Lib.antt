pub mod Adds
pub mod Bench
pub mod Outcomes
pub mod Run
pub mod Cases
pub mod Laws
