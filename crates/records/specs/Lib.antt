pub mod Tags
pub mod Numbers
pub mod Parts
pub mod Tape
pub mod Reports
pub mod Sheet
pub mod Laws
