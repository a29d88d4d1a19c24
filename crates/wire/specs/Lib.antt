pub mod Tags
pub mod Fields
pub mod FieldValues
pub mod Digits
pub mod Fronts
pub mod Codes
