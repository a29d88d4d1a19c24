pub mod Powers
pub mod NumberSteps
pub mod UserNumbers
pub mod UserKeys
pub mod Formats
pub mod InvokeIds
