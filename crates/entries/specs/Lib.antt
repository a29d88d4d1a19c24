pub mod Entries
pub mod Link
pub mod Subscriber
