pub mod Found
pub mod Contents
pub mod Steps
pub mod Changes
