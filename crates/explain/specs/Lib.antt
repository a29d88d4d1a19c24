pub mod Progress
pub mod WellFormed
