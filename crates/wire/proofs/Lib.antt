pub mod Writes
pub mod DigitLemmas
pub mod Options
pub mod FieldLemmas
pub mod ValueLemmas
