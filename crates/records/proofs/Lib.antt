pub mod NumberLemmas
pub mod WriteLemmas
pub mod PartLemmas
pub mod FrontLemmas
pub mod TapeLemmas
pub mod SheetLemmas
