pub mod Forms
pub mod Says
pub mod FlatReadsBack
pub mod GivenIsFlat
pub mod AbsentHasNoSay
