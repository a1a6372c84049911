pub mod EventLemmas
pub mod ListLemmas
pub mod NameLemmas
pub mod ShowLemmas
pub mod TellingLemmas
pub mod TurnLemmas
pub mod WritingLemmas
