pub mod AscendingLemmas
pub mod EqualLemmas
pub mod HistoryLemmas
pub mod PairsLemmas
mod SearchLemmas
pub mod BoolLemmas
pub mod CompareLemmas
pub mod OptionLemmas
pub mod ListLemmas
pub mod SumLemmas
pub mod MemberLemmas
pub mod FindLemmas
pub mod DigitsLemmas
