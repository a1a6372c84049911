pub mod SumLemmas
pub mod WritingLemmas
pub mod ReplacingLemmas
