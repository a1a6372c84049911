pub mod SumsLemmas
pub mod KeptLemmas
pub mod RunLemmas
