pub mod FrontLemmas
pub mod JournalLemmas
pub mod RecordLemmas
pub mod RunLemmas
pub mod TrailLemmas
