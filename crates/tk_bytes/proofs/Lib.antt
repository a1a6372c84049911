pub mod AdmitLemmas
pub mod DownLemmas
pub mod HelloLemmas
pub mod JoinLemmas
pub mod LineLemmas
pub mod MakingLemmas
pub mod WayLemmas
pub mod WiredLemmas
