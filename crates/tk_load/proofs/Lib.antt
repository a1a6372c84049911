mod BatchLemmas
mod Examples
pub mod FailLemmas
pub mod FaultLemmas
pub mod LoadLemmas
pub mod LogsLemmas
pub mod OtherLemmas
mod PartsLemmas
pub mod ReadLemmas
pub mod RetuneLemmas
pub mod ToldLemmas
pub mod UnreadLemmas
pub mod WindowedLemmas
