mod Examples
pub mod LinesLemmas
pub mod FrontLemmas
pub mod PlainLemmas
pub mod RangeLemmas
pub mod TakingLemmas
pub mod TurnLemmas
