pub mod StandingLemmas
pub mod CompactedLemmas
pub mod RoomLemmas
pub mod ToldLemmas
pub mod BaseLemmas
pub mod AnewLemmas
pub mod ChainLemmas
pub mod BeginLemmas
pub mod AsBeforeLemmas
mod Examples
