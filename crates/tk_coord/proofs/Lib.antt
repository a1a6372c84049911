pub mod AnswerLemmas
pub mod AskLemmas
pub mod AskedLemmas
pub mod AssignLemmas
pub mod BatchLemmas
mod BeginLemmas
mod BegunLemmas
pub mod BoardLemmas
pub mod ClosingLemmas
mod ContentLemmas
pub mod CountedTurns
mod DealingLemmas
pub mod DealtLemmas
pub mod DemandLemmas
mod ElementLemmas
mod EntriesLemmas
pub mod FollowLemmas
pub mod GroundLemmas
pub mod GrowLemmas
pub mod KeepLemmas
pub mod PeerLemmas
pub mod PeerReadings
mod NoteLemmas
mod OutcomesLemmas
mod PlaceLemmas
pub mod RangeLemmas
pub mod ReportTurns
mod RetuneTurns
mod SearchLemmas
mod SettledSteps
pub mod SettledTurns
mod ShownLemmas
pub mod StandLemmas
pub mod TakeLemmas
pub mod TellLemmas
pub mod TurnsLemmas
mod ValuesLemmas
pub mod ValuesTurns
