pub mod ActorLemmas
pub mod EndLemmas
pub mod HearingLemmas
pub mod LinkLemmas
pub mod OddLemmas
pub mod PassingLemmas
pub mod ReadingLemmas
pub mod SayingLemmas
