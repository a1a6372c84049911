pub mod ExchangeLemmas
pub mod HearLemmas
pub mod OddLemmas
pub mod PortLemmas
pub mod SideLemmas
pub mod TurnLemmas
