pub mod LevelLemmas
pub mod MembershipLemmas
pub mod PassedLemmas
pub mod RisingLemmas
pub mod UnionLemmas
mod Examples
pub mod AscendsLemmas
