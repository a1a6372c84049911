pub mod ChainLemmas
pub mod CutLemmas
pub mod FallLemmas
pub mod OrderLemmas
pub mod PlayLemmas
pub mod SessionLemmas
