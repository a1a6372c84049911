mod Examples
pub mod FrameLemmas
pub mod LineLemmas
pub mod SinkLemmas
pub mod TextLemmas
