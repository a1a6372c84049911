mod Examples
pub mod BufferLemmas
pub mod GreetingLemmas
pub mod JointLemmas
pub mod ParseLemmas
pub mod QueueLemmas
pub mod StoreLemmas
