pub mod Counting
pub mod ShareLemmas
mod Examples
