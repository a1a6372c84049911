pub mod Standing
pub mod Compacted
pub mod Room
pub mod Anew
pub mod Begun
