pub mod Cables
pub mod Chunks
pub mod Counting
pub mod Hosting
pub mod Laws
pub mod Memory
pub mod Rings
