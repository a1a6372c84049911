pub mod Assigned
pub mod Behind
pub mod Checked
pub mod Laws
pub mod Reading
pub mod Recorded
pub mod Spelling
pub mod Writing
