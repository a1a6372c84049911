pub mod Frames
pub mod Text
pub mod Told
pub mod Turned
