pub mod Generated
pub mod Laws
pub mod MultiInput
pub mod Processes
pub mod RunMark
pub mod SessionInput
pub mod Told
pub mod Traced
