pub mod Beats
pub mod Fields
pub mod Kept
pub mod Run
pub mod Laws
