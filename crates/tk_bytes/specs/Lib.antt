pub mod Greeting
pub mod Line
pub mod Wired
pub mod Way
