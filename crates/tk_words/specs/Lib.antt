pub mod Asked
pub mod Clap
pub mod Forms
pub mod Manual
pub mod Words
