pub mod Carried
pub mod Connected
pub mod SoFar
