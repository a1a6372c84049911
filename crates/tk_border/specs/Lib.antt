pub mod Levels
pub use Rattle.tk_base.specs.Objects
