pub mod Blocks
pub mod Node
pub mod Rank
pub mod Sides
pub mod Tree
pub use Rattle.tk_base.specs.Objects
pub use Rattle.tk_border.specs.Levels
