pub mod Factors
pub mod Replacing
pub mod Writing
pub use Rattle.tk_base.specs.Ascending
pub use Rattle.tk_base.specs.Pairs
pub use Rattle.tk_base.specs.Sum
