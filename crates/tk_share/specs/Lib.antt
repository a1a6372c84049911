pub mod Shares
pub use Rattle.tk_base.specs.Sum
