pub mod Expanded
pub mod Reading
pub mod TickEnds
pub mod Ticks
pub mod Validity
pub mod Window
pub mod Laws
pub use Rattle.tk_base.specs.Sum
