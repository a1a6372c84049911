pub mod Names
pub mod Serving
pub use Rattle.tk_port.specs.Port
pub use Rattle.tk_story.specs.Ends
pub use Rattle.tk_end.specs.Link
pub use Rattle.tk_trail.specs.Setup
