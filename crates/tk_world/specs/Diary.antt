-- The events that took place, and the room that stands reserved for further ones. No public clause cites this file.
use Rattle.std.specs.Prelude.{ℕ, List}
use Rattle.tk_input.specs.declared.event.Event.{Event}

-- the events, for how many raises room is kept, and for how many events besides
pub record DiaryView : Type 0 where
  pub events : List Event
  pub raises : ℕ
  pub spare : ℕ
