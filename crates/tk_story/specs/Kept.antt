-- A story as its keeper shows it.
use Rattle.std.specs.Prelude.{List}
use Rattle.tk_input.specs.declared.event.Event.{Event}
use Rattle.tk_story.specs.Story.{StoryView}

-- a finished story, and the list of events that is kept with it
pub record KeptStory : Type 0 where
  pub story : StoryView
  pub events : List Event
