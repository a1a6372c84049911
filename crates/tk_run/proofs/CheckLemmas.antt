-- The story of a trace that is checked.
use Rattle.std.proofs.Common.{◌≡◌, sym, ap, ◌∙◌}
use Rattle.tk_input.specs.Logs.{beginnings}
use Rattle.tk_story.specs.Kept.{KeptStory}
use Rattle.tk_load.specs.declared.input.Input.{Input}
use Rattle.tk_run.specs.Ends.{IsTracedOf}

-- the story of an input begins before all changes
pub begins : (input : Input) (kept : KeptStory) → IsTracedOf input kept → kept.story.from ≡ beginnings kept.story.logs
begins input kept is = is.story.runs.from_is ∙ ap beginnings (sym is.story.runs.logs_is)
