use Rattle.std.proofs.Common.{◌≡◌, take}
use Rattle.tk_story.specs.Story.{IsStory}
use Rattle.tk_drain.specs.Drive.{keep_all}
use Rattle.tk_drain.proofs.finishing.drive.Given as goal

-- the events so far are kept where they were enabled
abbrev pub invariant-loop-i : goal.invariant-loop-i
invariant-loop-i g l = record { story : IsStory l.world.story; kept : l.world ≡ keep_all l.initial.world (take l.i l.order.events) }
