use Rattle.std.proofs.Common.{◌≡◌}
use Rattle.tk_story.specs.Story.{IsStory}
use Rattle.tk_world.specs.Events.{CanOnlyChange}
use Rattle.tk_drain.proofs.RestLemmas.{Sweeping}
use Rattle.tk_drain.proofs.sweeps.settle.Given as goal

-- each sweep so far moved something, so none was made where nothing but a raise or a retune is enabled
abbrev pub invariant-loop-moved : goal.invariant-loop-moved
invariant-loop-moved g l = record { story : IsStory l.world.story; sweeping : Sweeping l.initial.world l.world l.moved; still : CanOnlyChange l.initial.world.story → l.world ≡ l.initial.world }
