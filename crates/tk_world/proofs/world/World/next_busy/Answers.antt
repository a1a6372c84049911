use Rattle.std.proofs.Common.{subst}
use Rattle.tk_story.specs.Kept.{KeptStory}
use Rattle.tk_world.specs.World.{IsAtRest}
use Rattle.tk_world.proofs.WorldLemmas.{rests}
use Rattle.tk_world.proofs.world.World.next_busy.Goals as goal

pub returns-clause-skipped : goal.returns-clause-skipped
returns-clause-skipped g c = λ mon from before.
    let w = c.self.inside in
    let v = g.N.Nodes.seen w.nodes in
    subst (λ (k : KeptStory). IsAtRest k.story mon) c.self.view_is
    (rests v.coordinator.settings w.logs w.from v.coordinator.journal v.seats w.diary.raises w.work mon c.self.invariant (c.next.ensures.skipped mon from before))
