use Rattle.std.proofs.Common.{◌≡◌, List, ℕ, ap, subst, ◌∙◌}
use Rattle.std.specs.Prelude.{IfOk}
use Rattle.tk_story.specs.Kept.{KeptStory}
use Rattle.tk_story.specs.Moments.{cut_of}
use Rattle.tk_world.proofs.QuietLemmas.{cut_is}
use Rattle.tk_world.proofs.SeatLemmas.{seat_count}
use Rattle.tk_world.proofs.world.World.cut.Goals as goal

pub cut_at-requires : goal.cut_at-requires
cut_at-requires g c =
    let w = c.self.inside in
    let v = g.N.Nodes.seen w.nodes in
    seat_count v.coordinator.settings w.logs w.from v.coordinator.journal v.seats c.self.invariant.story

pub returns : goal.returns
returns g c =
    let w = c.self.inside in
    let v = g.N.Nodes.seen w.nodes in
    subst (λ (xs : List (List ℕ)). IfOk c.cut_at.result (λ cut. cut ≡ xs))
    (cut_is v.coordinator.settings w.logs w.from v.coordinator.journal v.seats w.diary.raises w.work c.self.invariant ∙ ap (λ (k : KeptStory). cut_of k.story) c.self.view_is)
    c.cut_at.ensures
