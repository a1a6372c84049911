use Rattle.std.proofs.Common.{refl, subst, sym}
use Rattle.std.proofs.lemmas.Bool.{true_from_ne_false}
use Rattle.tk_story.specs.Kept.{KeptStory}
use Rattle.tk_world.specs.Events.{CanOnlyChange}
use Rattle.tk_world.specs.Seats.{story_with}
use Rattle.tk_world.proofs.EnabledLemmas.{all_at_rest, one_at_work}
use Rattle.tk_world.proofs.RestLemmas.{all_rest}
use Rattle.tk_world.proofs.SeatLemmas.{seat_count}
use Rattle.tk_world.proofs.WorldLemmas.{rests}
use Rattle.tk_world.proofs.world.World.is_settled.Goals as goal

pub returns-then-is_empty-clause-value : goal.returns-then-is_empty-clause-value
returns-then-is_empty-clause-value g c = (
  λ is.
      let w = c.self.inside in
      let v = g.N.Nodes.seen w.nodes in
      subst (λ (k : KeptStory). CanOnlyChange k.story) c.self.view_is
      (all_rest (story_with v w.logs w.from) (λ mon. rests v.coordinator.settings w.logs w.from v.coordinator.journal v.seats w.diary.raises w.work mon c.self.invariant (c.is_empty.ensures c.if-is_empty.true mon))),
  λ _. refl,
)

pub are_at_rest-requires : goal.are_at_rest-requires
are_at_rest-requires g c =
    let w = c.self.inside in
    let v = g.N.Nodes.seen w.nodes in
    seat_count v.coordinator.settings w.logs w.from v.coordinator.journal v.seats c.self.invariant.story

pub returns-clause-value : goal.returns-clause-value
returns-clause-value g c =
    let w = c.self.inside in
    let v = g.N.Nodes.seen w.nodes in (
      λ is. subst (λ (k : KeptStory). CanOnlyChange k.story) c.self.view_is
          (all_at_rest v.coordinator.settings w.logs w.from v.coordinator.journal v.seats w.diary.raises w.work c.self.invariant (c.are_at_rest.ensures.yes is)),
      λ only. true_from_ne_false c.are_at_rest.result (λ refused.
          one_at_work v.coordinator.settings w.logs w.from v.coordinator.journal v.seats w.diary.raises w.work c.self.invariant (c.are_at_rest.ensures.some refused)
          (subst (λ (k : KeptStory). CanOnlyChange k.story) (sym c.self.view_is) only)),
    )
