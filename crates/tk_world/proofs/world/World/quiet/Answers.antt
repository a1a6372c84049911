use Rattle.std.proofs.Common.{◌≡◌, true, sym, subst, ◌∙◌}
use Rattle.std.proofs.lemmas.Bool.{true≢false, true_from_ne_false}
use Rattle.tk_story.specs.Kept.{KeptStory}
use Rattle.tk_story.specs.Moments.{AreMembersValid, IsQuiet}
use Rattle.tk_story.proofs.QuietLemmas.{quiet_holds}
use Rattle.tk_world.specs.Seats.{story_with}
use Rattle.tk_world.proofs.QuietLemmas.{all_quiet, told_quiet}
use Rattle.tk_world.proofs.SeatLemmas.{seat_count}
use Rattle.tk_world.proofs.world.World.quiet.Goals as goal

pub are_quiet-requires : goal.are_quiet-requires
are_quiet-requires g c =
    let w = c.self.inside in
    let v = g.N.Nodes.seen w.nodes in
    seat_count v.coordinator.settings w.logs w.from v.coordinator.journal v.seats c.self.invariant.story

-- the seats are all quiet, so the story is
told : (g : _) (c : goal.After-are_quiet g) → c.are_quiet.result ≡ true → IsQuiet (story_with (g.N.Nodes.seen c.self.inside.nodes) c.self.inside.logs c.self.inside.from)
told g c is =
    let w = c.self.inside in
    let v = g.N.Nodes.seen w.nodes in
    all_quiet v.coordinator.settings w.logs w.from v.coordinator.journal v.seats w.diary.raises w.work c.self.invariant (c.are_quiet.ensures.yes is)

pub returns-clause-value : goal.returns-clause-value
returns-clause-value g c = (
  λ is. subst (λ (k : KeptStory). IsQuiet k.story) c.self.view_is (told g c is),
  λ quiet. true_from_ne_false c.are_quiet.result (λ refused.
      let w = c.self.inside in
      let v = g.N.Nodes.seen w.nodes in
      let some = c.are_quiet.ensures.some refused in
      let here = told_quiet v.coordinator.settings w.logs w.from v.coordinator.journal v.seats w.diary.raises w.work c.self.invariant (subst (λ (k : KeptStory). IsQuiet k.story) (sym c.self.view_is) quiet) some.0 some.1 some.2 in
      true≢false (sym here ∙ some.3)),
)

pub returns-clause-valid : goal.returns-clause-valid
returns-clause-valid g c = λ is.
    let w = c.self.inside in
    subst (λ (k : KeptStory). AreMembersValid k.story) c.self.view_is
    (quiet_holds (story_with (g.N.Nodes.seen w.nodes) w.logs w.from) c.self.invariant.story (told g c is))
