use Rattle.std.proofs.Common.{◌∷◌, ◌++◌, [], ◌∙◌, List, refl, sym, ap, subst}
use Rattle.std.proofs.lemmas.Result.{err_from_is_err_and}
use Rattle.std.specs.Prelude.{is_some}
use Rattle.tk_input.specs.declared.event.Event.{Event}
use Rattle.tk_input.specs.declared.event.Event.TheVariants.{Check}
use Rattle.tk_story.specs.Kept.{KeptStory}
use Rattle.tk_story.specs.Story.{IsStory}
use Rattle.tk_world.specs.Diary.{DiaryView}
use Rattle.tk_world.specs.Events.{next_of}
use Rattle.tk_world.specs.Seats.{story_with}
use Rattle.tk_world.proofs.EnabledLemmas.{on_err}
use Rattle.tk_world.proofs.NodesLemmas.{Idles, check_none, check_on, check_with, has_seat}
use Rattle.tk_world.proofs.WorldLemmas.{Leaves, rests}
use Rattle.tk_world.proofs.StillLemmas.{holds_still, legal_still, same_story}
use Rattle.tk_world.proofs.world.World.check.Goals as goal

pub returns-then-not-contains-clause-ok : goal.returns-then-not-contains-clause-ok
returns-then-not-contains-clause-ok g c =
    let w = c.self.inside in
    let v = g.N.Nodes.seen w.nodes in
    let rest = rests v.coordinator.settings w.logs w.from v.coordinator.journal v.seats w.diary.raises w.work c.args.mon.0 c.self.invariant (sym c.contains.ensures ∙ c.if-not-contains.true) in
    (ap (λ (k : KeptStory). next_of k.story (Check c.args.mon)) (sym c.self.view_is) ∙ rest.check, refl)

-- nothing is due, and the monitor may be at rest from then on
pub idles : (g : _) (c : goal.After-remove_if g) → Idles (g.N.Nodes.seen c.self.inside.nodes) c.self.inside.logs c.self.inside.from c.args.mon c.self.inside.diary.raises c.remove_if.new.self
idles g c =
    let w = c.self.inside in
    check_none (g.N.Nodes.seen w.nodes) w.logs w.from w.diary.raises w.work c.remove_if.new.self c.args.mon c.checked.result c.monitor.result.now c.has_empty_links-is_empty.result
    c.self.invariant (sym c.contains.ensures ∙ c.if-not-contains.false) c.monitor.ensures c.checked.ensures.value c.in-Nothing.is c.has_empty_links-is_empty.ensures c.remove_if.ensures

pub invariant_of-self : goal.invariant_of-self
invariant_of-self g c = (idles g c).holds

pub returns-in-Nothing-clause-ok : goal.returns-in-Nothing-clause-ok
returns-in-Nothing-clause-ok g c = (ap (λ (k : KeptStory). next_of k.story (Check c.args.mon)) (sym c.self.view_is) ∙ (idles g c).none, c.self.view_is)

pub returns-in-Nothing-clause-legal : goal.returns-in-Nothing-clause-legal
returns-in-Nothing-clause-legal g c = (idles g c).holds.story

pub returns-in_err-reserve-clause-enabled : goal.returns-in_err-reserve-clause-enabled
returns-in_err-reserve-clause-enabled g c =
    let w = c.self.inside in
    on_err c.from_residual.result
    (ap (λ (k : KeptStory). is_some (next_of k.story (Check c.args.mon))) (sym c.self.view_is)
    ∙ check_on (g.N.Nodes.seen w.nodes) w.logs w.from w.diary.raises w.work c.args.mon c.checked.result c.monitor.result.now c.self.invariant (sym c.contains.ensures ∙ c.if-not-contains.false)
    c.monitor.ensures c.checked.ensures.value c.in_default.not-Nothing)

pub returns-in_err-check-clause-enabled : goal.returns-in_err-check-clause-enabled
returns-in_err-check-clause-enabled g c =
    let w = c.self.inside in
    on_err c.from_residual-in_err-check.result
    (ap (λ (k : KeptStory). is_some (next_of k.story (Check c.args.mon))) (sym c.self.view_is)
    ∙ check_on (g.N.Nodes.seen w.nodes) w.logs w.from w.diary.raises w.work c.args.mon c.checked.result c.monitor.result.now c.self.invariant (sym c.contains.ensures ∙ c.if-not-contains.false)
    c.monitor.ensures c.checked.ensures.value c.in_default.not-Nothing)

pub leaves : (g : _) (c : goal.After-note g) → Leaves (story_with (g.N.Nodes.seen c.self.inside.nodes) c.self.inside.logs c.self.inside.from) (Check c.args.mon)
    (g.N.Nodes.seen c.check.new.self).coordinator.settings c.self.inside.logs c.self.inside.from (g.N.Nodes.seen c.check.new.self).coordinator.journal (g.N.Nodes.seen c.check.new.self).seats
    c.note.new.self.raises c.self.inside.work
leaves g c =
    let w = c.self.inside in
    check_with (g.N.Nodes.seen w.nodes) (g.N.Nodes.seen c.check.new.self) w.logs w.from w.diary.raises c.note.new.self.raises w.work c.args.mon c.checked.result c.monitor.result.now
    c.self.invariant (sym c.contains.ensures ∙ c.if-not-contains.false) c.monitor.ensures c.checked.ensures.value c.in_default.not-Nothing c.in_ok-check.ensures.ok
    (ap (λ (d : DiaryView). d.raises) c.note.ensures ∙ c.reserve.ensures.raises)

pub invariant_of-self-2 : goal.invariant_of-self-2
invariant_of-self-2 g c = (leaves g c).holds

pub returns-clause-ok : goal.returns-clause-ok
returns-clause-ok g c = (
  ap (λ (k : KeptStory). next_of k.story (Check c.args.mon)) (sym c.self.view_is) ∙ (leaves g c).next,
  ap (λ (d : DiaryView). d.events) c.note.ensures ∙ ap (λ (es : List Event). es ++ Check c.args.mon ∷ []) (c.reserve.ensures.events ∙ ap (λ (k : KeptStory). k.events) c.self.view_is),
)

pub returns-clause-legal : goal.returns-clause-legal
returns-clause-legal g c = (leaves g c).holds.story

pub returns-then-not-contains-clause-enabled : goal.returns-then-not-contains-clause-enabled
returns-then-not-contains-clause-enabled g c = tt

pub returns-then-not-contains-clause-err : goal.returns-then-not-contains-clause-err
returns-then-not-contains-clause-err g c = tt

pub returns-then-not-contains-clause-legal : goal.returns-then-not-contains-clause-legal
returns-then-not-contains-clause-legal g c = subst (λ (k : KeptStory). IsStory k.story) c.self.view_is c.self.invariant.story

pub returns-in-Nothing-clause-enabled : goal.returns-in-Nothing-clause-enabled
returns-in-Nothing-clause-enabled g c = tt

pub returns-in-Nothing-clause-err : goal.returns-in-Nothing-clause-err
returns-in-Nothing-clause-err g c = tt

pub monitor-requires : goal.monitor-requires
monitor-requires g c =
    let w = c.self.inside in
    has_seat (g.N.Nodes.seen w.nodes) w.logs w.from c.args.mon.0 c.self.invariant.story (c.self.invariant.within c.args.mon.0 (sym c.contains.ensures ∙ c.if-not-contains.false))

pub has_empty_links-is_empty-requires : goal.has_empty_links-is_empty-requires
has_empty_links-is_empty-requires g c =
    let w = c.self.inside in
    has_seat (g.N.Nodes.seen w.nodes) w.logs w.from c.args.mon.0 c.self.invariant.story (c.self.invariant.within c.args.mon.0 (sym c.contains.ensures ∙ c.if-not-contains.false))

pub check-requires : goal.check-requires
check-requires g c =
    let w = c.self.inside in
    has_seat (g.N.Nodes.seen w.nodes) w.logs w.from c.args.mon.0 c.self.invariant.story (c.self.invariant.within c.args.mon.0 (sym c.contains.ensures ∙ c.if-not-contains.false))

-- there is no memory, and the world is as it was
pub returns-in_err-reserve-clause-ok : goal.returns-in_err-reserve-clause-ok
returns-in_err-reserve-clause-ok g c = let p = err_from_is_err_and c.from_residual.result c.from_residual.ensures.1 in rw p.1 tt

pub returns-in_err-reserve-clause-err : goal.returns-in_err-reserve-clause-err
returns-in_err-reserve-clause-err g c =
    let w = c.self.inside in
    let v = g.N.Nodes.seen w.nodes in
    on_err c.from_residual.result (same_story v v w.logs w.from w.diary.events c.reserve.new.self.events c.args.self.now refl c.reserve.ensures.events c.self.view_is)

pub returns-in_err-reserve-clause-legal : goal.returns-in_err-reserve-clause-legal
returns-in_err-reserve-clause-legal g c = c.self.invariant.story

pub invariant_of-self-in_err-reserve : goal.invariant_of-self-in_err-reserve
invariant_of-self-in_err-reserve g c =
    let w = c.self.inside in
    let v = g.N.Nodes.seen w.nodes in
    holds_still v v w.logs w.from w.diary.raises c.reserve.new.self.raises w.work refl c.reserve.ensures.raises c.self.invariant

pub returns-in_err-check-clause-ok : goal.returns-in_err-check-clause-ok
returns-in_err-check-clause-ok g c = let p = err_from_is_err_and c.from_residual-in_err-check.result c.from_residual-in_err-check.ensures.1 in rw p.1 tt

pub returns-in_err-check-clause-err : goal.returns-in_err-check-clause-err
returns-in_err-check-clause-err g c =
    let w = c.self.inside in
    let v = g.N.Nodes.seen w.nodes in
    on_err c.from_residual-in_err-check.result (same_story v (g.N.Nodes.seen c.check.new.self) w.logs w.from w.diary.events c.reserve.new.self.events c.args.self.now c.in_err-check.ensures.err c.reserve.ensures.events c.self.view_is)

pub returns-in_err-check-clause-legal : goal.returns-in_err-check-clause-legal
returns-in_err-check-clause-legal g c =
    let w = c.self.inside in
    let v = g.N.Nodes.seen w.nodes in
    legal_still v (g.N.Nodes.seen c.check.new.self) w.logs w.from c.in_err-check.ensures.err c.self.invariant.story

pub invariant_of-self-in_err-check : goal.invariant_of-self-in_err-check
invariant_of-self-in_err-check g c =
    let w = c.self.inside in
    let v = g.N.Nodes.seen w.nodes in
    holds_still v (g.N.Nodes.seen c.check.new.self) w.logs w.from w.diary.raises c.reserve.new.self.raises w.work c.in_err-check.ensures.err c.reserve.ensures.raises c.self.invariant

pub returns-clause-enabled : goal.returns-clause-enabled
returns-clause-enabled g c = tt

pub returns-clause-err : goal.returns-clause-err
returns-clause-err g c = tt
