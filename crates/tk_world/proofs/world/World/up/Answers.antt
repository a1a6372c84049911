use Rattle.std.proofs.Common.{◌≡◌, ◌∷◌, ◌++◌, [], ◌∙◌, List, All, length, refl, sym, ap, subst, arith}
use Rattle.std.proofs.lemmas.Result.{err_from_is_err_and}
use Rattle.std.specs.Prelude.{is_some}
use Rattle.tk_input.specs.declared.event.Event.{Event}
use Rattle.tk_input.specs.declared.event.Event.TheVariants.{Up}
use Rattle.tk_story.specs.Kept.{KeptStory}
use Rattle.tk_story.specs.Story.{IsStory}
use Rattle.tk_world.specs.Diary.{DiaryView}
use Rattle.tk_world.specs.Events.{next_of}
use Rattle.tk_world.specs.Seats.{story_with}
use Rattle.tk_coord.specs.Coordinator.{CoordinatorView}
use Rattle.tk_journal.specs.Entries.{IsEntryOf}
use Rattle.tk_world.proofs.EnabledLemmas.{on_err}
use Rattle.tk_world.proofs.NodesLemmas.{has_seat, up_allowed, up_goes_on, up_off, up_on, up_with}
use Rattle.tk_world.proofs.WorldLemmas.{Leaves, adds_behind, few_behind, rests}
use Rattle.tk_world.proofs.StillLemmas.{holds_still, legal_still, same_story}
use Rattle.tk_world.proofs.world.World.up.Goals as goal

pub returns-then-not-contains-clause-ok : goal.returns-then-not-contains-clause-ok
returns-then-not-contains-clause-ok g c =
    let w = c.self.inside in
    let v = g.N.Nodes.seen w.nodes in
    let rest = rests v.coordinator.settings w.logs w.from v.coordinator.journal v.seats w.diary.raises w.work c.args.mon.0 c.self.invariant (sym c.contains.ensures ∙ c.if-not-contains.true) in
    (ap (λ (k : KeptStory). next_of k.story (Up c.args.mon)) (sym c.self.view_is) ∙ rest.up, refl)

pub returns-then-got-sent-clause-ok : goal.returns-then-got-sent-clause-ok
returns-then-got-sent-clause-ok g c =
    let w = c.self.inside in
    let off = up_off (g.N.Nodes.seen w.nodes) w.logs w.from w.diary.raises w.work c.args.mon c.got.result c.sent.result c.monitor.result.now c.self.invariant (sym c.contains.ensures ∙ c.if-not-contains.false)
    c.got.ensures c.monitor.ensures c.sent.ensures (let low = c.if-got-sent.true in omega (arith, low)) in
    (ap (λ (k : KeptStory). next_of k.story (Up c.args.mon)) (sym c.self.view_is) ∙ off, refl)

pub returns-in_err-reserve-clause-enabled : goal.returns-in_err-reserve-clause-enabled
returns-in_err-reserve-clause-enabled g c =
    let w = c.self.inside in
    on_err c.from_residual.result
    (ap (λ (k : KeptStory). is_some (next_of k.story (Up c.args.mon))) (sym c.self.view_is)
    ∙ up_on (g.N.Nodes.seen w.nodes) w.logs w.from w.diary.raises w.work c.args.mon c.got.result c.sent.result c.monitor.result.now c.self.invariant (sym c.contains.ensures ∙ c.if-not-contains.false)
    c.got.ensures c.monitor.ensures c.sent.ensures (let low = c.if-got-sent.false in omega (arith, low)))

pub up-requires-clause-accepted : goal.up-requires-clause-accepted
up-requires-clause-accepted g c =
    let w = c.self.inside in
    up_allowed (g.N.Nodes.seen w.nodes) w.logs w.from w.diary.raises w.work c.args.mon c.got.result c.sent.result c.monitor.result.now c.self.invariant (sym c.contains.ensures ∙ c.if-not-contains.false)
    c.got.ensures c.monitor.ensures c.sent.ensures (let low = c.if-got-sent.false in omega (arith, low))

pub returns-in_err-up-clause-enabled : goal.returns-in_err-up-clause-enabled
returns-in_err-up-clause-enabled g c =
    let w = c.self.inside in
    on_err c.from_residual-in_err-up.result
    (ap (λ (k : KeptStory). is_some (next_of k.story (Up c.args.mon))) (sym c.self.view_is)
    ∙ up_on (g.N.Nodes.seen w.nodes) w.logs w.from w.diary.raises w.work c.args.mon c.got.result c.sent.result c.monitor.result.now c.self.invariant (sym c.contains.ensures ∙ c.if-not-contains.false)
    c.got.ensures c.monitor.ensures c.sent.ensures (let low = c.if-got-sent.false in omega (arith, low)))

-- the journal before is a front of that behind
pub slice_bounds-insert_sent-count : goal.slice_bounds-insert_sent-count
slice_bounds-insert_sent-count g c =
    let w = c.self.inside in
    let on = up_goes_on (g.N.Nodes.seen w.nodes) (g.N.Nodes.seen c.up.new.self) w.logs w.from c.args.mon c.in_ok-up.ensures.ok in
    let before : length c.journal-before.result.now ≡ length (g.N.Nodes.seen w.nodes).coordinator.journal = ap (λ xs. length xs) (c.journal-before.ensures.value ∙ ap (λ (x : CoordinatorView). x.journal) c.coordinator.ensures) in
    let now : length c.journal.result.now ≡ length (g.N.Nodes.seen c.up.new.self).coordinator.journal = ap (λ xs. length xs) (c.journal.ensures.value ∙ ap (λ (x : CoordinatorView). x.journal) c.coordinator-2.ensures) in
    let longer = on.longer in
    omega (arith, before, now, longer)

pub slice_bounds-insert_sent-start : goal.slice_bounds-insert_sent-start
slice_bounds-insert_sent-start g c =
    let w = c.self.inside in
    let on = up_goes_on (g.N.Nodes.seen w.nodes) (g.N.Nodes.seen c.up.new.self) w.logs w.from c.args.mon c.in_ok-up.ensures.ok in
    let before : length c.journal-before.result.now ≡ length (g.N.Nodes.seen w.nodes).coordinator.journal = ap (λ xs. length xs) (c.journal-before.ensures.value ∙ ap (λ (x : CoordinatorView). x.journal) c.coordinator.ensures) in
    let now : length c.journal.result.now ≡ length (g.N.Nodes.seen c.up.new.self).coordinator.journal = ap (λ xs. length xs) (c.journal.ensures.value ∙ ap (λ (x : CoordinatorView). x.journal) c.coordinator-2.ensures) in
    let longer = on.longer in
    omega (arith, before, now, longer)

pub insert_sent-requires : goal.insert_sent-requires
insert_sent-requires g c =
    let w = c.self.inside in
    let on = up_goes_on (g.N.Nodes.seen w.nodes) (g.N.Nodes.seen c.up.new.self) w.logs w.from c.args.mon c.in_ok-up.ensures.ok in
    few_behind (g.N.Nodes.seen w.nodes).coordinator.settings c.coordinator-2.result.now.settings c.coordinator-2.result.now.journal c.journal.result.now c.journal-before.result.now c.self.invariant.story.limits
    (ap (λ (x : CoordinatorView). x.settings) c.coordinator-2.ensures ∙ on.settings) (sym c.journal.ensures.value) c.journal.ensures.entries

pub leaves : (g : _) (c : goal.After-note g) → Leaves (story_with (g.N.Nodes.seen c.self.inside.nodes) c.self.inside.logs c.self.inside.from) (Up c.args.mon)
    (g.N.Nodes.seen c.up.new.self).coordinator.settings c.self.inside.logs c.self.inside.from (g.N.Nodes.seen c.up.new.self).coordinator.journal (g.N.Nodes.seen c.up.new.self).seats
    c.note.new.self.raises c.insert_sent.new.self
leaves g c =
    let w = c.self.inside in
    let v' = g.N.Nodes.seen c.up.new.self in
    up_with (g.N.Nodes.seen w.nodes) v' w.logs w.from w.diary.raises c.note.new.self.raises w.work c.insert_sent.new.self c.args.mon c.self.invariant (sym c.contains.ensures ∙ c.if-not-contains.false)
    c.in_ok-up.ensures.ok
    (subst (λ (x : CoordinatorView). All (IsEntryOf x.settings.monitors x.settings.objects) x.journal) c.coordinator-2.ensures c.journal.ensures.entries)
    (adds_behind v'.coordinator.journal c.journal.result.now (g.N.Nodes.seen w.nodes).coordinator.journal c.journal-before.result.now w.work c.insert_sent.new.self
    (sym (c.journal.ensures.value ∙ ap (λ (x : CoordinatorView). x.journal) c.coordinator-2.ensures))
    (sym (c.journal-before.ensures.value ∙ ap (λ (x : CoordinatorView). x.journal) c.coordinator.ensures)) c.insert_sent.ensures)
    (ap (λ (d : DiaryView). d.raises) c.note.ensures ∙ c.reserve.ensures.raises)

pub invariant_of-self-2 : goal.invariant_of-self-2
invariant_of-self-2 g c = (leaves g c).holds

pub returns-clause-ok : goal.returns-clause-ok
returns-clause-ok g c = (
  ap (λ (k : KeptStory). next_of k.story (Up c.args.mon)) (sym c.self.view_is) ∙ (leaves g c).next,
  ap (λ (d : DiaryView). d.events) c.note.ensures ∙ ap (λ (es : List Event). es ++ Up c.args.mon ∷ []) (c.reserve.ensures.events ∙ ap (λ (k : KeptStory). k.events) c.self.view_is),
)

pub returns-clause-legal : goal.returns-clause-legal
returns-clause-legal g c = (leaves g c).holds.story

pub returns-then-not-contains-clause-enabled : goal.returns-then-not-contains-clause-enabled
returns-then-not-contains-clause-enabled g c = tt

pub returns-then-not-contains-clause-err : goal.returns-then-not-contains-clause-err
returns-then-not-contains-clause-err g c = tt

pub returns-then-not-contains-clause-legal : goal.returns-then-not-contains-clause-legal
returns-then-not-contains-clause-legal g c = subst (λ (k : KeptStory). IsStory k.story) c.self.view_is c.self.invariant.story

pub returns-then-got-sent-clause-enabled : goal.returns-then-got-sent-clause-enabled
returns-then-got-sent-clause-enabled g c = tt

pub returns-then-got-sent-clause-err : goal.returns-then-got-sent-clause-err
returns-then-got-sent-clause-err g c = tt

pub returns-then-got-sent-clause-legal : goal.returns-then-got-sent-clause-legal
returns-then-got-sent-clause-legal g c = subst (λ (k : KeptStory). IsStory k.story) c.self.view_is c.self.invariant.story

pub got-requires : goal.got-requires
got-requires g c =
    let w = c.self.inside in
    has_seat (g.N.Nodes.seen w.nodes) w.logs w.from c.args.mon.0 c.self.invariant.story (c.self.invariant.within c.args.mon.0 (sym c.contains.ensures ∙ c.if-not-contains.false))

pub monitor-requires : goal.monitor-requires
monitor-requires g c =
    let w = c.self.inside in
    has_seat (g.N.Nodes.seen w.nodes) w.logs w.from c.args.mon.0 c.self.invariant.story (c.self.invariant.within c.args.mon.0 (sym c.contains.ensures ∙ c.if-not-contains.false))

pub up-requires-clause-seat : goal.up-requires-clause-seat
up-requires-clause-seat g c =
    let w = c.self.inside in
    has_seat (g.N.Nodes.seen w.nodes) w.logs w.from c.args.mon.0 c.self.invariant.story (c.self.invariant.within c.args.mon.0 (sym c.contains.ensures ∙ c.if-not-contains.false))

-- there is no memory, and the world is as it was
pub returns-in_err-reserve-clause-ok : goal.returns-in_err-reserve-clause-ok
returns-in_err-reserve-clause-ok g c = let p = err_from_is_err_and c.from_residual.result c.from_residual.ensures.1 in rw p.1 tt

pub returns-in_err-reserve-clause-err : goal.returns-in_err-reserve-clause-err
returns-in_err-reserve-clause-err g c =
    let w = c.self.inside in
    let v = g.N.Nodes.seen w.nodes in
    on_err c.from_residual.result (same_story v v w.logs w.from w.diary.events c.reserve.new.self.events c.args.self.now refl c.reserve.ensures.events c.self.view_is)

pub returns-in_err-reserve-clause-legal : goal.returns-in_err-reserve-clause-legal
returns-in_err-reserve-clause-legal g c = c.self.invariant.story

pub invariant_of-self : goal.invariant_of-self
invariant_of-self g c =
    let w = c.self.inside in
    let v = g.N.Nodes.seen w.nodes in
    holds_still v v w.logs w.from w.diary.raises c.reserve.new.self.raises w.work refl c.reserve.ensures.raises c.self.invariant

pub returns-in_err-up-clause-ok : goal.returns-in_err-up-clause-ok
returns-in_err-up-clause-ok g c = let p = err_from_is_err_and c.from_residual-in_err-up.result c.from_residual-in_err-up.ensures.1 in rw p.1 tt

pub returns-in_err-up-clause-err : goal.returns-in_err-up-clause-err
returns-in_err-up-clause-err g c =
    let w = c.self.inside in
    let v = g.N.Nodes.seen w.nodes in
    on_err c.from_residual-in_err-up.result (same_story v (g.N.Nodes.seen c.up.new.self) w.logs w.from w.diary.events c.reserve.new.self.events c.args.self.now c.in_err-up.ensures.err c.reserve.ensures.events c.self.view_is)

pub returns-in_err-up-clause-legal : goal.returns-in_err-up-clause-legal
returns-in_err-up-clause-legal g c =
    let w = c.self.inside in
    let v = g.N.Nodes.seen w.nodes in
    legal_still v (g.N.Nodes.seen c.up.new.self) w.logs w.from c.in_err-up.ensures.err c.self.invariant.story

pub invariant_of-self-in_err-up : goal.invariant_of-self-in_err-up
invariant_of-self-in_err-up g c =
    let w = c.self.inside in
    let v = g.N.Nodes.seen w.nodes in
    holds_still v (g.N.Nodes.seen c.up.new.self) w.logs w.from w.diary.raises c.reserve.new.self.raises w.work c.in_err-up.ensures.err c.reserve.ensures.raises c.self.invariant

pub returns-clause-enabled : goal.returns-clause-enabled
returns-clause-enabled g c = tt

pub returns-clause-err : goal.returns-clause-err
returns-clause-err g c = tt
