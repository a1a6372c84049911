use Rattle.std.proofs.Common.{◌≡◌, ◌∷◌, ◌++◌, [], ◌∙◌, ℕ, All, List, length, refl, sym, ap, ap₂, subst, arith}
use Rattle.std.proofs.lemmas.Result.{err_from_is_err_and}
use Rattle.std.specs.Prelude.{is_some}
use Rattle.tk_input.specs.declared.event.Event.{Event}
use Rattle.tk_input.specs.declared.event.Event.TheVariants.{Retune}
use Rattle.tk_story.specs.Kept.{KeptStory}
use Rattle.tk_story.specs.Story.{IsStory}
use Rattle.tk_world.specs.Diary.{DiaryView}
use Rattle.tk_world.specs.Events.{next_of}
use Rattle.tk_world.specs.Seats.{story_with}
use Rattle.tk_coord.specs.Coordinator.{CoordinatorView}
use Rattle.tk_journal.specs.Entries.{IsEntryOf}
use Rattle.tk_journal.specs.Refusal.{retune_refusal_of}
use Rattle.tk_world.proofs.EnabledLemmas.{on_err, retune_enabled, there_is}
use Rattle.tk_world.proofs.NodesLemmas.{retune_goes_on, retune_with}
use Rattle.tk_world.proofs.TurnLemmas.{retune_stays}
use Rattle.tk_world.proofs.WorldLemmas.{Leaves, adds_behind, few_behind}
use Rattle.tk_world.proofs.StillLemmas.{holds_still, legal_still, same_story}
use Rattle.tk_world.proofs.world.World.retune.Goals as goal
use Rattle.tk_input.proofs.CountLemmas.{not_some}

pub returns-then-is_some-clause-ok : goal.returns-then-is_some-clause-ok
returns-then-is_some-clause-ok g c =
    let w = c.self.inside in
    let v = g.N.Nodes.seen w.nodes in
    let why = there_is c.retune_refusal.result (sym c.is_some.ensures ∙ c.if-is_some.true) in (
      ap (λ (k : KeptStory). next_of k.story (Retune c.args.retuning)) (sym c.self.view_is)
          ∙ retune_stays (story_with v w.logs w.from) c.args.retuning why.0
          (ap₂ (λ (k e : ℕ). retune_refusal_of v.coordinator.settings v.coordinator.journal k e) (sym c.k-k.ensures) (sym c.epsilon-epsilon.ensures)
          ∙ sym (c.retune_refusal.ensures ∙ ap (λ (x : CoordinatorView). retune_refusal_of x.settings x.journal c.k-k.result c.epsilon-epsilon.result) c.coordinator.ensures) ∙ why.1),
      refl,
    )

pub returns-in_err-reserve-clause-enabled : goal.returns-in_err-reserve-clause-enabled
returns-in_err-reserve-clause-enabled g c =
    let w = c.self.inside in
    let v = g.N.Nodes.seen w.nodes in
    on_err c.from_residual.result
    (ap (λ (k : KeptStory). is_some (next_of k.story (Retune c.args.retuning))) (sym c.self.view_is)
    ∙ retune_enabled (story_with v w.logs w.from) c.args.retuning
    (ap₂ (λ (k e : ℕ). retune_refusal_of v.coordinator.settings v.coordinator.journal k e) (sym c.k-k.ensures) (sym c.epsilon-epsilon.ensures)
    ∙ sym (c.retune_refusal.ensures ∙ ap (λ (x : CoordinatorView). retune_refusal_of x.settings x.journal c.k-k.result c.epsilon-epsilon.result) c.coordinator.ensures)
    ∙ not_some c.retune_refusal.result (sym c.is_some.ensures ∙ c.if-is_some.false)))

pub returns-in_err-retune-clause-enabled : goal.returns-in_err-retune-clause-enabled
returns-in_err-retune-clause-enabled g c =
    let w = c.self.inside in
    let v = g.N.Nodes.seen w.nodes in
    on_err c.from_residual-in_err-retune.result
    (ap (λ (k : KeptStory). is_some (next_of k.story (Retune c.args.retuning))) (sym c.self.view_is)
    ∙ retune_enabled (story_with v w.logs w.from) c.args.retuning
    (ap₂ (λ (k e : ℕ). retune_refusal_of v.coordinator.settings v.coordinator.journal k e) (sym c.k-k.ensures) (sym c.epsilon-epsilon.ensures)
    ∙ sym (c.retune_refusal.ensures ∙ ap (λ (x : CoordinatorView). retune_refusal_of x.settings x.journal c.k-k.result c.epsilon-epsilon.result) c.coordinator.ensures)
    ∙ not_some c.retune_refusal.result (sym c.is_some.ensures ∙ c.if-is_some.false)))

pub retune-requires : goal.retune-requires
retune-requires g c =
    sym (c.retune_refusal.ensures ∙ ap (λ (x : CoordinatorView). retune_refusal_of x.settings x.journal c.k-k.result c.epsilon-epsilon.result) c.coordinator.ensures)
    ∙ not_some c.retune_refusal.result (sym c.is_some.ensures ∙ c.if-is_some.false)

-- the journal before is a front of that behind
pub slice_bounds-insert_sent-count : goal.slice_bounds-insert_sent-count
slice_bounds-insert_sent-count g c =
    let w = c.self.inside in
    let on = retune_goes_on (g.N.Nodes.seen w.nodes) (g.N.Nodes.seen c.retune.new.self) c.k-k.result c.epsilon-epsilon.result c.in_ok-retune.ensures.ok in
    let before : length c.journal-before.result.now ≡ length (g.N.Nodes.seen w.nodes).coordinator.journal = ap (λ xs. length xs) (c.journal-before.ensures.value ∙ ap (λ (x : CoordinatorView). x.journal) c.coordinator-2.ensures) in
    let now : length c.journal.result.now ≡ length (g.N.Nodes.seen c.retune.new.self).coordinator.journal = ap (λ xs. length xs) (c.journal.ensures.value ∙ ap (λ (x : CoordinatorView). x.journal) c.coordinator-3.ensures) in
    let longer = on.longer in
    omega (arith, before, now, longer)

pub slice_bounds-insert_sent-start : goal.slice_bounds-insert_sent-start
slice_bounds-insert_sent-start g c =
    let w = c.self.inside in
    let on = retune_goes_on (g.N.Nodes.seen w.nodes) (g.N.Nodes.seen c.retune.new.self) c.k-k.result c.epsilon-epsilon.result c.in_ok-retune.ensures.ok in
    let before : length c.journal-before.result.now ≡ length (g.N.Nodes.seen w.nodes).coordinator.journal = ap (λ xs. length xs) (c.journal-before.ensures.value ∙ ap (λ (x : CoordinatorView). x.journal) c.coordinator-2.ensures) in
    let now : length c.journal.result.now ≡ length (g.N.Nodes.seen c.retune.new.self).coordinator.journal = ap (λ xs. length xs) (c.journal.ensures.value ∙ ap (λ (x : CoordinatorView). x.journal) c.coordinator-3.ensures) in
    let longer = on.longer in
    omega (arith, before, now, longer)

pub insert_sent-requires : goal.insert_sent-requires
insert_sent-requires g c =
    let w = c.self.inside in
    let on = retune_goes_on (g.N.Nodes.seen w.nodes) (g.N.Nodes.seen c.retune.new.self) c.k-k.result c.epsilon-epsilon.result c.in_ok-retune.ensures.ok in
    few_behind (g.N.Nodes.seen w.nodes).coordinator.settings c.coordinator-3.result.now.settings c.coordinator-3.result.now.journal c.journal.result.now c.journal-before.result.now c.self.invariant.story.limits
    (ap (λ (x : CoordinatorView). x.settings) c.coordinator-3.ensures ∙ on.settings) (sym c.journal.ensures.value) c.journal.ensures.entries

pub leaves : (g : _) (c : goal.After-note g) → Leaves (story_with (g.N.Nodes.seen c.self.inside.nodes) c.self.inside.logs c.self.inside.from) (Retune c.args.retuning)
    (g.N.Nodes.seen c.retune.new.self).coordinator.settings c.self.inside.logs c.self.inside.from (g.N.Nodes.seen c.retune.new.self).coordinator.journal (g.N.Nodes.seen c.retune.new.self).seats
    c.note.new.self.raises c.insert_sent.new.self
leaves g c =
    let w = c.self.inside in
    let v = g.N.Nodes.seen w.nodes in
    let v' = g.N.Nodes.seen c.retune.new.self in
    retune_with v v' w.logs w.from w.diary.raises c.note.new.self.raises w.work c.insert_sent.new.self c.args.retuning c.k-k.result c.epsilon-epsilon.result c.self.invariant
    c.k-k.ensures c.epsilon-epsilon.ensures
    (sym (c.retune_refusal.ensures ∙ ap (λ (x : CoordinatorView). retune_refusal_of x.settings x.journal c.k-k.result c.epsilon-epsilon.result) c.coordinator.ensures)
    ∙ not_some c.retune_refusal.result (sym c.is_some.ensures ∙ c.if-is_some.false))
    c.in_ok-retune.ensures.ok
    (subst (λ (x : CoordinatorView). All (IsEntryOf x.settings.monitors x.settings.objects) x.journal) c.coordinator-3.ensures c.journal.ensures.entries)
    (adds_behind v'.coordinator.journal c.journal.result.now v.coordinator.journal c.journal-before.result.now w.work c.insert_sent.new.self
    (sym (c.journal.ensures.value ∙ ap (λ (x : CoordinatorView). x.journal) c.coordinator-3.ensures))
    (sym (c.journal-before.ensures.value ∙ ap (λ (x : CoordinatorView). x.journal) c.coordinator-2.ensures)) c.insert_sent.ensures)
    (ap (λ (d : DiaryView). d.raises) c.note.ensures ∙ c.reserve.ensures.raises)

pub invariant_of-self-2 : goal.invariant_of-self-2
invariant_of-self-2 g c = (leaves g c).holds

pub returns-clause-ok : goal.returns-clause-ok
returns-clause-ok g c = (
  ap (λ (k : KeptStory). next_of k.story (Retune c.args.retuning)) (sym c.self.view_is) ∙ (leaves g c).next,
  ap (λ (d : DiaryView). d.events) c.note.ensures ∙ ap (λ (es : List Event). es ++ Retune c.args.retuning ∷ []) (c.reserve.ensures.events ∙ ap (λ (k : KeptStory). k.events) c.self.view_is),
)

pub returns-clause-legal : goal.returns-clause-legal
returns-clause-legal g c = (leaves g c).holds.story

pub returns-then-is_some-clause-enabled : goal.returns-then-is_some-clause-enabled
returns-then-is_some-clause-enabled g c = tt

pub returns-then-is_some-clause-err : goal.returns-then-is_some-clause-err
returns-then-is_some-clause-err g c = tt

pub returns-then-is_some-clause-legal : goal.returns-then-is_some-clause-legal
returns-then-is_some-clause-legal g c = subst (λ (k : KeptStory). IsStory k.story) c.self.view_is c.self.invariant.story

-- there is no memory, and the world is as it was
pub returns-in_err-reserve-clause-ok : goal.returns-in_err-reserve-clause-ok
returns-in_err-reserve-clause-ok g c = let p = err_from_is_err_and c.from_residual.result c.from_residual.ensures.1 in rw p.1 tt

pub returns-in_err-reserve-clause-err : goal.returns-in_err-reserve-clause-err
returns-in_err-reserve-clause-err g c =
    let w = c.self.inside in
    let v = g.N.Nodes.seen w.nodes in
    on_err c.from_residual.result (same_story v v w.logs w.from w.diary.events c.reserve.new.self.events c.args.self.now refl c.reserve.ensures.events c.self.view_is)

pub returns-in_err-reserve-clause-legal : goal.returns-in_err-reserve-clause-legal
returns-in_err-reserve-clause-legal g c = c.self.invariant.story

pub invariant_of-self : goal.invariant_of-self
invariant_of-self g c =
    let w = c.self.inside in
    let v = g.N.Nodes.seen w.nodes in
    holds_still v v w.logs w.from w.diary.raises c.reserve.new.self.raises w.work refl c.reserve.ensures.raises c.self.invariant

pub returns-in_err-retune-clause-ok : goal.returns-in_err-retune-clause-ok
returns-in_err-retune-clause-ok g c = let p = err_from_is_err_and c.from_residual-in_err-retune.result c.from_residual-in_err-retune.ensures.1 in rw p.1 tt

pub returns-in_err-retune-clause-err : goal.returns-in_err-retune-clause-err
returns-in_err-retune-clause-err g c =
    let w = c.self.inside in
    let v = g.N.Nodes.seen w.nodes in
    on_err c.from_residual-in_err-retune.result (same_story v (g.N.Nodes.seen c.retune.new.self) w.logs w.from w.diary.events c.reserve.new.self.events c.args.self.now c.in_err-retune.ensures.err c.reserve.ensures.events c.self.view_is)

pub returns-in_err-retune-clause-legal : goal.returns-in_err-retune-clause-legal
returns-in_err-retune-clause-legal g c =
    let w = c.self.inside in
    let v = g.N.Nodes.seen w.nodes in
    legal_still v (g.N.Nodes.seen c.retune.new.self) w.logs w.from c.in_err-retune.ensures.err c.self.invariant.story

pub invariant_of-self-in_err-retune : goal.invariant_of-self-in_err-retune
invariant_of-self-in_err-retune g c =
    let w = c.self.inside in
    let v = g.N.Nodes.seen w.nodes in
    holds_still v (g.N.Nodes.seen c.retune.new.self) w.logs w.from w.diary.raises c.reserve.new.self.raises w.work c.in_err-retune.ensures.err c.reserve.ensures.raises c.self.invariant

pub returns-clause-enabled : goal.returns-clause-enabled
returns-clause-enabled g c = tt

pub returns-clause-err : goal.returns-clause-err
returns-clause-err g c = tt
