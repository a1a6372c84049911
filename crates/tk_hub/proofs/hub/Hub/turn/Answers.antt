use Rattle.std.proofs.Common.{◌≡◌, ◌≤◌, ◌∙◌, None, Some, length, refl, sym, ap, arith, subst}
use Rattle.std.proofs.lemmas.Option.{same_Some}
use Rattle.tk_base.specs.History.{IsFront}
use Rattle.tk_hub.specs.Hub.{HubView, IsFinished, IsHub, Turns}
use Rattle.tk_hub.specs.Seats.{SeatsView}
use Rattle.tk_hub.specs.Turn.{answer_of}
use Rattle.tk_hub.specs.declared.course.Course.TheVariants as cs
use Rattle.tk_hub.specs.Writing.{CutsLine, WritesLines}
use Rattle.tk_hub.proofs.HubLemmas.{goes, open_hub, stands_of, turns_concluded}
use Rattle.tk_hub.proofs.KeptLemmas.{hub_turned}
use Rattle.tk_end.proofs.HearingLemmas.{front_refl}
use Rattle.tk_hub.proofs.TakenLemmas.{reaches_settings}
use Rattle.tk_hub.proofs.WriteLemmas.{writes_nothing}
use Rattle.tk_hub.proofs.TurnLemmas.{reaches_grown}
use Rattle.tk_hub.proofs.hub.Hub.turn.Goals as goal

pub exchange-turn-requires-clause-seats : goal.exchange-turn-requires-clause-seats
exchange-turn-requires-clause-seats g c = c.self.invariant.seats

pub exchange-turn-requires-clause-at : goal.exchange-turn-requires-clause-at
exchange-turn-requires-clause-at g c = c.self.invariant.lines

pub exchange-turn-requires-clause-named : goal.exchange-turn-requires-clause-named
exchange-turn-requires-clause-named g c = subst (λ v. v.coordinator.settings.objects ≤ length c.args.names.now) (sym c.self.view_is) c.requires.named

pub conclude-self-inside-requires : goal.conclude-self-inside-requires
conclude-self-inside-requires g c = c.exchange-turn.ensures.few

pub returns-clause-goes : goal.returns-clause-goes
returns-clause-goes g c = λ _ _.
    let s = c.self.inside in
    let turn = c.exchange-turn.result in
    let mid = c.exchange-turn.new.seats in
    let last = c.conclude-self-inside.new.seats in
    let after = c.conclude-self-inside.new.lobby in
    let lines = c.exchange-turn.new.lines in
    let old : HubView g.row.W.Denot = record { run = s.seats.run; coordinator = s.seats.coordinator; links = s.seats.links; held = s.lobby.held; strangers = s.lobby.strangers; lines = s.lines; course = s.course } in
    let turns = turns_concluded g.W.Wire.counts turn old mid c.exchange-turn.new.lobby (record { lobby = after; links = last.links }) lines c.conclude-self-inside.result c.exchange-turn.ensures.works c.conclude-self-inside.ensures.closes c.conclude-self-inside.ensures.course in
    let New : SeatsView g.row.W.Denot → HubView g.row.W.Denot = λ v. record { run = v.run; coordinator = v.coordinator; links = v.links; held = after.held; strangers = after.strangers; lines = lines; course = c.conclude-self-inside.result } in
    subst (λ v. Turns g.W.Wire.counts turn v (New last)) c.self.view_is (subst (λ v. Turns g.W.Wire.counts turn old (New v)) (sym c.conclude-self-inside.ensures.rest) turns)

pub invariant_of-self : goal.invariant_of-self
invariant_of-self g c =
    let s = c.self.inside in
    let mid = c.exchange-turn.new.seats in
    let halted = subst (λ v. v.course ≡ cs.Halted → ⊥) (sym c.self.view_is) c.requires.not_halted in
    let on = goes s.course halted (sym c.answer.ensures ∙ c.in_default.is) in
    let opens = c.exchange-turn.ensures.going (open_hub s.seats.coordinator s.seats.links s.lobby.held s.course on c.self.invariant.course) in
    let works = c.exchange-turn.ensures.works in
    hub_turned c.exchange-turn.result mid c.conclude-self-inside.new.seats c.exchange-turn.new.lobby c.conclude-self-inside.new.lobby c.exchange-turn.new.lines c.conclude-self-inside.result c.exchange-turn.ensures.at opens
    (stands_of c.exchange-turn.result mid.coordinator works.greeted.links mid.links works.exchanges.ends works.exchanges.counts) c.conclude-self-inside.ensures.closes c.conclude-self-inside.ensures.rest (c.conclude-self-inside.ensures.kept c.exchange-turn.ensures.seats) c.conclude-self-inside.ensures.few c.conclude-self-inside.ensures.course

pub returns-clause-kept : goal.returns-clause-kept
returns-clause-kept g c =
    let s = c.self.inside in
    let mid = c.exchange-turn.new.seats in
    let halted = subst (λ v. v.course ≡ cs.Halted → ⊥) (sym c.self.view_is) c.requires.not_halted in
    let on = goes s.course halted (sym c.answer.ensures ∙ c.in_default.is) in
    let opens = c.exchange-turn.ensures.going (open_hub s.seats.coordinator s.seats.links s.lobby.held s.course on c.self.invariant.course) in
    let works = c.exchange-turn.ensures.works in
    hub_turned c.exchange-turn.result mid c.conclude-self-inside.new.seats c.exchange-turn.new.lobby c.conclude-self-inside.new.lobby c.exchange-turn.new.lines c.conclude-self-inside.result c.exchange-turn.ensures.at opens
    (stands_of c.exchange-turn.result mid.coordinator works.greeted.links mid.links works.exchanges.ends works.exchanges.counts) c.conclude-self-inside.ensures.closes c.conclude-self-inside.ensures.rest (c.conclude-self-inside.ensures.kept c.exchange-turn.ensures.seats) c.conclude-self-inside.ensures.few c.conclude-self-inside.ensures.course

pub returns-clause-lines : goal.returns-clause-lines
returns-clause-lines g c = λ ok.
    let s = c.self.inside in
    subst (λ v. WritesLines c.args.names.now c.conclude-self-inside.new.seats.coordinator.journal v.lines c.exchange-turn.new.lines (g.O.Sink.written c.args.out.now) (g.O.Sink.written c.exchange-turn.new.out)) c.self.view_is
    (subst (λ v. WritesLines c.args.names.now v.coordinator.journal s.lines c.exchange-turn.new.lines (g.O.Sink.written c.args.out.now) (g.O.Sink.written c.exchange-turn.new.out)) (sym c.conclude-self-inside.ensures.rest) (c.exchange-turn.ensures.lines ok))

pub returns-clause-cut : goal.returns-clause-cut
returns-clause-cut g c = λ cut.
    let s = c.self.inside in
    subst (λ v. CutsLine c.args.names.now c.conclude-self-inside.new.seats.coordinator.journal v.lines c.exchange-turn.new.lines (g.O.Sink.written c.args.out.now) (g.O.Sink.written c.exchange-turn.new.out)) c.self.view_is
    (subst (λ v. CutsLine c.args.names.now v.coordinator.journal s.lines c.exchange-turn.new.lines (g.O.Sink.written c.args.out.now) (g.O.Sink.written c.exchange-turn.new.out)) (sym c.conclude-self-inside.ensures.rest) (c.exchange-turn.ensures.cut cut))

pub returns-clause-run : goal.returns-clause-run
returns-clause-run g c = ap (λ v. v.run) c.conclude-self-inside.ensures.rest ∙ c.exchange-turn.ensures.works.exchanges.run ∙ ap (λ v. v.run) c.self.view_is

pub returns-clause-settings : goal.returns-clause-settings
returns-clause-settings g c =
    let reaches = c.exchange-turn.ensures.works.exchanges.reaches in
    ap (λ v. v.coordinator.settings) c.conclude-self-inside.ensures.rest ∙ reaches_settings c.self.inside.seats.coordinator c.exchange-turn.new.seats.coordinator reaches ∙ ap (λ v. v.coordinator.settings) c.self.view_is

pub returns-clause-grows : goal.returns-clause-grows
returns-clause-grows g c =
    let s = c.self.inside in
    let mid = c.exchange-turn.new.seats in
    subst (λ v. IsFront v.coordinator.journal c.conclude-self-inside.new.seats.coordinator.journal) c.self.view_is
    (subst (λ v. IsFront s.seats.coordinator.journal v.coordinator.journal) (sym c.conclude-self-inside.ensures.rest) (reaches_grown s.seats.coordinator mid.coordinator c.exchange-turn.ensures.works.exchanges.reaches))

pub returns-clause-course : goal.returns-clause-course
returns-clause-course g c = c.conclude-self-inside.ensures.course

pub returns-clause-failed : goal.returns-clause-failed
returns-clause-failed g c = c.exchange-turn.ensures.failed

pub returns-clause-counted : goal.returns-clause-counted
returns-clause-counted g c = c.exchange-turn.ensures.counted

pub returns-clause-forward : goal.returns-clause-forward
returns-clause-forward g c = subst (λ v. v.lines.passed ≤ c.exchange-turn.new.lines.passed) c.self.view_is c.exchange-turn.ensures.forward

-- it is closed, and nothing happens
pub returns-in-Some-clause-closed : goal.returns-in-Some-clause-closed
returns-in-Some-clause-closed g c =
    let told = subst (λ v. answer_of v.course ≡ Some c.in-Some.turn) c.self.view_is (sym c.answer.ensures ∙ c.in-Some.is) in
    λ turn is. (same_Some c.in-Some.turn turn (sym told ∙ is), refl)

pub returns-in-Some-clause-over : goal.returns-in-Some-clause-over
returns-in-Some-clause-over g c =
    let told = subst (λ v. answer_of v.course ≡ Some c.in-Some.turn) c.self.view_is (sym c.answer.ensures ∙ c.in-Some.is) in
    λ on _. let none : answer_of c.args.self.now.course ≡ None = ap answer_of on in cc

pub returns-in-Some-clause-goes : goal.returns-in-Some-clause-goes
returns-in-Some-clause-goes g c =
    let told = subst (λ v. answer_of v.course ≡ Some c.in-Some.turn) c.self.view_is (sym c.answer.ensures ∙ c.in-Some.is) in
    λ on _. let none : answer_of c.args.self.now.course ≡ None = ap answer_of on in cc

pub returns-in-Some-clause-silent : goal.returns-in-Some-clause-silent
returns-in-Some-clause-silent g c = λ _. refl

pub returns-in-Some-clause-lines : goal.returns-in-Some-clause-lines
returns-in-Some-clause-lines g c = λ _. writes_nothing c.args.names.now c.args.self.now.coordinator.journal c.args.self.now.lines (g.O.Sink.written c.args.out.now)

pub returns-in-Some-clause-forward : goal.returns-in-Some-clause-forward
returns-in-Some-clause-forward g c = omega arith

pub returns-in-Some-clause-run : goal.returns-in-Some-clause-run
returns-in-Some-clause-run g c = refl

pub returns-in-Some-clause-settings : goal.returns-in-Some-clause-settings
returns-in-Some-clause-settings g c = refl

pub returns-in-Some-clause-grows : goal.returns-in-Some-clause-grows
returns-in-Some-clause-grows g c = front_refl c.args.self.now.coordinator.journal

pub returns-in-Some-clause-more : goal.returns-in-Some-clause-more
returns-in-Some-clause-more g c = omega arith

pub returns-in-Some-clause-kept : goal.returns-in-Some-clause-kept
returns-in-Some-clause-kept g c = subst IsHub c.self.view_is c.self.invariant

-- it has finished, and nothing happens
pub returns-then-is_finished-clause-closed : goal.returns-then-is_finished-clause-closed
returns-then-is_finished-clause-closed g c =
    let none = subst (λ v. answer_of v.course ≡ None) c.self.view_is (sym c.answer.ensures ∙ c.in_default.is) in
    λ turn is. let some : None ≡ Some turn = sym none ∙ is in absurd (cc)

pub returns-then-is_finished-clause-over : goal.returns-then-is_finished-clause-over
returns-then-is_finished-clause-over g c = λ _ _. (refl, refl)

pub returns-then-is_finished-clause-silent : goal.returns-then-is_finished-clause-silent
returns-then-is_finished-clause-silent g c = λ _. refl

pub returns-then-is_finished-clause-goes : goal.returns-then-is_finished-clause-goes
returns-then-is_finished-clause-goes g c =
    let finished = subst (λ v. IsFinished v) c.self.view_is (c.is_finished.ensures.0 c.if-is_finished.true) in
    λ _ not. absurd (not finished)

pub returns-then-is_finished-clause-finished : goal.returns-then-is_finished-clause-finished
returns-then-is_finished-clause-finished g c =
    let finished = subst (λ v. IsFinished v) c.self.view_is (c.is_finished.ensures.0 c.if-is_finished.true) in
    λ _. finished

pub returns-then-is_finished-clause-lines : goal.returns-then-is_finished-clause-lines
returns-then-is_finished-clause-lines g c = λ _. writes_nothing c.args.names.now c.args.self.now.coordinator.journal c.args.self.now.lines (g.O.Sink.written c.args.out.now)

pub returns-then-is_finished-clause-cut : goal.returns-then-is_finished-clause-cut
returns-then-is_finished-clause-cut g c = λ is. absurd (cc)

pub returns-then-is_finished-clause-failed : goal.returns-then-is_finished-clause-failed
returns-then-is_finished-clause-failed g c = λ is. absurd (cc)

pub returns-then-is_finished-clause-forward : goal.returns-then-is_finished-clause-forward
returns-then-is_finished-clause-forward g c = omega arith

pub returns-then-is_finished-clause-counted : goal.returns-then-is_finished-clause-counted
returns-then-is_finished-clause-counted g c = refl

pub returns-then-is_finished-clause-run : goal.returns-then-is_finished-clause-run
returns-then-is_finished-clause-run g c = refl

pub returns-then-is_finished-clause-settings : goal.returns-then-is_finished-clause-settings
returns-then-is_finished-clause-settings g c = refl

pub returns-then-is_finished-clause-grows : goal.returns-then-is_finished-clause-grows
returns-then-is_finished-clause-grows g c = front_refl c.args.self.now.coordinator.journal

pub returns-then-is_finished-clause-more : goal.returns-then-is_finished-clause-more
returns-then-is_finished-clause-more g c = omega arith

pub returns-then-is_finished-clause-kept : goal.returns-then-is_finished-clause-kept
returns-then-is_finished-clause-kept g c = subst IsHub c.self.view_is c.self.invariant

pub returns-clause-closed : goal.returns-clause-closed
returns-clause-closed g c =
    let none = subst (λ v. answer_of v.course ≡ None) c.self.view_is (sym c.answer.ensures ∙ c.in_default.is) in
    λ turn is. let some : None ≡ Some turn = sym none ∙ is in absurd (cc)
