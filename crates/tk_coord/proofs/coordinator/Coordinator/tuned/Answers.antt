use Rattle.std.proofs.Common.{◌≡◌, ℕ, false, List, Some, Result, Ok, Err, sym, ◌∙◌, subst}
use Rattle.std.specs.Prelude.{IfOk, IfErr}
use Rattle.tk_base.specs.Settings.{Setup}
use Rattle.tk_journal.specs.Readings.{is_open, is_stopped}
use Rattle.tk_journal.specs.Refusal.{retune_refusal_of}
use Rattle.tk_journal.specs.declared.noted.Noted.{Noted}
use Rattle.tk_journal.specs.declared.refusal.RetuneRefusal.{RetuneRefusal}
use Rattle.tk_journal.specs.declared.refusal.RetuneRefusal.TheVariants.{AfterStop, RoundOpen}
use Rattle.tk_coord.specs.Coordinator.{CoordinatorView}
use Rattle.tk_coord.specs.Steps.{IsRetuned, retuned_to}
use Rattle.tk_coord.proofs.RetuneTurns.{none_refuses, open_refuses, past_refuses, stopped_refuses}
use Rattle.tk_coord.proofs.coordinator.Coordinator.tuned.Goals as goal

-- the settings that are within the limits
brought : (s : Setup) (j : List Noted) (k e : ℕ) (r : Result Setup RetuneRefusal) → is_stopped j ≡ false → is_open s j ≡ false → retuned_to s k e ≡ r → IfOk r (IsRetuned s j k e)
brought s j k e (Ok next) going closed is = none_refuses s j k e next going closed is
brought s j k e (Err why) going closed is = tt

-- and those that are past one
refused : (s : Setup) (j : List Noted) (k e : ℕ) (r : Result Setup RetuneRefusal) → is_stopped j ≡ false → is_open s j ≡ false → retuned_to s k e ≡ r
    → IfErr r (λ why. retune_refusal_of s j k e ≡ Some why)
refused s j k e (Ok next) going closed is = tt
refused s j k e (Err why) going closed is = past_refuses s j k e why going closed is

pub returns-then-self-clause-refused : goal.returns-then-self-clause-refused
returns-then-self-clause-refused c =
    let f = c.self.inside in
    subst (λ (v : CoordinatorView). retune_refusal_of v.settings v.journal c.args.k c.args.epsilon ≡ Some AfterStop) c.self.view_is
    (stopped_refuses f.settings f.journal.entries c.args.k c.args.epsilon (sym c.self.invariant.0.stands.stopped ∙ c.if-self.true))

pub returns-then-self-2-clause-refused : goal.returns-then-self-2-clause-refused
returns-then-self-2-clause-refused c =
    let f = c.self.inside in
    subst (λ (v : CoordinatorView). retune_refusal_of v.settings v.journal c.args.k c.args.epsilon ≡ Some RoundOpen) c.self.view_is
    (open_refuses f.settings f.journal.entries c.args.k c.args.epsilon (sym c.self.invariant.0.stands.stopped ∙ c.if-self.false) (sym c.self.invariant.0.holds.round.waiting ∙ c.if-self-2.true))

pub returns-clause-ok : goal.returns-clause-ok
returns-clause-ok c =
    let f = c.self.inside in
    subst (λ (v : CoordinatorView). IfOk c.retuned.result (IsRetuned v.settings v.journal c.args.k c.args.epsilon)) c.self.view_is
    (brought f.settings f.journal.entries c.args.k c.args.epsilon c.retuned.result (sym c.self.invariant.0.stands.stopped ∙ c.if-self.false) (sym c.self.invariant.0.holds.round.waiting ∙ c.if-self-2.false)
    (sym c.retuned.ensures))

pub returns-clause-refused : goal.returns-clause-refused
returns-clause-refused c =
    let f = c.self.inside in
    subst (λ (v : CoordinatorView). IfErr c.retuned.result (λ e. retune_refusal_of v.settings v.journal c.args.k c.args.epsilon ≡ Some e)) c.self.view_is
    (refused f.settings f.journal.entries c.args.k c.args.epsilon c.retuned.result (sym c.self.invariant.0.stands.stopped ∙ c.if-self.false) (sym c.self.invariant.0.holds.round.waiting ∙ c.if-self-2.false)
    (sym c.retuned.ensures))
