use Rattle.std.proofs.Common.{Some, refl, sym, ap, ◌∙◌, subst, inl, inr, map}
use Rattle.tk_base.specs.Settings.{Setup}
use Rattle.tk_input.specs.Files.{HasRisen}
use Rattle.tk_input.specs.Logs.{beginnings}
use Rattle.tk_load.specs.Surroundings.{faults_told}
use Rattle.tk_story.specs.Ends.{made_for}
use Rattle.tk_story.specs.declared.ends.mon_end.MonEnd.{MonEnd}
use Rattle.tk_live.specs.Odd.{IsSomeOdd}
use Rattle.tk_live.specs.declared.outcome.LiveOutcome.{LiveOutcome}
use Rattle.tk_live.proofs.CompleteLemmas.{count_made, odd_never}
use Rattle.tk_live.proofs.TellLemmas.{concludes_fault}
use Rattle.tk_live.proofs.ToldLemmas.{join_means, joined_counted, linked_means, nothing_odd, told_counted, told_fault}
use Rattle.tk_live.proofs.living.conclude.Goals as goal

-- a fault is told of how the hub and the workers ended
pub returns-in-Some-clause-concludes : goal.returns-in-Some-clause-concludes
returns-in-Some-clause-concludes g c = λ version was taken taken' front complete.
    let left = c.args.left in
    let ends = left.ends in
    let is = sym c.unjoined.ensures ∙ c.in-Some.is in
    concludes_fault c.args.plan.input version was (g.O.Sink.written c.args.out.now) taken taken' c.in-Some.status ends _
    (told_fault left.parting left.why c.is_odd-odd.result c.has_risen-risen.result c.in-Some.status is)
    (λ e. let means = linked_means left.parting left.why c.is_odd-odd.result c.has_risen-risen.result (is ∙ ap Some e) in nothing_odd ends.coordinator ends.monitors.items (c.requires.odd.hub means.0) (c.requires.odd.workers means.1.0))
    c.requires.run front c.kept.ensures

pub returns-in-Some-clause-failed : goal.returns-in-Some-clause-failed
returns-in-Some-clause-failed g c = λ e.
    let left = c.args.left in
    let told = ap (λ (l : LiveOutcome). l.status) c.kept.ensures in
    let means = linked_means left.parting left.why c.is_odd-odd.result c.has_risen-risen.result (sym c.unjoined.ensures ∙ c.in-Some.is ∙ ap Some (sym told ∙ e)) in
    subst (HasRisen c.args.faults) c.faults.ensures (c.has_risen-risen.ensures means.1.1)

pub returns-in-Some-clause-counted : goal.returns-in-Some-clause-counted
returns-in-Some-clause-counted g c = λ was is.
    let left = c.args.left in
    let told = told_counted left.parting left.why c.is_odd-odd.result c.has_risen-risen.result c.in-Some.status (sym c.unjoined.ensures ∙ c.in-Some.is) was in
    is ∙ (told ∙ ap (λ (l : LiveOutcome). faults_told l.status was) (sym c.kept.ensures))

-- the ends are joined
pub returns-in-None-clause-counted : goal.returns-in-None-clause-counted
returns-in-None-clause-counted g c = λ was is.
    let left = c.args.left in
    let none = joined_counted left.parting left.why c.is_odd-odd.result c.has_risen-risen.result (sym c.unjoined.ensures ∙ c.in-None.is) was in
    c.join_ends.ensures.counted ∙ ap (faults_told c.join_ends.result.status) (is ∙ none)

pub returns-in-None-clause-concludes : goal.returns-in-None-clause-concludes
returns-in-None-clause-concludes g c = λ version was taken taken' front complete.
    let input = c.args.plan.input in
    let left = c.args.left in
    let ends = left.ends in
    let means = join_means left.parting left.why c.is_odd-odd.result c.has_risen-risen.result (sym c.unjoined.ensures ∙ c.in-None.is) in
    let count = count_made input.settings (made_for input.settings input.logs (beginnings input.logs)) ends.monitors.items c.requires.run.monitors ∙ ap (λ (s : Setup). s.monitors) (sym c.requires.run.made) in
    c.join_ends.ensures.concludes input version was taken taken' (record { settings_are = refl; logs_are = refl; from_is = c.args.plan.from_is }) (λ nothing. elim means [
      | inl both ↦ complete both.0 both.1
      | inr odd ↦
          let some = subst (λ xs. IsSomeOdd ends.coordinator.odd (map (λ (e : MonEnd). e.odd) xs)) c.as_slice.ensures.value (c.is_odd-odd.ensures odd) in absurd (odd_never ends.coordinator ends.monitors.items count some nothing)
    ]) front
