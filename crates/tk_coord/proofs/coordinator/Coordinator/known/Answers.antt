use Rattle.std.proofs.Common.{ap, sym, ◌∙◌, subst}
use Rattle.tk_journal.specs.Laws.{IsMonitor}
use Rattle.tk_journal.specs.Refusal.{known_by}
use Rattle.tk_coord.specs.Checks.{IsKnown}
use Rattle.tk_coord.specs.Coordinator.{CoordinatorView}
use Rattle.tk_coord.proofs.ShownLemmas.{known_fits, known_is}
use Rattle.tk_coord.proofs.coordinator.Coordinator.known.Goals as goal

pub returns-clause-value : goal.returns-clause-value
returns-clause-value c =
    let f = c.self.inside in
    known_is f.settings f.journal.entries c.args.mon.0 c.objects.result _ _ c.objects.ensures.value (c.members.ensures ∙ c.self.invariant.0.holds.members) (c.table.ensures ∙ c.self.invariant.0.holds.table)
    ∙ ap (λ (v : CoordinatorView). known_by v.settings c.args.mon.0 v.journal) c.self.view_is

pub returns-clause-known : goal.returns-clause-known
returns-clause-known c =
    let f = c.self.inside in
    subst IsKnown (sym (known_is f.settings f.journal.entries c.args.mon.0 c.objects.result _ _ c.objects.ensures.value (c.members.ensures ∙ c.self.invariant.0.holds.members) (c.table.ensures ∙ c.self.invariant.0.holds.table)))
    (known_fits f.settings f.journal.entries c.args.mon.0 c.self.invariant.0.journal (subst (λ (v : CoordinatorView). IsMonitor v.settings c.args.mon.0) (sym c.self.view_is) c.requires.monitor))
