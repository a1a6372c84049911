use Rattle.std.proofs.Common.{FitsSigned, ◌≡◌, ◌≤◌, length, ap, sym, ◌∙◌, subst, arith}
use Rattle.std.specs.Int.{w128}
use Rattle.std.proofs.lemmas.Int.{ints, to_z-of_z}
use Rattle.tk_rows.specs.Factors.{Grid}
use Rattle.tk_journal.specs.Readings.{factor}
use Rattle.tk_journal.proofs.Tables.{rows_count, table_size}
use Rattle.tk_coord.specs.Coordinator.{CoordinatorView}
use Rattle.tk_coord.proofs.ShownLemmas.{factor_of}
use Rattle.tk_coord.proofs.coordinator.Coordinator.factor.Goals as goal

pub at-requires-clause-within : goal.at-requires-clause-within
at-requires-clause-within c =
    let f = c.self.inside in
    let high = subst (λ (v : CoordinatorView). c.args.o.0 ≤ v.settings.objects) (sym c.self.view_is) c.requires.within in
    let size : length c.table.result.now.rows ≡ f.settings.objects = ap (λ (g : Grid). length g.rows) (c.table.ensures ∙ c.self.invariant.0.holds.table) ∙ rows_count f.settings f.journal.entries in
    omega (arith, high, size)

pub at-requires-clause-monitor : goal.at-requires-clause-monitor
at-requires-clause-monitor c =
    let f = c.self.inside in
    let high = subst (λ (v : CoordinatorView). c.args.mon.0 ≤ v.settings.monitors) (sym c.self.view_is) c.requires.monitor in
    let size = ap (λ (g : Grid). g.monitors) (c.table.ensures ∙ c.self.invariant.0.holds.table) ∙ table_size f.settings f.journal.entries in
    omega (arith, high, size)

pub returns : goal.returns
returns c =
    let f = c.self.inside in
    let object = subst (λ (v : CoordinatorView). c.args.o.0 ≤ v.settings.objects) (sym c.self.view_is) c.requires.within in
    let high = subst (λ (v : CoordinatorView). c.args.mon.0 ≤ v.settings.monitors) (sym c.self.view_is) c.requires.monitor in
    let small = c.at.ensures.size in
    let fits : FitsSigned w128 c.at.result = omega (arith, ints, small) in
    to_z-of_z w128 c.at.result fits
    ∙ factor_of f.settings f.journal.entries c.table.result.now c.args.o.0 c.args.mon.0 c.at.result (c.table.ensures ∙ c.self.invariant.0.holds.table) (record { from_one = c.requires.some; within = object })
    (record { from_one = c.requires.some_monitor; within = high }) c.at.ensures.value
    ∙ ap (λ (v : CoordinatorView). factor c.args.mon.0 v.journal c.args.o.0) c.self.view_is
