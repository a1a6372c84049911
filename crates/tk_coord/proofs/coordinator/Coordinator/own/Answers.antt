use Rattle.std.proofs.Common.{FitsSigned, ◌≡◌, ◌≤◌, length, ap, sym, ◌∙◌, subst, arith}
use Rattle.std.specs.Int.{w128}
use Rattle.std.proofs.lemmas.Int.{ints, to_z-of_z}
use Rattle.tk_rows.specs.Factors.{Grid}
use Rattle.tk_journal.specs.Readings.{own}
use Rattle.tk_journal.proofs.Tables.{rows_count}
use Rattle.tk_coord.specs.Coordinator.{CoordinatorView}
use Rattle.tk_coord.proofs.ShownLemmas.{own_of}
use Rattle.tk_coord.proofs.coordinator.Coordinator.own.Goals as goal

pub own-requires-clause-within : goal.own-requires-clause-within
own-requires-clause-within c =
    let f = c.self.inside in
    let high = subst (λ (v : CoordinatorView). c.args.o.0 ≤ v.settings.objects) (sym c.self.view_is) c.requires.within in
    let size : length c.table.result.now.rows ≡ f.settings.objects = ap (λ (g : Grid). length g.rows) (c.table.ensures ∙ c.self.invariant.0.holds.table) ∙ rows_count f.settings f.journal.entries in
    omega (arith, high, size)

pub returns : goal.returns
returns c =
    let f = c.self.inside in
    let high = subst (λ (v : CoordinatorView). c.args.o.0 ≤ v.settings.objects) (sym c.self.view_is) c.requires.within in
    let small = c.own.ensures.size in
    let fits : FitsSigned w128 c.own.result = omega (arith, ints, small) in
    to_z-of_z w128 c.own.result fits
    ∙ own_of f.settings f.journal.entries c.table.result.now c.args.o.0 c.own.result (c.table.ensures ∙ c.self.invariant.0.holds.table) (record { from_one = c.requires.some; within = high }) c.own.ensures.value
    ∙ ap (λ (v : CoordinatorView). own v.settings v.journal c.args.o.0) c.self.view_is
