use Rattle.std.proofs.Common.{rules, ◌≡◌, ◌-◌, ◌<◌, ℕ, suc, List, get_or, length, set, Some, ap, sym, ◌∙◌, arith, subst}
use Rattle.std.specs.Prelude.{ℤ, Option, FitsSigned, cond, ◌==◌}
use Rattle.std.specs.Int.{w128}
use Rattle.std.proofs.lemmas.Int.{ints, to_z-of_z}
use Rattle.tk_monitor.specs.Factors.{HasFactor, IsWithFactor, kept_at, kept_by}
use Rattle.tk_monitor.proofs.FactorsLemmas.{replaced, replaced_are, slot_there}
use Rattle.tk_monitor.proofs.factors.Factors.replace.Goals as goal

pub overflow_sub-place : goal.overflow_sub-place
overflow_sub-place c =
    let o = c.args.o.0 in
    let there = slot_there c.self.inside.slots.items c.self.inside.list.items o (subst (λ (kept : List (Option ℤ)). HasFactor kept o) (sym c.self.view_is) c.requires.kept) in
    let read = c.slot_of-place.ensures ∙ ap (λ (xs : List ℕ). get_or xs o 0) c.as_slice-3.ensures.value in
    omega (arith, there, read)

pub index_mut-requires : goal.index_mut-requires
index_mut-requires c =
    let o = c.args.o.0 in
    let within = c.self.invariant.within o in
    let there = slot_there c.self.inside.slots.items c.self.inside.list.items o (subst (λ (kept : List (Option ℤ)). HasFactor kept o) (sym c.self.view_is) c.requires.kept) in
    let read = c.slot_of-place.ensures ∙ ap (λ (xs : List ℕ). get_or xs o 0) c.as_slice-3.ensures.value in
    let fits : c.slot_of-place.result - 1 < length c.self.inside.list.items = omega (arith, within, there, read) in
    search rules

pub returns-clause-new : goal.returns-clause-new
returns-clause-new c q =
    let slots = c.self.inside.slots.items in
    let list = c.self.inside.list.items in
    let o = c.args.o.0 in
    let place = c.slot_of-place.result - 1 in
    let there = slot_there slots list o (subst (λ (kept : List (Option ℤ)). HasFactor kept o) (sym c.self.view_is) c.requires.kept) in
    let read = c.slot_of-place.ensures ∙ ap (λ (xs : List ℕ). get_or xs o 0) c.as_slice-3.ensures.value in
    let slot : get_or slots o 0 ≡ suc place = omega (arith, there, read) in
    let fits : FitsSigned w128 c.args.factor = omega (arith, ints, c.requires.size) in
    rw (to_z-of_z w128 c.args.factor fits)
    (replaced slots list o place c.args.factor c.self.invariant slot q ∙ ap (λ (kept : List (Option ℤ)). cond (q == o) (Some c.args.factor) (kept_at kept q)) c.self.view_is)
