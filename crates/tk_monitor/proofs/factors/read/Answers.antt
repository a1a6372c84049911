use Rattle.std.proofs.Common.{◌≡◌, ◌-◌, ℕ, suc, get_or, ◌∙◌, ap, sym, arith}
use Rattle.std.specs.Prelude.{ℤ, pos, Option, FitsSigned, unwrap_or}
use Rattle.std.specs.Int.{w128}
use Rattle.std.proofs.lemmas.Int.{ints, to_z-of_z}
use Rattle.tk_monitor.proofs.FactorsLemmas.{kept_in, kept_none}
use Rattle.tk_monitor.proofs.factors.read.Goals as goal

pub returns-then-slot-eq0-clause-value : goal.returns-then-slot-eq0-clause-value
returns-then-slot-eq0-clause-value c =
    let is = c.if-slot-eq0.true in
    let none : get_or c.args.slots.now c.args.o.0 0 ≡ 0 = omega (arith, c.slot_of-slot.ensures, is) in
    sym (ap (λ (r : Option ℤ). unwrap_or r (pos 0)) (kept_none c.args.slots.now c.args.list.now c.args.o.0 none))

pub returns-clause-value : goal.returns-clause-value
returns-clause-value c =
    let place = c.slot_of-slot.result - 1 in
    let some = c.if-slot-eq0.false in
    let within = c.requires.within c.args.o.0 in
    let slot : get_or c.args.slots.now c.args.o.0 0 ≡ suc place = omega (arith, c.slot_of-slot.ensures, some) in
    let small = c.requires.small place (pos 0) (omega (arith, slot, within)) in
    let fits : FitsSigned w128 (get_or c.args.list.now place (pos 0)) = omega (arith, ints, small) in
    to_z-of_z w128 (get_or c.args.list.now place (pos 0)) fits ∙ sym (ap (λ (r : Option ℤ). unwrap_or r (pos 0)) (kept_in c.args.slots.now c.args.list.now c.args.o.0 place slot))
