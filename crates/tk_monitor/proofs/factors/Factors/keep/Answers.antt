use Rattle.std.proofs.Common.{◌≡◌, ◌+◌, ◌-◌, ◌∷◌, ◌++◌, [], ℕ, suc, List, get_or, length, Some, None, refl, ap, sym, ◌∙◌, arith, subst}
use Rattle.std.specs.Prelude.{ℤ, pos, Option, IsSome, unwrap_or}
use Rattle.tk_monitor.specs.Factors.{AreFactors, HasFactor, HasGot, IsWithFactor, factor_in, kept_at, kept_by}
use Rattle.tk_monitor.proofs.FactorsLemmas.{added, added_zero, kept_in, kept_none, still_kept, with_kept, with_still, with_zero}
use Rattle.tk_monitor.proofs.factors.Factors.keep.Goals as goal

pub returns-then-slot_of-gt0-clause-kept : goal.returns-then-slot_of-gt0-clause-kept
returns-then-slot_of-gt0-clause-kept c =
    let slots = c.self.inside.slots.items in
    let list = c.self.inside.list.items in
    let o = c.args.o.0 in
    let some = c.if-slot_of-gt0.true in
    let read = c.slot_of.ensures ∙ ap (λ (xs : List ℕ). get_or xs o 0) c.as_slice.ensures.value in
    let slot : get_or slots o 0 ≡ suc (get_or slots o 0 - 1) = omega (arith, read, some) in
    subst (λ (kept : List (Option ℤ)). HasFactor kept o) c.self.view_is
    (subst (λ (r : Option ℤ). IsSome r) (sym (kept_in slots list o (get_or slots o 0 - 1) slot)) refl)

pub returns-in_err-add-clause-same : goal.returns-in_err-add-clause-same
returns-in_err-add-clause-same c q =
    ap (λ (r : Option ℤ). unwrap_or r (pos 0)) (still_kept c.self.inside.slots.items c.add.new.slots.items c.self.inside.list.items c.add.new.list.items q c.in_err-add.ensures.kept (c.in_err-add.ensures.same q))
    ∙ ap (λ (kept : List (Option ℤ)). factor_in kept q) c.self.view_is

pub returns-in_err-add-clause-still : goal.returns-in_err-add-clause-still
returns-in_err-add-clause-still c q there =
    subst (λ (r : Option ℤ). IsSome r)
    (sym (still_kept c.self.inside.slots.items c.add.new.slots.items c.self.inside.list.items c.add.new.list.items q c.in_err-add.ensures.kept (c.in_err-add.ensures.same q)))
    (subst (λ (kept : List (Option ℤ)). HasFactor kept q) (sym c.self.view_is) there)

pub invariant_of-self-2 : goal.invariant_of-self-2
invariant_of-self-2 c =
    subst (λ (zs : List ℤ). AreFactors c.add.new.slots.items zs) (sym c.in_ok-add.ensures.list)
    (added c.self.inside.slots.items c.add.new.slots.items c.self.inside.list.items c.args.o.0 c.self.invariant c.in_ok-add.ensures.slot)

pub returns-clause-value : goal.returns-clause-value
returns-clause-value c =
    let below = c.if-slot_of-gt0.false in
    let read = c.slot_of.ensures ∙ ap (λ (xs : List ℕ). get_or xs c.args.o.0 0) c.as_slice.ensures.value in
    let none : get_or c.self.inside.slots.items c.args.o.0 0 ≡ 0 = omega (arith, read, below) in
    sym (ap (λ (r : Option ℤ). unwrap_or r (pos 0)) (kept_none c.self.inside.slots.items c.self.inside.list.items c.args.o.0 none))
    ∙ ap (λ (kept : List (Option ℤ)). factor_in kept c.args.o.0) c.self.view_is

-- the object has the factor zero
with-zero : (old new : List ℕ) (list others : List ℤ) (o : ℕ) → AreFactors old list → HasGot old new o (length list + 1) → others ≡ list ++ pos 0 ∷ [] → IsWithFactor (kept_by old list) o (pos 0) (kept_by new others)
with-zero old new list others o are got is = subst (λ (zs : List ℤ). IsWithFactor (kept_by old list) o (pos 0) (kept_by new zs)) (sym is) (added_zero old new list o are got)

pub returns-clause-same : goal.returns-clause-same
returns-clause-same c q =
    let below = c.if-slot_of-gt0.false in
    let read = c.slot_of.ensures ∙ ap (λ (xs : List ℕ). get_or xs c.args.o.0 0) c.as_slice.ensures.value in
    let none : get_or c.self.inside.slots.items c.args.o.0 0 ≡ 0 = omega (arith, read, below) in
    let old = kept_by c.self.inside.slots.items c.self.inside.list.items in
    let new = kept_by c.add.new.slots.items c.add.new.list.items in
    with_zero old new c.args.o.0 (kept_none c.self.inside.slots.items c.self.inside.list.items c.args.o.0 none)
    (with-zero c.self.inside.slots.items c.add.new.slots.items c.self.inside.list.items c.add.new.list.items c.args.o.0 c.self.invariant c.in_ok-add.ensures.slot c.in_ok-add.ensures.list) q
    ∙ ap (λ (kept : List (Option ℤ)). factor_in kept q) c.self.view_is

pub returns-clause-kept : goal.returns-clause-kept
returns-clause-kept c =
    let old = kept_by c.self.inside.slots.items c.self.inside.list.items in
    let new = kept_by c.add.new.slots.items c.add.new.list.items in
    with_kept old new c.args.o.0 (pos 0)
    (with-zero c.self.inside.slots.items c.add.new.slots.items c.self.inside.list.items c.add.new.list.items c.args.o.0 c.self.invariant c.in_ok-add.ensures.slot c.in_ok-add.ensures.list)

pub returns-clause-still : goal.returns-clause-still
returns-clause-still c q there =
    let old = kept_by c.self.inside.slots.items c.self.inside.list.items in
    let new = kept_by c.add.new.slots.items c.add.new.list.items in
    with_still old new c.args.o.0 (pos 0)
    (with-zero c.self.inside.slots.items c.add.new.slots.items c.self.inside.list.items c.add.new.list.items c.args.o.0 c.self.invariant c.in_ok-add.ensures.slot c.in_ok-add.ensures.list) q
    (subst (λ (kept : List (Option ℤ)). HasFactor kept q) (sym c.self.view_is) there)
