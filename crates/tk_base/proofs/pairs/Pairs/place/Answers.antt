use Rattle.std.proofs.Common.{◌≡◌, ◌∙◌, List, ℕ, map, slice_index, Contains, subst, sym, ap}
use Rattle.std.specs.Prelude.{IfSome, IfNone}
use Rattle.tk_base.specs.Ascending.{IsAscending}
use Rattle.tk_base.specs.Pairs.{objects_of, pairs_in}
use Rattle.tk_base.proofs.PairsLemmas.{objects_of-pairs_of, objects_of-narrow}
use Rattle.tk_base.proofs.pairs.Pairs.place.Goals as goal

pub place_of-requires : goal.place_of-requires
place_of-requires c = rw c.as_slice.ensures.value (subst IsAscending (objects_of-narrow c.in-Narrow.list.items) (rw c.in-Narrow.is at c.self.invariant))

pub place_of-requires-in-Wide : goal.place_of-requires-in-Wide
place_of-requires-in-Wide c = rw c.as_slice-in-Wide.ensures.value (subst IsAscending (objects_of-pairs_of c.in-Wide.list.items) (rw c.in-Wide.is at c.self.invariant))

pub returns-in-Narrow-clause-found : goal.returns-in-Narrow-clause-found
returns-in-Narrow-clause-found c =
    let same : objects_of c.args.self.now ≡ map (λ p. p.obj.0) c.in-Narrow.list.items =
    ap objects_of (sym c.self.view_is ∙ ap pairs_in c.in-Narrow.is) ∙ objects_of-narrow c.in-Narrow.list.items in
    subst (λ (numbers : List ℕ). IfSome c.place_of.result (λ i. slice_index numbers i ≡ c.args.o.0)) (sym same) (rw c.as_slice.ensures.value at c.place_of.ensures.found)

pub returns-in-Narrow-clause-none : goal.returns-in-Narrow-clause-none
returns-in-Narrow-clause-none c =
    let same : objects_of c.args.self.now ≡ map (λ p. p.obj.0) c.in-Narrow.list.items =
    ap objects_of (sym c.self.view_is ∙ ap pairs_in c.in-Narrow.is) ∙ objects_of-narrow c.in-Narrow.list.items in
    subst (λ (numbers : List ℕ). IfNone c.place_of.result (Contains numbers c.args.o.0 → ⊥)) (sym same) (rw c.as_slice.ensures.value at c.place_of.ensures.none)

pub returns-in-Wide-clause-found : goal.returns-in-Wide-clause-found
returns-in-Wide-clause-found c =
    let same : objects_of c.args.self.now ≡ map (λ p. p.0.0) c.in-Wide.list.items =
    ap objects_of (sym c.self.view_is ∙ ap pairs_in c.in-Wide.is) ∙ objects_of-pairs_of c.in-Wide.list.items in
    subst (λ (numbers : List ℕ). IfSome c.place_of-in-Wide.result (λ i. slice_index numbers i ≡ c.args.o.0)) (sym same) (rw c.as_slice-in-Wide.ensures.value at c.place_of-in-Wide.ensures.found)

pub returns-in-Wide-clause-none : goal.returns-in-Wide-clause-none
returns-in-Wide-clause-none c =
    let same : objects_of c.args.self.now ≡ map (λ p. p.0.0) c.in-Wide.list.items =
    ap objects_of (sym c.self.view_is ∙ ap pairs_in c.in-Wide.is) ∙ objects_of-pairs_of c.in-Wide.list.items in
    subst (λ (numbers : List ℕ). IfNone c.place_of-in-Wide.result (Contains numbers c.args.o.0 → ⊥)) (sym same) (rw c.as_slice-in-Wide.ensures.value at c.place_of-in-Wide.ensures.none)
