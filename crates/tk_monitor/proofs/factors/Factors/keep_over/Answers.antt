use Rattle.std.proofs.Common.{◌≡◌, ℕ, ◌++◌, ◌∷◌, [], ◌∙◌, List, take, get_or, subst, arith, ap, sym, to_z, of_z, inl, inr}
use Rattle.std.specs.Prelude.{ℤ, Option, FitsSigned, All, unsigned_abs, ◌^◌, ◌≤◌}
use Rattle.std.specs.Int.{w128}
use Rattle.std.proofs.lemmas.Bool.{cases_lt}
use Rattle.std.proofs.lemmas.Int.{ints, to_z-of_z}
use Rattle.std.proofs.lemmas.List.{take_all}
use Rattle.tk_base.specs.Ascending.{IsAscending}
use Rattle.tk_base.specs.Pairs.{objects_of}
use Rattle.tk_monitor.specs.Factors.{factor_in, factors_over, HasFactor}
use Rattle.tk_monitor.proofs.FactorsLemmas.{factor_small, factors_more, objects-factors, factors_over-small, got_pair}
use Rattle.tk_monitor.proofs.factors.Factors.keep_over.Goals as goal

pub loop-i-preserved : goal.loop-i-preserved
loop-i-preserved c =
    let old = c.args.self.now in
    let changes = c.args.changes.now in
    let i = c.loop-i.i in
    let change : ℕ × ℤ = (c.at.result.0.0, c.at.result.1) in
    let o = c.at.result.0.0 in
    let factor = c.in_ok-keep.field-0 in
    let fits : FitsSigned w128 factor = omega (arith, ints, c.in_ok-keep.ensures.size) in
    record {
      listed =
          c.in_ok-push.ensures.ok
          ∙ ap (λ (front : List (ℕ × ℤ)). front ++ (o, to_z w128 (of_z w128 factor)) ∷ []) c.loop-i.invariant.listed
          ∙ ap (λ (z : ℤ). factors_over old (take i changes) ++ (o, z) ∷ []) (to_z-of_z w128 factor fits ∙ c.in_ok-keep.ensures.value ∙ c.loop-i.invariant.same o)
          ∙ sym (factors_more old changes i change c.at.ensures.value);
      same = λ q. c.in_ok-keep.ensures.same q ∙ c.loop-i.invariant.same q;
      kept = λ k d below.
          elim (cases_lt k i) [
            | inl before ↦ c.in_ok-keep.ensures.still (get_or changes k d).0 (c.loop-i.invariant.kept k d before)
            | inr here ↦
                let is : k ≡ i = omega (arith, here, below) in
                let got : get_or changes k d ≡ change = ap (λ n. get_or changes n d) is ∙ got_pair changes i change d c.at.ensures.value in
                subst (λ (p : ℕ × ℤ). HasFactor c.keep.new.self p.0) (sym got) c.in_ok-keep.ensures.kept
          ];
    }

pub unwrap-requires : goal.unwrap-requires
unwrap-requires c =
    let old = c.args.self.now in
    let changes = c.args.changes.now in
    let listed : objects_of c.loop-i.list ≡ objects_of changes =
    ap objects_of c.loop-i.invariant.listed ∙ objects-factors old (take c.loop-i.i changes)
    ∙ ap objects_of (take_all c.loop-i.i changes (omega (arith, c.len-i-end.ensures.value))) in
    c.finish.ensures.ascends.1 (subst IsAscending (sym listed) c.len-i-end.ensures.ascends)

pub returns-clause-kept : goal.returns-clause-kept
returns-clause-kept c k d within = c.loop-i.invariant.kept k d (omega (arith, within, c.len-i-end.ensures.value, c.loop-i-test.false))

pub returns-clause-sizes : goal.returns-clause-sizes
returns-clause-sizes c =
    let old = c.args.self.now in
    let changes = c.args.changes.now in
    let made : c.unwrap.result ≡ c.loop-i.list = rw c.unwrap.ensures at c.finish.ensures.ok in
    let all : take c.loop-i.i changes ≡ changes = take_all c.loop-i.i changes (omega (arith, c.len-i-end.ensures.value)) in
    let small : (o : ℕ) → unsigned_abs (factor_in old o) ≤ 2 ^ 112 = λ o. subst (λ (kept : List (Option ℤ)). unsigned_abs (factor_in kept o) ≤ 2 ^ 112) c.self.view_is (factor_small c.self.inside.slots.items c.self.inside.list.items o c.self.invariant) in
    subst (λ (ps : List (ℕ × ℤ)). All (λ p. unsigned_abs p.1 ≤ 2 ^ 112) ps) (sym (made ∙ c.loop-i.invariant.listed ∙ ap (factors_over old) all)) (factors_over-small old changes (2 ^ 112) small)
