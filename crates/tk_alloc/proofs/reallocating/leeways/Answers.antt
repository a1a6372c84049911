use Rattle.std.proofs.Common.{◌≡◌, ◌<◌, ◌^◌, ℕ, ℤ, List, [], ◌∷◌, ◌++◌, subst, unsigned_abs, length, map, take, sym, ap, ◌∙◌, arith, FitsSigned}
use Rattle.std.specs.Int.{w128}
use Rattle.std.specs.List.{All}
use Rattle.std.proofs.lemmas.Int.{ints, to_z-of_z}
use Rattle.std.proofs.lemmas.List.{length-map}
use Rattle.std.proofs.lemmas.List.Elements.{All-push}
use Rattle.tk_base.specs.Pairs.{objects_of}
use Rattle.tk_alloc.specs.Parts.{leeway}
use Rattle.tk_alloc.specs.Terms.{parts_of}
use Rattle.tk_alloc.proofs.PartLemmas.{map_more}
use Rattle.tk_alloc.proofs.reallocating.leeways.Goals as goal

pub loop-place-preserved : goal.loop-place-preserved
loop-place-preserved c =
    let f : ℕ → ℤ = leeway c.args.table.now (parts_of c.args.terms.now c.args.reports.now) in
    let objects = objects_of c.args.terms.now.own_values in
    let fits : FitsSigned w128 c.leeway.result = omega (arith, ints, c.leeway.ensures.size) in
    let within : c.loop-place.place < length objects = omega (arith, c.len-place-end.ensures.value, length-map c.args.terms.now.own_values (λ (p : ℕ × ℤ). p.0)) in
    let pushed : c.push.new.self.items ≡ c.loop-place.list.items ++ c.leeway.result ∷ [] = rw (to_z-of_z w128 c.leeway.result fits) at c.in_ok-push.ensures.items in (
      pushed ∙ ap (λ (xs : List ℤ). xs ++ c.leeway.result ∷ []) c.loop-place.invariant.0 ∙ ap (λ (z : ℤ). map f (take c.loop-place.place objects) ++ z ∷ []) c.leeway.ensures.value
          ∙ sym (map_more f objects c.loop-place.place within),
      subst (All (λ z. unsigned_abs z < 2 ^ 122)) (sym pushed) (All-push (λ z. unsigned_abs z < 2 ^ 122) c.loop-place.list.items c.leeway.result c.loop-place.invariant.1 c.leeway.ensures.size),
    )
