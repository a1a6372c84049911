use Rattle.std.proofs.Common.{◌≡◌, ℕ, ◌++◌, ◌∷◌, [], ◌<◌, ◌∙◌, List, length, take, get_or, subst, arith, ap, sym, to_z, of_z}
use Rattle.std.specs.Prelude.{ℤ, FitsSigned}
use Rattle.std.specs.Int.{w128}
use Rattle.std.proofs.lemmas.Int.{ints, to_z-of_z}
use Rattle.std.proofs.lemmas.List.{take_all}
use Rattle.tk_base.specs.Ascending.{IsAscending}
use Rattle.tk_base.specs.Pairs.{objects_of}
use Rattle.tk_base.proofs.AscendingLemmas.{ascending_positive}
use Rattle.tk_border.specs.Levels.{level_at}
use Rattle.tk_monitor.specs.Board.{values_in}
use Rattle.tk_monitor.proofs.BoardLemmas.{values_more, objects-values}
use Rattle.tk_monitor.proofs.board.Board.values_over.Goals as goal

pub value-requires : goal.value-requires
value-requires c =
    let within : c.loop-i.i < length c.args.asked.now = omega (arith, c.len-i-end.ensures.value) in
    record {
      from_one = omega (arith, c.at-o.ensures.value, ascending_positive c.args.asked.now c.at-o.ensures.ascends c.loop-i.i within);
      within = omega (arith, c.at-o.ensures.value, c.requires c.loop-i.i 0 within);
    }

pub loop-i-preserved : goal.loop-i-preserved
loop-i-preserved c =
    let fits : FitsSigned w128 c.value.result = omega (arith, ints) in
    let values = c.args.self.now.values in
    let asked = c.args.asked.now in
    let o = c.at-o.result.0 in
    let at : o ≡ get_or asked c.loop-i.i 0 = c.at-o.ensures.value in
    c.in_ok-push.ensures.ok
    ∙ ap (λ (front : List (ℕ × ℤ)). front ++ (o, to_z w128 (of_z w128 c.value.result)) ∷ []) c.loop-i.invariant
    ∙ ap (λ (z : ℤ). values_in values (take c.loop-i.i asked) ++ (o, z) ∷ []) (to_z-of_z w128 c.value.result fits ∙ c.value.ensures)
    ∙ ap (λ (q : ℕ). values_in values (take c.loop-i.i asked) ++ (q, level_at values q) ∷ []) at
    ∙ sym (values_more values asked c.loop-i.i (omega (arith, c.len-i-end.ensures.value)))

pub unwrap-requires : goal.unwrap-requires
unwrap-requires c =
    let asked = c.args.asked.now in
    let listed : objects_of c.loop-i.list ≡ asked =
    ap objects_of c.loop-i.invariant
    ∙ objects-values c.args.self.now.values (take c.loop-i.i asked)
    ∙ take_all c.loop-i.i asked (omega (arith, c.len-i-end.ensures.value)) in
    c.finish.ensures.ascends.1 (subst IsAscending (sym listed) c.len-i-end.ensures.ascends)
