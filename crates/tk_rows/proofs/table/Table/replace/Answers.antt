use Rattle.std.proofs.Common.{◌≡◌, ◌-◌, ◌<◌, length, List, get_or, FitsSigned, subst, ap, ◌∙◌, arith}
use Rattle.std.specs.Int.{w128}
use Rattle.std.proofs.lemmas.Int.{ints, to_z-of_z}
use Rattle.std.proofs.lemmas.List.{length-map, get_or-map}
use Rattle.tk_rows.specs.declared.mon_change.MonChange.{MonChange}
use Rattle.tk_rows.specs.Factors.{AreBalanced}
use Rattle.tk_rows.proofs.ReplacingLemmas.{IsTurn, length-rows_after, balanced_after, factors_after, turn_positive, turn_within, turn_row, turn_next}
use Rattle.tk_rows.proofs.table.Table.replace.Goals as goal

-- the loop is done
done : (c : goal.After-loop-place) → c.loop-place.place ≡ length c.args.change.now.own
done c = omega (arith, c.len-place-end.ensures.value)

pub invariant_of-self : goal.invariant_of-self
invariant_of-self c =
    let balanced = subst AreBalanced c.self.view_is c.self.invariant in
    rw (c.loop-place.invariant.0, c.loop-place.invariant.1, done c) (balanced_after c.args.self.now c.args.change.now balanced c.requires c.len-place-end.ensures.ascends)

turn : (c : goal.After-struct_known-1) → IsTurn c.args.self.now c.args.change.now c.loop-place.self-inside.rows.items c.loop-place.place c.at-own.result.0.0 c.at-own.result.1
turn c = record {
  balanced = subst AreBalanced c.self.view_is c.self.invariant;
  fits = c.requires;
  up = c.at-own.ensures.ascends;
  place = omega (arith, c.len-place-end.ensures.value);
  pair = c.at-own.ensures.value;
  rows_are = c.loop-place.invariant.0;
}

pub overflow_sub-o : goal.overflow_sub-o
overflow_sub-o c = turn_positive _ _ _ _ _ _ (turn c)

pub index_mut-row-requires : goal.index_mut-row-requires
index_mut-row-requires c =
    let within : c.at-own.result.0.0 - 1 < length c.loop-place.self-inside.rows.items = turn_within _ _ _ _ _ _ (turn c) in
    omega arith

turned : (c : goal.After-as_slice) → IsTurn c.args.self.now c.args.change.now c.loop-place.self-inside.rows.items c.loop-place.place c.at-own.result.0.0 c.at-own.result.1
turned c = record {
  balanced = subst AreBalanced c.self.view_is c.self.invariant;
  fits = c.requires;
  up = c.at-own.ensures.ascends;
  place = omega (arith, c.len-place-end.ensures.value);
  pair = c.at-own.ensures.value;
  rows_are = c.loop-place.invariant.0;
}

pub replace-requires-clause-nodes : goal.replace-requires-clause-nodes
replace-requires-clause-nodes c k d h =
    let nodes = turn_row _ _ _ _ _ _ c.index_mut-row.result.now (turned c) c.index_mut-row.ensures.value in
    let same = c.as_slice.ensures.value in
    let inside : k < length c.args.change.now.at.items = rw same at h in
    let fits = c.requires.monitors k 0 (omega (arith, inside, length-map c.args.change.now.at.items (λ (m : MonChange). m.mon.0))) in
    let here = get_or-map (λ (m : MonChange). m.mon.0) c.args.change.now.at.items k d 0 inside in
    let mon : (get_or c.as_slice.result.now k d).mon.0 ≡ (get_or c.args.change.now.at.items k d).mon.0 = ap (λ (xs : List MonChange). (get_or xs k d).mon.0) same in
    omega (arith, nodes, fits, here, mon)

pub replace-requires-clause-some : goal.replace-requires-clause-some
replace-requires-clause-some c = omega (arith, turn_row _ _ _ _ _ _ c.index_mut-row.result.now (turned c) c.index_mut-row.ensures.value)

pub loop-place-preserved : goal.loop-place-preserved
loop-place-preserved c =
    let fits : FitsSigned w128 c.at-own.result.1 = omega (arith, ints) in (
      turn_next c.args.self.now c.args.change.now c.loop-place.self-inside.rows.items c.loop-place.place c.at-own.result.0.0 c.at-own.result.1 c.index_mut-row.result.now c.replace.new.self c.as_slice.result.now
          (record {
            balanced = subst AreBalanced c.self.view_is c.self.invariant;
            fits = c.requires;
            up = c.at-own.ensures.ascends;
            place = omega (arith, c.len-place-end.ensures.value);
            pair = c.at-own.ensures.value;
            rows_are = c.loop-place.invariant.0;
          })
          c.index_mut-row.ensures.value c.as_slice.ensures.value (rw (to_z-of_z w128 c.at-own.result.1 fits) at c.replace.ensures),
      c.loop-place.invariant.1,
    )

pub returns-clause-objects : goal.returns-clause-objects
returns-clause-objects c = ap length c.loop-place.invariant.0 ∙ length-rows_after c.args.self.now.rows c.args.change.now c.loop-place.place

pub returns-clause-factors : goal.returns-clause-factors
returns-clause-factors c node o some =
    let balanced = subst AreBalanced c.self.view_is c.self.invariant in
    rw (c.loop-place.invariant.0, done c) (factors_after c.args.self.now c.args.change.now node o balanced c.requires c.len-place-end.ensures.ascends some)
