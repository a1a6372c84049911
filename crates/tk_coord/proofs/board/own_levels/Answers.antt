use Rattle.std.proofs.Common.{FitsSigned, ◌<◌, ◌≤◌, ℤ, List, length, ◌∙◌, arith}
use Rattle.std.specs.Int.{w128}
use Rattle.std.proofs.lemmas.Int.{ints, to_z-of_z}
use Rattle.std.proofs.lemmas.List.{take_all}
use Rattle.tk_alloc.specs.Resolving.{own_factors}
use Rattle.tk_alloc.proofs.BorderLemmas.{factors_count}
use Rattle.tk_coord.proofs.BoardLemmas.{own_more}
use Rattle.tk_coord.proofs.board.own_levels.Goals as goal

pub loop-place-init : goal.loop-place-init
loop-place-init c = record {
  same = c.in_ok-levels.ensures.items;
  len = c.in_ok-levels.ensures.len;
  room = c.in_ok-levels.ensures.capacity;
}

pub loop-place-preserved : goal.loop-place-preserved
loop-place-preserved c =
    let table = c.args.table.now in
    let place = c.loop-place.place in
    let small = c.own.ensures.size in
    let fits : FitsSigned w128 c.own.result = omega (arith, ints, small) in
    let below : place < length table.rows = (let size = c.requires in let more = c.loop-place-test.true in omega (arith, size, more)) in
    record {
      same = ◌∙◌ {A = List ℤ} c.push_reserved.ensures.items
          (own_more table c.loop-place.levels.items place _ below c.loop-place.invariant.same (to_z-of_z w128 c.own.result fits ∙ c.own.ensures.value));
      len = omega (arith, c.push_reserved.ensures.len, c.loop-place.invariant.len);
      room = omega (arith, c.push_reserved.ensures.capacity, c.loop-place.invariant.room);
    }

pub returns : goal.returns
returns c =
    let table = c.args.table.now in
    let all : length (own_factors table) ≤ c.loop-place.place = (let size = c.requires in let count = factors_count table in let over = c.loop-place-test.false in omega (arith, size, count, over)) in
    c.loop-place.invariant.same ∙ take_all c.loop-place.place (own_factors table) all
