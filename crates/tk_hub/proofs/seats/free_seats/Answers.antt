use Rattle.std.proofs.Common.{◌++◌, ◌∷◌, [], None, ap, arith, length, replicate, ◌∙◌}
use Rattle.std.proofs.lemmas.List.{length-replicate, replicate_more}
use Rattle.std.proofs.lemmas.Result.{err_from_is_err_and}
use Rattle.tk_hub.proofs.seats.free_seats.Goals as goal

pub loop-init : goal.loop-init
loop-init g c = record {
  free = c.in_ok-seats.ensures.items;
  room = c.in_ok-seats.ensures.capacity;
}

pub push_reserved-requires : goal.push_reserved-requires
push_reserved-requires g c =
    let size = ap length c.loop.invariant.free ∙ length-replicate c.loop.counter None in
    omega (arith, c.loop-test.true, c.loop.invariant.room, size, c.loop.seats.ok.0)

pub loop-preserved : goal.loop-preserved
loop-preserved g c = record {
  free = c.push_reserved.ensures.items ∙ ap (λ xs. xs ++ None ∷ []) c.loop.invariant.free ∙ replicate_more c.loop.counter None;
  room = omega (arith, c.push_reserved.ensures.capacity, c.loop.invariant.room);
}

pub loop-smaller : goal.loop-smaller
loop-smaller g c = omega (arith, c.loop-test.true)

pub returns : goal.returns
returns g c = c.loop.invariant.free ∙ ap (λ n. replicate n None) (omega (arith, c.loop-test.false, c.loop.auto.counter-end))

pub returns-in_err-seats : goal.returns-in_err-seats
returns-in_err-seats g c = let p = err_from_is_err_and c.from_residual.result c.from_residual.ensures.1 in rw p.1 tt
