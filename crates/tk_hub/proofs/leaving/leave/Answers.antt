use Rattle.std.proofs.Common.{◌≡◌, ◌+◌, ◌++◌, ◌∷◌, [], length, arith, rules, sym, refl, ap, ◌∙◌, subst}
use Rattle.std.proofs.lemmas.Iterator.Adapters.{YieldsList-from_vec}
use Rattle.std.proofs.lemmas.Iterator.Consumers.{YieldsList-end, YieldsList-turn}
use Rattle.std.proofs.lemmas.List.{length_push, map-id}
use Rattle.tk_hub.proofs.LeavingLemmas.{LeftUpTo, counted_free, counted_more, counted_none, counted_seat, is_free, item_at, left_all, left_more, left_none, left_past, or_first, or_second, shut_free, shut_more, shut_none, shut_seat, stands_at, wires_more, wires_past}
use Rattle.tk_hub.specs.End.{AreCounted, AreShut, wires_of}
use Rattle.tk_hub.proofs.leaving.leave.Goals as goal

pub loop-seat-init : goal.loop-seat-init
loop-seat-init g c = (
  refl,
  c.requires.empty,
  omega (arith, ap length c.requires.empty),
  c.requires.room,
  left_none _ c.args.course,
  counted_none g.W.Wire.counts,
  shut_none g.W.Wire.is_shut,
)

pub left-next-requires : goal.left-next-requires
left-next-requires g c =
    let turn = YieldsList-turn (YieldsList-from_vec {s = c.into_iter-seat-iterator.result} c.args.links.items (search rules) (search rules)) c.loop-seat.yielded c.loop-seat.seat-iterator c.loop-seat.yielded_by c.next.result c.next.new.self c.in-Some.seat c.in-Some.is c.next.ensures.steps in
    stands_at c.args.course (record { 0 = c.loop-seat.mon + 1 }) c.args.links.items c.in-Some-seat.link c.requires.standing
    (item_at c.args.links.items (length c.loop-seat.yielded) c.loop-seat.mon c.in-Some.seat c.in-Some-seat.link c.loop-seat.invariant.0 turn.0 turn.1 c.in-Some-seat.is)

pub push_reserved-requires : goal.push_reserved-requires
push_reserved-requires g c =
    let turn = YieldsList-turn (YieldsList-from_vec {s = c.into_iter-seat-iterator.result} c.args.links.items (search rules) (search rules)) c.loop-seat.yielded c.loop-seat.seat-iterator c.loop-seat.yielded_by c.next.result c.next.new.self c.in-Some.seat c.in-Some.is c.next.ensures.steps in
    omega (arith, c.loop-seat.invariant.0, c.loop-seat.invariant.2, c.loop-seat.invariant.3, turn.0, c.requires.few, c.loop-seat.wires.ok.0)

pub loop-seat-preserved-in-Some-seat : goal.loop-seat-preserved-in-Some-seat
loop-seat-preserved-in-Some-seat g c =
    let before = c.loop-seat.invariant in
    let done = c.loop-seat.yielded in
    let seat = c.in-Some.seat in
    let size = length_push done seat in
    let wires = ap length c.push_reserved.ensures.items ∙ length_push c.loop-seat.wires.items c.left-next.result.1 in
    let place : c.loop-seat.mon + 1 ≡ length done + 1 = omega (arith, before.0) in
    let more = left_more c.args.course (record { 0 = c.loop-seat.mon + 1 }) c.args.links.items done c.in-Some-seat.link c.loop-seat.odd c.left-next.result.0 c.or-odd.result c.requires.standing place c.left-next.ensures.odd
    (or_first c.loop-seat.odd c.left-next.result.0 c.or-odd.result c.or-odd.ensures) (or_second c.loop-seat.odd c.left-next.result.0 c.or-odd.result c.or-odd.ensures) before.4 in (
      omega (arith, before.0, size),
      wires_more done seat c.in-Some-seat.link c.loop-seat.wires.items c.push_reserved.new.self.items c.left-next.result.1 c.in-Some-seat.is c.left-next.ensures.wire c.push_reserved.ensures.items before.1,
      omega (arith, wires, before.2),
      omega (arith, c.push_reserved.ensures.capacity, before.3),
      subst (λ o. LeftUpTo c.args.course (done ++ o ∷ []) c.or-odd.result) (sym c.in-Some-seat.is) more,
      counted_more g.W.Wire.counts done seat (counted_seat g.W.Wire.counts seat c.in-Some-seat.link c.left-next.result.1 c.in-Some-seat.is c.left-next.ensures.wire c.left-next.ensures.counted) before.5,
      shut_more g.W.Wire.is_shut done seat (shut_seat g.W.Wire.is_shut seat c.in-Some-seat.link c.left-next.result.1 c.in-Some-seat.is c.left-next.ensures.wire c.left-next.ensures.shut) before.6,
    )

pub loop-seat-preserved : goal.loop-seat-preserved
loop-seat-preserved g c =
    let before = c.loop-seat.invariant in
    let done = c.loop-seat.yielded in
    let seat = c.in-Some.seat in
    let size = length_push done seat in
    let none = is_free seat c.in_default.not-Some in (
      omega (arith, before.0, size),
      wires_past done seat c.loop-seat.wires.items none before.1,
      omega (arith, before.2),
      before.3,
      subst (λ o. LeftUpTo c.args.course (done ++ o ∷ []) c.loop-seat.odd) (sym none) (left_past c.args.course c.args.links.items done c.loop-seat.odd c.requires.standing before.4),
      counted_more g.W.Wire.counts done seat (counted_free g.W.Wire.counts seat none) before.5,
      shut_more g.W.Wire.is_shut done seat (shut_free g.W.Wire.is_shut seat none) before.6,
    )

pub returns-clause-odd : goal.returns-clause-odd
returns-clause-odd g c =
    let whole = YieldsList-end (YieldsList-from_vec {s = c.into_iter-seat-iterator.result} c.args.links.items (search rules) (search rules)) c.loop-seat.yielded c.loop-seat.seat-iterator c.loop-seat.yielded_by c.next.result c.next.new.self c.in-None.is c.next.ensures.steps in
    left_all c.args.course c.args.links.items c.loop-seat.odd c.requires.standing (subst (λ xs. LeftUpTo c.args.course xs c.loop-seat.odd) (sym (map-id c.loop-seat.yielded) ∙ whole.0) c.loop-seat.invariant.4)

pub returns-clause-counted : goal.returns-clause-counted
returns-clause-counted g c =
    let whole = YieldsList-end (YieldsList-from_vec {s = c.into_iter-seat-iterator.result} c.args.links.items (search rules) (search rules)) c.loop-seat.yielded c.loop-seat.seat-iterator c.loop-seat.yielded_by c.next.result c.next.new.self c.in-None.is c.next.ensures.steps in
    subst (λ xs. AreCounted g.W.Wire.counts xs) (sym (map-id c.loop-seat.yielded) ∙ whole.0) c.loop-seat.invariant.5

pub returns-clause-shut : goal.returns-clause-shut
returns-clause-shut g c =
    let whole = YieldsList-end (YieldsList-from_vec {s = c.into_iter-seat-iterator.result} c.args.links.items (search rules) (search rules)) c.loop-seat.yielded c.loop-seat.seat-iterator c.loop-seat.yielded_by c.next.result c.next.new.self c.in-None.is c.next.ensures.steps in
    subst (λ xs. AreShut g.W.Wire.is_shut xs) (sym (map-id c.loop-seat.yielded) ∙ whole.0) c.loop-seat.invariant.6

pub returns-clause-wires : goal.returns-clause-wires
returns-clause-wires g c =
    let whole = YieldsList-end (YieldsList-from_vec {s = c.into_iter-seat-iterator.result} c.args.links.items (search rules) (search rules)) c.loop-seat.yielded c.loop-seat.seat-iterator c.loop-seat.yielded_by c.next.result c.next.new.self c.in-None.is c.next.ensures.steps in
    c.loop-seat.invariant.1 ∙ ap (λ xs. wires_of xs) (sym (map-id c.loop-seat.yielded) ∙ whole.0)

pub next-requires : goal.next-requires
next-requires g c = tt

pub overflow_add-mon : goal.overflow_add-mon
overflow_add-mon g c =
    let turn = YieldsList-turn (YieldsList-from_vec {s = c.into_iter-seat-iterator.result} c.args.links.items (search rules) (search rules)) c.loop-seat.yielded c.loop-seat.seat-iterator c.loop-seat.yielded_by c.next.result c.next.new.self c.in-Some.seat c.in-Some.is c.next.ensures.steps in
    omega (arith, c.loop-seat.invariant.0, turn.0, c.requires.few)
