use Rattle.std.proofs.Common.{◌≡◌, ◌∙◌, ◌<◌, ◌≤◌, ap, sym, arith, get_or, length, length-set, None}
use Rattle.std.proofs.lemmas.Int.{ints}
use Rattle.tk_base.proofs.AscendingLemmas.{ascending_positive}
use Rattle.tk_border.specs.Levels.{level_at}
use Rattle.tk_rank.proofs.ExchangeLemmas.{next_leaf, take_goes_on}
use Rattle.tk_rank.proofs.SidesLemmas.{passed_on, small_emptied, turned}
use Rattle.tk_rank.proofs.sides.take.Goals as goal

pub loop-place-preserved : goal.loop-place-preserved
loop-place-preserved c =
    let new = c.args.new.now in
    let i = c.loop-place.place in
    let o = c.at.result.0 in
    let m = c.loop-place.members.leaves in
    let out = c.loop-place.outsiders.leaves in
    let up = c.len.ensures.ascends in
    let inside : i < length new = omega (arith, c.loop-place-test.true) in
    let at : get_or new i 0 ≡ o = sym c.at.ensures.value in
    let some : 0 < o = let rise = ascending_positive new up i inside in omega (arith, at, rise) in
    let low : o ≤ length out = let there = c.requires.within i 0 inside in omega (arith, at, there, c.loop-place.invariant.outsider_room) in
    let filled : length c.set.new.self.leaves ≡ length m = ap length c.set.ensures.leaves ∙ length-set m i _ in
    record {
      enough = omega (arith, filled, c.loop-place.invariant.enough);
      member_room = c.set.ensures.room ∙ c.loop-place.invariant.member_room;
      outsider_room = ap length c.remove.ensures.leaves ∙ length-set out c.seat_of-seat.result None ∙ c.loop-place.invariant.outsider_room;
      small = rw c.remove.ensures.leaves (small_emptied out c.seat_of-seat.result (omega (arith, c.seat_of-seat.ensures, low, some)) c.loop-place.invariant.small);
      sides = λ levels all s.
          let there : o ≤ length levels = let bound = all i 0 inside in omega (arith, at, bound) in
          let taken = c.loop-place.invariant.sides levels all s in
          let leaf = next_leaf levels new i o m out up inside at some there taken in
          let read : c.number_in.result ≡ level_at levels o = c.number_in.ensures.value (level_at levels o) (ap (λ k. get_or out k None) c.seat_of-seat.ensures ∙ leaf) in
          rw (c.set.ensures.leaves, c.remove.ensures.leaves, c.seat_of-seat.ensures, turned c.number_in.result c.number_in.ensures.size, read)
          (take_goes_on levels new i o m out inside (omega (arith, inside, c.loop-place.invariant.enough)) at some there taken);
    }

pub clear-requires-clause-few : goal.clear-requires-clause-few
clear-requires-clause-few c = omega (arith, c.len.ensures.value, c.requires.few)

pub clear-requires-clause-room : goal.clear-requires-clause-room
clear-requires-clause-room c = omega (arith, c.len.ensures.value, c.requires.room)

pub at-requires : goal.at-requires
at-requires c = omega (arith, c.loop-place-test.true)

pub seat_of-seat-requires : goal.seat_of-seat-requires
seat_of-seat-requires c =
    let new = c.args.new.now in
    let i = c.loop-place.place in
    let inside : i < length new = omega (arith, c.loop-place-test.true) in
    let rise = ascending_positive new c.len.ensures.ascends i inside in
    omega (arith, c.at.ensures.value, rise)

-- the object has a seat among the outsiders
pub number_in-requires-clause-within : goal.number_in-requires-clause-within
number_in-requires-clause-within c =
    let new = c.args.new.now in
    let i = c.loop-place.place in
    let inside : i < length new = omega (arith, c.loop-place-test.true) in
    let there = c.requires.within i 0 inside in
    let rise = ascending_positive new c.len.ensures.ascends i inside in
    omega (arith, c.seat_of-seat.ensures, c.at.ensures.value, there, rise, c.loop-place.invariant.outsider_room)

pub number_in-requires-clause-small : goal.number_in-requires-clause-small
number_in-requires-clause-small c = c.loop-place.invariant.small

pub overflow_sub-number_in : goal.overflow_sub-number_in
overflow_sub-number_in c = rw (passed_on c.number_in.result c.number_in.ensures.size) (omega (arith, ints, c.number_in.ensures.size))

pub set-requires-clause-within : goal.set-requires-clause-within
set-requires-clause-within c = omega (arith, c.loop-place-test.true, c.loop-place.invariant.enough)

pub set-requires-clause-size : goal.set-requires-clause-size
set-requires-clause-size c = rw (turned c.number_in.result c.number_in.ensures.size) (omega (arith, ints, c.number_in.ensures.size))

pub remove-requires : goal.remove-requires
remove-requires c =
    let new = c.args.new.now in
    let i = c.loop-place.place in
    let inside : i < length new = omega (arith, c.loop-place-test.true) in
    let there = c.requires.within i 0 inside in
    let rise = ascending_positive new c.len.ensures.ascends i inside in
    omega (arith, c.seat_of-seat.ensures, c.at.ensures.value, there, rise, c.loop-place.invariant.outsider_room)

pub returns-clause-ascends : goal.returns-clause-ascends
returns-clause-ascends c = c.len.ensures.ascends

pub returns-clause-room : goal.returns-clause-room
returns-clause-room c = c.loop-place.invariant.member_room
