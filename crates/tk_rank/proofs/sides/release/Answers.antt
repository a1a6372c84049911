use Rattle.std.proofs.Common.{◌≡◌, ◌∙◌, ◌<◌, ◌≤◌, ap, arith, get_or, length, length-set, pos, ◌-ℤ◌}
use Rattle.std.proofs.lemmas.Int.{ints}
use Rattle.std.proofs.lemmas.List.{length-map}
use Rattle.tk_base.specs.Ascending.{numbers_of}
use Rattle.tk_base.specs.declared.ids.Obj.{Obj}
use Rattle.tk_base.proofs.AscendingLemmas.{ascending_positive}
use Rattle.tk_border.specs.Levels.{level_at}
use Rattle.tk_rank.proofs.ExchangeLemmas.{release_goes_on}
use Rattle.tk_rank.proofs.SidesLemmas.{member_here, number_at, passed_on, turned, turned_back}
use Rattle.tk_rank.proofs.sides.release.Goals as goal

pub seat_of-requires : goal.seat_of-requires
seat_of-requires c =
    let list = c.args.list.now in
    let place = c.loop-place.place in
    let rise = ascending_positive (numbers_of list) c.requires.ascends place (omega (arith, c.loop-place-test.true, length-map list (λ (x : Obj). x.0))) in
    omega (arith, number_at list place c.loop-place-test.true, rise)

pub set-requires : goal.set-requires
set-requires c =
    let list = c.args.list.now in
    let place = c.loop-place.place in
    let inside : place < length (numbers_of list) = omega (arith, c.loop-place-test.true, length-map list (λ (x : Obj). x.0)) in
    let rise = ascending_positive (numbers_of list) c.requires.ascends place inside in
    let low = c.requires.within place 0 inside in
    let small = c.number_in-level.ensures.size in
    record {
      within = omega (arith, number_at list place c.loop-place-test.true, rise, low, c.seat_of.ensures, c.loop-place.invariant.room);
      size = rw (turned c.number_in-level.result small) (omega (arith, ints, small));
    }

pub loop-place-preserved : goal.loop-place-preserved
loop-place-preserved c =
    let list = c.args.list.now in
    let n = numbers_of list in
    let place = c.loop-place.place in
    let o = (get_or list place (record { 0 = 0 })).0 in
    let inside : place < length n = omega (arith, c.loop-place-test.true, length-map list (λ (x : Obj). x.0)) in
    let at : get_or n place 0 ≡ o = number_at list place c.loop-place-test.true in
    let some : 0 < o = let rise = ascending_positive n c.requires.ascends place inside in omega (arith, at, rise) in
    record {
      room = ap length c.set.ensures.leaves ∙ length-set c.loop-place.outsiders.leaves c.seat_of.result _ ∙ c.loop-place.invariant.room;
      sides = λ levels all s.
          let low : o ≤ length levels = let there = all place 0 inside in omega (arith, at, there) in
          let read = c.number_in-level.ensures.value (pos 0 -ℤ level_at levels (get_or n place 0)) (member_here levels n c.args.members.now.leaves place inside s.members) in
          let is = turned_back (level_at levels o) c.number_in-level.result c.number_in-level.ensures.size (read ∙ ap (λ q. pos 0 -ℤ level_at levels q) at) in
          rw (c.set.ensures.leaves, c.seat_of.ensures, is)
          (release_goes_on levels n c.loop-place.outsiders.leaves place o inside at some low (c.loop-place.invariant.sides levels all s));
    }

pub number_in-level-requires-clause-within : goal.number_in-level-requires-clause-within
number_in-level-requires-clause-within c = omega (arith, c.loop-place-test.true, c.requires.room)

pub number_in-level-requires-clause-small : goal.number_in-level-requires-clause-small
number_in-level-requires-clause-small c = c.requires.small

pub overflow_sub-level : goal.overflow_sub-level
overflow_sub-level c =
    let small = c.number_in-level.ensures.size in
    rw (passed_on c.number_in-level.result small) (omega (arith, ints, small))

pub bounds-list-place : goal.bounds-list-place
bounds-list-place c = c.loop-place-test.true
