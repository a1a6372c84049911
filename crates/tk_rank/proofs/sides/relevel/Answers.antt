use Rattle.std.proofs.Common.{◌≡◌, ◌∙◌, ap, sym, arith, refl, true, false}
use Rattle.std.specs.Prelude.{is_some}
use Rattle.std.proofs.lemmas.Int.{ints}
use Rattle.std.proofs.lemmas.List.{length-map}
use Rattle.tk_base.specs.Ascending.{numbers_of}
use Rattle.tk_base.specs.Objects.{is_in}
use Rattle.tk_base.specs.declared.ids.Obj.{Obj}
use Rattle.tk_rank.specs.Tree.{leaf_at}
use Rattle.tk_rank.proofs.SidesLemmas.{member_relevelled, outsider_kept, outsider_relevelled, turned, passed_on}
use Rattle.tk_rank.proofs.sides.relevel.Goals as goal

pub returns-then-is_some-clause-sides : goal.returns-then-is_some-clause-sides
returns-then-is_some-clause-sides c levels within s =
    let o = c.args.o.0 in
    let n = numbers_of c.args.list.now in
    let there : is_some (leaf_at c.args.outsiders.now.leaves o) ≡ true = rw (← c.seat_of.ensures) (ap is_some (sym c.leaf.ensures) ∙ sym c.is_some.ensures ∙ c.if-is_some.true) in
    let here : is_in n o ≡ false = outsider_kept levels (is_in n) c.args.outsiders.now.leaves o c.requires.from_one within s.outsiders there in
    rw (c.set.ensures.leaves, c.seat_of-then-is_some.ensures, passed_on c.args.level c.requires.size)
    (outsider_relevelled levels n c.args.members.now.leaves c.args.outsiders.now.leaves o c.args.level c.requires.ascends c.requires.from_one within here s)

pub returns-in-Some-clause-sides : goal.returns-in-Some-clause-sides
returns-in-Some-clause-sides c levels within s =
    let o = c.args.o.0 in
    let list = c.args.list.now in
    rw (c.set-in-Some.ensures.leaves, turned c.args.level c.requires.size)
    (member_relevelled levels (numbers_of list) c.args.members.now.leaves c.args.outsiders.now.leaves o c.in-Some.place c.args.level c.requires.ascends c.requires.from_one within (omega (arith, c.in-Some.ensures.within, length-map list (λ (x : Obj). x.0))) c.in-Some.ensures.found s)

pub seat_of-requires : goal.seat_of-requires
seat_of-requires c = c.requires.from_one

pub leaf-requires : goal.leaf-requires
leaf-requires c = omega (arith, c.seat_of.ensures, c.requires.from_one, c.requires.within)

pub seat_of-requires-then-is_some : goal.seat_of-requires-then-is_some
seat_of-requires-then-is_some c = c.requires.from_one

pub set-requires-clause-within : goal.set-requires-clause-within
set-requires-clause-within c = omega (arith, c.seat_of-then-is_some.ensures, c.requires.from_one, c.requires.within)

pub set-requires-clause-size : goal.set-requires-clause-size
set-requires-clause-size c = rw (passed_on c.args.level c.requires.size) c.requires.size

pub place_of-requires : goal.place_of-requires
place_of-requires c = c.requires.ascends

pub overflow_sub-level : goal.overflow_sub-level
overflow_sub-level c = rw (passed_on c.args.level c.requires.size) (omega (arith, ints, c.requires.size))

pub set-requires-in-Some-clause-within : goal.set-requires-in-Some-clause-within
set-requires-in-Some-clause-within c = omega (arith, c.in-Some.ensures.within, c.requires.room)

pub set-requires-in-Some-clause-size : goal.set-requires-in-Some-clause-size
set-requires-in-Some-clause-size c = rw (turned c.args.level c.requires.size) (omega (arith, ints, c.requires.size))

pub returns-then-is_some-clause-room : goal.returns-then-is_some-clause-room
returns-then-is_some-clause-room c = refl

pub returns-in-Some-clause-room : goal.returns-in-Some-clause-room
returns-in-Some-clause-room c = c.set-in-Some.ensures.room

pub returns-in_default-clause-room : goal.returns-in_default-clause-room
returns-in_default-clause-room c = refl
