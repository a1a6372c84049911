use Rattle.std.proofs.Common.{◌≡◌, false, true, ◌∙◌, ◌-◌, ◌<◌, ◌≤◌, ◌^◌, ap, arith, subst, sym, get_or, set, vec_capacity, length, ℤ, pos, ◌+ℤ◌, ◌-ℤ◌, List, Some}
use Rattle.std.specs.Prelude.{unsigned_abs}
use Rattle.std.proofs.lemmas.Bool.{both_ways}
use Rattle.std.proofs.lemmas.Int.{ints}
use Rattle.std.proofs.lemmas.List.{length-map}
use Rattle.tk_base.specs.Ascending.{numbers_of}
use Rattle.tk_base.specs.declared.ids.Obj.{Obj}
use Rattle.tk_base.specs.Objects.{is_in}
use Rattle.tk_border.specs.Levels.{level_at}
use Rattle.tk_rank.specs.Rank.{RankView}
use Rattle.tk_rank.specs.Sides.{levels_of, AreSides, IsKept}
use Rattle.tk_rank.proofs.RankLemmas.{read_set}
use Rattle.tk_rank.proofs.SidesLemmas.{length_levels, member_here, member_relevelled, shifted_back, small_members, turned_moves}
use Rattle.tk_rank.proofs.rank.Rank.shift_member.Goals as goal

-- the levels before
abbrev levels : (c : goal.After-set-arg-1) → List ℤ
levels c = let r = c.self.inside in levels_of r.count (numbers_of r.list.items) r.members.leaves r.outsiders.leaves

-- the place is one of a member, which is the object
within : (c : goal.After-set-arg-1) → c.in-Some.place < length (numbers_of c.self.inside.list.items)
within c =
    let low : c.in-Some.place < length c.self.inside.list.items = rw c.as_slice.ensures.value at c.in-Some.ensures.within in
    omega (arith, low, length-map c.self.inside.list.items (λ (x : Obj). x.0))

found : (c : goal.After-set-arg-1) → get_or (numbers_of c.self.inside.list.items) c.in-Some.place 0 ≡ c.args.o.0
found c = rw c.as_slice.ensures.value at c.in-Some.ensures.found

-- its leaf has its level with the sign turned
turned : (c : goal.After-set-arg-1) → c.number_in-turned.result ≡ (pos 0 -ℤ level_at (levels c) c.args.o.0)
turned c =
    let r = c.self.inside in
    c.number_in-turned.ensures.value (pos 0 -ℤ level_at (levels c) c.args.o.0)
    (member_here (levels c) (numbers_of r.list.items) r.members.leaves c.in-Some.place (within c) c.self.invariant.sides.members
    ∙ ap (λ q. Some (pos 0 -ℤ level_at (levels c) q)) (found c))

small : (c : goal.After-set-arg-1) → unsigned_abs (level_at (levels c) c.args.o.0 +ℤ c.args.by) < 2 ^ 114
small c = rw (← c.self.view_is) at c.requires.size

pub overflow_sub-turned : goal.overflow_sub-turned
overflow_sub-turned c =
    let x = level_at (levels c) c.args.o.0 in
    let sum = small c in
    rw (turned_moves x c.args.by c.number_in-turned.result (turned c) c.number_in-turned.ensures.size sum) (omega (arith, ints, sum))

pub set-requires-clause-size : goal.set-requires-clause-size
set-requires-clause-size c =
    let x = level_at (levels c) c.args.o.0 in
    let sum = small c in
    rw (shifted_back x c.args.by c.number_in-turned.result (turned c) c.number_in-turned.ensures.size sum) (omega (arith, ints, sum))

-- the members' side has the new level
written : (c : goal.After-set) → c.set.new.self.leaves ≡ set c.self.inside.members.leaves c.in-Some.place (Some (pos 0 -ℤ (level_at (levels c.before) c.args.o.0 +ℤ c.args.by)))
written c =
    let before = c.before in
    c.set.ensures.leaves
    ∙ ap (λ x. set c.self.inside.members.leaves c.in-Some.place (Some x)) (shifted_back (level_at (levels before) c.args.o.0) c.args.by c.number_in-turned.result (turned before) c.number_in-turned.ensures.size (small before))

-- so all is kept
kept : (c : goal.After-set) → (levels_of c.self.inside.count (numbers_of c.self.inside.list.items) c.set.new.self.leaves c.self.inside.outsiders.leaves ≡ set (levels c.before) (c.args.o.0 - 1) (level_at (levels c.before) c.args.o.0 +ℤ c.args.by)) × IsKept (levels_of c.self.inside.count (numbers_of c.self.inside.list.items) c.set.new.self.leaves c.self.inside.outsiders.leaves) (numbers_of c.self.inside.list.items) (vec_capacity c.self.inside.list) c.set.new.self c.self.inside.outsiders.leaves
kept c =
    let r = c.self.inside in
    let o = c.args.o.0 in
    let before = c.before in
    let members = numbers_of r.list.items in
    let level = level_at (levels before) o +ℤ c.args.by in
    let inside : o ≤ length (levels before) = rw (← c.self.view_is) at c.requires.within in
    read_set r.count (levels before) members (vec_capacity r.list) r.members r.outsiders.leaves (o - 1) level c.set.new.self r.outsiders.leaves
    (length_levels r.count members r.members.leaves r.outsiders.leaves) (small before) c.set.ensures.room c.self.invariant
    (subst (λ leaves. AreSides (set (levels before) (o - 1) level) members leaves r.outsiders.leaves) (sym (written c))
    (member_relevelled (levels before) members r.members.leaves r.outsiders.leaves o c.in-Some.place level c.self.invariant.ranked.ascends c.requires.from_one inside (within before) (found before) c.self.invariant.sides))

pub invariant_of-self : goal.invariant_of-self
invariant_of-self c = (kept c).1

-- a rank with other levels
abbrev with_levels : RankView → List ℤ → RankView
with_levels r levels = record { levels = levels; members = r.members }

pub returns-in-Some : goal.returns-in-Some
returns-in-Some c =
    ap (with_levels (record { levels = levels c.before; members = numbers_of c.self.inside.list.items })) (kept c).0
    ∙ ap (λ (x : RankView). with_levels x (set x.levels (c.args.o.0 - 1) (level_at x.levels c.args.o.0 +ℤ c.args.by))) c.self.view_is

pub place_of-requires : goal.place_of-requires
place_of-requires c = rw c.as_slice.ensures.value c.self.invariant.ranked.ascends

pub number_in-turned-requires-clause-within : goal.number_in-turned-requires-clause-within
number_in-turned-requires-clause-within c =
    let r = c.self.inside in
    let low : c.in-Some.place < length r.list.items = rw c.as_slice.ensures.value at c.in-Some.ensures.within in
    omega (arith, low, length-map r.list.items (λ (x : Obj). x.0), c.self.invariant.sides.members.room)

pub number_in-turned-requires-clause-small : goal.number_in-turned-requires-clause-small
number_in-turned-requires-clause-small c =
    let r = c.self.inside in
    let members = numbers_of r.list.items in
    small_members (levels_of r.count members r.members.leaves r.outsiders.leaves) members r.members.leaves c.self.invariant.ranked.small c.self.invariant.sides.members

pub set-requires-clause-within : goal.set-requires-clause-within
set-requires-clause-within c = omega (arith, within c, c.self.invariant.sides.members.room)

-- the object is a member, so it has a place
pub returns-in_default : goal.returns-in_default
returns-in_default c =
    let o = c.args.o.0 in
    let members = numbers_of c.self.inside.list.items in
    let none : is_in members o ≡ false = rw c.as_slice.ensures.value at c.in_default.ensures.none in
    let here : is_in members o ≡ true = rw (← c.self.view_is) at c.requires.member in
    absurd (both_ways (is_in members o) none here)
