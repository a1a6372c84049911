use Rattle.std.proofs.Common.{◌≡◌, ◌∙◌, ◌-◌, ◌<◌, ◌≤◌, ◌^◌, ap, refl, subst, sym, set, vec_capacity, length, ℤ, ◌+ℤ◌, List, Some, None, false, arith}
use Rattle.std.specs.Int.{w128}
use Rattle.std.specs.Prelude.{unsigned_abs, IsTrue}
use Rattle.std.proofs.lemmas.Int.{ints, to_z-of_z}
use Rattle.tk_base.specs.Ascending.{numbers_of}
use Rattle.tk_base.specs.Objects.{is_in}
use Rattle.tk_border.specs.Levels.{level_at}
use Rattle.tk_border.proofs.LevelLemmas.{small_level}
use Rattle.tk_rank.specs.Rank.{RankView}
use Rattle.tk_rank.specs.Sides.{levels_of, AreSides, IsKept}
use Rattle.tk_rank.specs.Tree.{leaf_at}
use Rattle.tk_rank.proofs.RankLemmas.{read_set}
use Rattle.tk_rank.proofs.SidesLemmas.{length_levels, member_found, outsider_found, outsider_relevelled, passed_on, shifted_on}
use Rattle.tk_rank.proofs.rank.Rank.shift_by_level.Goals as goal

-- the levels before
abbrev levels : (c : goal.After-seat_of-in-Some) → List ℤ
levels c = let r = c.self.inside in levels_of r.count (numbers_of r.list.items) r.members.leaves r.outsiders.leaves

-- the object is an outsider, and its leaf has its level
found : (c : goal.After-seat_of-in-Some) → (is_in (numbers_of c.self.inside.list.items) c.args.o.0 ≡ false) × (c.in-Some.level ≡ level_at (levels c) c.args.o.0)
found c =
    let r = c.self.inside in
    let within : c.args.o.0 ≤ length (levels c) = rw (← c.self.view_is) at c.requires.within in
    let leaf : leaf_at r.outsiders.leaves c.args.o.0 ≡ Some c.in-Some.level = rw (← c.seat_of.ensures) (sym c.leaf.ensures ∙ c.in-Some.is) in
    outsider_found (levels c) (is_in (numbers_of r.list.items)) r.outsiders.leaves c.args.o.0 c.in-Some.level c.requires.from_one within c.self.invariant.sides.outsiders leaf

small : (c : goal.After-seat_of-in-Some) → unsigned_abs (level_at (levels c) c.args.o.0 +ℤ c.args.by) < 2 ^ 114
small c = rw (← c.self.view_is) at c.requires.size

pub seat_of-requires : goal.seat_of-requires
seat_of-requires c = c.requires.from_one

pub leaf-requires : goal.leaf-requires
leaf-requires c =
    let r = c.self.inside in
    let within : c.args.o.0 ≤ length (levels_of r.count (numbers_of r.list.items) r.members.leaves r.outsiders.leaves) = rw (← c.self.view_is) at c.requires.within in
    omega (arith, c.seat_of.ensures, c.requires.from_one, within, c.self.invariant.sides.outsiders.room)

pub seat_of-requires-in-Some : goal.seat_of-requires-in-Some
seat_of-requires-in-Some c = c.requires.from_one

pub overflow_add-level : goal.overflow_add-level
overflow_add-level c =
    let x = level_at (levels c) c.args.o.0 in
    let sum = small c in
    rw ((found c).1, passed_on x (small_level (levels c) c.args.o.0 c.self.invariant.ranked.small), to_z-of_z w128 c.args.by c.ranges.by) (omega (arith, ints, sum))

pub set-requires-clause-within : goal.set-requires-clause-within
set-requires-clause-within c =
    let within : c.args.o.0 ≤ length (levels c) = rw (← c.self.view_is) at c.requires.within in
    omega (arith, c.seat_of-in-Some.ensures, c.requires.from_one, within, c.self.invariant.sides.outsiders.room)

pub set-requires-clause-size : goal.set-requires-clause-size
set-requires-clause-size c =
    rw ((found c).1, shifted_on (level_at (levels c) c.args.o.0) c.args.by (small_level (levels c) c.args.o.0 c.self.invariant.ranked.small) (small c)) (small c)

-- the outsiders' side has the new level
written : (c : goal.After-set) → c.set.new.self.leaves ≡ set c.self.inside.outsiders.leaves (c.args.o.0 - 1) (Some (level_at (levels c.before) c.args.o.0 +ℤ c.args.by))
written c =
    let o = c.args.o.0 in
    let before = c.before in
    let shifted = shifted_on (level_at (levels before) o) c.args.by (small_level (levels before) o c.self.invariant.ranked.small) (small before) in
    rw (c.set.ensures.leaves, c.seat_of-in-Some.ensures, (found before).1, shifted) refl

-- so all is kept
kept : (c : goal.After-set) → (levels_of c.self.inside.count (numbers_of c.self.inside.list.items) c.self.inside.members.leaves c.set.new.self.leaves ≡ set (levels c.before) (c.args.o.0 - 1) (level_at (levels c.before) c.args.o.0 +ℤ c.args.by)) × IsKept (levels_of c.self.inside.count (numbers_of c.self.inside.list.items) c.self.inside.members.leaves c.set.new.self.leaves) (numbers_of c.self.inside.list.items) (vec_capacity c.self.inside.list) c.self.inside.members c.set.new.self.leaves
kept c =
    let r = c.self.inside in
    let o = c.args.o.0 in
    let before = c.before in
    let members = numbers_of r.list.items in
    let level = level_at (levels before) o +ℤ c.args.by in
    let within : o ≤ length (levels before) = rw (← c.self.view_is) at c.requires.within in
    read_set r.count (levels before) members (vec_capacity r.list) r.members r.outsiders.leaves (o - 1) level r.members c.set.new.self.leaves
    (length_levels r.count members r.members.leaves r.outsiders.leaves) (small before) refl c.self.invariant
    (subst (AreSides (set (levels before) (o - 1) level) members r.members.leaves) (sym (written c))
    (outsider_relevelled (levels before) members r.members.leaves r.outsiders.leaves o level c.self.invariant.ranked.ascends c.requires.from_one within (found before).0 c.self.invariant.sides))

pub invariant_of-self : goal.invariant_of-self
invariant_of-self c = (kept c).1

-- a rank with other levels
abbrev with_levels : RankView → List ℤ → RankView
with_levels r levels = record { levels = levels; members = r.members }

pub returns-in-Some : goal.returns-in-Some
returns-in-Some c =
    ap (with_levels (record { levels = levels c.before; members = numbers_of c.self.inside.list.items })) (kept c).0
    ∙ ap (λ (x : RankView). with_levels x (set x.levels (c.args.o.0 - 1) (level_at x.levels c.args.o.0 +ℤ c.args.by))) c.self.view_is

pub shift_member-requires-clause-from_one : goal.shift_member-requires-clause-from_one
shift_member-requires-clause-from_one c = c.requires.from_one

pub shift_member-requires-clause-within : goal.shift_member-requires-clause-within
shift_member-requires-clause-within c = c.requires.within

-- an object with no leaf among the outsiders is a member
pub shift_member-requires-clause-member : goal.shift_member-requires-clause-member
shift_member-requires-clause-member c =
    let r = c.self.inside in
    let o = c.args.o.0 in
    let members = numbers_of r.list.items in
    let levels = levels_of r.count members r.members.leaves r.outsiders.leaves in
    let within : o ≤ length levels = rw (← c.self.view_is) at c.requires.within in
    let none : leaf_at r.outsiders.leaves o ≡ None = rw (← c.seat_of.ensures) (sym c.leaf.ensures ∙ c.in-None.is) in
    subst (λ (x : RankView). IsTrue (is_in x.members o)) c.self.view_is (member_found levels (is_in members) r.outsiders.leaves o c.requires.from_one within c.self.invariant.sides.outsiders none)

pub shift_member-requires-clause-size : goal.shift_member-requires-clause-size
shift_member-requires-clause-size c = rw (to_z-of_z w128 c.args.by c.ranges.by) c.requires.size

pub returns-in-None : goal.returns-in-None
returns-in-None c = rw (to_z-of_z w128 c.args.by c.ranges.by) at c.shift_member.ensures
