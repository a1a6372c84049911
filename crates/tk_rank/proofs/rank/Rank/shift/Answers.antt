use Rattle.std.proofs.Common.{◌≡◌, ◌∙◌, ◌-◌, ◌<◌, ◌≤◌, ◌^◌, ap, refl, subst, sym, set, vec_capacity, length, to_z, of_z, ℕ, ℤ, ◌+ℤ◌, List, Some, false, arith}
use Rattle.std.specs.Int.{w128}
use Rattle.std.specs.Prelude.{unsigned_abs}
use Rattle.std.proofs.lemmas.Int.{to_z-of_z}
use Rattle.tk_base.specs.Ascending.{numbers_of}
use Rattle.tk_base.specs.Objects.{is_in}
use Rattle.tk_border.specs.Levels.{level_at}
use Rattle.tk_rank.specs.Rank.{RankView}
use Rattle.tk_rank.specs.Sides.{levels_of, AreSides, IsKept}
use Rattle.tk_rank.specs.Tree.{Shifts}
use Rattle.tk_rank.proofs.RankLemmas.{read_set}
use Rattle.tk_rank.proofs.SidesLemmas.{length_levels, outsider_found, outsider_relevelled}
use Rattle.tk_rank.proofs.rank.Rank.shift.Goals as goal

pub seat_of-requires : goal.seat_of-requires
seat_of-requires c = c.requires.from_one

pub shift-requires : goal.shift-requires
shift-requires c =
    let r = c.self.inside in
    let within : c.args.o.0 ≤ length (levels_of r.count (numbers_of r.list.items) r.members.leaves r.outsiders.leaves) = rw (← c.self.view_is) at c.requires.within in
    omega (arith, c.seat_of.ensures, c.requires.from_one, within, c.self.invariant.sides.outsiders.room)

-- a rank as its levels and its members
abbrev seen : List ℤ → List ℕ → RankView
seen levels members = record { levels = levels; members = members }

-- ---- where no number moved, all is as before

pub invariant_of-self : goal.invariant_of-self
invariant_of-self c = rw (c.shift.ensures.still c.if-not-shift.true) c.self.invariant

-- the rank that is handed on is the one before
same : (c : goal.After-shift_by_level-arg-1) → let r = c.self.inside in seen (levels_of r.count (numbers_of r.list.items) r.members.leaves c.shift.new.self.leaves) (numbers_of r.list.items) ≡ c.args.self.now
same c = rw (c.shift.ensures.still c.if-not-shift.true) c.self.view_is

pub shift_by_level-requires-clause-from_one : goal.shift_by_level-requires-clause-from_one
shift_by_level-requires-clause-from_one c = c.requires.from_one

pub shift_by_level-requires-clause-within : goal.shift_by_level-requires-clause-within
shift_by_level-requires-clause-within c = subst (λ (x : RankView). c.args.o.0 ≤ length x.levels) (sym (same c)) c.requires.within

pub shift_by_level-requires-clause-size : goal.shift_by_level-requires-clause-size
shift_by_level-requires-clause-size c =
    rw (to_z-of_z w128 c.args.by c.ranges.by)
    (subst (λ (x : RankView). unsigned_abs (level_at x.levels c.args.o.0 +ℤ c.args.by) < 2 ^ 114) (sym (same c)) c.requires.size)

-- a rank with another level of an object
abbrev relevelled : RankView → ℕ → ℤ → RankView
relevelled r o by = record { levels = set r.levels (o - 1) (level_at r.levels o +ℤ by); members = r.members }

pub returns-then-not-shift : goal.returns-then-not-shift
returns-then-not-shift c =
    c.shift_by_level.ensures
    ∙ ap (λ (x : RankView). relevelled x c.args.o.0 (to_z w128 (of_z w128 c.args.by))) (same c.before)
    ∙ ap (relevelled c.args.self.now c.args.o.0) (to_z-of_z w128 c.args.by c.ranges.by)

-- ---- else it was that of an outsider

-- the levels before
abbrev levels : (c : goal.Else-not-shift) → List ℤ
levels c = let r = c.self.inside in levels_of r.count (numbers_of r.list.items) r.members.leaves r.outsiders.leaves

-- the object is an outsider, and the side of these has its new level
written : (c : goal.Else-not-shift) → (is_in (numbers_of c.self.inside.list.items) c.args.o.0 ≡ false) × (c.shift.new.self.leaves ≡ set c.self.inside.outsiders.leaves (c.args.o.0 - 1) (Some (level_at (levels c) c.args.o.0 +ℤ c.args.by)))
written c =
    let r = c.self.inside in
    let o = c.args.o.0 in
    let within : o ≤ length (levels c) = rw (← c.self.view_is) at c.requires.within in
    let moved : Shifts (o - 1) c.args.by r.outsiders.leaves c.shift.new.self.leaves = rw (c.seat_of.ensures, to_z-of_z w128 c.args.by c.ranges.by) at (c.shift.ensures.moved c.if-not-shift.false) in
    let found = outsider_found (levels c) (is_in (numbers_of r.list.items)) r.outsiders.leaves o moved.number c.requires.from_one within c.self.invariant.sides.outsiders moved.was in
    (found.0, moved.is ∙ ap (λ z. set r.outsiders.leaves (o - 1) (Some (z +ℤ c.args.by))) found.1)

-- so all is kept
kept : (c : goal.Else-not-shift) → (levels_of c.self.inside.count (numbers_of c.self.inside.list.items) c.self.inside.members.leaves c.shift.new.self.leaves ≡ set (levels c) (c.args.o.0 - 1) (level_at (levels c) c.args.o.0 +ℤ c.args.by)) × IsKept (levels_of c.self.inside.count (numbers_of c.self.inside.list.items) c.self.inside.members.leaves c.shift.new.self.leaves) (numbers_of c.self.inside.list.items) (vec_capacity c.self.inside.list) c.self.inside.members c.shift.new.self.leaves
kept c =
    let r = c.self.inside in
    let o = c.args.o.0 in
    let members = numbers_of r.list.items in
    let level = level_at (levels c) o +ℤ c.args.by in
    let within : o ≤ length (levels c) = rw (← c.self.view_is) at c.requires.within in
    let small : unsigned_abs level < 2 ^ 114 = rw (← c.self.view_is) at c.requires.size in
    read_set r.count (levels c) members (vec_capacity r.list) r.members r.outsiders.leaves (o - 1) level r.members c.shift.new.self.leaves
    (length_levels r.count members r.members.leaves r.outsiders.leaves) small refl c.self.invariant
    (subst (AreSides (set (levels c) (o - 1) level) members r.members.leaves) (sym (written c).1)
    (outsider_relevelled (levels c) members r.members.leaves r.outsiders.leaves o level c.self.invariant.ranked.ascends c.requires.from_one within (written c).0 c.self.invariant.sides))

pub invariant_of-self-else-not-shift : goal.invariant_of-self-else-not-shift
invariant_of-self-else-not-shift c = (kept c).1

pub returns-else-not-shift : goal.returns-else-not-shift
returns-else-not-shift c =
    ap (λ (xs : List ℤ). seen xs (numbers_of c.self.inside.list.items)) (kept c).0
    ∙ ap (λ (x : RankView). relevelled x c.args.o.0 c.args.by) c.self.view_is
