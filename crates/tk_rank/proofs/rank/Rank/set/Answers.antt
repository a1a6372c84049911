use Rattle.std.proofs.Common.{◌≡◌, ◌∙◌, ◌-◌, ◌≤◌, ap, arith, set, vec_capacity, length, ℤ, List}
use Rattle.std.proofs.lemmas.List.{length-map}
use Rattle.tk_base.specs.Ascending.{numbers_of}
use Rattle.tk_base.specs.declared.ids.Obj.{Obj}
use Rattle.tk_rank.specs.Rank.{RankView}
use Rattle.tk_rank.specs.Sides.{levels_of, AreSides, IsKept}
use Rattle.tk_rank.proofs.RankLemmas.{read_set}
use Rattle.tk_rank.proofs.SidesLemmas.{length_levels, passed_on}
use Rattle.tk_rank.proofs.rank.Rank.set.Goals as goal

pub relevel-requires-clause-from_one : goal.relevel-requires-clause-from_one
relevel-requires-clause-from_one c = c.requires.from_one

pub relevel-requires-clause-within : goal.relevel-requires-clause-within
relevel-requires-clause-within c =
    let r = c.self.inside in
    let within : c.args.o.0 ≤ length (levels_of r.count (numbers_of r.list.items) r.members.leaves r.outsiders.leaves) = rw (← c.self.view_is) at c.requires.within in
    omega (arith, within, c.self.invariant.sides.outsiders.room)

pub relevel-requires-clause-ascends : goal.relevel-requires-clause-ascends
relevel-requires-clause-ascends c = rw c.as_slice.ensures.value c.self.invariant.ranked.ascends

pub relevel-requires-clause-room : goal.relevel-requires-clause-room
relevel-requires-clause-room c =
    let list = c.self.inside.list in
    omega (arith, ap length c.as_slice.ensures.value, length-map list.items (λ (x : Obj). x.0), c.self.invariant.sides.members.room)

pub relevel-requires-clause-size : goal.relevel-requires-clause-size
relevel-requires-clause-size c = rw (passed_on c.args.level c.requires.size) c.requires.size

-- the levels before
abbrev levels : (c : goal.After-relevel) → List ℤ
levels c = let r = c.self.inside in levels_of r.count (numbers_of r.list.items) r.members.leaves r.outsiders.leaves

-- the two sides have the levels after
sides : (c : goal.After-relevel) → AreSides (set (levels c) (c.args.o.0 - 1) c.args.level) (numbers_of c.self.inside.list.items) c.relevel.new.members.leaves c.relevel.new.outsiders.leaves
sides c =
    let within : c.args.o.0 ≤ length (levels c) = rw (← c.self.view_is) at c.requires.within in
    let told : AreSides (levels c) (numbers_of c.self.inside.list.items) c.self.inside.members.leaves c.self.inside.outsiders.leaves → AreSides (set (levels c) (c.args.o.0 - 1) c.args.level) (numbers_of c.self.inside.list.items) c.relevel.new.members.leaves c.relevel.new.outsiders.leaves
    = rw (c.as_slice.ensures.value, passed_on c.args.level c.requires.size) at (c.relevel.ensures.sides (levels c) within) in
    told c.self.invariant.sides

-- so they are kept
kept : (c : goal.After-relevel) → (levels_of c.self.inside.count (numbers_of c.self.inside.list.items) c.relevel.new.members.leaves c.relevel.new.outsiders.leaves ≡ set (levels c) (c.args.o.0 - 1) c.args.level) × IsKept (levels_of c.self.inside.count (numbers_of c.self.inside.list.items) c.relevel.new.members.leaves c.relevel.new.outsiders.leaves) (numbers_of c.self.inside.list.items) (vec_capacity c.self.inside.list) c.relevel.new.members c.relevel.new.outsiders.leaves
kept c =
    let r = c.self.inside in
    read_set r.count (levels c) (numbers_of r.list.items) (vec_capacity r.list) r.members r.outsiders.leaves (c.args.o.0 - 1) c.args.level c.relevel.new.members c.relevel.new.outsiders.leaves
    (length_levels r.count (numbers_of r.list.items) r.members.leaves r.outsiders.leaves) c.requires.size c.relevel.ensures.room c.self.invariant (sides c)

pub invariant_of-self : goal.invariant_of-self
invariant_of-self c = (kept c).1

-- a rank with other levels
abbrev with_levels : RankView → List ℤ → RankView
with_levels r levels = record { levels = levels; members = r.members }

pub returns : goal.returns
returns c =
    ap (with_levels (record { levels = levels c; members = numbers_of c.self.inside.list.items })) (kept c).0
    ∙ ap (λ (x : RankView). with_levels x (set x.levels (c.args.o.0 - 1) c.args.level)) c.self.view_is
