use Rattle.std.proofs.Common.{◌≡◌, ◌∙◌, ◌≤◌, ap, sym, arith, length, to_z, of_z, true, Some, None}
use Rattle.std.specs.Int.{w128}
use Rattle.std.proofs.lemmas.List.{length-map}
use Rattle.tk_base.specs.Ascending.{numbers_of}
use Rattle.tk_base.specs.declared.ids.Obj.{Obj}
use Rattle.tk_base.specs.Objects.{is_in}
use Rattle.tk_border.specs.Levels.{level_at}
use Rattle.tk_border.proofs.LevelLemmas.{small_level}
use Rattle.tk_rank.specs.Rank.{RankView}
use Rattle.tk_rank.specs.Sides.{levels_of, AreMemberLeaves}
use Rattle.tk_rank.specs.Tree.{leaf_at}
use Rattle.tk_rank.proofs.SidesLemmas.{member_found, outsider_found, passed_on, small_members}
use Rattle.tk_rank.proofs.rank.Rank.level.Goals as goal

pub seat_of-requires : goal.seat_of-requires
seat_of-requires c = c.requires.from_one

pub leaf-requires : goal.leaf-requires
leaf-requires c =
    let r = c.self.inside in
    let within : c.args.o.0 ≤ length (levels_of r.count (numbers_of r.list.items) r.members.leaves r.outsiders.leaves) = rw (← c.self.view_is) at c.requires.within in
    omega (arith, c.seat_of.ensures, c.requires.from_one, within, c.self.invariant.sides.outsiders.room)

-- an outsider's leaf has its level
read : (c : goal.In-Some) → let r = c.self.inside in to_z w128 (of_z w128 c.in-Some.level) ≡ level_at (levels_of r.count (numbers_of r.list.items) r.members.leaves r.outsiders.leaves) c.args.o.0
read c =
    let r = c.self.inside in
    let o = c.args.o.0 in
    let members = numbers_of r.list.items in
    let levels = levels_of r.count members r.members.leaves r.outsiders.leaves in
    let within : o ≤ length levels = rw (← c.self.view_is) at c.requires.within in
    let leaf : leaf_at r.outsiders.leaves o ≡ Some c.in-Some.level = rw (← c.seat_of.ensures) (sym c.leaf.ensures ∙ c.in-Some.is) in
    let found = outsider_found levels (is_in members) r.outsiders.leaves o c.in-Some.level c.requires.from_one within c.self.invariant.sides.outsiders leaf in
    ap (λ x. to_z w128 (of_z w128 x)) found.1 ∙ passed_on (level_at levels o) (small_level levels o c.self.invariant.ranked.small)

pub returns-in-Some-clause-value : goal.returns-in-Some-clause-value
returns-in-Some-clause-value c = read c ∙ ap (λ (x : RankView). level_at x.levels c.args.o.0) c.self.view_is

pub returns-in-Some-clause-size : goal.returns-in-Some-clause-size
returns-in-Some-clause-size c =
    let r = c.self.inside in
    let levels = levels_of r.count (numbers_of r.list.items) r.members.leaves r.outsiders.leaves in
    rw (read c) (small_level levels c.args.o.0 c.self.invariant.ranked.small)

pub read_member-requires-clause-ascends : goal.read_member-requires-clause-ascends
read_member-requires-clause-ascends c = rw c.as_slice.ensures.value c.self.invariant.ranked.ascends

pub read_member-requires-clause-room : goal.read_member-requires-clause-room
read_member-requires-clause-room c =
    let list = c.self.inside.list in
    omega (arith, ap length c.as_slice.ensures.value, length-map list.items (λ (x : Obj). x.0), c.self.invariant.sides.members.room)

pub returns-in-None-clause-size : goal.returns-in-None-clause-size
returns-in-None-clause-size c = rw (passed_on c.read_member.result c.read_member.ensures.size) c.read_member.ensures.size

pub returns-in-None-clause-value : goal.returns-in-None-clause-value
returns-in-None-clause-value c =
    let r = c.self.inside in
    let o = c.args.o.0 in
    let members = numbers_of r.list.items in
    let levels = levels_of r.count members r.members.leaves r.outsiders.leaves in
    let within : o ≤ length levels = rw (← c.self.view_is) at c.requires.within in
    let none : leaf_at r.outsiders.leaves o ≡ None = rw (← c.seat_of.ensures) (sym c.leaf.ensures ∙ c.in-None.is) in
    let here = member_found levels (is_in members) r.outsiders.leaves o c.requires.from_one within c.self.invariant.sides.outsiders none in
    let value : AreMemberLeaves levels members r.members.leaves → is_in members o ≡ true → c.read_member.result ≡ level_at levels o
    = rw (c.as_slice.ensures.value) at (c.read_member.ensures.value levels) in
    passed_on c.read_member.result c.read_member.ensures.size
    ∙ value c.self.invariant.sides.members here
    ∙ ap (λ (x : RankView). level_at x.levels o) c.self.view_is

pub read_member-requires-clause-small : goal.read_member-requires-clause-small
read_member-requires-clause-small c =
    let r = c.self.inside in
    let members = numbers_of r.list.items in
    small_members (levels_of r.count members r.members.leaves r.outsiders.leaves) members r.members.leaves c.self.invariant.ranked.small c.self.invariant.sides.members
