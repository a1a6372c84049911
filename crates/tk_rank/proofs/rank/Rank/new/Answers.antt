use Rattle.std.proofs.Common.{◌≡◌, ◌∙◌, refl, ap, subst, sym, arith, vec_capacity, length, ℕ, ℤ, List}
use Rattle.tk_rank.specs.Rank.{RankView}
use Rattle.tk_rank.specs.Sides.{levels_of, IsKept}
use Rattle.tk_rank.specs.Tree.{HasRoom}
use Rattle.tk_rank.proofs.RankLemmas.{read_members, short_members}
use Rattle.tk_rank.proofs.SidesLemmas.{small_outsiders}
use Rattle.tk_rank.proofs.rank.Rank.new.Goals as goal

pub list_members-requires : goal.list_members-requires
list_members-requires c =
    omega (arith, short_members (length c.args.levels.now) c.args.members.now c.len.ensures.ascends c.requires.members.in_range, c.in_ok-list.ensures.exact)

pub take-requires-clause-small : goal.take-requires-clause-small
take-requires-clause-small c = small_outsiders c.args.levels.now _ c.seat.new.outsiders.leaves c.requires.sizes c.seat.ensures

-- the sides have the levels, and they are kept
kept : (c : goal.After-take) → (levels_of (length c.args.levels.now) c.args.members.now c.take.new.members.leaves c.take.new.outsiders.leaves ≡ c.args.levels.now) × IsKept (levels_of (length c.args.levels.now) c.args.members.now c.take.new.members.leaves c.take.new.outsiders.leaves) c.args.members.now (vec_capacity c.in_ok-list.list) c.take.new.members c.take.new.outsiders.leaves
kept c =
    let levels = c.args.levels.now in
    read_members (length levels) levels c.args.members.now (vec_capacity c.in_ok-list.list) c.take.new.members c.take.new.outsiders.leaves refl c.requires.objects c.requires.sizes c.requires.members c.take.ensures.ascends
    (omega (arith, c.in_ok-list.ensures.exact)) (subst (HasRoom (length levels)) (sym c.take.ensures.room) c.in_ok-member_side.ensures) (c.take.ensures.sides levels c.requires.members.in_range c.seat.ensures)

pub invariant_of-result : goal.invariant_of-result
invariant_of-result c = rw (c.list_members.ensures.items, c.list_members.ensures.room) (kept c).1

-- a rank by its levels and its members
abbrev ranked : List ℤ → List ℕ → RankView
ranked levels members = record { levels = levels; members = members }

pub returns : goal.returns
returns c =
    ap (λ list. ranked (levels_of (length c.args.levels.now) list c.take.new.members.leaves c.take.new.outsiders.leaves) list) c.list_members.ensures.items
    ∙ ap (λ l. ranked l c.args.members.now) (kept c).0

pub with_room-requires : goal.with_room-requires
with_room-requires c = c.requires.objects

pub with_room-requires-2 : goal.with_room-requires-2
with_room-requires-2 c = c.requires.objects

pub seat-requires-clause-objects : goal.seat-requires-clause-objects
seat-requires-clause-objects c = c.requires.objects

pub seat-requires-clause-sizes : goal.seat-requires-clause-sizes
seat-requires-clause-sizes c = c.requires.sizes

pub seat-requires-clause-room : goal.seat-requires-clause-room
seat-requires-clause-room c = c.in_ok-outsider_side.ensures

pub take-requires-clause-few : goal.take-requires-clause-few
take-requires-clause-few c =
    omega (arith, short_members (length c.args.levels.now) c.args.members.now c.len.ensures.ascends c.requires.members.in_range, c.requires.objects)

pub take-requires-clause-room : goal.take-requires-clause-room
take-requires-clause-room c =
    omega (arith, short_members (length c.args.levels.now) c.args.members.now c.len.ensures.ascends c.requires.members.in_range, c.in_ok-member_side.ensures)

pub take-requires-clause-within : goal.take-requires-clause-within
take-requires-clause-within c k d inside = omega (arith, c.requires.members.in_range k d inside, c.seat.ensures.room)
