use Rattle.std.proofs.Common.{◌≡◌, ◌∙◌, ◌≤◌, ap, subst, sym, arith, vec_capacity, length, [], ℕ, ℤ, List}
use Rattle.tk_base.specs.Ascending.{numbers_of}
use Rattle.tk_base.specs.Objects.{is_in}
use Rattle.tk_border.specs.Levels.{AreMembers}
use Rattle.tk_rank.specs.Rank.{RankView}
use Rattle.tk_rank.specs.Sides.{levels_of, AreOutsiderLeaves, IsKept}
use Rattle.tk_rank.specs.Tree.{HasRoom}
use Rattle.tk_rank.proofs.RankLemmas.{read_members, short_members}
use Rattle.tk_rank.proofs.SidesLemmas.{length_levels, small_members, small_outsiders}
use Rattle.tk_rank.proofs.rank.Rank.exchange.Goals as goal

-- the levels, which stay
abbrev levels : (c : goal.After-take-arg-2-1) → List ℤ
levels c = let r = c.self.inside in levels_of r.count (numbers_of r.list.items) r.members.leaves r.outsiders.leaves

are : (c : goal.After-take-arg-2-1) → AreMembers (length (levels c)) c.args.members.now
are c = rw (← c.self.view_is) at c.requires

short : (c : goal.After-take-arg-2-1) → length c.args.members.now ≤ length (levels c)
short c = short_members (length (levels c)) c.args.members.now c.len.ensures.ascends (are c).in_range

-- all objects are outsiders
released : (c : goal.After-take-arg-2-1) → AreOutsiderLeaves (levels c) (is_in []) c.release.new.outsiders.leaves
released c = (rw (c.as_slice.ensures.value) at (c.release.ensures (levels c))) c.self.invariant.ranked.members.in_range c.self.invariant.sides

pub list_members-requires : goal.list_members-requires
list_members-requires c =
    let r = c.self.inside in
    let levels = levels_of r.count (numbers_of r.list.items) r.members.leaves r.outsiders.leaves in
    let are : AreMembers (length levels) c.args.members.now = rw (← c.self.view_is) at c.requires in
    let short = short_members (length levels) c.args.members.now c.len.ensures.ascends are.in_range in
    omega (arith, short, c.self.invariant.list_room)

pub take-requires-clause-few : goal.take-requires-clause-few
take-requires-clause-few c = omega (arith, short c, c.self.invariant.ranked.objects)

pub take-requires-clause-room : goal.take-requires-clause-room
take-requires-clause-room c = omega (arith, short c, c.self.invariant.side_room)

pub take-requires-clause-within : goal.take-requires-clause-within
take-requires-clause-within c k d inside = let low = (are c).in_range k d inside in omega (arith, low, (released c).room)

pub take-requires-clause-small : goal.take-requires-clause-small
take-requires-clause-small c = small_outsiders (levels c) (is_in []) c.release.new.outsiders.leaves c.self.invariant.ranked.small (released c)

-- the sides have the levels, and they are kept
kept : (c : goal.After-take) → (levels_of c.self.inside.count c.args.members.now c.take.new.members.leaves c.take.new.outsiders.leaves ≡ levels c.before) × IsKept (levels_of c.self.inside.count c.args.members.now c.take.new.members.leaves c.take.new.outsiders.leaves) c.args.members.now (vec_capacity c.self.inside.list) c.take.new.members c.take.new.outsiders.leaves
kept c =
    let r = c.self.inside in
    let before = c.before in
    let kept = c.self.invariant in
    read_members r.count (levels before) c.args.members.now (vec_capacity r.list) c.take.new.members c.take.new.outsiders.leaves
    (length_levels r.count (numbers_of r.list.items) r.members.leaves r.outsiders.leaves) kept.ranked.objects kept.ranked.small (are before) c.take.ensures.ascends kept.list_room
    (subst (HasRoom (length (levels before))) (sym c.take.ensures.room) kept.side_room) (c.take.ensures.sides (levels before) (are before).in_range (released before))

pub invariant_of-self : goal.invariant_of-self
invariant_of-self c = rw (c.list_members.ensures.items, c.list_members.ensures.room) (kept c).1

-- a rank by its levels and its members
abbrev ranked : List ℤ → List ℕ → RankView
ranked levels members = record { levels = levels; members = members }

pub returns : goal.returns
returns c =
    ap (λ list. ranked (levels_of c.self.inside.count list c.take.new.members.leaves c.take.new.outsiders.leaves) list) c.list_members.ensures.items
    ∙ ap (λ l. ranked l c.args.members.now) (kept c).0
    ∙ ap (λ (x : RankView). ranked x.levels c.args.members.now) c.self.view_is

pub release-requires-clause-small : goal.release-requires-clause-small
release-requires-clause-small c =
    let r = c.self.inside in
    let members = numbers_of r.list.items in
    small_members (levels_of r.count members r.members.leaves r.outsiders.leaves) members r.members.leaves c.self.invariant.ranked.small c.self.invariant.sides.members
