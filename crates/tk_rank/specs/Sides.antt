-- The members and the outsiders on two sides. No public clause cites this file.
use Rattle.std.specs.Prelude.{◌≡◌, ◌==◌, ℕ, ◌+◌, ◌-◌, ◌^◌, ◌<◌, ◌≤◌, ℤ, pos, ◌-ℤ◌, Bool, true, ◌||◌, nat_lt, if◌then◌else◌, unsigned_abs, List, [], ◌∷◌, length, map, slice_index_or, slice_set, All, Option, Some, None, IfSome}
use Rattle.std.specs.List.{range_with_len}
use Rattle.tk_base.specs.Objects.{is_in}
use Rattle.tk_border.specs.Levels.{level_at}
use Rattle.tk_rank.specs.Rank.{IsRanked}
use Rattle.tk_rank.specs.Tree.{leaf_at, HasRoom, LeavesView}

-- what stands at a place on the side of the members: a level with the sign turned, so that the least is the greatest
abbrev pub member_leaf : List ℤ → List ℕ → ℕ → Option ℤ
member_leaf levels members place =
    if nat_lt place (length members) then Some (pos 0 -ℤ level_at levels (slice_index_or members place 0)) else None

-- what an object has on the side of the outsiders
abbrev pub outsider_leaf : List ℤ → (ℕ → Bool) → ℕ → Option ℤ
outsider_leaf levels is_member o = if is_member o || nat_lt (length levels) o then None else Some (level_at levels o)

-- what an object has on the side of the members, at its place among them
abbrev pub leaf_of : List ℕ → List (Option ℤ) → ℕ → Option ℤ
leaf_of [] leaves o = None
leaf_of (q ∷ members) [] o = None
leaf_of (q ∷ members) (leaf ∷ leaves) o = if q == o then leaf else leaf_of members leaves o

-- the level of an object by what it has on the side of the members and on that of the outsiders
abbrev pub read_level : Option ℤ → Option ℤ → ℤ
read_level member (Some level) = level
read_level (Some turned) None = pos 0 -ℤ turned
read_level None None = pos 0

-- the levels of so many objects, read off the leaves
abbrev pub levels_of : ℕ → List ℕ → List (Option ℤ) → List (Option ℤ) → List ℤ
levels_of count members member_leaves outsider_leaves =
    map (λ i. read_level (leaf_of members member_leaves (i + 1)) (slice_index_or outsider_leaves i None)) (range_with_len 0 count)

-- a side has the members, in their order
pub record AreMemberLeaves (levels : List ℤ) (members : List ℕ) (leaves : List (Option ℤ)) : Type 0 where
  pub room : length members ≤ length leaves
  pub leaf : (place : ℕ) → slice_index_or leaves place None ≡ member_leaf levels members place

-- a side has the outsiders, those that no test makes members
pub record AreOutsiderLeaves (levels : List ℤ) (is_member : ℕ → Bool) (leaves : List (Option ℤ)) : Type 0 where
  pub room : length levels ≤ length leaves
  pub leaf : (o : ℕ) → 0 < o → leaf_at leaves o ≡ outsider_leaf levels is_member o

-- one side has the members, the other the outsiders
pub record AreSides (levels : List ℤ) (list : List ℕ) (member_leaves outsider_leaves : List (Option ℤ)) : Type 0 where
  pub members : AreMemberLeaves levels list member_leaves
  pub outsiders : AreOutsiderLeaves levels (is_in list) outsider_leaves

-- each number is below 2^114 in size
abbrev pub AreSmallLeaves : List (Option ℤ) → Type 0
AreSmallLeaves leaves = (place : ℕ) → IfSome (slice_index_or leaves place None) (λ x. unsigned_abs x < 2 ^ 114)

-- what holds of the fields of a rank, with the room of its list of members and their side
pub record IsKept (levels : List ℤ) (members : List ℕ) (room : ℕ) (side : LeavesView) (outsiders : List (Option ℤ)) : Type 0 where
  pub ranked : IsRanked (record { levels = levels; members = members })
  pub list_room : length levels ≤ room
  pub side_room : HasRoom (length levels) side.room
  pub sides : AreSides levels members side.leaves outsiders

-- whatever the levels: this is the one of an object that the leaves have as a member's
abbrev pub IsMemberLevel : List ℕ → List (Option ℤ) → ℕ → ℤ → Type 0
IsMemberLevel members leaves o level =
    (levels : List ℤ) → AreMemberLeaves levels members leaves → is_in members o ≡ true → level ≡ level_at levels o

-- the leaves of both sides, the members' first
abbrev pub BothLeaves : Type 0
BothLeaves = List (Option ℤ) × List (Option ℤ)

-- whatever the levels: an object has another one, on its side
abbrev pub Relevels : ℕ → ℤ → List ℕ → BothLeaves → BothLeaves → Type 0
Relevels o level members old new =
    (levels : List ℤ) → o ≤ length levels → AreSides levels members old.0 old.1
    → AreSides (slice_set levels (o - 1) level) members new.0 new.1

-- whatever the levels: the members are outsiders too, by leaves of the outsiders before and after
abbrev pub Releases : List ℕ → List (Option ℤ) → List (Option ℤ) → List (Option ℤ) → Type 0
Releases members member_leaves old new =
    (levels : List ℤ) → All (λ o. o ≤ length levels) members → AreSides levels members member_leaves old
    → AreOutsiderLeaves levels (is_in []) new

-- whatever the levels: of outsiders alone some are the members now
abbrev pub Takes : List ℕ → List (Option ℤ) → BothLeaves → Type 0
Takes members old new =
    (levels : List ℤ) → All (λ o. o ≤ length levels) members → AreOutsiderLeaves levels (is_in []) old
    → AreSides levels members new.0 new.1
