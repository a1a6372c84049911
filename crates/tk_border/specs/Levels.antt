-- Levels of objects at one node: which outsiders are broken, and the border over some objects.
-- The level of object i stands at place i - 1 of a list of levels. Members and resolution sets are
-- lists of objects in ascending order.
use Rattle.std.specs.Prelude.{ℕ, ◌≡◌, ◌-◌, ◌^◌, ◌<◌, ◌≤◌, ℤ, pos, ◌+ℤ◌, unsigned_abs, Bool, false, not, ◌||◌, List, length, map, filter, fold, All, Option, Some, None, unwrap_or, slice_index_or}
use Rattle.std.specs.Int.{int_min, int_max}
use Rattle.std.specs.List.{AllWithin, list_all}
use Rattle.std.specs.Ordering.{int_cmp, is_lt}
use Rattle.tk_base.specs.Objects.{objects, is_in}

-- there are no more objects than this system allows
abbrev pub AreObjects : List ℤ → Type 0
AreObjects levels = length levels ≤ 65536

-- each level is below 2^114 in size
abbrev pub AreSmall : List ℤ → Type 0
AreSmall levels = All (λ x. unsigned_abs x < 2 ^ 114) levels

-- there is a member, and each is one of the n objects
pub record AreMembers (n : ℕ) (members : List ℕ) : Type 0 where
  pub some_member : 0 < length members
  pub in_range : All (λ o. o ≤ n) members

-- whether a set holds all of some members
abbrev pub holds : List ℕ → List ℕ → Bool
holds set members = list_all (is_in set) members

-- the level of an object
abbrev pub level_at : List ℤ → ℕ → ℤ
level_at levels o = slice_index_or levels (o - 1) (pos 0)

-- the lesser of the least so far and one more number
abbrev pub lowered : Option ℤ → ℤ → Option ℤ
lowered None y = Some y
lowered (Some x) y = Some (int_min x y)

-- the greater of the greatest so far and one more number
abbrev pub raised : Option ℤ → ℤ → Option ℤ
raised None y = Some y
raised (Some x) y = Some (int_max x y)

-- the least of some numbers, if there is one
unfoldable pub least_of : List ℤ → Option ℤ
least_of numbers = fold lowered None numbers

-- the greatest of some numbers, if there is one
unfoldable pub greatest_of : List ℤ → Option ℤ
greatest_of numbers = fold raised None numbers

-- the least level of a member
abbrev pub least_member : List ℤ → List ℕ → Option ℤ
least_member levels members = least_of (map (level_at levels) members)

-- the objects outside a set, of those that have a level
abbrev pub outside : ℕ → List ℕ → List ℕ
outside n set = filter (λ o. not (is_in set o)) (objects n)

-- the greatest level outside a set, if anything is outside
abbrev pub greatest_outside : List ℤ → List ℕ → Option ℤ
greatest_outside levels set = greatest_of (map (level_at levels) (outside (length levels) set))

-- the outsiders whose level is above a number
abbrev pub above : List ℤ → List ℕ → ℤ → List ℕ
above levels members x = filter (λ o. is_lt (int_cmp x (level_at levels o))) (outside (length levels) members)

-- whether a number is above the least member level
abbrev pub is_above : Option ℤ → ℤ → Bool
is_above None y = false
is_above (Some x) y = is_lt (int_cmp x y)

-- the broken outsiders: their levels are above the least level of a member
abbrev pub broken : List ℤ → List ℕ → List ℕ
broken levels members = filter (λ o. is_above (least_member levels members) (level_at levels o)) (outside (length levels) members)

-- the lesser of two numbers, where the second is there
abbrev pub lesser : ℤ → Option ℤ → ℤ
lesser x None = x
lesser x (Some y) = int_min x y

-- the border of a monitor over a set: the lesser of the least member level and the greatest level outside
abbrev pub border : List ℤ → List ℕ → List ℕ → ℤ
border levels members set = lesser (unwrap_or (least_member levels members) (pos 0)) (greatest_outside levels set)

-- the border of the coordinator over a set: the greatest own factor outside it, or where nothing is
-- outside the least own factor of a member plus epsilon
abbrev pub own_border : List ℤ → List ℕ → ℤ → List ℕ → ℤ
own_border own members epsilon set =
    unwrap_or (greatest_outside own set) (unwrap_or (least_of (map (λ t. level_at own t +ℤ epsilon) members)) (pos 0))

-- the resolution set: the members and the failed objects, of a catalogue of n
abbrev pub resolution : ℕ → List ℕ → List ℕ → List ℕ
resolution n members failed = filter (λ o. is_in members o || is_in failed o) (objects n)

-- a set is the resolution set of some members and failed objects, in every catalogue that holds these
abbrev pub IsResolution : List ℕ → List ℕ → List ℕ → Type 0
IsResolution members failed set =
    (n : ℕ) → All (λ o. o ≤ n) members → All (λ o. o ≤ n) failed → set ≡ resolution n members failed

-- a walk along an ascending set that has come to an object: the places passed have lesser objects, the others not
pub record IsPassed (set : List ℕ) (place : ℕ) (o : ℕ) : Type 0 where
  pub within : place ≤ length set
  pub passed : AllWithin (λ q. q < o) set 0 place
  pub ahead : AllWithin (λ q. o ≤ q) set place (length set)
