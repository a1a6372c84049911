-- Lists of objects in order.
use Rattle.std.specs.Prelude.{◌≡◌, ℕ, ◌<◌, ◌≤◌, Bool, Option, Some, None, nat_lt, List, ◌∷◌, length, map, take, slice_index, EachIndex}
use Rattle.std.specs.List.{list_all, zip}
use Rattle.tk_base.specs.declared.ids.Obj.{Obj}

-- the numbers of some objects
abbrev pub numbers_of : List Obj → List ℕ
numbers_of objects = map (λ o. o.0) objects

-- each number is above the one before it, and the first is above 0
abbrev pub IsAscending : List ℕ → Type 0
IsAscending xs = EachIndex xs (λ k. slice_index (0 ∷ xs) k < slice_index xs k)

-- the list ascends up to this place, where a number is 0 or not above the one before it
pub record FirstDisorder (xs : List ℕ) (place : ℕ) : Type 0 where
  pub within : place < length xs
  pub front : IsAscending (take place xs)
  pub falls : slice_index xs place ≤ slice_index (0 ∷ xs) place

-- what is known of a list that grows: its last number where it ascends, else where it stops to
abbrev pub IsKnownOrder : List ℕ → ℕ → Option ℕ → Type 0
IsKnownOrder xs last None = IsAscending xs × (last ≡ slice_index (0 ∷ xs) (length xs))
IsKnownOrder xs last (Some place) = FirstDisorder xs place

-- the same as a test
abbrev pub ascends : List ℕ → Bool
ascends xs = list_all (λ p. nat_lt p.0 p.1) (zip (0 ∷ xs) xs)
