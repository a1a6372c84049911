-- Histories: finished lists in which each entry was allowed after those in front of it, and fronts of lists.
use Rattle.std.specs.Prelude.{◌≡◌, List, [], ◌∷◌, ◌++◌, length, take, fold, Option, Some, None}

-- each of these entries is allowed after `before` and the entries in front of it
abbrev pub EachFrom : {A : Type 0} → (List A → A → Type 0) → List A → List A → Type 0
EachFrom Allows before [] = Unit {0}
EachFrom Allows before (e ∷ after) = Allows before e × EachFrom Allows (before ++ e ∷ []) after

-- the first list stands at the front of the second
pub record IsFront {A : Type 0} (xs ys : List A) : Type 0 where
  pub is : xs ≡ take (length xs) ys

-- the last of some entries, if there is one
abbrev pub last_of : {A : Type 0} → List A → Option A
last_of entries = fold (λ _ e. Some e) None entries
