-- Readings that see, with each entry of a list, the entries in front of it.
use Rattle.std.specs.Prelude.{List, [], ◌∷◌, ◌++◌}

-- a fold whose step also sees the entries in front; `before` stands in front of the list
abbrev pub walk : {A B : Type 0} → (List A → B → A → B) → List A → B → List A → B
walk step before start [] = start
walk step before start (e ∷ after) = walk step (before ++ e ∷ []) (step before start e) after
