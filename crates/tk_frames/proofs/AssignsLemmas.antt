-- The Assigns of a node, one more at a time.
use Rattle.std.specs.Prelude.{pos, unwrap_or}
use Rattle.std.proofs.Common.{◌≡◌, ℕ, List, [], ◌∷◌, ◌++◌}
use Rattle.std.proofs.lemmas.List.Sums.{fold_push}
use Rattle.tk_base.specs.Pairs.{value_at}
use Rattle.tk_frames.specs.Assigns.{Assign, row, members_of}

-- the factors of an object after one more Assign
pub row-push : (assigns : List Assign) (assign : Assign) (o : ℕ) → row (assigns ++ assign ∷ []) o ≡ unwrap_or (value_at assign.changes o) (row assigns o)
row-push assigns assign o = fold_push (λ factor (a : Assign). unwrap_or (value_at a.changes o) factor) (pos 0) assigns assign

-- the members after one more Assign are its own
pub members_of-push : (assigns : List Assign) (assign : Assign) → members_of (assigns ++ assign ∷ []) ≡ assign.members
members_of-push assigns assign = fold_push (λ (_ : List ℕ) (a : Assign). a.members) [] assigns assign
