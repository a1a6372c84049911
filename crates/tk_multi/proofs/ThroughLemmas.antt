-- What rows make in turn, row by row.
use Rattle.std.proofs.Common.{◌≡◌, List, ◌∷◌, Result, refl}
use Rattle.tk_input.specs.Records.{and_then, through}

-- the first row is what goes on
pub through_first : {A R E : Type 0} (step : A → R → Result A E) (before : A) (row : R) (rest rows : List R) → rows ≡ row ∷ rest → through step before rows ≡ and_then (λ after. through step after rest) (step before row)
unfolding through
through_first step before row rest rows is = rw is refl
