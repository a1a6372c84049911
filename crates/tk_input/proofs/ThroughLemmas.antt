-- What rows make in turn, row by row.
use Rattle.std.proofs.Common.{◌≡◌, List, [], ◌∷◌, Result, Ok, Err, refl, ap}
use Rattle.tk_input.specs.Records.{and_then, through}

-- after the last row
pub through-none : {A R E : Type 0} (step : A → R → Result A E) (before : A) (rows : List R) → rows ≡ [] → through step before rows ≡ Ok before
unfolding through
through-none step before rows is = rw is refl

-- a row that makes something goes on to the others
pub through-some : {A R E : Type 0} (step : A → R → Result A E) (before after : A) (row : R) (rest rows : List R) → rows ≡ row ∷ rest → step before row ≡ Ok after → through step before rows ≡ through step after rest
unfolding through
through-some step before after row rest rows is made = rw is (ap (and_then (λ next. through step next rest)) made)

-- a row with a fault ends there
pub through-fault : {A R E : Type 0} (step : A → R → Result A E) (before : A) (row : R) (rest rows : List R) (e : E) → rows ≡ row ∷ rest → step before row ≡ Err e → through step before rows ≡ Err e
unfolding through
through-fault step before row rest rows e is fault = rw is (ap (and_then (λ next. through step next rest)) fault)
