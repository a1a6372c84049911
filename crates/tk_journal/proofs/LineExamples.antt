-- Lines written out.
use Rattle.std.proofs.Common.{◌≡◌, ℕ, pos, true, false, List, [], ◌∷◌, refl}
use Rattle.std.specs.Prelude.{codes}
use Rattle.std.specs.Fmt.{digits}
use Rattle.tk_journal.specs.Line.{line_text}

abbrev names : List (List ℕ)
names = codes "ash" ∷ codes "birch" ∷ codes "cedar" ∷ []

-- the places of two feeders are joined
a_set : line_text names false (record { number = 1; last = false; k = 2; epsilon = pos 0; members = 1 ∷ 3 ∷ []; cut = (5 ∷ 12 ∷ []) ∷ (7 ∷ []) ∷ [] }) ≡ codes "set 1 cut 1:5,12 2:7 members ash cedar\n"
unfolding digits
a_set = refl

-- where the settings were tuned, the line says what holds
a_tuned_one : line_text names true (record { number = 9; last = true; k = 1; epsilon = pos 40; members = 2 ∷ []; cut = (0 ∷ []) ∷ [] }) ≡ codes "final 9 k 1 epsilon 40 cut 1:0 members birch\n"
unfolding digits
a_tuned_one = refl
