-- The names of a catalogue, one by one.
use Rattle.std.proofs.Common.{◌≡◌, ℕ, suc, ◌+◌, ◌<◌, List, [], ◌∷◌, ◌++◌, length, take, get_or, refl, ap, ◌∙◌, arith}
use Rattle.std.specs.Prelude.{codes}
use Rattle.tk_show.specs.Frames.{name_text}
use Rattle.tk_show.specs.Text.{catalog_text}
use Rattle.tk_show.proofs.ListLemmas.{more}

-- the text of the first names grows by the next
pub name_more : (names : List (List ℕ)) (i : ℕ) (before old new : List ℕ) → i < length names → old ≡ before ++ catalog_text (take i names) → new ≡ old ++ name_text names (i + 1)
    → new ≡ before ++ catalog_text (take (i + 1) names)
name_more names i before old new within was put =
    let next : i + 1 ≡ suc i = omega arith in
    let name : new ≡ old ++ (codes " " ++ get_or names i []) = put ∙ ap (λ (n : ℕ). old ++ (codes " " ++ get_or ([] ∷ names) n [])) next in
    more (λ (name : List ℕ). codes " " ++ name) before old new names i (get_or names i []) [] within refl was name
