-- Looking an object up, and sets that hold other sets.
use Rattle.std.proofs.Common.{◌≡◌, ℕ, ◌+◌, ◌<◌, Bool, true, false, ◌&&◌, eqb, List, [], ◌∷◌, length, get_or, take, Contains, refl, sym, ap₂, ◌∙◌, subst, inl, inr, eq-eqb, ◌≤◌, ap, not}
use Rattle.std.proofs.lemmas.Bool.{false≢true, or_cases, or_left, or_right, and_parts, eqb-true, false_from_ne_true}
use Rattle.std.proofs.lemmas.List.Folds.{list_all_more, list_all_at}
use Rattle.tk_base.specs.Objects.{is_in, objects}
use Rattle.tk_base.proofs.MemberLemmas.{contained_is_in, is_in_contained, outside_is_not_in}
use Rattle.tk_border.specs.Levels.{holds, outside}
use Rattle.tk_border.proofs.RisingLemmas.{in_catalogue, is_in-filter, is_in-objects}

-- a look-up in a set tells what is in it
pub has_is : (r : Bool) (set : List ℕ) (o : ℕ) → (r ≡ true → Contains set o) → (Contains set o → r ≡ true) → r ≡ is_in set o
has_is true set o told found = sym (contained_is_in set o (told refl))
has_is false set o told found =
    sym (false_from_ne_true (is_in set o) (λ here. false≢true (found (is_in_contained set o here))))

-- one member more is held
pub holds_more : (set members : List ℕ) (i : ℕ) → i < length members → holds set (take i members) ≡ true → is_in set (get_or members i 0) ≡ true → holds set (take (i + 1) members) ≡ true
holds_more set members i within held here = list_all_more (is_in set) members i 0 within ∙ ap₂ ◌&&◌ held here

-- one that is missing is enough
pub holds_not : (set members : List ℕ) (i : ℕ) → i < length members → is_in set (get_or members i 0) ≡ false → holds set members ≡ false
holds_not set members i within gone = list_all_at (is_in set) members i 0 within gone

-- what is in the members is in a set that holds them
pub held_in : (set members : List ℕ) → holds set members ≡ true → (o : ℕ) → is_in members o ≡ true → is_in set o ≡ true
held_in set [] all o here = absurd (false≢true here)
held_in set (q ∷ members) all o here =
    let both = and_parts (is_in set q) (holds set members) all in
    elim (or_cases (eqb q o) (is_in members o) here) [
      | inl e ↦ subst (λ x. is_in set x ≡ true) (eqb-true q o e) both.0
      | inr later ↦ held_in set members both.1 o later
    ]

-- a set that has whatever is in the members holds them
pub holds_from : (set members : List ℕ) → ((o : ℕ) → is_in members o ≡ true → is_in set o ≡ true) → holds set members ≡ true
holds_from set [] within = refl
holds_from set (q ∷ members) within =
    ap₂ ◌&&◌ (within q (or_left (eqb q q) (is_in members q) (eq-eqb q q refl))) (holds_from set members (λ o here. within o (or_right (eqb q o) (is_in members o) here)))

-- an object of the catalogue that a set has not is outside it
pub in_outside : (n : ℕ) (set : List ℕ) (o : ℕ) → 0 < o → o ≤ n → (Contains set o → ⊥) → Contains (outside n set) o
in_outside n set o low high out =
    is_in_contained (outside n set) o
    (is_in-filter (λ q. not (is_in set q)) (objects n) o ∙ ap₂ ◌&&◌ (is_in-objects n o ∙ in_catalogue n o low high) (ap not (outside_is_not_in set o out)))
