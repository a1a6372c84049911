-- A walk along an ascending set in step with the objects.
use Rattle.std.proofs.Common.{◌≡◌, ℕ, ◌+◌, ◌-◌, ◌<◌, ◌≤◌, true, false, List, length, get_or, sym, subst, arith, inl, inr, eqb, eq-eqb, ne_eqb}
use Rattle.std.specs.List.{All, AllWithin}
use Rattle.std.proofs.lemmas.Bool.{cases_lt}
use Rattle.std.proofs.lemmas.List.{get_or_default}
use Rattle.std.proofs.lemmas.List.Folds.{list_any_at, list_any_none}
use Rattle.tk_base.specs.Ascending.{IsAscending}
use Rattle.tk_base.specs.Objects.{is_in}
use Rattle.tk_base.proofs.AscendingLemmas.{ascending_apart, ascending_along}
use Rattle.tk_border.specs.Levels.{IsPassed}

-- what holds at each place with the default 0 holds with every default
within_by_places : (P : ℕ → Type 0) (xs : List ℕ) (low high : ℕ) → high ≤ length xs → ((k : ℕ) → low ≤ k → k < high → P (get_or xs k 0)) → AllWithin P xs low high
within_by_places P xs low high short holds k d above below =
    subst P (get_or_default xs k 0 d (omega arith)) (holds k above below)

pub passed_none : (set : List ℕ) → IsAscending set → IsPassed set 0 1
passed_none set up = record {
  within = omega arith;
  passed = λ k d above below. absurd (omega arith);
  ahead = λ k d above below. within_by_places (λ q. 1 ≤ q) set 0 (length set) (omega arith) (λ i low high. let rise = up i high in omega arith) k d above below;
}

-- an object at the place that is reached is in the set, and the walk goes on
pub found_here : (set : List ℕ) (place o : ℕ) → place < length set → get_or set place 0 ≡ o → is_in set o ≡ true
found_here set place o within here = list_any_at (λ q. eqb q o) set place 0 within (eq-eqb (get_or set place 0) o here)

pub passed_met : (set : List ℕ) (place o : ℕ) → IsAscending set → IsPassed set place o → place < length set → get_or set place 0 ≡ o → IsPassed set (place + 1) (o + 1)
passed_met set place o up p more here = record {
  within = omega arith;
  passed = within_by_places (λ q. q < o + 1) set 0 (place + 1) (omega arith) (λ k low high. elim (cases_lt k place) [
    | inl before ↦ let old = p.passed k 0 low before in omega arith
    | inr at ↦ let e : k ≡ place = omega arith in subst (λ (i : ℕ). get_or set i 0 < o + 1) (sym e) (omega arith)
  ]);
  ahead = within_by_places (λ q. o + 1 ≤ q) set (place + 1) (length set) (omega arith) (λ k low high. let far = ascending_apart set up place k (omega arith) high in omega arith);
}

-- any other object that is reached is not in the set, and the walk stays
pub passed_missed : (set : List ℕ) (place o : ℕ) → IsAscending set → IsPassed set place o → (place < length set → get_or set place 0 ≡ o → ⊥) → IsPassed set place (o + 1)
passed_missed set place o up p missed = record {
  within = p.within;
  passed = λ k d above below. let old = p.passed k d above below in omega arith;
  ahead = within_by_places (λ q. o + 1 ≤ q) set place (length set) (omega arith) (λ k low high.
      let first = p.ahead place 0 (omega arith) (omega arith) in
      let far = ascending_along set up place k low high in
      let ne : get_or set place 0 ≡ o → ⊥ = missed (omega arith) in
      omega arith);
}

pub not_here : (set : List ℕ) (place o : ℕ) → IsPassed set place (o + 1) → AllWithin (λ q. q < o) set 0 place → is_in set o ≡ false
not_here set place o p before = list_any_none (λ q. eqb q o) set (λ k d within. ne_eqb (get_or set k d) o (λ e. elim (cases_lt k place) [
  | inl low ↦ let old = before k d (omega arith) low in omega arith
  | inr high ↦ let far = p.ahead k d high within in omega arith
]))

-- the walk is still there for a later object, where none before it is ahead
pub passed_on : (set : List ℕ) (place b o : ℕ) → IsPassed set place b → b ≤ o → AllWithin (λ q. o ≤ q) set place (length set) → IsPassed set place o
passed_on set place b o p later ahead = record {
  within = p.within;
  passed = λ k d low high. let old = p.passed k d low high in omega arith;
  ahead = ahead;
}

pub ahead_of : (set : List ℕ) (place o : ℕ) → IsAscending set → o ≤ get_or set place 0 → AllWithin (λ q. o ≤ q) set place (length set)
ahead_of set place o up low = within_by_places (λ q. o ≤ q) set place (length set) (omega arith) (λ k above below.
    let far = ascending_along set up place k above below in omega arith)

pub ahead_none : (set : List ℕ) (place o : ℕ) → length set ≤ place → AllWithin (λ q. o ≤ q) set place (length set)
ahead_none set place o past k d above below = absurd (omega arith)

-- an object between the last one passed and the next one ahead is not in the set
pub between : (set : List ℕ) (place b o q : ℕ) → IsPassed set place (b + 1) → IsPassed set place o → b < q → q < o → is_in set q ≡ false
between set place b o q p r low high = list_any_none (λ x. eqb x q) set (λ k d within. ne_eqb (get_or set k d) q (λ e. elim (cases_lt k place) [
  | inl before ↦ let old = p.passed k d (omega arith) before in omega arith
  | inr after ↦ let far = r.ahead k d after within in omega arith
]))

-- a walk at its end has passed the whole set
pub passed_all : (set : List ℕ) (place b : ℕ) → IsPassed set place (b + 1) → length set ≤ place → All (λ q. q ≤ b) set
passed_all set place b p end k d within = let old = p.passed k d (omega arith) (omega arith) in omega arith

-- an ascending set is bounded by its last object
pub bounded_by_last : (set : List ℕ) (n : ℕ) → IsAscending set → get_or set (length set - 1) 0 ≤ n → All (λ q. q ≤ n) set
bounded_by_last set n up last k d within =
    within_by_places (λ q. q ≤ n) set 0 (length set) (omega arith) (λ i low high.
    let far = ascending_along set up i (length set - 1) (omega arith) (omega arith) in omega arith) k d (omega arith) within
