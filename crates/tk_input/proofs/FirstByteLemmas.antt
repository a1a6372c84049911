-- What memchr finds, as std says it.
use Rattle.std.proofs.Common.{◌≡◌, ℕ, zero, suc, ◌+◌, ◌<◌, Bool, true, false, not, cond, List, [], ◌∷◌, length, Option, Some, None, refl, sym, ap, ◌∙◌, arith}
use Rattle.std.specs.Prelude.{◌||◌, position, slice_index}
use Rattle.std.specs.List.{list_any, position_or_len}
use Rattle.std.specs.Option.{is_some}
use Rattle.std.proofs.lemmas.Bool.{le-ltb, lt-ltb}
use Rattle.std.proofs.lemmas.List.Folds.{list_any_at}
use Rattle.memchr.specs.Find.{IsFirstByte}
use Rattle.tk_base.proofs.BoolLemmas.{ruled_out}

-- one more in front that does not pass
further : (test : ℕ → Bool) (x : ℕ) (hay : List ℕ) (n : ℕ) → ¬ (test x ≡ true) → position_or_len test hay ≡ n → position_or_len test (x ∷ hay) ≡ suc n
further test x hay n fails at =
    ap (λ (b : Bool). cond (not b) (1 + position_or_len test hay) 0) (ruled_out (test x) refl fails)
    ∙ ap (λ (k : ℕ). 1 + k) at
    ∙ omega arith

first_at : (test : ℕ → Bool) (hay : List ℕ) (k : ℕ) → k < length hay → test (slice_index hay k) ≡ true → ((m : ℕ) → m < k → ¬ (test (slice_index hay m) ≡ true)) → position_or_len test hay ≡ k
first_at test [] k within here before = absurd (omega (arith, within))
first_at test (x ∷ hay) zero within here before = ap (λ (b : Bool). cond (not b) (1 + position_or_len test hay) 0) here
first_at test (x ∷ hay) (suc k) within here before =
    further test x hay k (before 0 (omega arith)) (first_at test hay k (omega (arith, within)) here (λ m low. before (suc m) (omega (arith, low))))

first_nowhere : (test : ℕ → Bool) (hay : List ℕ) → ((m : ℕ) → m < length hay → ¬ (test (slice_index hay m) ≡ true)) → position_or_len test hay ≡ length hay
first_nowhere test [] none = refl
first_nowhere test (x ∷ hay) none =
    further test x hay (length hay) (none 0 (omega arith)) (first_nowhere test hay (λ m low. none (suc m) (omega (arith, low))))

-- the place that is found is the first one
pub first_position : (test : ℕ → Bool) (hay : List ℕ) (r : Option ℕ) → IsFirstByte test hay r → r ≡ position test hay
first_position test hay None none =
    let at = first_nowhere test hay (λ m low. none m (omega arith) low) in
    sym (ap (λ (b : Bool). cond b (Some (position_or_len test hay)) None) (le-ltb (position_or_len test hay) (length hay) (omega (arith, at))))
first_position test hay (Some k) found =
    let at = first_at test hay k found.0.high found.1 (λ m low. found.0.before m (omega arith) low) in
    sym (ap (λ (b : Bool). cond b (Some (position_or_len test hay)) None) (lt-ltb (position_or_len test hay) (length hay) (omega (arith, at, found.0.high)))
    ∙ ap (λ (n : ℕ). Some n) at)

none_passes : (test : ℕ → Bool) (hay : List ℕ) → ((m : ℕ) → m < length hay → ¬ (test (slice_index hay m) ≡ true)) → list_any test hay ≡ false
none_passes test [] none = refl
none_passes test (x ∷ hay) none =
    ap (λ (b : Bool). b || list_any test hay) (ruled_out (test x) refl (none 0 (omega arith)))
    ∙ none_passes test hay (λ m low. none (suc m) (omega (arith, low)))

found_some : (test : ℕ → Bool) (hay : List ℕ) (r : Option ℕ) → IsFirstByte test hay r → is_some r ≡ list_any test hay
found_some test hay None none = sym (none_passes test hay (λ m low. none m (omega arith) low))
found_some test hay (Some k) found = sym (list_any_at test hay k 0 found.0.high found.1)

flipped : (none some : Bool) → some ≡ not none → none ≡ not some
flipped true some is = sym (ap not is)
flipped false some is = sym (ap not is)

-- nothing is found where nothing passes
pub found_none : (test : ℕ → Bool) (hay : List ℕ) (r : Option ℕ) (none : Bool) → is_some r ≡ not none → IsFirstByte test hay r → none ≡ not (list_any test hay)
found_none test hay r none is first = flipped none (is_some r) is ∙ ap not (found_some test hay r first)
