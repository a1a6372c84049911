-- The objects of reported values.
use Rattle.std.proofs.Common.{◌≡◌, ℕ, ℤ, List, length, get_or, Some, ap, ◌∙◌, ◌<◌, ◌≤◌, arith}
use Rattle.std.specs.Prelude.{slice_get}
use Rattle.std.proofs.lemmas.List.{length-map, get_or-map}
use Rattle.std.proofs.lemmas.Option.{slice_get_within, get_or_from_slice_get}
use Rattle.tk_base.specs.Pairs.{objects_of}
use Rattle.tk_base.specs.Ascending.{IsAscending}
use Rattle.tk_base.proofs.AscendingLemmas.{ascending_positive}
use Rattle.tk_coord.specs.Checks.{AreWithin}

-- as many objects as pairs
pub length-objects_of : (ps : List (ℕ × ℤ)) → length (objects_of ps) ≡ length ps
length-objects_of ps = length-map ps (λ p. p.0)

-- the object of the pair at a place
pub object_at : (ps : List (ℕ × ℤ)) (i : ℕ) (p : ℕ × ℤ) (d : ℕ) → slice_get ps i ≡ Some p → get_or (objects_of ps) i d ≡ p.0
object_at ps i p d is =
    get_or-map (λ (q : ℕ × ℤ). q.0) ps i p d (slice_get_within ps i p is) ∙ ap (λ (q : ℕ × ℤ). q.0) (get_or_from_slice_get ps i p p is)

-- the object of a pair is at least 1, and within what its list is within
pub object_within : (n : ℕ) (ps : List (ℕ × ℤ)) (i : ℕ) (p : ℕ × ℤ) → IsAscending (objects_of ps) → AreWithin n (objects_of ps) → slice_get ps i ≡ Some p → (0 < p.0) × (p.0 ≤ n)
object_within n ps i p up within is =
    let here = object_at ps i p 0 is in
    let inside : i < length (objects_of ps) = omega (arith, length-objects_of ps, slice_get_within ps i p is) in
    (let low = ascending_positive (objects_of ps) up i inside in omega arith, let high = within i 0 inside in omega arith)
