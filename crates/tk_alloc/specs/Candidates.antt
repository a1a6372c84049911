-- The pick's candidates as the code sorts them. No public clause cites this.
use Rattle.std.specs.Prelude.{ℕ, ℤ, Bool, not, List, filter}
use Rattle.std.specs.declared.cmp.Ordering.{Ordering}
use Rattle.std.specs.Ordering.{int_cmp, nat_cmp, bool_cmp, ordering_then, is_lt}
use Rattle.tk_base.specs.Objects.{is_in}
use Rattle.tk_base.specs.Pairs.{objects_of}
use Rattle.tk_alloc.specs.declared.candidate.Candidate.{Candidate}

-- an object with its total, as a candidate
abbrev pub candidate : List ℕ → ℕ × ℤ → Candidate
candidate present p = record { total = record { 0 = p.1 }; newcomer = not (is_in present p.0); obj = p.0 }

-- the order of candidates
abbrev pub candidate_cmp : Candidate → Candidate → Ordering
candidate_cmp a b = ordering_then (int_cmp b.total.0 a.total.0) (ordering_then (bool_cmp a.newcomer b.newcomer) (nat_cmp a.obj b.obj))

-- whether one candidate comes before another in this order
abbrev pub comes_first : Candidate → Candidate → Bool
comes_first a b = is_lt (candidate_cmp a b)

-- the objects, of some with their totals, that do not come after a candidate
abbrev pub up_to : Candidate → List ℕ → List (ℕ × ℤ) → List ℕ
up_to last present totals = objects_of (filter (λ p. not (comes_first last (candidate present p))) totals)
