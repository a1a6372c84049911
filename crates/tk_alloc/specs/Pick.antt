-- The choice of members.
use Rattle.std.specs.Prelude.{ℕ, ℤ, Bool, not, nat_lt, List}
use Rattle.std.specs.List.{filter, count_by}
use Rattle.std.specs.Ordering.{int_cmp, nat_cmp, bool_cmp, ordering_then, is_lt}
use Rattle.tk_base.specs.Objects.{is_in}
use Rattle.tk_base.specs.Pairs.{objects_of}

-- whether the first of two objects goes before the second: the greater total, then a present member, then
-- the lesser number
abbrev pub goes_before : List ℕ → ℕ × ℤ → ℕ × ℤ → Bool
goes_before present p q =
    is_lt (ordering_then (int_cmp q.1 p.1) (ordering_then (bool_cmp (not (is_in present p.0)) (not (is_in present q.0))) (nat_cmp p.0 q.0)))

-- whether fewer than k objects go before this one
abbrev pub is_among_first : List (ℕ × ℤ) → List ℕ → ℕ → ℕ × ℤ → Bool
is_among_first totals present k p = nat_lt (count_by (λ q. goes_before present q p) totals) k

-- the k objects that go first
unfoldable pub picked : List (ℕ × ℤ) → List ℕ → ℕ → List ℕ
picked totals present k = objects_of (filter (is_among_first totals present k) totals)
