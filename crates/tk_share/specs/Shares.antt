-- Dealing by counted units.
use Rattle.std.specs.Prelude.{ℕ, suc, ◌+◌, ◌-◌, ◌%◌, ℤ, pos, negsuc, neg_ℤ, Bool, ◌&&◌, nat_le, nat_lt, List, length, map, take, slice_index}
use Rattle.std.specs.List.{range_with_len, count_by, sum}

-- the weight before a participant
abbrev pub weight_before : List ℕ → ℕ → ℕ
weight_before weights p = sum (take p weights)

-- whether a participant owns a remainder: as many as its weight, from the weight before it on
abbrev pub owns : List ℕ → ℕ → ℕ → Bool
owns weights p r = nat_le (weight_before weights p) r && nat_lt r (weight_before weights p + slice_index weights p)

-- the remainder of a whole number, from 0 to the total less 1
abbrev pub remainder : ℕ → ℤ → ℕ
remainder total (pos u) = u % total
remainder total (negsuc u) = total - 1 - u % total

-- the units of a leeway: the whole numbers from 0 to below it, or from it to -1
unfoldable pub units : ℤ → List ℤ
units (pos n) = map pos (range_with_len 0 n)
units (negsuc n) = map negsuc (range_with_len 0 (suc n))

-- how many units of a leeway a participant owns
unfoldable pub owned_units : List ℕ → ℕ → ℤ → ℕ
owned_units weights p leeway = count_by (λ u. owns weights p (remainder (sum weights) u)) (units leeway)

-- the share of a participant: the units that it owns, counted below 0 where the leeway is negative
unfoldable pub share : List ℕ → ℕ → ℤ → ℤ
share weights p (pos n) = pos (owned_units weights p (pos n))
share weights p (negsuc n) = neg_ℤ (pos (owned_units weights p (negsuc n)))

-- the shares of all participants
unfoldable pub shares : List ℕ → ℤ → List ℤ
shares weights leeway = map (λ p. share weights p leeway) (range_with_len 0 (length weights))
