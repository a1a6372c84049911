-- Lists by number, from 1 on.
use Rattle.std.proofs.Common.{◌≡◌, ℕ, ◌+◌, ap, ◌∙◌}
use Rattle.std.specs.Prelude.{sum_by}
use Rattle.std.specs.List.{range_with_len}
use Rattle.std.proofs.lemmas.List.Sums.{sum_by_push}
use Rattle.tk_border.proofs.RisingLemmas.{range_more}

-- a sum over the numbers, and one more of them
pub summed_more : (f : ℕ → ℕ) (n : ℕ) → sum_by f (range_with_len 1 (n + 1)) ≡ sum_by f (range_with_len 1 n) + f (n + 1)
summed_more f n = ap (sum_by f) (range_more n) ∙ sum_by_push f (range_with_len 1 n) (n + 1)
