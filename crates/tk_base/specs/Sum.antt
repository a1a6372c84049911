-- Sums of whole numbers.
use Rattle.std.specs.Prelude.{List, ℤ, pos, ◌+ℤ◌, fold}

-- the sum of some whole numbers
abbrev pub int_sum : List ℤ → ℤ
int_sum numbers = fold ◌+ℤ◌ (pos 0) numbers
