-- The tests of `==` at the lists of this crate.
use Rattle.std.specs.Prelude.{ℕ, ℤ, Bool, nat_eq, ◌&&◌}
use Rattle.std.specs.Ordering.{int_eq}
use Rattle.std.specs.Cmp.{IsPartialEquivalence}
use Rattle.std.specs.Cmp.Rules.{comparing}
use Rattle.std.proofs.Common.{rules}

-- two pairs have the same object and the same number
abbrev pub pair_eq : ℕ × ℤ → ℕ × ℤ → Bool
pair_eq p q = nat_eq p.0 q.0 && int_eq p.1 q.1

-- the test of `==` at numbers is symmetric and transitive
pub numbers_equal : IsPartialEquivalence nat_eq
numbers_equal = search (comparing, rules)

-- so is that at pairs
pub pairs_equal : IsPartialEquivalence pair_eq
pairs_equal = search (comparing, rules)
