-- Whole numbers compared, as tests and as facts.
use Rattle.std.specs.Prelude.{ℤ, ◌<ℤ◌, int_lt, ◌≤ℤ◌, int_le}
use Rattle.std.specs.Ordering.{is_lt, int_cmp}
use Rattle.std.specs.declared.cmp.Ordering.TheVariants.{Less, Equal, Greater}
use Rattle.std.specs.Int.{int_max}
use Rattle.std.proofs.Common.{◌≡◌, true, arith, false, ◌≤◌, Bool, cond, refl, sym, ◌∙◌, ◌||◌}
use Rattle.std.proofs.lemmas.Int.{ints, by_lt_z}
use Rattle.std.proofs.lemmas.Bool.{true≢false}

-- a lesser number passes the test
pub lt_is : (a b : ℤ) → a <ℤ b → int_lt a b ≡ true
lt_is a b h = grind (arith, ints)

-- a number that is not less fails it
pub ge_is : (a b : ℤ) → b ≤ℤ a → int_lt a b ≡ false
ge_is a b h = grind (arith, ints)

-- a number that passes the test is at most the other
pub at_most : (a b : ℤ) → int_le a b ≡ true → a ≤ℤ b
at_most a b e = omega (arith, ints, e)

-- a comparison by two tests says less where the first passes
pub cmp_lt : (b c : Bool) → is_lt (cond b Less (cond c Greater Equal)) ≡ b
cmp_lt true c = refl
cmp_lt false true = refl
cmp_lt false false = refl

-- what a comparison calls less is less
pub lt-cmp : (x y : ℤ) → is_lt (int_cmp x y) ≡ int_lt x y
lt-cmp x y = cmp_lt (int_lt x y) (int_lt y x)

-- what it does not call less is at least as great
pub above_not : (x y : ℤ) → is_lt (int_cmp x y) ≡ false → y ≤ℤ x
above_not x y e = by_lt_z x y (λ below. absurd (true≢false (sym (lt_is x y below) ∙ sym (lt-cmp x y) ∙ e))) (λ high. high)

-- a number is below the greater of two where it is below one of them
pub max_over : (level x y : ℤ) → int_lt level (int_max x y) ≡ (int_lt level x || int_lt level y)
max_over level x y = grind (arith, ints)
