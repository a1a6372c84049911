-- What tests tell of each other.
use Rattle.std.proofs.Common.{◌≡◌, ◌&&◌, Bool, true, false, ◌||◌, refl, sym, not}
use Rattle.std.proofs.lemmas.Bool.{false≢true}

-- of two tests that do not both pass, where the first passes, the second fails
pub right_fails : (a b : Bool) → a ≡ true → (a && b) ≡ false → b ≡ false
right_fails true b e none = none
right_fails false b e none = absurd (false≢true e)

-- of two tests of which none passes, the second fails
pub neither_right : (a b : Bool) → (a || b) ≡ false → b ≡ false
neither_right true b e = cc
neither_right false b e = e

-- two tests that pass together are one
pub bool_same : (a b : Bool) → (a ≡ true → b ≡ true) → (b ≡ true → a ≡ true) → a ≡ b
bool_same true b there back = sym (there refl)
bool_same false true there back = back refl
bool_same false false there back = refl

-- where what a test is not passes, the test fails
pub not_true : (b is : Bool) → is ≡ not b → is ≡ true → b ≡ false
not_true true is same holds = absurd (cc)
not_true false is same holds = refl

-- where what a test is not fails, the test passes
pub not_false : (b is : Bool) → is ≡ not b → is ≡ false → b ≡ true
not_false true is same fails = refl
not_false false is same fails = absurd (cc)

-- a test that cannot pass fails
pub ruled_out : (b : Bool) → {c : Bool} → c ≡ b → (c ≡ true → ⊥) → c ≡ false
ruled_out true is halts = absurd (halts is)
ruled_out false is halts = is
