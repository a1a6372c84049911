-- What is known of options and results.
use Rattle.std.specs.Prelude.{if◌then◌else◌, cond, ℤ, IfSome, OnErr, Result, Ok, Err}
use Rattle.std.proofs.Common.{◌≡◌, Option, Some, None, option_map, refl, ℕ, ◌+◌, Bool, true, false, sym, ◌∙◌}

-- nothing comes of nothing alone
pub unmapped : {X Y : Type 0} (f : X → Y) (o : Option X) → option_map f o ≡ None → o ≡ None
unmapped f None e = refl
unmapped f (Some x) e = absurd (cc)

-- what a place counted from 1 comes of
pub split_map : (o : Option ℕ) (i : ℕ) → option_map (λ k. k + 1) o ≡ Some i → (k : ℕ) × (o ≡ Some k) × (i ≡ k + 1)
split_map None i e = absurd (cc)
split_map (Some k) i e = (k, refl, cc)

-- a choice that gives nothing took the other way, and found nothing there
pub if_none : {X : Type 0} (b : Bool) (x : X) (r : Option X) → (if b then Some x else r) ≡ None → (b ≡ false) × (r ≡ None)
if_none true x r none = cc
if_none false x r none = (refl, none)

-- the same of a choice between a pair and what is left
pub first_or : (b : Bool) (x : ℕ × ℤ) (rest : Option (ℕ × ℤ)) → cond b (Some x) rest ≡ None → (b ≡ false) × (rest ≡ None)
first_or true x rest none = cc
first_or false x rest none = (refl, none)

-- equal options of numbers hold equal numbers
pub some_is : (a g : ℤ) → Some a ≡ Some g → a ≡ g
some_is a g is = cc

-- a number that an option holds is what is told of it
pub number_is : (number seq : ℕ) (x : Option ℕ) → x ≡ Some number → IfSome x (λ q. q ≡ seq) → number ≡ seq
number_is number seq (Some q) e h = (let same : q ≡ number = cc in sym same ∙ h)
number_is number seq None e h = absurd (cc)

-- what holds anyway holds where there is an error
pub on_err : {T E : Type 0} (r : Result T E) (P : Type 0) → P → OnErr r P
on_err (Ok x) P holds = tt
on_err (Err e) P holds = holds
