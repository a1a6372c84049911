-- What a step that read something tells.
use Rattle.std.proofs.Common.{◌≡◌, Bool, true, false, cond, Option, Some, None, refl}
use Rattle.tk_frames.specs.Reading.{◌>>=◌}

-- the value of a step that did not fail
pub bind_some : {A B : Type 0} (r : Option A) (next : A → Option B) (y : B) → (r >>= next) ≡ Some y → (x : A) × (r ≡ Some x) × (next x ≡ Some y)
bind_some (Some x) next y e = (x, refl, e)
bind_some None next y e = absurd cc

-- a test that did not fail
pub passed : {A : Type 0} (b : Bool) (r : Option A) (y : A) → cond b None r ≡ Some y → (b ≡ false) × (r ≡ Some y)
passed true r y e = absurd cc
passed false r y e = (refl, e)

abbrev some : {A : Type 0} → A → Option A
some x = Some x

pub some_is : {A : Type 0} (x y : A) → some x ≡ some y → x ≡ y
some_is x y e = cc
