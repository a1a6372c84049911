-- What frames carry, over lists that are joined.
use Rattle.std.proofs.Common.{◌≡◌, ◌+◌, Bool, List, [], ◌∷◌, ◌++◌, arith}
use Rattle.tk_frames.specs.declared.frame.Frame.{Frame}
use Rattle.tk_frames.specs.Carried.{tally}

pub tally-append : (p : Frame → Bool) (xs ys : List Frame) → tally p (xs ++ ys) ≡ tally p xs + tally p ys
tally-append p [] ys = omega arith
tally-append p (x ∷ xs) ys = let e = tally-append p xs ys in omega (arith, e)
