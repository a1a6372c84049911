-- The marks of run 5 with two names and with three.
use Rattle.std.proofs.Common.{◌≡◌, [], ◌∷◌, codes, refl}
use Rattle.std.specs.Fmt.{digits}
use Rattle.tk_commands.specs.RunMark.{run_mark}

-- a9b3079e17e9d80d
pub two_names : run_mark 5 (codes "a" ∷ codes "b" ∷ []) ≡ 0xa9b3079e17e9d80d
unfolding digits
two_names = refl

-- b22f6159e03922a0
pub three_names : run_mark 5 (codes "a" ∷ codes "b" ∷ codes "c" ∷ []) ≡ 0xb22f6159e03922a0
unfolding digits
three_names = refl
