-- The whole numbers of the logs and of the order.
use Rattle.std.specs.Prelude.{ℕ, ℤ, pos, neg_ℤ, ◌==◌, if◌then◌else◌, List, [], ◌∷◌, Option, None, option_map}
use Rattle.tk_base.specs.Digits.{digits_in}

-- the number that a sign or none and 1 to 38 decimal digits write
abbrev pub whole_number : List ℕ → Option ℤ
whole_number [] = None
whole_number (c ∷ rest) =
    if c == 45 then option_map (λ n. neg_ℤ (pos n)) (digits_in rest)
    else (if c == 43 then option_map pos (digits_in rest)
    else option_map pos (digits_in (c ∷ rest)))
