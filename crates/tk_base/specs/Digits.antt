-- Numbers that texts of decimal digits write.
use Rattle.std.specs.Prelude.{ℕ, Bool, ◌&&◌, nat_lt, nat_le, if◌then◌else◌, List, length, Option, Some, None}
use Rattle.std.specs.Str.{all_ascii_digits}
use Rattle.std.specs.Str.Parse.{digits_value}

-- a text has 1 to 38 bytes, all of them decimal digits
abbrev pub are_digits : List ℕ → Bool
are_digits text = nat_lt 0 (length text) && nat_le (length text) 38 && all_ascii_digits text

-- the number that 1 to 38 decimal digits write
abbrev pub digits_in : List ℕ → Option ℕ
digits_in text = if are_digits text then Some (digits_value 10 text) else None

-- the number that 1 to 18 decimal digits write
abbrev pub short_in : List ℕ → Option ℕ
short_in text = if nat_le (length text) 18 then digits_in text else None
