-- Lines of two fields with nothing in them that csv treats apart. No public clause cites it.
use Rattle.std.specs.Prelude.{◌≡◌, ◌≢◌, ℕ, ◌+◌, ◌<◌, ◌==◌, ◌||◌, Bool, false, List, length, take, drop, get_or}
use Rattle.std.specs.List.{list_any}

-- a comma, a quote, a carriage return or a line feed
abbrev pub is_mark : ℕ → Bool
is_mark b = b == 44 || b == 34 || b == 13 || b == 10

-- a line whose only mark is a comma at this place, behind a byte that begins no byte order mark
pub record IsPlain (line : List ℕ) (place : ℕ) : Type 0 where
  pub some : 0 < place
  pub within : place < length line
  pub comma : get_or line place 0 ≡ 44
  pub start : get_or line 0 0 ≢ 239
  pub name : list_any is_mark (take place line) ≡ false
  pub text : list_any is_mark (drop (place + 1) line) ≡ false
