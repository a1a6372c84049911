-- A sink in memory.
use Rattle.std.specs.Prelude.{ℕ, ◌+◌, List, length, Bool, ◌==◌, nat_lt, ◌||◌}
use Rattle.std.specs.List.{list_any}
use Rattle.tk_input.specs.Files.{one_more}

-- what was written, the room, the numbers of the puts that fail, how many puts there were and how many failed
pub record Holds : Type 0 where
  pub written : List ℕ
  pub room : ℕ
  pub fails : List ℕ
  pub puts : ℕ
  pub faults : ℕ

-- whether the next put fails: by its number, or since it passes the room
abbrev pub fails_at : Holds → List ℕ → Bool
fails_at s bytes = list_any (λ i. i == one_more s.puts) s.fails || nat_lt s.room (length s.written + length bytes)
