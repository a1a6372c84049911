-- The board of a monitor: values, levels and members. Of public clauses that of `Monitor::level` alone cites this file (`IsOneOf`).
use Rattle.std.specs.Prelude.{◌≡◌, ℕ, ◌-◌, ◌^◌, ◌≤◌, ℤ, ◌+ℤ◌, ◌-ℤ◌, unsigned_abs, slice_set, List, length, map, All, Option}
use Rattle.std.specs.Option.{option_map_or}
use Rattle.tk_base.specs.Objects.{objects}
use Rattle.tk_base.specs.Pairs.{value_at}
use Rattle.tk_border.specs.Levels.{level_at}
use Rattle.tk_monitor.specs.Factors.{factor_in}

-- the value and the level of each object, and the members
pub record BoardView : Type 0 where
  pub values : List ℤ
  pub levels : List ℤ
  pub members : List ℕ

-- the value of each object: its level without its factor
unfoldable pub values_under : List ℤ → List (Option ℤ) → List ℤ
values_under levels kept = map (λ o. level_at levels o -ℤ factor_in kept o) (objects (length levels))

-- a board by its levels, the factors that are kept, and the members
abbrev pub board_of : List ℤ → List (Option ℤ) → List ℕ → BoardView
board_of levels kept members = record { values = values_under levels kept; levels = levels; members = members }

-- the board once a change counts
abbrev pub shifted : BoardView → ℕ × ℤ → BoardView
shifted s c = record s {
  values = slice_set s.values (c.0 - 1) (level_at s.values c.0 +ℤ c.1);
  levels = slice_set s.levels (c.0 - 1) (level_at s.levels c.0 +ℤ c.1);
}

-- values and factors are within the limits
pub record AreLimited (values levels : List ℤ) : Type 0 where
  pub shape : length values ≡ length levels
  pub few : length levels ≤ 65536
  pub value_size : (o : ℕ) → unsigned_abs (level_at values o) ≤ 2 ^ 100
  pub factor_size : (o : ℕ) → unsigned_abs (level_at levels o -ℤ level_at values o) ≤ 2 ^ 112

-- so they are on a board, and its members are objects
pub record IsBoard (s : BoardView) : Type 0 where
  pub limits : AreLimited s.values s.levels
  pub members : All (λ o. o ≤ length s.levels) s.members

-- an object of a catalogue of n
pub record IsOneOf (n o : ℕ) : Type 0 where
  pub from_one : 1 ≤ o
  pub within : o ≤ n

-- factors of objects of a catalogue of n
pub record AreFactors (n : ℕ) (changes : List (ℕ × ℤ)) : Type 0 where
  pub within : All (λ c. c.0 ≤ n) changes
  pub small : All (λ c. unsigned_abs c.1 ≤ 2 ^ 112) changes

-- the level of an object once some changes have set factors: its value plus its factor
abbrev pub assigned_level : List ℤ → List ℤ → List (ℕ × ℤ) → ℕ → ℤ
assigned_level values levels changes o = option_map_or (λ factor. level_at values o +ℤ factor) (value_at changes o) (level_at levels o)

-- the levels of all objects then
unfoldable pub assigned : List ℤ → List ℤ → List (ℕ × ℤ) → List ℤ
assigned values levels changes = map (assigned_level values levels changes) (objects (length levels))

-- the values of some objects
abbrev pub values_in : List ℤ → List ℕ → List (ℕ × ℤ)
values_in values asked = map (λ o. (o, level_at values o)) asked
