-- The rounds over some objects only: the short round of one monitor, with its test, and the full round of
-- all. They deal what is above borders.
use Rattle.std.specs.Prelude.{ℕ, ◌^◌, ◌<◌, ◌≤◌, ◌≡◌, ℤ, pos, ◌+ℤ◌, ◌≤ℤ◌, List, [], ◌∷◌, map, length, slice_index_or, Contains}
use Rattle.std.specs.List.{All}
use Rattle.tk_base.specs.Pairs.{objects_of}
use Rattle.tk_base.specs.Settings.{Setup}
use Rattle.tk_border.specs.Levels.{own_border}
use Rattle.tk_rows.specs.declared.reallocation.Reallocation.{Reallocation}
use Rattle.tk_rows.specs.Factors.{Grid, factor_at}
use Rattle.tk_alloc.specs.declared.reported.Reported.{Reported}
use Rattle.tk_alloc.specs.Parts.{Part, IsReallocation, coordinator, leeway, monitor, value_of}
use Rattle.tk_alloc.specs.Rounds.{AreValues, IsOfSize, chosen}

-- the coordinator's own factors, by object
abbrev pub own_factors : Grid → List ℤ
own_factors grid = map (λ row. slice_index_or row 0 (pos 0)) grid.rows

-- the border of the coordinator in a round over some objects
unfoldable pub round_border : Setup → Grid → List ℕ → List ℕ → ℤ
round_border setup grid present objects = own_border (own_factors grid) present setup.epsilon objects

-- the participants, with their borders, where some members are those afterwards
abbrev pub round_parts : Setup → Grid → List ℕ → List ℕ → List ℕ → List Reported → List Part
round_parts setup grid present members objects reports =
    coordinator setup.own_weight setup.epsilon (round_border setup grid present objects) members objects ∷ map (λ r. monitor r.border r) reports

-- the objects that reports are over: those of the first
abbrev pub objects_over : List Reported → List ℕ
objects_over [] = []
objects_over (report ∷ reports) = objects_of report.values

-- the coordinator's constraint as the table stands
abbrev pub MeetsOwn : Grid → ℤ → List ℕ → Type 0
MeetsOwn grid epsilon present = (t s : ℕ) → Contains present t → (Contains present s → ⊥) → 0 < s → s ≤ length grid.rows
    → factor_at grid 0 s ≤ℤ (factor_at grid 0 t +ℤ epsilon)

-- what such a round begins with: a table of the settings' size, in which the coordinator's constraint
-- holds, and k members that are among the objects
pub record IsReady (setup : Setup) (grid : Grid) (present objects : List ℕ) : Type 0 where
  pub size : IsOfSize setup grid
  pub count : length present ≡ setup.k
  pub members : All (Contains objects) present
  pub within : All (λ o. o ≤ setup.objects) objects
  pub own : MeetsOwn grid setup.epsilon present

-- a report that such a round can take: over its objects, with a border that is at most the least level of
-- a member, and at least -2^113
pub record CanTakePart (grid : Grid) (present objects : List ℕ) (report : Reported) : Type 0 where
  pub values : AreValues objects report.values
  pub some : 0 < report.mon.0
  pub monitor : report.mon.0 ≤ grid.monitors
  pub high : All (λ t. report.border ≤ℤ (value_of report.values t +ℤ factor_at grid report.mon.0 t)) present
  pub low : pos 0 ≤ℤ (report.border +ℤ pos (2 ^ 113))

-- the short test: between the coordinator and the monitor that reports, the leeway of each member is at
-- least that of each object that is none
abbrev pub PassesShortTest : Setup → Grid → List ℕ → Reported → Type 0
PassesShortTest setup grid present report =
    let parts = round_parts setup grid present present (objects_of report.values) (report ∷ []) in
    (t s : ℕ) → Contains present t → (Contains present s → ⊥) → Contains (objects_of report.values) s → leeway grid parts s ≤ℤ leeway grid parts t

-- a reallocation is that of a round in which these members follow
abbrev pub IsRound : Setup → Grid → List ℕ → List ℕ → List ℕ → List Reported → Reallocation → Type 0
IsRound setup grid present members objects reports change =
    IsReallocation grid (round_parts setup grid present members objects reports) objects members change

-- a short round keeps the members
abbrev pub IsShortRound : Setup → Grid → List ℕ → Reported → Reallocation → Type 0
IsShortRound setup grid present report change = IsRound setup grid present present (objects_of report.values) (report ∷ []) change

-- a full round chooses them by the totals over its objects
abbrev pub IsFullRound : Setup → Grid → List ℕ → List Reported → Reallocation → Type 0
IsFullRound setup grid present reports change =
    let objects = objects_over reports in
    IsRound setup grid present (chosen setup present reports objects) objects reports change
