-- The rounds: what is reported to them, whom they choose, and what holds after them.
use Rattle.std.specs.Prelude.{ℕ, ◌^◌, ◌<◌, ◌≤◌, ◌≡◌, ℤ, pos, ◌+ℤ◌, ◌≤ℤ◌, unsigned_abs, List, ◌∷◌, map, length, Contains}
use Rattle.std.specs.List.{All, range_with_len}
use Rattle.tk_base.specs.Objects.{objects}
use Rattle.tk_base.specs.Pairs.{objects_of}
use Rattle.tk_base.specs.Settings.{Setup}
use Rattle.tk_base.specs.Sum.{int_sum}
use Rattle.tk_rows.specs.declared.reallocation.Reallocation.{Reallocation}
use Rattle.tk_rows.specs.Factors.{Grid, factor_at}
use Rattle.tk_rows.specs.Replacing.{changes_at, factor_in}
use Rattle.tk_alloc.specs.declared.reported.Reported.{Reported}
use Rattle.tk_alloc.specs.Parts.{Part, IsReallocation, coordinator, monitor, value_of}
use Rattle.tk_alloc.specs.Pick.{picked}

-- a table has the size of the settings
pub record IsOfSize (setup : Setup) (grid : Grid) : Type 0 where
  pub objects : length grid.rows ≡ setup.objects
  pub monitors : grid.monitors ≡ setup.monitors

-- values of these objects, each at most 2^100 in size
pub record AreValues (objects : List ℕ) (values : List (ℕ × ℤ)) : Type 0 where
  pub same : objects_of values ≡ objects
  pub small : All (λ p. unsigned_abs p.1 ≤ 2 ^ 100) values

-- a report of each monitor over these objects, monitors ascending
pub record AreReports (monitors : ℕ) (objects : List ℕ) (reports : List Reported) : Type 0 where
  pub order : map (λ r. r.mon.0) reports ≡ range_with_len 1 monitors
  pub values : All (λ r. AreValues objects r.values) reports

-- the reported total of an object
abbrev pub total : List Reported → ℕ → ℤ
total reports o = int_sum (map (λ r. value_of r.values o) reports)

-- the reported totals of some objects
abbrev pub totals : List Reported → List ℕ → List (ℕ × ℤ)
totals reports objects = map (λ o. (o, total reports o)) objects

-- whom a round over some objects chooses
abbrev pub chosen : Setup → List ℕ → List Reported → List ℕ → List ℕ
chosen setup present reports objects = picked (totals reports objects) present setup.k

-- the participants of a wide round: all nodes, with every border taken as 0
abbrev pub wide_parts : Setup → List ℕ → List Reported → List Part
wide_parts setup members reports = coordinator setup.own_weight setup.epsilon (pos 0) members (objects setup.objects) ∷ map (monitor (pos 0)) reports

-- a reallocation is that of a wide round, over all objects
abbrev pub IsWideRound : Setup → Grid → List ℕ → List Reported → Reallocation → Type 0
IsWideRound setup grid present reports change =
    let members = chosen setup present reports (objects setup.objects) in
    IsReallocation grid (wide_parts setup members reports) (objects setup.objects) members change

-- the factor of an object at a node after a reallocation
abbrev pub factor_after : Grid → Reallocation → ℕ → ℕ → ℤ
factor_after grid change node o = factor_in (changes_at change node) o (factor_at grid node o)

-- the coordinator's constraint: a member's own factor and epsilon are at least that of any other object
abbrev pub KeepsOwn : Grid → ℤ → Reallocation → Type 0
KeepsOwn grid epsilon change = (t s : ℕ) → Contains change.members t → (Contains change.members s → ⊥) → 0 < s → s ≤ length grid.rows
    → factor_after grid change 0 s ≤ℤ (factor_after grid change 0 t +ℤ epsilon)

-- the constraints of a monitor that took part, at its reported values: no other object of the round is above a member
abbrev pub KeepsLevels : Grid → Reallocation → Reported → Type 0
KeepsLevels grid change report = (t s : ℕ) → Contains change.members t → (Contains change.members s → ⊥) → Contains (objects_of report.values) s
    → (value_of report.values s +ℤ factor_after grid change report.mon.0 s) ≤ℤ (value_of report.values t +ℤ factor_after grid change report.mon.0 t)

-- changes below 2^108 in size
abbrev pub AreSlight : List (ℕ × ℤ) → Type 0
AreSlight changes = All (λ p. unsigned_abs p.1 < 2 ^ 108) changes
