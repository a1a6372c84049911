-- The energy of a monitor: how many events of it there can still be while nothing is raised. No public clause but the bounds cites this file.
use Rattle.std.specs.Prelude.{ℕ, ◌+◌, ◌*◌, ◌≤◌, ◌<◌, Bool, if◌then◌else◌, map}
use Rattle.std.specs.List.{range_with_len, sum}

-- what is read of one monitor: the frames on its links, whether something is due, whether no change was raised since the
-- last Assign to it, and whether it is strained
pub record Local : Type 0 where
  pub down : ℕ
  pub up : ℕ
  pub due : Bool
  pub present : Bool
  pub strained : Bool

-- what is read of all: whether a round is open, whether Stop was sent, and how many rounds are left
pub record Shared : Type 0 where
  pub waiting : Bool
  pub stopped : Bool
  pub rounds : ℕ

-- a monitor's own part of its energy: for frames on its links, what is due, old values, and strain
abbrev pub local_energy : Local → ℕ
local_energy l = 2 * l.down + l.up + (if l.due then 2 else 0) + (if l.present then 0 else 4) + (if l.strained then 2 else 0)

-- the part that all share: for an open round, for Stop that is not sent, and for each round that is left
abbrev pub shared_energy : Shared → ℕ
shared_energy s = (if s.waiting then 4 else 0) + (if s.stopped then 0 else 2) + 6 * s.rounds

-- the energy of a monitor: both parts together
abbrev pub energy : Shared → Local → ℕ
energy s l = shared_energy s + local_energy l

-- the energy of all of m monitors
abbrev pub energies : ℕ → Shared → (ℕ → Local) → ℕ
energies m s local = sum (map (λ j. energy s (local j)) (range_with_len 1 m))

-- a turn or an event of one monitor that costs each monitor at most a cost, which comes out of what is shared
pub record Falls (m at cost : ℕ) (s s' : Shared) (local local' : ℕ → Local) : Type 0 where
  pub from_one : 1 ≤ at
  pub within : at ≤ m
  pub shared : shared_energy s' + cost ≤ shared_energy s
  pub others : (j : ℕ) → 1 ≤ j → j ≤ m → local_energy (local' j) ≤ local_energy (local j) + cost
  pub here : local_energy (local' at) < local_energy (local at) + cost
