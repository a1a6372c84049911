-- Settling: what each check, taken frame and turn brings about.
use Rattle.std.specs.Prelude.{ℕ, ◌+◌, ◌≡◌, ◌≤◌, ◌<◌, ◌==◌, Bool, true, false, List, length, filter, Some}
use Rattle.tk_journal.specs.Turns.{rounds}
use Rattle.tk_drain.specs.Energy.{energy}
use Rattle.tk_drain.specs.Moves.{Lessens, Readings, shared_of}
use Rattle.std.specs.List.{list_all}
use Rattle.tk_input.specs.declared.event.Event.{Event}
use Rattle.tk_world.specs.Events.{CanOnlyChange, after}
use Rattle.tk_input.specs.declared.event.Event.TheVariants.{Raise, Check, Up, Down, Retune}
use Rattle.tk_story.specs.Story.{StoryView}
use Rattle.tk_drain.specs.Reads.{readings}

-- the events of a settling
abbrev pub is_settling : Event → Bool
is_settling (Raise mon g) = false
is_settling (Check mon) = true
is_settling (Down mon) = true
is_settling (Up mon) = true
is_settling (Retune tuning) = false

-- the monitor whose event it is, 0 for a retune
abbrev pub monitor_of : Event → ℕ
monitor_of (Raise mon g) = mon.0
monitor_of (Check mon) = mon.0
monitor_of (Down mon) = mon.0
monitor_of (Up mon) = mon.0
monitor_of (Retune tuning) = 0

-- how many of some events are a monitor's
abbrev pub events_of : ℕ → List Event → ℕ
events_of mon events = length (filter (λ e. monitor_of e == mon) events)

-- the energy of a monitor
abbrev pub energy_of : ℕ → Readings → ℕ → ℕ
energy_of m r mon = energy (shared_of m r) (r.local mon)

-- no monitor's energy rises, and that of one falls
pub record Lowers (m at : ℕ) (r r' : Readings) : Type 0 where
  pub each : (mon : ℕ) → 1 ≤ mon → mon ≤ m → energy_of m r' mon ≤ energy_of m r mon
  pub here : energy_of m r' at < energy_of m r at

-- no monitor's energy rises, that of its own monitor falls, so that of all together does; and as many rounds less are left as were opened
pub record CostsEnergy (s t : StoryView) (at : ℕ) : Type 0 where
  pub opened : ℕ
  pub settings : t.settings ≡ s.settings
  pub lowers : Lowers s.settings.monitors at (readings s) (readings t)
  pub lessens : Lessens s.settings.monitors opened (readings s) (readings t)
  pub rounds : rounds t.settings t.journal ≡ rounds s.settings s.journal + opened

-- a list of events after which nothing but a raise or a retune can happen
pub record SettlesTo (s : StoryView) : Type 0 where
  pub events : List Event
  pub end : StoryView
  pub settling : list_all is_settling events ≡ true
  pub runs : after (Some s) events ≡ Some end
  pub idle : CanOnlyChange end
