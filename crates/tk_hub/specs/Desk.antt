-- The coordinator as one who takes frames of monitors and has frames for them.
use Rattle.std.specs.Prelude.{ℕ, ◌<◌, ◌≤◌, ◌++◌, Bool, false, List, Option, pos}
use Rattle.tk_coord.specs.Coordinator.{CoordinatorView}
use Rattle.tk_frames.specs.declared.frame.Frame.{Frame}
use Rattle.tk_journal.specs.Legal.{turn_of}
use Rattle.tk_journal.specs.Links.{frames_from, frames_to}
use Rattle.tk_journal.specs.Refusal.{refusal_of, retune_refusal_of}
use Rattle.tk_journal.specs.declared.noted.Noted.{Noted}
use Rattle.tk_journal.specs.declared.noted.Noted.TheVariants.{Got, Tuned}
use Rattle.tk_journal.specs.declared.refusal.CoordRefusal.{CoordRefusal}
use Rattle.tk_journal.specs.declared.refusal.RetuneRefusal.{RetuneRefusal}
use Rattle.tk_hub.specs.declared.desk.Desk.{Desk}

-- there is such a monitor
pub record IsDesk (mon : ℕ) (desk : Desk) : Type 0 where
  pub some_monitor : 0 < mon
  pub monitor : mon ≤ desk.coordinator.settings.monitors

-- the frames that the coordinator took of a monitor
abbrev pub heard_from : ℕ → Desk → List Frame
heard_from mon desk = frames_from mon desk.coordinator.journal

-- the frames that it sent to a monitor
abbrev pub said_to : ℕ → Desk → List Frame
said_to mon desk = frames_to mon desk.coordinator.journal

-- a coordinator always listens; what comes too late it refuses
abbrev pub is_deaf : ℕ → Desk → Bool
is_deaf mon desk = false

-- which refusal a frame of a monitor meets, if it meets one
abbrev pub refuses : ℕ → Frame → Desk → Option CoordRefusal
refuses mon frame desk = refusal_of desk.coordinator.settings desk.coordinator.journal mon frame

-- the coordinator once it has taken a frame
abbrev pub getting : CoordinatorView → ℕ → Frame → CoordinatorView
getting c mon frame = record c { journal = c.journal ++ turn_of c.settings c.journal (Got (record { 0 = mon }) frame) }

-- the same of a desk
abbrev pub takes : ℕ → Frame → Desk → Desk
takes mon frame desk = record desk { coordinator = getting desk.coordinator mon frame }

-- the first reason against another k and epsilon, if there is one
abbrev pub refuses_to_tune : CoordinatorView → ℕ → ℕ → Option RetuneRefusal
refuses_to_tune c k epsilon = retune_refusal_of c.settings c.journal k epsilon

-- the journal once another k and epsilon are taken
abbrev pub tuned : CoordinatorView → ℕ → ℕ → List Noted
tuned c k epsilon = c.journal ++ turn_of c.settings c.journal (Tuned k (pos epsilon))
