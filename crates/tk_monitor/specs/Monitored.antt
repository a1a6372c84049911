-- A monitor as contracts see it, and what its calls answer.
use Rattle.std.specs.Prelude.{◌≡◌, ℕ, ℤ, ◌≤◌, List, [], ◌∷◌, ◌++◌, length, Option, Some, None, Result, Err, IfErr, if◌then◌else◌}
use Rattle.tk_base.specs.Settings.{Setup}
use Rattle.tk_base.specs.declared.ids.Feeder.{Feeder}
use Rattle.tk_frames.specs.declared.frame.Frame.{Frame}
use Rattle.tk_trail.specs.Setup.{MonitorSetup}
use Rattle.tk_trail.specs.Readings.{is_broken}
use Rattle.tk_trail.specs.Frames.{report_is_due, end_is_due}
use Rattle.tk_trail.specs.Legal.{HasNext, place_of, part_length}
use Rattle.tk_trail.specs.declared.entry.Entry.{Entry}
use Rattle.tk_trail.specs.declared.entry.Entry.TheVariants as e
use Rattle.tk_trail.specs.declared.refusal.MonitorRefusal.{MonitorRefusal}
use Rattle.tk_trail.specs.declared.refusal.MonitorRefusal.TheVariants.{NoMemory}
use Rattle.tk_monitor.specs.declared.outcome.Raised.{Raised}
use Rattle.tk_monitor.specs.declared.outcome.Raised.TheVariants.{Done, Ended}
use Rattle.tk_monitor.specs.declared.outcome.Checked.{Checked}
use Rattle.tk_monitor.specs.declared.outcome.Checked.TheVariants.{Reported, ToldEnd, Nothing}

-- the settings of the run, what a monitor is made of, and its trail
pub record MonitorView : Type 0 where
  pub settings : Setup
  pub setup : MonitorSetup
  pub trail : List Entry

-- a monitor of some number over some parts, each from a place of its own, before anything happened to it
abbrev pub made : Setup → ℕ → List (List (ℕ × ℤ)) → List ℕ → MonitorView
made settings number parts from = record {
  settings = settings;
  setup = record { number = number; objects = settings.objects; parts = parts; from = from };
  trail = [];
}

-- a number is one of its feeders
pub record IsFeederOf (setup : MonitorSetup) (g : ℕ) : Type 0 where
  pub from_one : 1 ≤ g
  pub within : g ≤ length setup.parts

-- what a raise answers, and what it leaves: one more change of the feeder counts, or its part is at its end
abbrev pub Raises : MonitorView → Feeder → Raised → MonitorView → Type 0
Raises old feeder (Done broken) new =
    HasNext old.setup old.trail feeder.0
    × (new ≡ record old { trail = old.trail ++ e.Raised feeder ∷ [] })
    × (broken ≡ is_broken new.setup new.trail)
Raises old feeder Ended new = (place_of old.setup old.trail feeder.0 ≡ part_length old.setup feeder.0) × (new ≡ old)

-- what a check of a trail answers
abbrev pub checked_at : MonitorSetup → List Entry → Checked
checked_at setup trail =
    if report_is_due setup trail then Reported else (if end_is_due setup trail then ToldEnd else Nothing)

-- what taking a frame answers: the refusal that it meets; where it meets none, want of memory alone hands it back
abbrev pub AnswersTake : Option MonitorRefusal → Frame → Result (Unit {0}) (MonitorRefusal × Frame) → Type 0
AnswersTake (Some refusal) frame result = result ≡ Err (refusal, frame)
AnswersTake None frame result = IfErr result (λ refused. refused ≡ (NoMemory, frame))
