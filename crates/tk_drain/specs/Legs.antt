-- The legs of a sweep. No public clause cites this file.
use Rattle.tk_drain.specs.declared.leg.Leg.TheVariants as p
use Rattle.std.specs.Prelude.{ℕ, ◌≡◌, ◌<◌, List, map, length}
use Rattle.tk_base.specs.Settings.{Setup}
use Rattle.tk_input.specs.declared.event.Event.{Event}
use Rattle.tk_journal.specs.Readings.{monitors}
use Rattle.tk_story.specs.Kept.{KeptStory}
use Rattle.tk_world.specs.Events.{check_at, down_at, up_at}
use Rattle.tk_world.specs.declared.moved.Moved.{Moved}
use Rattle.tk_world.specs.declared.moved.Moved.TheVariants.{Yes, Idle}
use Rattle.tk_drain.specs.declared.leg.Leg.{Leg}

-- the event of a leg for a monitor
abbrev pub leg_at : Leg → ℕ → Event
leg_at p.Check mon = check_at mon
leg_at p.Up mon = up_at mon
leg_at p.Down mon = down_at mon

-- the events of a leg, monitors ascending
abbrev pub leg_events : Leg → Setup → List Event
leg_events leg setup = map (leg_at leg) (monitors setup)

-- whether something moved shows in the events that are kept
abbrev pub Grows : Moved → KeptStory → KeptStory → Type 0
Grows Yes old new = length old.events < length new.events
Grows Idle old new = new ≡ old
