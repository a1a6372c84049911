-- What may happen next in a story, and the story that it leaves.
use Rattle.std.specs.Prelude.{ℕ, ◌≡◌, ◌-◌, pos, Bool, true, ◌&&◌, nat_lt, nat_le, is_some, if◌then◌else◌, List, [], ◌∷◌, ◌++◌, length, set, slice_get, replicate, Option, Some, None}
use Rattle.std.specs.Option.{option_map}
use Rattle.tk_base.specs.Settings.{Setup}
use Rattle.tk_input.specs.Logs.{LogSet}
use Rattle.tk_input.specs.declared.event.Event.{Event}
use Rattle.tk_input.specs.declared.event.Event.TheVariants.{Raise, Check, Up, Down, Retune}
use Rattle.tk_frames.specs.declared.frame.Frame.{Frame}
use Rattle.tk_journal.specs.Legal.{opened, start, turn_of}
use Rattle.tk_journal.specs.Laws.{IsMonitor}
use Rattle.tk_journal.specs.Links.{frames_from, frames_to}
use Rattle.tk_journal.specs.Refusal.{retune_refusal_of}
use Rattle.tk_journal.specs.declared.noted.Noted.{Noted}
use Rattle.tk_journal.specs.declared.noted.Noted.TheVariants as n
use Rattle.tk_trail.specs.Frames.{due_at}
use Rattle.tk_trail.specs.Legal.{after_take, part_length, place_of}
use Rattle.tk_trail.specs.Readings.{sent_by, taken_by}
use Rattle.tk_trail.specs.declared.entry.Entry.{Entry}
use Rattle.tk_trail.specs.declared.entry.Entry.TheVariants.{Raised, Sent}
use Rattle.tk_story.specs.Story.{StoryView, setup_of, trail_of}

-- the story in which nothing has happened but the opening
abbrev pub begin : Setup → LogSet → List (List ℕ) → StoryView
begin settings logs from = record {
  settings = settings;
  logs = logs;
  from = from;
  journal = opened (start settings);
  trails = replicate settings.monitors [];
}

-- the raise of the next change of a feeder, by the numbers of monitor and feeder
abbrev pub raise_at : ℕ → ℕ → Event
raise_at mon feeder = Raise (record { 0 = mon }) (record { 0 = feeder })

-- a check of a monitor
abbrev pub check_at : ℕ → Event
check_at mon = Check (record { 0 = mon })

-- the delivery of the next frame up from a monitor
abbrev pub up_at : ℕ → Event
up_at mon = Up (record { 0 = mon })

-- the delivery of the next frame down to a monitor
abbrev pub down_at : ℕ → Event
down_at mon = Down (record { 0 = mon })

-- a retune to this k and epsilon
abbrev pub retune_at : ℕ → ℕ → Event
retune_at k epsilon = Retune (record { k = k; epsilon = epsilon })

-- the next frame down to a monitor, if one is under way
abbrev pub next_down : StoryView → ℕ → Option Frame
next_down s mon = slice_get (frames_to mon s.journal) (length (taken_by (trail_of s mon)))

-- the next frame up from a monitor, if one is under way
abbrev pub next_up : StoryView → ℕ → Option Frame
next_up s mon = slice_get (sent_by (trail_of s mon)) (length (frames_from mon s.journal))

-- the story with another trail of a monitor
abbrev pub with_trail : StoryView → ℕ → List Entry → StoryView
with_trail s mon trail = record s { trails = set s.trails (mon - 1) trail }

-- the story with one more turn of the journal: what an input brings about
abbrev pub with_turn : StoryView → Noted → StoryView
with_turn s input = record s { journal = s.journal ++ turn_of s.settings s.journal input }

-- whether the story has a monitor of this number
abbrev pub is_monitor : StoryView → ℕ → Bool
is_monitor s mon = nat_le 1 mon && nat_le mon s.settings.monitors

-- a feeder whose part is not at its end
abbrev pub has_next : StoryView → ℕ → ℕ → Bool
has_next s mon feeder =
    nat_le 1 feeder && nat_le feeder (length (setup_of s mon).parts)
    && nat_lt (place_of (setup_of s mon) (trail_of s mon) feeder) (part_length (setup_of s mon) feeder)

-- what an event of a monitor of the story leaves, if it is enabled: a raise where the part goes on, a check where a
-- frame is due, a delivery where a frame is under way, a retune that is not refused
abbrev pub moved : StoryView → Event → Option StoryView
moved s (Raise mon feeder) = if has_next s mon.0 feeder.0 then Some (with_trail s mon.0 (trail_of s mon.0 ++ Raised feeder ∷ [])) else None
moved s (Check mon) = option_map (λ frame. with_trail s mon.0 (trail_of s mon.0 ++ Sent frame ∷ [])) (due_at (setup_of s mon.0) (trail_of s mon.0))
moved s (Up mon) = option_map (λ frame. with_turn s (n.Got mon frame)) (next_up s mon.0)
moved s (Down mon) = option_map (λ frame. with_trail s mon.0 (after_take (setup_of s mon.0) (trail_of s mon.0) frame)) (next_down s mon.0)
moved s (Retune tuning) =
    if is_some (retune_refusal_of s.settings s.journal tuning.k tuning.epsilon) then None else Some (with_turn s (n.Tuned tuning.k (pos tuning.epsilon)))

-- whether it is about a monitor of the story
abbrev pub is_of : StoryView → Event → Bool
is_of s (Raise mon feeder) = is_monitor s mon.0
is_of s (Check mon) = is_monitor s mon.0
is_of s (Up mon) = is_monitor s mon.0
is_of s (Down mon) = is_monitor s mon.0
is_of s (Retune tuning) = true

-- the story after an event, or nothing where it is not enabled; a frame under way is never refused
unfoldable pub next_of : StoryView → Event → Option StoryView
next_of s event = if is_of s event then moved s event else None

-- the story after some events, or nothing where one of them is not enabled where it stands
abbrev pub after : Option StoryView → List Event → Option StoryView
after None events = None
after (Some s) [] = Some s
after (Some s) (event ∷ events) = after (next_of s event) events

-- nothing but a raise or a retune is enabled
pub record CanOnlyChange (s : StoryView) : Type 0 where
  pub check : (mon : ℕ) → IsMonitor s.settings mon → next_of s (check_at mon) ≡ None
  pub up : (mon : ℕ) → IsMonitor s.settings mon → next_of s (up_at mon) ≡ None
  pub down : (mon : ℕ) → IsMonitor s.settings mon → next_of s (down_at mon) ≡ None
