-- How far a story is walked while its events are written down. No public clause cites this file.
use Rattle.tk_journal.specs.declared.noted.Noted.TheVariants as n
use Rattle.std.specs.Prelude.{ℕ, ◌≡◌, ◌+◌, ◌-◌, ◌<◌, ◌==◌, Bool, true, false, if◌then◌else◌, List, [], ◌∷◌, ◌++◌, length, slice_index_or}
use Rattle.tk_base.specs.declared.ids.Mon.{Mon}
use Rattle.tk_frames.specs.declared.frame.Frame.{Frame}
use Rattle.tk_input.specs.declared.event.Event.{Event}
use Rattle.tk_journal.specs.Laws.{IsMonitor}
use Rattle.tk_journal.specs.Legal.{AreAccepted, inputs_of, played_from}
use Rattle.tk_journal.specs.Links.{frames_from}
use Rattle.tk_journal.specs.declared.noted.Noted.{Noted}
use Rattle.tk_trail.specs.Readings.{sent_by}
use Rattle.tk_trail.specs.declared.entry.Entry.{Entry}
use Rattle.tk_trail.specs.declared.entry.Entry.TheVariants.{Raised, Took, Sent}
use Rattle.tk_story.specs.Story.{IsStory, StoryView, trail_of}
use Rattle.tk_world.specs.declared.serializing.Walk.{Walk}
use Rattle.tk_world.specs.Runs.{RunsBy, Walks, walked, walked_story, wants_answer}

-- whether the event of an entry sends a frame
abbrev pub sends : Entry → Bool
sends (Raised g) = false
sends (Took frame) = wants_answer frame
sends (Sent frame) = true

-- how many entries the event of an entry uses: a taken frame goes with its direct answer
abbrev pub uses : Entry → ℕ
uses (Raised g) = 1
uses (Took frame) = if wants_answer frame then 2 else 1
uses (Sent frame) = 1

-- how many frames of a monitor are sent and not got, where one of a given monitor is
abbrev pub under_way : ℕ → ℕ → ℕ
under_way ahead mon = if mon == ahead then 1 else 0

-- a fact that need not hold once no input is left
abbrev pub WhileLeft : List Noted → Type 0 → Type 0
WhileLeft [] Fact = Unit {0}
WhileLeft (input ∷ left) Fact = Fact

-- the next input is a frame of the monitor, or none is left
abbrev pub IsTurnOf : ℕ → List Noted → Type 0
IsTurnOf mon [] = Unit {0}
IsTurnOf mon (n.Got from frame ∷ left) = from.0 ≡ mon
IsTurnOf mon (n.Sent to frame ∷ left) = ⊥
IsTurnOf mon (n.Published publication ∷ left) = ⊥
IsTurnOf mon (n.Tuned k epsilon ∷ left) = ⊥

-- each trail is walked up to its place, and the journal up to the inputs that are left; the events walk that far, and
-- of the frames sent only one of the monitor that is ahead is not got
pub record IsWalking (s : StoryView) (places : List ℕ) (events : List Event) (left : List Noted) (ahead : ℕ) : Type 0 where
  pub whole : IsStory s
  pub journal : List Noted
  pub trails : List (List Entry)
  pub story : IsStory (walked_story s journal trails)
  pub played : s.journal ≡ played_from s.settings journal left
  pub accepted : AreAccepted s.settings journal left
  pub fronts : (i : ℕ) → (rest : List Entry) × (slice_index_or s.trails i [] ≡ slice_index_or trails i [] ++ rest)
  pub runs : (more : List Event) → Walks s journal trails more → RunsBy s (events ++ more)
  pub count : length places ≡ s.settings.monitors
  pub walked_to : (i : ℕ) → slice_index_or places i 0 ≡ length (slice_index_or trails i [])
  pub heard : (mon : ℕ) → IsMonitor s.settings mon
      → WhileLeft left (length (sent_by (walked trails mon)) ≡ length (frames_from mon journal) + under_way ahead mon)

-- the same of the code's walk
abbrev pub IsAt : StoryView → Walk → List Noted → ℕ → Type 0
IsAt s walk left ahead = IsWalking s walk.places.items walk.events.items left ahead

-- an entry of a monitor's trail comes next, and may be walked
pub record CanStep (s : StoryView) (walk : Walk) (mon : ℕ) : Type 0 where
  pub left : List Noted
  pub walking : IsAt s walk left 0
  pub turn : IsTurnOf mon left
  pub more : slice_index_or walk.places.items (mon - 1) 0 < length (trail_of s mon)

-- one event of a monitor is walked; it is ahead where that event sends a frame
abbrev pub Steps : StoryView → Walk → ℕ → Bool → Walk → Type 0
Steps s old mon sent new = (left : List Noted) → IsAt s old left 0 → IsTurnOf mon left → IsAt s new left (if sent then mon else 0)

-- a frame of a monitor is the next input
abbrev pub IsFrameNext : StoryView → Walk → Mon → Type 0
IsFrameNext s walk mon = (frame : Frame) × (left : List Noted) × IsAt s walk (n.Got mon frame ∷ left) 0

-- the next frame of a monitor is sent and got
abbrev pub GetsFrame : StoryView → Walk → Mon → Walk → Type 0
GetsFrame s old mon new = (frame : Frame) (left : List Noted) → IsAt s old (n.Got mon frame ∷ left) 0 → IsAt s new left 0

-- an entry of the journal comes next
abbrev pub IsEntryNext : StoryView → Walk → Noted → Type 0
IsEntryNext s walk noted = (left : List Noted) × IsAt s walk (inputs_of (noted ∷ left)) 0

-- the entry is walked, with what its turn asks of a trail
abbrev pub UsesEntry : StoryView → Walk → Noted → Walk → Type 0
UsesEntry s old noted new = (left : List Noted) → IsAt s old (inputs_of (noted ∷ left)) 0 → IsAt s new (inputs_of left) 0

-- the places but that of a monitor stay
abbrev pub AreOthersKept : Walk → ℕ → Walk → Type 0
AreOthersKept old mon new = (i : ℕ) → (i ≡ mon - 1 → ⊥) → slice_index_or new.places.items i 0 ≡ slice_index_or old.places.items i 0

-- the place of a monitor
abbrev pub place_of : Walk → ℕ → ℕ
place_of walk mon = slice_index_or walk.places.items (mon - 1) 0
