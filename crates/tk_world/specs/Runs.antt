-- The reader's form of a run: walking the happenings uses up the journal and the trails of a story.
use Rattle.tk_frames.specs.declared.frame.Frame.TheVariants as f
use Rattle.tk_journal.specs.declared.noted.Noted.TheVariants as n
use Rattle.std.specs.Prelude.{ℕ, ◌≡◌, ◌-◌, pos, Bool, true, false, List, [], ◌∷◌, ◌++◌, set, replicate, slice_index_or}
use Rattle.tk_frames.specs.declared.frame.Frame.{Frame}
use Rattle.tk_journal.specs.Laws.{IsMonitor}
use Rattle.tk_journal.specs.Legal.{inputs_of, opened, start}
use Rattle.tk_journal.specs.Links.{frames_from, frames_to}
use Rattle.tk_journal.specs.declared.noted.Noted.{Noted}
use Rattle.tk_trail.specs.Readings.{sent_by, taken_by}
use Rattle.tk_trail.specs.declared.entry.Entry.{Entry}
use Rattle.tk_trail.specs.declared.entry.Entry.TheVariants.{Raised, Took, Sent}
use Rattle.tk_input.specs.declared.event.Event.{Event}
use Rattle.tk_world.specs.Events.{}
use Rattle.tk_input.specs.declared.event.Event.TheVariants.{Raise, Check, Up, Down, Retune}
use Rattle.tk_journal.specs.Whole.{BeginsWithInput}
use Rattle.tk_story.specs.Story.{StoryView, trail_of}

-- what is walked of the trail of a monitor
abbrev pub walked : List (List Entry) → ℕ → List Entry
walked trails mon = slice_index_or trails (mon - 1) []

-- the walked trails once a monitor's goes on
abbrev pub further : List (List Entry) → ℕ → List Entry → List (List Entry)
further trails mon more = set trails (mon - 1) (walked trails mon ++ more)

-- whether a frame of the coordinator is answered directly
abbrev pub wants_answer : Frame → Bool
wants_answer (f.Hello run version mon) = false
wants_answer (f.Report seq border failed values) = false
wants_answer (f.Collect round asked) = true
wants_answer (f.Values round seq border values) = false
wants_answer (f.Assign seq members changes) = true
wants_answer (f.Settled seq last places) = false
wants_answer f.Stop = false

-- the entries of a direct answer: one sent frame, or none
abbrev pub IsDirect : Bool → List Entry → Type 0
IsDirect true answer = (g : Frame) × (answer ≡ Sent g ∷ [])
IsDirect false answer = answer ≡ []

-- the next entry of the trail is a raise
pub record UsesRaise (s : StoryView) (trails : List (List Entry)) (mon g : ℕ) : Type 0 where
  pub monitor : IsMonitor s.settings mon
  pub rest : List Entry
  pub is : trail_of s mon ≡ walked trails mon ++ Raised (record { 0 = g }) ∷ rest

-- the next entry of the trail is a sent frame; it answers nothing, since a taken frame is walked with its direct answer
pub record UsesCheck (s : StoryView) (trails : List (List Entry)) (mon : ℕ) (frame : Frame) : Type 0 where
  pub monitor : IsMonitor s.settings mon
  pub rest : List Entry
  pub is : trail_of s mon ≡ walked trails mon ++ Sent frame ∷ rest

-- the next entries of the trail take the next frame sent to the monitor, and answer it directly
pub record UsesDown (s : StoryView) (journal : List Noted) (trails : List (List Entry)) (mon : ℕ) (frame : Frame) (answer : List Entry) : Type 0 where
  pub monitor : IsMonitor s.settings mon
  pub rest : List Entry
  pub is : trail_of s mon ≡ walked trails mon ++ Took frame ∷ (answer ++ rest)
  pub direct : IsDirect (wants_answer frame) answer
  pub more : List Frame
  pub sent : frames_to mon journal ≡ taken_by (walked trails mon) ++ frame ∷ more

-- the next turn of the journal: an input, and all up to the next one
pub record UsesTurn (s : StoryView) (journal : List Noted) (input : Noted) (batch : List Noted) : Type 0 where
  pub behind : List Noted
  pub is : s.journal ≡ journal ++ input ∷ (batch ++ behind)
  pub none : inputs_of batch ≡ []
  pub whole : BeginsWithInput behind

-- the next turn takes the next frame that the monitor sent
pub record UsesUp (s : StoryView) (journal : List Noted) (trails : List (List Entry)) (mon : ℕ) (frame : Frame) (batch : List Noted) : Type 0 where
  pub monitor : IsMonitor s.settings mon
  pub turn : UsesTurn s journal (n.Got (record { 0 = mon }) frame) batch
  pub more : List Frame
  pub sent : sent_by (walked trails mon) ≡ frames_from mon journal ++ frame ∷ more

-- walking the happenings uses up the journal and each trail
abbrev pub Walks : StoryView → List Noted → List (List Entry) → List Event → Type 0
Walks s journal trails [] = (journal ≡ s.journal) × (trails ≡ s.trails)
Walks s journal trails (Raise mon g ∷ events) = UsesRaise s trails mon.0 g.0 × Walks s journal (further trails mon.0 (Raised (record { 0 = g.0 }) ∷ [])) events
Walks s journal trails (Check mon ∷ events) = (frame : Frame) × UsesCheck s trails mon.0 frame × Walks s journal (further trails mon.0 (Sent frame ∷ [])) events
Walks s journal trails (Down mon ∷ events) =
    (frame : Frame) × (answer : List Entry) × UsesDown s journal trails mon.0 frame answer × Walks s journal (further trails mon.0 (Took frame ∷ answer)) events
Walks s journal trails (Up mon ∷ events) =
    (frame : Frame) × (batch : List Noted) × UsesUp s journal trails mon.0 frame batch × Walks s (journal ++ n.Got (record { 0 = mon.0 }) frame ∷ batch) trails events
Walks s journal trails (Retune tuning ∷ events) = (batch : List Noted) × UsesTurn s journal (n.Tuned tuning.k (pos tuning.epsilon)) batch × Walks s (journal ++ n.Tuned tuning.k (pos tuning.epsilon) ∷ batch) trails events

-- from the opening and empty trails
abbrev pub RunsBy : StoryView → List Event → Type 0
RunsBy s events = Walks s (opened (start s.settings)) (replicate s.settings.monitors []) events

-- the story of what is walked so far
abbrev pub walked_story : StoryView → List Noted → List (List Entry) → StoryView
walked_story s journal trails = record {
  settings = s.settings;
  logs = s.logs;
  from = s.from;
  journal = journal;
  trails = trails;
}
