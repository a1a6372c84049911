-- An order of what happened in a story: the journal is walked, each trail only as far as the next turn asks, and then to its end.
use Rattle.tk_journal.specs.declared.noted.Noted.TheVariants as n
use Rattle.std.specs.Prelude.{ℕ, suc, zero, ◌+◌, unsigned_abs, is_some, slice_get, drop, if◌then◌else◌, List, [], ◌∷◌, length, Option, Some, None}
use Rattle.std.specs.Option.{option_map}
use Rattle.tk_journal.specs.Legal.{inputs_of}
use Rattle.tk_journal.specs.declared.noted.Noted.{Noted}
use Rattle.tk_trail.specs.declared.entry.Entry.{Entry}
use Rattle.tk_trail.specs.declared.entry.Entry.TheVariants.{Raised, Took, Sent}
use Rattle.tk_input.specs.declared.event.Event.{Event}
use Rattle.tk_world.specs.Events.{begin, next_of, next_up, raise_at, check_at, down_at, retune_at}
use Rattle.tk_input.specs.declared.event.Event.TheVariants.{Raise, Check, Up, Down, Retune}
use Rattle.tk_story.specs.Story.{StoryView, trail_of}

-- what happens at a monitor where an entry comes next
abbrev pub of_entry : ℕ → Entry → Event
of_entry mon (Raised g) = raise_at mon g.0
of_entry mon (Took frame) = down_at mon
of_entry mon (Sent frame) = check_at mon

-- what happens next at a monitor on the way from t to s, if its trail goes on
abbrev pub trail_next : StoryView → StoryView → ℕ → Option Event
trail_next s t mon = option_map (of_entry mon) (slice_get (trail_of s mon) (length (trail_of t mon)))

-- what happens at a monitor whose trail goes on, or else what happens at a later one
abbrev pub first_by : ℕ → Option Entry → Option Event → Option Event
first_by mon None later = later
first_by mon (Some e) later = Some (of_entry mon e)

-- what happens next at the first monitor whose trail goes on, among the trails from monitor mon on
abbrev pub first_left : ℕ → List (List Entry) → List (List Entry) → Option Event
first_left mon [] all = None
first_left mon (trail ∷ trails) [] = None
first_left mon (trail ∷ trails) (whole ∷ all) = first_by mon (slice_get whole (length trail)) (first_left (mon + 1) trails all)

-- what happens next on the way from t to s, where these inputs are left: the next turn; where its frame is not sent yet,
-- the next entry of its monitor; with no input left, what is left of the trails
abbrev pub toward : StoryView → StoryView → List Noted → Option Event
toward s t [] = first_left 1 t.trails s.trails
toward s t (n.Got from frame ∷ inputs) = if is_some (next_up t from.0) then Some (Up from) else trail_next s t from.0
toward s t (n.Tuned k epsilon ∷ inputs) = Some (retune_at k (unsigned_abs epsilon))
toward s t (n.Sent to frame ∷ inputs) = None
toward s t (n.Published publication ∷ inputs) = None

-- the inputs that are left after an event: a frame up or a retune uses one
abbrev pub left_after : List Noted → Event → List Noted
left_after inputs (Raise mon g) = inputs
left_after inputs (Check mon) = inputs
left_after inputs (Down mon) = inputs
left_after inputs (Up mon) = drop 1 inputs
left_after inputs (Retune tuning) = drop 1 inputs

-- the events from there on, where the event before was enabled
abbrev pub go_from : Option StoryView → List Noted → (StoryView → List Noted → List Event) → List Event
go_from None inputs rest = []
go_from (Some t) inputs rest = rest t inputs

-- the event that comes next, if one does, and those behind it
abbrev pub go_by : Option Event → StoryView → List Noted → (StoryView → List Noted → List Event) → List Event
go_by None t inputs rest = []
go_by (Some e) t inputs rest = e ∷ go_from (next_of t e) (left_after inputs e) rest

-- the events on the way from t to s, at most so many, where these inputs are left
abbrev pub events_from : StoryView → ℕ → StoryView → List Noted → List Event
events_from s zero t inputs = []
events_from s (suc k) t inputs = go_by (toward s t inputs) t inputs (events_from s k)

-- how many entries some trails have together
abbrev pub entries : List (List Entry) → ℕ
entries [] = 0
entries (trail ∷ trails) = length trail + entries trails

-- the events of a story in one order, from its beginning on
unfoldable pub events_of : StoryView → List Event
events_of s = events_from s (length s.journal + entries s.trails + 1) (begin s.settings s.logs s.from) (inputs_of s.journal)
