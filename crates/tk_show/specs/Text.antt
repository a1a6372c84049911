-- A run as text, in bytes: its settings, what opened it, and a line for each event.
use Rattle.std.specs.Prelude.{ℕ, ◌-◌, List, [], ◌∷◌, ◌++◌, flat_map, map, set, slice_get, codes, decimal, Option, Some, None}
use Rattle.std.specs.Fmt.{signed_decimal}
use Rattle.tk_base.specs.Settings.{Setup}
use Rattle.tk_input.specs.declared.event.Event.{Event}
use Rattle.tk_input.specs.declared.event.Event.TheVariants.{Raise, Check, Up, Down, Retune}
use Rattle.tk_journal.specs.Kinds.{turns_of}
use Rattle.tk_journal.specs.declared.noted.Noted.{Noted}
use Rattle.tk_story.specs.Kept.{KeptStory}
use Rattle.tk_story.specs.Story.{StoryView, trail_of}
use Rattle.tk_show.specs.Frames.{name_text}
use Rattle.tk_show.specs.declared.turned.Turned.{Turned}
use Rattle.tk_show.specs.Told.{Told, entry_text, told_after, untold}
use Rattle.tk_show.specs.Turned.{batch_length, batch_text, turned_after, turned_text}

-- how far a story is told: each monitor, and the coordinator
pub record Telling : Type 0 where
  pub monitors : List Told
  pub coordinator : Turned

-- the monitor whose trail goes on by an event; none where the journal does
abbrev pub mon_of : Event → Option ℕ
mon_of (Raise mon g) = Some mon.0
mon_of (Check mon) = Some mon.0
mon_of (Up mon) = None
mon_of (Down mon) = Some mon.0
mon_of (Retune tuning) = None

-- what a monitor that is told so far does next
abbrev pub monitor_text : List (List ℕ) → StoryView → ℕ → Option Told → List ℕ
monitor_text names s mon None = []
monitor_text names s mon (Some told) = entry_text names s.logs mon (trail_of s mon) told (slice_get (trail_of s mon) told.entries)

-- what happens next at a monitor, or else at the coordinator
abbrev pub next_text : List (List ℕ) → StoryView → Telling → Option ℕ → List ℕ
next_text names s t (Some mon) = monitor_text names s mon (slice_get t.monitors (mon - 1))
next_text names s t None =
    turned_text names s.journal (turns_of s.settings s.journal) t.coordinator (slice_get s.journal t.coordinator.entries)

-- the monitors once one of them is told further
abbrev pub monitors_after : StoryView → List Told → ℕ → Option Told → List Told
monitors_after s monitors mon None = monitors
monitors_after s monitors mon (Some told) =
    set monitors (mon - 1) (told_after s.logs mon told (slice_get (trail_of s mon) told.entries))

-- how far the story is told then
abbrev pub next_telling : StoryView → Telling → Option ℕ → Telling
next_telling s t (Some mon) = record t { monitors = monitors_after s t.monitors mon (slice_get t.monitors (mon - 1)) }
next_telling s t None = record t {
  coordinator = turned_after s.journal (turns_of s.settings s.journal) t.coordinator (slice_get s.journal t.coordinator.entries);
}

-- the line of an event, where the story is told so far
abbrev pub line_of : List (List ℕ) → StoryView → Telling → Event → List ℕ
line_of names s t event = next_text names s t (mon_of event) ++ codes "\n"

-- the lines of some events
abbrev pub lines_from : List (List ℕ) → StoryView → Telling → List Event → List ℕ
lines_from names s t [] = []
lines_from names s t (event ∷ events) = line_of names s t event ++ lines_from names s (next_telling s t (mon_of event)) events

-- nothing is told of the trails, which begin at this cut, and so many entries of the journal
abbrev pub begun : List (List ℕ) → ℕ → Telling
begun from entries = record { monitors = map untold from; coordinator = record { entries = entries; turns = 0 } }

-- before the first event nothing of the trails is told, and of the journal what opens it
abbrev pub beginning : StoryView → Telling
beginning s = begun s.from (batch_length s.journal)

-- the names of the catalogue
abbrev pub catalog_text : List (List ℕ) → List ℕ
catalog_text names = flat_map (λ name. codes " " ++ name) names

-- how many members there are, and within which epsilon
abbrev pub asked_text : Setup → List ℕ
asked_text settings = codes "k " ++ decimal settings.k ++ codes " epsilon " ++ signed_decimal settings.epsilon

-- the own weight, and how many monitors there are
abbrev pub sizes_text : Setup → List ℕ
sizes_text settings = codes " own weight " ++ decimal settings.own_weight ++ codes " monitors " ++ decimal settings.monitors

-- the numbers of the settings
abbrev pub numbers_text : Setup → List ℕ
numbers_text settings = asked_text settings ++ sizes_text settings

-- the line of the settings
abbrev pub settings_text : List (List ℕ) → Setup → List ℕ
settings_text names settings = numbers_text settings ++ codes " objects" ++ catalog_text names ++ codes "\n"

-- the line of what opens the journal
abbrev pub opening_text : List (List ℕ) → List Noted → List ℕ
opening_text names journal = codes "start" ++ batch_text names journal ++ codes "\n"

-- a run as text: its settings, its opening, and its events in order
unfoldable pub shown_text : List (List ℕ) → KeptStory → List ℕ
shown_text names kept =
    settings_text names kept.story.settings
    ++ (opening_text names kept.story.journal ++ lines_from names kept.story (beginning kept.story) kept.events)
