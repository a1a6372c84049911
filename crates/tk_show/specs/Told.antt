-- How far a monitor is told, and what stands next in its trail.
use Rattle.std.specs.Prelude.{ℕ, ◌+◌, ◌-◌, ◌<◌, ◌≤◌, ℤ, ◌&&◌, nat_le, if◌then◌else◌, List, [], ◌++◌, length, set, slice_get, slice_index_or, codes, decimal, Option, Some, None}
use Rattle.std.specs.Fmt.{signed_decimal}
use Rattle.tk_frames.specs.declared.frame.Frame.{Frame}
use Rattle.tk_input.specs.Logs.{LogSet, part_of, parts_of}
use Rattle.tk_trail.specs.declared.entry.Entry.{Entry}
use Rattle.tk_trail.specs.declared.entry.Entry.TheVariants.{Raised, Took, Sent}
use Rattle.tk_world.specs.Runs.{wants_answer}
use Rattle.tk_show.specs.Frames.{frame_text, name_text}

-- how far a monitor is told: so many entries of its trail, and so many changes of each feeder
pub record Told : Type 0 where
  pub entries : ℕ
  pub places : List ℕ

-- the next change of a feeder from these places on; only a feeder of the monitor has one
abbrev pub change_at : LogSet → ℕ → ℕ → List ℕ → Option (ℕ × ℤ)
change_at logs mon g places =
    if nat_le 1 g && nat_le g (length places) && nat_le g (length (parts_of logs.logs mon))
    then slice_get (part_of logs mon g) (slice_index_or places (g - 1) 0) else None

-- a change: its object, and by how much
abbrev pub change_text : List (List ℕ) → Option (ℕ × ℤ) → List ℕ
change_text names None = []
change_text names (Some change) = name_text names change.0 ++ codes " by " ++ signed_decimal change.1

-- an answer behind what it answers
abbrev pub answer_text : List (List ℕ) → Option Entry → List ℕ
answer_text names None = []
answer_text names (Some (Raised g)) = []
answer_text names (Some (Took frame)) = []
answer_text names (Some (Sent frame)) = codes "; " ++ frame_text names frame

-- the entry behind a taken frame that is answered directly
abbrev pub answer_at : List Entry → ℕ → Frame → Option Entry
answer_at trail i frame = if wants_answer frame then slice_get trail (i + 1) else None

-- a raise of a feeder
abbrev pub raise_text : List (List ℕ) → ℕ → ℕ → Option (ℕ × ℤ) → List ℕ
raise_text names mon g change = codes "raise " ++ decimal mon ++ codes "." ++ decimal g ++ change_text names change

-- a taken frame with its answer
abbrev pub taken_text : List (List ℕ) → ℕ → Frame → Option Entry → List ℕ
taken_text names mon frame answer = codes "down " ++ decimal mon ++ codes ": " ++ frame_text names frame ++ answer_text names answer

-- a check with the frame that it sends
abbrev pub checked_text : List (List ℕ) → ℕ → Frame → List ℕ
checked_text names mon frame = codes "check " ++ decimal mon ++ codes ": " ++ frame_text names frame

-- what a monitor does next, where its trail goes on by this entry
abbrev pub entry_text : List (List ℕ) → LogSet → ℕ → List Entry → Told → Option Entry → List ℕ
entry_text names logs mon trail told None = []
entry_text names logs mon trail told (Some (Raised g)) = raise_text names mon g.0 (change_at logs mon g.0 told.places)
entry_text names logs mon trail told (Some (Took frame)) = taken_text names mon frame (answer_at trail told.entries frame)
entry_text names logs mon trail told (Some (Sent frame)) = checked_text names mon frame

-- one of these places is that of a feeder, and is no greatest number
pub record HasRoom (g : ℕ) (places : List ℕ) : Type 0 where
  pub from_one : 1 ≤ g
  pub within : g ≤ length places
  pub small : slice_index_or places (g - 1) 0 < 1000000

-- nothing of a trail is told that begins at these places
abbrev pub untold : List ℕ → Told
untold places = record { entries = 0; places = places }

-- the places once the next change of a feeder is told, if it has one
abbrev pub places_after : List ℕ → ℕ → Option (ℕ × ℤ) → List ℕ
places_after places g None = places
places_after places g (Some change) = set places (g - 1) (slice_index_or places (g - 1) 0 + 1)

-- how far the monitor is told once its next entry is, a direct answer with what it answers
abbrev pub told_after : LogSet → ℕ → Told → Option Entry → Told
told_after logs mon told None = told
told_after logs mon told (Some (Raised g)) = record {
  entries = told.entries + 1;
  places = places_after told.places g.0 (change_at logs mon g.0 told.places);
}
told_after logs mon told (Some (Took frame)) = record told { entries = told.entries + (if wants_answer frame then 2 else 1) }
told_after logs mon told (Some (Sent frame)) = record told { entries = told.entries + 1 }
