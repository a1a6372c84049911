-- How far a coordinator is told, and the next turn of its journal.
use Rattle.std.specs.Prelude.{ℕ, ◌+◌, Bool, true, false, if◌then◌else◌, List, [], ◌∷◌, ◌++◌, drop, slice_get, codes, decimal, Option, Some, None}
use Rattle.std.specs.Fmt.{signed_decimal}
use Rattle.tk_journal.specs.Legal.{is_input}
use Rattle.tk_journal.specs.Line.{bounds_text, cut_text, kind_text}
use Rattle.tk_journal.specs.declared.noted.Noted.{Noted}
use Rattle.tk_journal.specs.declared.noted.Noted.TheVariants as n
use Rattle.tk_journal.specs.declared.publication.Publication.{Publication}
use Rattle.tk_journal.specs.declared.turn.Turn.{Turn}
use Rattle.tk_journal.specs.declared.turn.TurnKind.{TurnKind}
use Rattle.tk_journal.specs.declared.turn.TurnKind.TheVariants.{Tune, Stale, Note, Short, Wide, Full, End}
use Rattle.tk_show.specs.declared.turned.Turned.{Turned}
use Rattle.tk_show.specs.Frames.{frame_text, objects_text}

-- the number of a publication, and its k and epsilon
abbrev pub published_title : Publication → List ℕ
published_title p = codes "; " ++ kind_text p.last ++ decimal p.number ++ bounds_text true p

-- its members, and the cut at which they hold
abbrev pub members_text : List (List ℕ) → Publication → List ℕ
members_text names p = codes " cut" ++ cut_text p.cut ++ codes " members" ++ objects_text names p.members

-- a publication
abbrev pub published_text : List (List ℕ) → Publication → List ℕ
published_text names p = published_title p ++ members_text names p

-- what a turn sends or publishes
abbrev pub noted_text : List (List ℕ) → Noted → List ℕ
noted_text names (n.Got from frame) = []
noted_text names (n.Sent to frame) = codes "; to " ++ decimal to.0 ++ codes " " ++ frame_text names frame
noted_text names (n.Published publication) = published_text names publication
noted_text names (n.Tuned k epsilon) = []

-- all that stands before the next input
abbrev pub batch_text : List (List ℕ) → List Noted → List ℕ
batch_text names [] = []
batch_text names (e ∷ rest) = if is_input e then [] else noted_text names e ++ batch_text names rest

-- how many entries that are
abbrev pub batch_length : List Noted → ℕ
batch_length [] = 0
batch_length (e ∷ rest) = if is_input e then 0 else 1 + batch_length rest

-- what a turn begins with: a taken frame, or a retune
abbrev pub input_text : List (List ℕ) → Noted → List ℕ
input_text names (n.Got from frame) = codes "up " ++ decimal from.0 ++ codes ": " ++ frame_text names frame
input_text names (n.Sent to frame) = []
input_text names (n.Published publication) = []
input_text names (n.Tuned k epsilon) = codes "retune k " ++ decimal k ++ codes " epsilon " ++ signed_decimal epsilon

-- what a turn does to the rounds, but that it opens a wide one
abbrev pub round_text : TurnKind → List ℕ
round_text Tune = []
round_text Stale = codes "; stale"
round_text Note = []
round_text Short = codes "; short round"
round_text Wide = []
round_text Full = codes "; full round"
round_text End = codes "; round ends"

-- a text that stands where something holds
abbrev pub text_if : Bool → List ℕ → List ℕ
text_if false text = []
text_if true text = text

-- the kind of a turn: whether the short test failed, and which round it opened or ended
abbrev pub turn_text : Option Turn → List ℕ
turn_text None = []
turn_text (Some turn) = text_if turn.fails (codes "; short test fails") ++ round_text turn.kind ++ text_if turn.widens (codes "; wide round")

-- what the coordinator does next: a turn, with its kind and all that it sends
abbrev pub turned_text : List (List ℕ) → List Noted → List Turn → Turned → Option Noted → List ℕ
turned_text names journal turns turned None = []
turned_text names journal turns turned (Some input) =
    input_text names input ++ turn_text (slice_get turns turned.turns) ++ batch_text names (drop (turned.entries + 1) journal)

-- how many turns are told once the next one is, if there is one
abbrev pub turns_after : ℕ → Option Turn → ℕ
turns_after told None = told
turns_after told (Some turn) = told + 1

-- how far it is told then
abbrev pub turned_after : List Noted → List Turn → Turned → Option Noted → Turned
turned_after journal turns turned None = turned
turned_after journal turns turned (Some input) = record {
  entries = turned.entries + 1 + batch_length (drop (turned.entries + 1) journal);
  turns = turns_after turned.turns (slice_get turns turned.turns);
}
