-- The printed text of a story, in bytes: the lines of its publications, and those of its ledger.
use Rattle.std.specs.Prelude.{ℕ, ◌++◌, Bool, true, false, List, [], length, flat_map, sum_by, codes, decimal, unwrap_or, Option, Some, None}
use Rattle.std.specs.List.{concat, cons_option, enumerate_from, list_any}
use Rattle.tk_base.specs.History.{last_of}
use Rattle.tk_journal.specs.Line.{cut_text, line_text}
use Rattle.tk_journal.specs.Walks.{walk}
use Rattle.tk_journal.specs.declared.noted.Noted.{Noted}
use Rattle.tk_journal.specs.declared.noted.Noted.TheVariants as n
use Rattle.tk_frames.specs.declared.kind.Kind.TheVariants as k
use Rattle.tk_story.specs.Story.{StoryView}
use Rattle.tk_window.specs.TickEnds.{ticks_at}
use Rattle.tk_ledger.specs.Counting.{count_of}
use Rattle.tk_ledger.specs.Ledger.{ledger_of}
use Rattle.tk_ledger.specs.declared.counts.Counts.{Counts}
use Rattle.tk_ledger.specs.declared.ledger.Ledger.{Ledger}

-- ---- publications

-- whether an entry is a retune
abbrev pub is_tuned : Noted → Bool
is_tuned (n.Got from frame) = false
is_tuned (n.Sent to frame) = false
is_tuned (n.Published publication) = false
is_tuned (n.Tuned k epsilon) = true

-- the line of an entry that is a publication; in a journal that was tuned it says k and epsilon
abbrev pub line_at : List (List ℕ) → Bool → Noted → Option (List ℕ)
line_at names tuned (n.Got from frame) = None
line_at names tuned (n.Sent to frame) = None
line_at names tuned (n.Published publication) = Some (line_text names tuned publication)
line_at names tuned (n.Tuned k epsilon) = None

-- the same as a list, tuned where a retune stands before the entry
abbrev pub lines_in : List (List ℕ) → List Noted → Noted → List (List ℕ)
lines_in names before e = cons_option (line_at names (list_any is_tuned before) e) []

-- the lines of the publications, in order
unfoldable pub lines_of : List (List ℕ) → List Noted → List (List ℕ)
lines_of names journal = walk (λ before lines e. lines ++ lines_in names before e) [] [] journal

-- the lines that are formed so of some entries, each with whether a retune stands before it
abbrev pub lines_by : (Bool → Noted → Option (List ℕ)) → List Noted → List (List ℕ)
lines_by line journal = walk (λ before lines e. lines ++ cons_option (line (list_any is_tuned before) e) []) [] [] journal

-- ---- publications of a run over windows

-- the line behind a publication: at which ticks its places stand, where one ends at each
abbrev pub ticks_text : Option (List (List ℕ)) → List ℕ
ticks_text None = []
ticks_text (Some ticks) = codes "ticks" ++ cut_text ticks ++ codes "\n"

-- the lines of an entry that is a publication, over logs whose ticks end so
abbrev pub ticked_at : List (List (List ℕ)) → List (List ℕ) → Bool → Noted → Option (List ℕ)
ticked_at ends names tuned (n.Got from frame) = None
ticked_at ends names tuned (n.Sent to frame) = None
ticked_at ends names tuned (n.Published publication) = Some (line_text names tuned publication ++ ticks_text (ticks_at ends publication.cut))
ticked_at ends names tuned (n.Tuned k epsilon) = None

-- with ticks or without
abbrev pub line_with : Option (List (List (List ℕ))) → List (List ℕ) → Bool → Noted → Option (List ℕ)
line_with None names = line_at names
line_with (Some ends) names = ticked_at ends names

-- the lines of the publications as one text
abbrev pub text_by : Option (List (List (List ℕ))) → List (List ℕ) → List Noted → List ℕ
text_by ends names journal = concat (lines_by (line_with ends names) journal)

-- ---- the ledger

-- a count of each kind, to the end of the line
abbrev pub counts_text : Counts → List ℕ
counts_text counts =
    codes " assign " ++ decimal counts.assign
    ++ codes " report " ++ decimal counts.report
    ++ codes " collect " ++ decimal counts.collect
    ++ codes " values " ++ decimal counts.values
    ++ codes " settled " ++ decimal counts.settled
    ++ codes " stop " ++ decimal counts.stop
    ++ codes "\n"

-- the counts of all monitors together
abbrev pub whole : List Counts → Counts
whole per = record {
  assign = sum_by (count_of k.Assign) per;
  report = sum_by (count_of k.Report) per;
  collect = sum_by (count_of k.Collect) per;
  values = sum_by (count_of k.Values) per;
  settled = sum_by (count_of k.Settled) per;
  stop = sum_by (count_of k.Stop) per;
}

-- the line of the frames: how many of each kind went over all links
abbrev pub frames_text : Ledger → List ℕ
frames_text ledger = codes "frames" ++ counts_text (whole ledger.per)

-- the line of the rounds: how many were short, full and wide, and how many frames were stale
abbrev pub rounds_text : Ledger → List ℕ
rounds_text ledger =
    codes "rounds short " ++ decimal ledger.short
    ++ codes " full " ++ decimal ledger.full
    ++ codes " wide " ++ decimal ledger.wide
    ++ codes " stale " ++ decimal ledger.stale
    ++ codes "\n"

-- the line of the bytes: how many all frames have in version 1
abbrev pub bytes_text : Ledger → List ℕ
bytes_text ledger = codes "bytes " ++ decimal ledger.bytes ++ codes "\n"

-- how many publications there are
abbrev pub publications_text : ℕ → List ℕ
publications_text count = codes "publications " ++ decimal count ++ codes "\n"

-- the line of a monitor
abbrev pub monitor_text : ℕ → Counts → List ℕ
monitor_text mon counts = codes "monitor " ++ decimal mon ++ counts_text counts

-- the three lines over all monitors
abbrev pub totals_text : Ledger → List ℕ
totals_text ledger = frames_text ledger ++ (rounds_text ledger ++ bytes_text ledger)

-- the lines of the monitors, ascending
abbrev pub monitors_text : List Counts → List ℕ
monitors_text per = flat_map (λ p. monitor_text p.0 p.1) (enumerate_from 1 per)

-- all lines of a ledger
abbrev pub ledger_text : Ledger → List ℕ
ledger_text ledger = totals_text ledger ++ monitors_text ledger.per

-- ---- stories

-- the lines of its publications
abbrev pub sets_text : List (List ℕ) → StoryView → List ℕ
sets_text names s = concat (lines_of names s.journal)

-- the text of a story: the lines of its publications, then those of its ledger
unfoldable pub text_of : List (List ℕ) → StoryView → List ℕ
text_of names s = sets_text names s ++ ledger_text (ledger_of s.settings s.journal)

-- the same of a run over windows, where each publication is followed by its ticks
unfoldable pub ticked_text_of : List (List (List ℕ)) → List (List ℕ) → StoryView → List ℕ
ticked_text_of ends names s = concat (lines_by (ticked_at ends names) s.journal) ++ ledger_text (ledger_of s.settings s.journal)

-- the summary of a story: how many publications there are, the line of the last of them, and the first three
-- lines of its ledger
unfoldable pub summary_of : List (List ℕ) → StoryView → List ℕ
summary_of names s =
    publications_text (length (lines_of names s.journal))
    ++ (unwrap_or (last_of (lines_of names s.journal)) [] ++ totals_text (ledger_of s.settings s.journal))
