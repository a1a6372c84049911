-- What a finished run has printed: lines of sets, each of them that of a publication, which is valid at the cut on its line.
use Rattle.std.specs.Prelude.{ℕ, ◌≡◌, List, [], ◌∷◌, ◌++◌, All, codes, Option, Some, None, IfSome, Ok}
use Rattle.std.specs.List.{concat, list_any}
use Rattle.tk_input.specs.Sink.{Grows}
use Rattle.tk_journal.specs.Line.{line_text}
use Rattle.tk_journal.specs.declared.noted.Noted.{Noted}
use Rattle.tk_journal.specs.declared.noted.Noted.TheVariants as n
use Rattle.tk_journal.specs.declared.publication.Publication.{Publication}
use Rattle.tk_ledger.specs.Ledger.{ledger_of}
use Rattle.tk_ledger.specs.Text.{is_tuned, ledger_text, ticks_text}
use Rattle.tk_load.specs.Reads.{Loads}
use Rattle.tk_load.specs.Surroundings.{Output, Surroundings}
use Rattle.tk_commands.specs.Traced.{LoadsTrace}
use Rattle.tk_load.specs.declared.input.Input.{Input}
use Rattle.tk_story.specs.Kept.{KeptStory}
use Rattle.tk_story.specs.Moments.{IsPublishedValid}
use Rattle.tk_story.specs.Story.{StoryView}
use Rattle.tk_trace.specs.declared.trace.Trace.{Trace}
use Rattle.tk_story.specs.Headline.{IsSound}
use Rattle.tk_window.specs.TickEnds.{ticks_at}
use Rattle.tk_words.specs.Words.{ReplayWords, words_of}
use Rattle.tk_words.specs.Words.Asked.{Checks, Replays}
use Rattle.tk_run.specs.Ends.{IsOne, RunsWords}
use Rattle.tk_run.specs.declared.outcome.Outcome.{Outcome}

-- what stands behind the line of a set: at which ticks its places stand, where a window goes over the logs
abbrev pub ticks_behind : Option (List (List (List ℕ))) → List (List ℕ) → List ℕ
ticks_behind None cut = []
ticks_behind (Some ends) cut = ticks_text (ticks_at ends cut)

-- a line is that of a publication of a story, over these names, and its set is valid at the cut on the line, with the k and epsilon in
-- force there
pub record TellsAValidSet (ends : Option (List (List (List ℕ)))) (names : List (List ℕ)) (s : StoryView) (line : List ℕ) : Type 0 where
  pub before : List Noted
  pub publication : Publication
  pub after : List Noted
  pub stands : s.journal ≡ before ++ n.Published publication ∷ after
  pub line_is : line ≡ line_text names (list_any is_tuned before) publication ++ ticks_behind ends publication.cut
  pub valid : IsPublishedValid s publication

-- lines were written, each of which tells a valid set of a story, and then the rest
pub record PrintsValidSets (ends : Option (List (List (List ℕ)))) (names : List (List ℕ)) (s : StoryView) (rest : List ℕ) (output : Output) : Type 0 where
  pub lines : List (List ℕ)
  pub each : All (TellsAValidSet ends names s) lines
  pub written : Grows output.before output.after (concat lines ++ rest)

-- the ledger of a story
abbrev pub ledger_behind : StoryView → List ℕ
ledger_behind s = ledger_text (ledger_of s.settings s.journal)

-- the words and their files give an input, and over its names and ticks valid sets of a story were printed, and its ledger
pub record PrintsSetsOf (gives : Input → Type 0) (output : Output) (kept : KeptStory) : Type 0 where
  pub input : Input
  pub given : gives input
  pub printed : PrintsValidSets input.ends input.names kept.story (ledger_behind kept.story) output

-- the same of a trace that a file gives
pub record PrintsSetsIn (gives : Trace → Type 0) (output : Output) (kept : KeptStory) : Type 0 where
  pub trace : Trace
  pub given : gives trace
  pub told : kept ≡ trace.story
  pub printed : PrintsValidSets None trace.names kept.story (codes "yes\n") output

-- each line of sets that a replay, or a window, has printed tells a valid set of the story that it answers
abbrev pub ReplayPrintsValidSets : Type 0
ReplayPrintsValidSets =
    (words : List (List ℕ)) (asked : ReplayWords) (met : Surroundings) (outcome : Outcome)
    → words_of words ≡ Some (Replays asked) → RunsWords words met outcome → IfSome outcome.story (λ kept. IsSound kept.story)
    → IsOne (PrintsSetsOf (λ input. Loads met.reads asked.sources (Ok input)) met.output) outcome

-- so does each that a check has printed
abbrev pub CheckPrintsValidSets : Type 0
CheckPrintsValidSets =
    (words : List (List ℕ)) (file : List ℕ) (met : Surroundings) (outcome : Outcome)
    → words_of words ≡ Some (Checks file) → RunsWords words met outcome → IfSome outcome.story (λ kept. IsSound kept.story)
    → IsOne (PrintsSetsIn (λ trace. LoadsTrace met.reads file (Ok trace)) met.output) outcome
