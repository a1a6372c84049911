-- What follows from how words end.
use Rattle.std.specs.Prelude.{ℕ, ◌≡◌, true, List, Option, Some, is_ok}
use Rattle.tk_words.specs.Words.{LiveWords, words_of}
use Rattle.tk_load.specs.Input.{input_of}
use Rattle.tk_load.specs.Told.{AreTold, files_of, read_by}
use Rattle.tk_load.specs.declared.status.Status.{Status}
use Rattle.tk_load.specs.declared.status.Status.TheVariants as s
use Rattle.tk_story.specs.declared.ends.Ends.{Ends}
use Rattle.tk_live.specs.Lived.{TellsEnds}
use Rattle.tk_live.specs.Serving.{EndsWords, served}
use Rattle.tk_live.specs.Traffic.{LiveSurroundings}
use Rattle.tk_live.specs.declared.outcome.LiveOutcome.{LiveOutcome}

-- the files of a live run tell what they hold, no read of them failed, and with the words they give an input
pub record GivesInput (met : LiveSurroundings) (contents : List ℕ → List ℕ) (asked : LiveWords) : Type 0 where
  pub told : AreTold met.reads contents (files_of asked.sources)
  pub meant : is_ok (input_of (read_by contents asked.sources)) ≡ true

-- a live run is done, its ends show a first difference, or no memory was found
abbrev pub IsLived : Status → Option Ends → Type 0
IsLived s.Done ends = Unit
IsLived s.NoMemory ends = Unit
IsLived (s.LinkDiffers difference) ends = TellsEnds (s.LinkDiffers difference) ends
IsLived s.Usage ends = ⊥
IsLived (s.ReadFault file) ends = ⊥
IsLived (s.BadInput file line kind) ends = ⊥
IsLived (s.TooGreat mon obj) ends = ⊥
IsLived s.WriteFault ends = ⊥
IsLived s.LinkFault ends = ⊥
IsLived (s.BadTrace file fault) ends = ⊥

-- where words and what their files tell give an input, no link or net failed and the output was written, the live run is
-- done, its ends show a first difference, or no memory was found
abbrev pub InputIsLived : Type 0
InputIsLived =
    (words : List (List ℕ)) (asked : LiveWords) (met : LiveSurroundings) (contents : List ℕ → List ℕ) (outcome : LiveOutcome)
    → served (words_of words) ≡ Some asked → GivesInput met contents asked
    → (outcome.status ≡ s.LinkFault → ⊥) → (outcome.status ≡ s.WriteFault → ⊥)
    → EndsWords words met outcome → IsLived outcome.status outcome.ends
