-- How the words of a live run end, from what reading them and their files gave.
use Rattle.std.proofs.Common.{◌≡◌, ℕ, List, Option, Some, None, Err, Ok, refl, sym, subst, inl, inr}
use Rattle.tk_words.specs.Words.{LiveWords, words_of}
use Rattle.tk_load.specs.Reads.{FileReads, Loads}
use Rattle.tk_load.specs.declared.input.Input.{Input}
use Rattle.tk_load.specs.declared.status.Status.{Status}
use Rattle.tk_live.specs.Lived.{Concludes}
use Rattle.tk_live.specs.Serving.{EndsWords, GivesNone, served}
use Rattle.tk_live.specs.Serving.EndsWords.{Ran, Refused, Unmet, Unread}
use Rattle.tk_live.specs.Traffic.{LiveSurroundings, traffic_of}
use Rattle.tk_live.specs.declared.outcome.LiveOutcome.{LiveOutcome}

-- words that give none
pub none : {words : List (List ℕ)} {reads : FileReads} {before : Option (List ℕ)} {taken : ℕ} (status : Status) (outcome : LiveOutcome) → GivesNone words status
    → outcome ≡ record { status = status; story = None; ends = None } → EndsWords words (record { reads = reads; traffic = traffic_of before before taken taken }) outcome
none {words} {reads} {before} {taken} status outcome gives made =
    subst (EndsWords words (record { reads = reads; traffic = traffic_of before before taken taken })) (sym made) (elim gives [
      | inl memory ↦ Unmet memory (record { story = refl; ends = refl; unwritten = refl; untaken = refl })
      | inr usage ↦ Refused usage.0 usage.1 (record { story = refl; ends = refl; unwritten = refl; untaken = refl })
    ])

-- an input that has run
pub ran : {words : List (List ℕ)} {met : LiveSurroundings} (asked : LiveWords) (input : Input) (outcome : LiveOutcome)
    → served (words_of words) ≡ Some asked → Loads met.reads asked.sources (Ok input) → Concludes input asked.frames met.traffic outcome → EndsWords words met outcome
ran asked input outcome is loads concludes = Ran asked input is loads concludes

-- files that give no input
pub unread : {words : List (List ℕ)} {reads : FileReads} {before : Option (List ℕ)} {taken : ℕ} (asked : LiveWords) (status : Status) (outcome : LiveOutcome)
    → served (words_of words) ≡ Some asked → Loads reads asked.sources (Err status)
    → outcome ≡ record { status = status; story = None; ends = None } → EndsWords words (record { reads = reads; traffic = traffic_of before before taken taken }) outcome
unread {words} {reads} {before} {taken} asked status outcome is loads made =
    subst (EndsWords words (record { reads = reads; traffic = traffic_of before before taken taken })) (sym made) (Unread asked is loads (record { story = refl; ends = refl; unwritten = refl; untaken = refl }))
