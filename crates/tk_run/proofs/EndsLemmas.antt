-- How runs end.
use Rattle.std.proofs.Common.{◌≡◌, ℕ, List, Some, Result, Ok, subst}
use Rattle.tk_input.specs.Sink.{Grows, GrowsByFront}
use Rattle.tk_load.specs.declared.status.Status.{Status}
use Rattle.tk_load.specs.declared.status.Status.TheVariants as s
use Rattle.tk_words.specs.Words.{Asked, words_of}
use Rattle.tk_run.specs.Ends.{HasRun, IsCutShort, IsDone, IsRefused, served}
use Rattle.tk_load.specs.Surroundings.{Output}

module _ {I S : Type 0} (gives : Result I Status → Type 0) (IsOf : I → S → Type 0) (text : I → S → List ℕ) where
  module _ (output : Output) (input : I) (given : gives (Ok input)) (made : S) (story : IsOf input made) (bytes : List ℕ) (same : bytes ≡ text input made) where
    pub has_run : Grows output.before output.after bytes → HasRun gives IsOf text output made
    has_run grows = record { input = input; given = given; story = story; written = subst (λ (b : List ℕ). Grows output.before output.after b) same grows }

    pub cut_short : GrowsByFront output.before output.after bytes → IsCutShort gives IsOf text output
    cut_short grows = record { input = input; given = given; made = made; story = story; written = subst (λ (b : List ℕ). GrowsByFront output.before output.after b) same grows }

-- words that are served are not refused
pub not_refused : (words : List (List ℕ)) (asked : Asked) (status : Status) → served (words_of words) ≡ Some asked → IsRefused words status → IsDone status
not_refused words asked s.Usage some none = absurd (cc (none, some))
not_refused words asked s.NoMemory some none = tt
not_refused words asked s.Done some none = absurd none
not_refused words asked (s.ReadFault file) some none = absurd none
not_refused words asked (s.BadInput file line kind) some none = absurd none
not_refused words asked (s.TooGreat mon obj) some none = absurd none
not_refused words asked s.WriteFault some none = absurd none
not_refused words asked s.LinkFault some none = absurd none
not_refused words asked (s.LinkDiffers difference) some none = absurd none
not_refused words asked (s.BadTrace file fault) some none = absurd none
