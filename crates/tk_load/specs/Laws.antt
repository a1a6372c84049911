-- What follows from how an input is loaded.
use Rattle.std.specs.Prelude.{ℕ, ℤ, ◌≡◌, List, Some, Result, Ok, Err}
use Rattle.tk_input.specs.Logs.{IsValid}
use Rattle.tk_window.specs.TickEnds.{ticks_at}
use Rattle.tk_window.specs.Validity.{IsWindowValid}
use Rattle.tk_words.specs.Words.{SourceWords}
use Rattle.tk_load.specs.Faults.{Fault}
use Rattle.tk_load.specs.Input.{ReadWords, input_of}
use Rattle.tk_load.specs.Reads.{FileReads, LoadsBy, Meets}
use Rattle.tk_load.specs.Told.{AreTold, files_of, read_by}
use Rattle.tk_load.specs.Windowed.{IsWindowedOver, ticked_rows}
use Rattle.tk_load.specs.declared.input.Input.{Input}
use Rattle.tk_load.specs.declared.status.Status.{Status}

-- where the files of some words tell what they hold and no read of them failed, the answer is what is meant by the words
-- and the contents, or its first fault
abbrev pub WhatIsToldIsMeant : {A : Type 0} → (ReadWords → Result A Fault) → Type 0
WhatIsToldIsMeant {A} meant =
    (reads : FileReads) (contents : List ℕ → List ℕ) (words : SourceWords) (answer : Result A Status)
    → AreTold reads contents (files_of words) → LoadsBy meant reads words answer → Meets (λ input. input) (meant (read_by contents words)) answer

-- the window that the words ask for goes over the logs of their input
abbrev pub WindowGoesOverTheLogs : Type 0
WindowGoesOverTheLogs =
    (words : ReadWords) (width : ℕ) (input : Input)
    → words.width ≡ Some width → input_of words ≡ Ok input → IsWindowedOver width words input

-- so a set that is valid over the input's logs, at a cut where ticks end by the input's ends, is valid for the windows
abbrev pub ValidSetIsValidForItsWindows : Type 0
ValidSetIsValidForItsWindows =
    (words : ReadWords) (width k : ℕ) (epsilon : ℤ) (input : Input)
    (ends : List (List (List ℕ))) (cut ticks : List (List ℕ)) (set : List ℕ)
    → IsWindowedOver width words input → input.ends ≡ Some ends → ticks_at ends cut ≡ Some ticks
    → IsValid input.logs.logs input.settings.objects k epsilon cut set
    → IsWindowValid width (ticked_rows input.names words.logs) input.settings.objects k epsilon ticks set
