-- What follows from how the inputs of single commands are loaded.
use Rattle.std.specs.Prelude.{ℕ, ◌≡◌, List, Result, Err}
use Rattle.tk_trace.specs.Checked.{Faults}
use Rattle.tk_verify.specs.declared.trace_fault.TraceFault.{TraceFault}
use Rattle.tk_words.specs.Words.{MultiWords}
use Rattle.tk_load.specs.Reads.{FileReads, Meets}
use Rattle.tk_load.specs.Told.{AreTold, IsTold}
use Rattle.tk_load.specs.declared.status.Status.{Status}
use Rattle.tk_load.specs.declared.status.Status.TheVariants.{NoMemory}
use Rattle.tk_commands.specs.MultiInput.{LoadsMulti, given_by, multi_input_of}
use Rattle.tk_commands.specs.Told.{multi_files_of, multi_read_by}
use Rattle.tk_commands.specs.Traced.{LoadsTrace}
use Rattle.tk_commands.specs.declared.multi.MultiInput.{MultiInput}

-- where the files of the words of several queries tell what they hold and no read of them failed, the answer is what is meant by
-- the words and the contents, or its first fault
abbrev pub WhatIsToldOfQueriesIsMeant : Type 0
WhatIsToldOfQueriesIsMeant =
    (reads : FileReads) (contents : List ℕ → List ℕ) (words : MultiWords) (answer : Result MultiInput Status)
    → AreTold reads contents (multi_files_of words) → LoadsMulti reads words answer
    → Meets given_by (multi_input_of (multi_read_by contents words)) answer

-- where a file tells some bytes with which nothing is wrong, their trace is the answer, or no memory was found
abbrev pub RightTraceIsRead : Type 0
RightTraceIsRead =
    (reads : FileReads) (name bytes : List ℕ) (status : Status)
    → IsTold reads name bytes → ((fault : TraceFault) → Faults bytes fault → ⊥)
    → LoadsTrace reads name (Err status) → status ≡ NoMemory
