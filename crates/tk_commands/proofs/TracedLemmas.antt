-- What reading a file gave, and the trace that it holds.
use Rattle.std.proofs.Common.{◌≡◌, ℕ, List, Result, Ok, Err, false, nat_lt, if◌then◌else◌, length, refl, ap, subst, ◌∙◌}
use Rattle.std.proofs.lemmas.Bool.{le-ltb}
use Rattle.tk_trace.specs.Checked.{Faults}
use Rattle.tk_verify.specs.declared.trace_fault.TraceFault.{TraceFault}
use Rattle.tk_load.specs.Faults.{Fault, bad_file}
use Rattle.tk_load.specs.Input.{bytes_from}
use Rattle.tk_load.specs.Reads.{FileReads, Tells}
use Rattle.tk_load.specs.Told.{IsTold}
use Rattle.tk_commands.specs.Traced.{LoadsTrace, TellsWrong, TracesRead}
use Rattle.tk_load.specs.declared.status.InputKind.TheVariants.{TooLong}
use Rattle.tk_load.specs.declared.status.Status.{Status}
use Rattle.tk_load.specs.declared.status.Status.TheVariants as s
use Rattle.tk_load.proofs.ToldLemmas.{gave_all}

-- a file that was not read has no trace
pub unread : (name : List ℕ) (status : Status) (meant : Result (List ℕ) Fault) → Tells status meant → TracesRead name meant (Err status)
unread name (s.ReadFault file) (Ok bytes) tells = absurd (cc (tells))
unread name (s.ReadFault file) (Err fault) tells = cc (tells)
unread name (s.BadInput file line kind) (Ok bytes) tells = absurd (cc (tells))
unread name (s.BadInput file line kind) (Err fault) tells = cc (tells)
unread name (s.TooGreat mon obj) (Ok bytes) tells = absurd (cc (tells))
unread name (s.TooGreat mon obj) (Err fault) tells = cc (tells)
unread name s.NoMemory (Ok bytes) tells = tt
unread name s.NoMemory (Err fault) tells = tt
unread name s.Done meant tells = absurd tells
unread name s.Usage meant tells = absurd tells
unread name s.WriteFault meant tells = absurd tells
unread name s.LinkFault meant tells = absurd tells
unread name (s.LinkDiffers difference) meant tells = absurd tells
unread name (s.BadTrace file fault) meant tells = absurd tells

-- of bytes with which nothing is wrong only want of memory is told
none_told : (name bytes : List ℕ) (status : Status) → ((fault : TraceFault) → Faults bytes fault → ⊥) → TellsWrong name bytes status → status ≡ s.NoMemory
none_told name bytes (s.BadTrace file fault) right wrong = absurd (right fault wrong.1)
none_told name bytes s.NoMemory right wrong = refl
none_told name bytes s.Done right wrong = absurd wrong
none_told name bytes s.Usage right wrong = absurd wrong
none_told name bytes (s.ReadFault file) right wrong = absurd wrong
none_told name bytes (s.BadInput file line kind) right wrong = absurd wrong
none_told name bytes (s.TooGreat mon obj) right wrong = absurd wrong
none_told name bytes s.WriteFault right wrong = absurd wrong
none_told name bytes s.LinkFault right wrong = absurd wrong
none_told name bytes (s.LinkDiffers difference) right wrong = absurd wrong

pub right_is_read : (reads : FileReads) (name bytes : List ℕ) (status : Status) → IsTold reads name bytes
    → ((fault : TraceFault) → Faults bytes fault → ⊥) → LoadsTrace reads name (Err status) → status ≡ s.NoMemory
right_is_read reads name bytes status told right loads =
    let content = gave_all (reads.told name) (reads.failed name) (reads.failed_then name) (reads.longest name) bytes loads.content told.content told.unfailed loads.read in
    let whole : nat_lt 67108864 (length bytes) ≡ false = le-ltb 67108864 (length bytes) told.fits in
    let meant : bytes_from name loads.content ≡ Ok bytes =
    ap (bytes_from name) content ∙ ap (λ long. if long then Err (bad_file name TooLong) else Ok bytes) whole in
    none_told name bytes status right (subst (λ (m : Result (List ℕ) Fault). TracesRead name m (Err status)) meant loads.traces)
