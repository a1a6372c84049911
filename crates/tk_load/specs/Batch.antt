-- Logs whose files were read, and what parsing them gives; no public clause cites it.
use Rattle.std.specs.Prelude.{ℕ, ◌≡◌, ◌<◌, ◌≤◌, List, length, get_or, All, Option, Result, Ok, Err, IfOk, IfErr, true, is_ok}
use Rattle.std.specs.Borrow.{Bor}
use Rattle.std.specs.Global.{Vec}
use Rattle.tk_base.specs.declared.ids.Mon.{Mon}
use Rattle.tk_window.specs.Expanded.{expansion_of}
use Rattle.tk_window.specs.Ticks.{AreOver}
use Rattle.tk_window.specs.declared.expanded.Expanded.{Expanded}
use Rattle.tk_load.specs.Input.{bytes_in, changes_in, log_from}
use Rattle.tk_load.specs.Reads.{FailedAtMostOnce, FailsAsTold, FileReads, Meets, NoneFailed, Reads}
use Rattle.tk_load.specs.declared.batch.Unparsed.{Unparsed}
use Rattle.tk_load.specs.declared.status.Status.{Status}

-- each of some values belongs to the one of others at its place
abbrev pub EachAt : {X Y : Type 0} → (X → Y → Type 0) → List X → List Y → Type 0
EachAt {X} {Y} R xs ys = (i : ℕ) (d : X) (e : Y) → i < length ys → R (get_or xs i d) (get_or ys i e)

-- the file of a word was read, and this is what it gave
pub record IsReadAs (reads : FileReads) (word : Mon × Bor (List ℕ)) (log : Unparsed) : Type 0 where
  pub named : log.file.now ≡ word.1.now
  pub read : Reads reads word.1.now (λ v. v.items) bytes_in log.content

-- what comes of the bytes of a log, or of the fault of reading it
abbrev pub Parses : Option ℕ → List (List ℕ) → List ℕ → Result (Vec ℕ) Status → Result Expanded Status → Type 0
Parses width names name (Ok bytes) log = Meets expansion_of (log_from width names name bytes.items) log
Parses width names name (Err status) log = log ≡ Err status

-- a log is over so many objects, and not too long
pub record IsOver (objects : ℕ) (log : Expanded) : Type 0 where
  pub over : AreOver objects log.part
  pub most : length log.part ≤ 1000000

-- what was read is parsed
pub record IsParsed (width : Option ℕ) (names : List (List ℕ)) (from : Unparsed) (log : Result Expanded Status) : Type 0 where
  pub parses : Parses width names from.file.now from.content log
  pub over : IfOk log (IsOver (length names))

-- the file of a word was read, and parsed
pub record IsLogOf (reads : FileReads) (width : Option ℕ) (names : List (List ℕ)) (word : Mon × Bor (List ℕ)) (log : Result Expanded Status) : Type 0 where
  pub read : Reads reads word.1.now expansion_of (changes_in width names) log
  pub over : IfOk log (IsOver (length names))

-- of what the reads of some files gave, one that failed is told; where each gave something none failed
pub record AreCounted {X A : Type 0} (reads : FileReads) (answer : X → Result A Status) (all : List X) : Type 0 where
  pub each : All (λ x. IfErr (answer x) (FailsAsTold reads)) all
  pub most : FailedAtMostOnce reads
  pub none : All (λ x. is_ok (answer x) ≡ true) all → NoneFailed reads
