-- What reading the files of some words gave, and what is then answered.
use Rattle.std.specs.Prelude.{ℕ, ◌≡◌, ◌≢◌, ◌<◌, ◌≤◌, ◌⊎◌, List, map, Option, Some, None, option_map, IfSome, All, length, Result, Ok, Err}
use Rattle.std.specs.Borrow.{Bor}
use Rattle.tk_input.specs.Files.{HasRisen, one_more}
use Rattle.tk_input.specs.declared.files.Files.{Ghosts as FilesOf}
use Rattle.tk_words.specs.Words.{SourceWords}
use Rattle.tk_load.specs.Faults.{Fault}
use Rattle.tk_load.specs.Faults.Fault.{Bad, Great, Unread}
use Rattle.tk_load.specs.Input.{File, ReadWords, basis_of, input_of}
use Rattle.tk_load.specs.declared.basis.Basis.{Basis}
use Rattle.tk_load.specs.declared.input.Input.{Input}
use Rattle.tk_load.specs.declared.status.Status.{Status}
use Rattle.tk_load.specs.declared.status.Status.TheVariants as s

-- what some files tell, how many reads of each name have failed before a call and after it, and the most bytes that one
-- read of it has taken by then
pub record FileReads : Type 0 where
  pub told : List ℕ → Option (List ℕ)
  pub failed : List ℕ → ℕ
  pub failed_then : List ℕ → ℕ
  pub longest : List ℕ → ℕ

-- the same of files that were in one state before the call, and are in another after it
abbrev pub reads_by : {F : Type 0} → FilesOf F → F → F → FileReads
reads_by files old new = record {
  told = files.content old;
  failed = files.fault_count old;
  failed_then = files.fault_count new;
  longest = files.most_taken new;
}

-- the failed reads of a name have become more
abbrev pub HasFailed : FileReads → List ℕ → Type 0
HasFailed reads name = HasRisen (reads.failed name) (reads.failed_then name)

-- the name of a file, where there is one
abbrev pub name_in : Option (Bor (List ℕ)) → Option (List ℕ)
name_in file = option_map (λ s. s.now) file

-- a log as the words name it: its monitor and the name of its file
abbrev pub log_of : ℕ × File → ℕ × List ℕ
log_of log = (log.0, log.1.name)

-- the words themselves
abbrev pub words_of : ReadWords → SourceWords
words_of read = record {
  k = read.k;
  epsilon = read.epsilon;
  own_weight = read.own_weight;
  objects = read.objects.name;
  order = option_map (λ file. file.name) read.order;
  width = read.width;
  logs = map log_of read.logs;
}

-- bytes are those that are told; where nothing is, they are over 64 MiB only where so many were taken
abbrev pub AreTaken : Option (List ℕ) → ℕ → List ℕ → Type 0
AreTaken (Some content) longest bytes = bytes ≡ content
AreTaken None longest bytes = 67108864 < length bytes → 67108864 < longest

-- a read gave some bytes, or it failed, and then the faults rose
abbrev pub Gave : Option (List ℕ) → ℕ → ℕ → ℕ → Option (List ℕ) → Type 0
Gave told old new longest (Some bytes) = AreTaken told longest bytes
Gave told old new longest None = HasRisen old new

-- the same of a file, by what is told and counted of its name
abbrev pub IsRead : FileReads → File → Type 0
IsRead reads file = Gave (reads.told file.name) (reads.failed file.name) (reads.failed_then file.name) (reads.longest file.name) file.content

-- each file of the words was read
pub record AreRead (reads : FileReads) (words : SourceWords) (read : ReadWords) : Type 0 where
  pub same : words_of read ≡ words
  pub objects : IsRead reads read.objects
  pub logs : All (λ log. IsRead reads log.1) read.logs
  pub order : IfSome read.order (IsRead reads)

-- a status tells the fault; want of memory is free
abbrev pub Tells : {A : Type 0} → Status → Result A Fault → Type 0
Tells (s.ReadFault file) meant = meant ≡ Err (Unread file.items)
Tells (s.BadInput file line kind) meant = meant ≡ Err (Bad file.items line kind)
Tells (s.TooGreat mon obj) meant = meant ≡ Err (Great mon obj)
Tells s.NoMemory meant = Unit
Tells s.Done meant = ⊥
Tells s.Usage meant = ⊥
Tells s.WriteFault meant = ⊥
Tells s.LinkFault meant = ⊥
Tells (s.LinkDiffers difference) meant = ⊥
Tells (s.BadTrace file fault) meant = ⊥

-- the same of a fault that there is
abbrev pub Says : Status → Fault → Type 0
Says (s.ReadFault file) fault = fault ≡ Unread file.items
Says (s.BadInput file line kind) fault = fault ≡ Bad file.items line kind
Says (s.TooGreat mon obj) fault = fault ≡ Great mon obj
Says s.NoMemory fault = Unit
Says s.Done fault = ⊥
Says s.Usage fault = ⊥
Says s.WriteFault fault = ⊥
Says s.LinkFault fault = ⊥
Says (s.LinkDiffers difference) fault = ⊥
Says (s.BadTrace file wrong) fault = ⊥

-- what is answered is what is meant, or its fault is told
abbrev pub Meets : {A V : Type 0} → (A → V) → Result V Fault → Result A Status → Type 0
Meets view meant (Ok x) = meant ≡ Ok (view x)
Meets view meant (Err status) = Tells status meant

-- a file was read, and what it gives is answered
pub record Reads {A V : Type 0} (reads : FileReads) (name : List ℕ) (view : A → V) (meant : File → Result V Fault) (answer : Result A Status) : Type 0 where
  pub content : Option (List ℕ)
  pub read : IsRead reads (record { name = name; content = content })
  pub meets : Meets view (meant (record { name = name; content = content })) answer

-- the files of the words were read, and the answer is what is meant by them, or the first rule that fails
pub record LoadsBy {A : Type 0} (meant : ReadWords → Result A Fault) (reads : FileReads) (words : SourceWords) (answer : Result A Status) : Type 0 where
  pub read : ReadWords
  pub are_read : AreRead reads words read
  pub meets : Meets (λ input. input) (meant read) answer

-- the same of an input
abbrev pub Loads : FileReads → SourceWords → Result Input Status → Type 0
Loads = LoadsBy input_of

-- the words without their order
abbrev pub without_order : SourceWords → SourceWords
without_order words = record words { order = None }

-- the files but the order's were read, and the answer is what stands in front of it, or the first rule that fails
abbrev pub LoadsBasis : FileReads → SourceWords → Result Basis Status → Type 0
LoadsBasis reads words = LoadsBy basis_of reads (without_order words)

-- logs were read one after the other, and what they give is answered
pub record ReadsLogs {A V : Type 0} (reads : FileReads) (names : List (ℕ × List ℕ)) (view : A → V) (meant : List (ℕ × File) → Result V Fault) (answer : Result A Status) : Type 0 where
  pub logs : List (ℕ × File)
  pub are_of : map log_of logs ≡ names
  pub read : All (λ log. IsRead reads log.1) logs
  pub meets : Meets view (meant logs) answer

-- an order file was read, where the words name one, and what it gives is answered
pub record ReadsOrder {A : Type 0} (reads : FileReads) (name : Option (List ℕ)) (meant : Option File → Result (Option A) Fault) (answer : Result (Option A) Status) : Type 0 where
  pub file : Option File
  pub is_of : option_map (λ f. f.name) file ≡ name
  pub read : IfSome file (IsRead reads)
  pub meets : Meets (λ order. order) (meant file) answer

-- ---- how many reads failed

-- none did
abbrev pub NoneFailed : FileReads → Type 0
NoneFailed reads = (name : List ℕ) → reads.failed_then name ≡ reads.failed name

-- one did, of this name
pub record FailedOnce (reads : FileReads) (name : List ℕ) : Type 0 where
  pub counted : reads.failed_then name ≡ one_more (reads.failed name)
  pub others : (other : List ℕ) → other ≢ name → reads.failed_then other ≡ reads.failed other

-- at most one did
abbrev pub FailedAtMostOnce : FileReads → Type 0
FailedAtMostOnce reads = NoneFailed reads ⊎ ((name : List ℕ) × FailedOnce reads name)

-- a status tells of the failed reads: none failed of a run that is done or cut short in writing; one alone failed of a file that
-- is told to be unreadable; behind another rule that fails it may be one that was made ahead
abbrev pub FailsAsTold : FileReads → Status → Type 0
FailsAsTold reads (s.ReadFault file) = FailedOnce reads file.items
FailsAsTold reads s.Done = NoneFailed reads
FailsAsTold reads s.WriteFault = NoneFailed reads
FailsAsTold reads s.Usage = FailedAtMostOnce reads
FailsAsTold reads (s.BadInput file line kind) = FailedAtMostOnce reads
FailsAsTold reads (s.TooGreat mon obj) = FailedAtMostOnce reads
FailsAsTold reads s.NoMemory = FailedAtMostOnce reads
FailsAsTold reads s.LinkFault = FailedAtMostOnce reads
FailsAsTold reads (s.LinkDiffers difference) = FailedAtMostOnce reads
FailsAsTold reads (s.BadTrace file fault) = FailedAtMostOnce reads

-- the same of an answer: none failed where there is no fault
abbrev pub Counts : {A : Type 0} → FileReads → Result A Status → Type 0
Counts reads (Ok x) = NoneFailed reads
Counts reads (Err status) = FailsAsTold reads status

-- reading changes nothing of what is told of the files, and neither a count of failed reads falls nor the most that was taken
pub record AreKept {F : Type 0} (files : FilesOf F) (old new : F) : Type 0 where
  pub same : (name : List ℕ) → files.content new name ≡ files.content old name
  pub counts : (name : List ℕ) → files.fault_count old name ≤ files.fault_count new name
  pub taken : (name : List ℕ) → files.most_taken old name ≤ files.most_taken new name
