-- Files in memory: what each read of them gives.
use Rattle.std.specs.Prelude.{◌≡◌, ℕ, ◌≤◌, max, List, length, map, find, Option, Some, None, IfSome, option_map, bytes_eq, string_bytes, Bool, true, false, ◌==◌, nat_lt, if◌then◌else◌, Result, Ok, Err, Vec, String}
use Rattle.std.specs.List.{list_any}
use Rattle.tk_input.specs.Files.{one_more}
use Rattle.tk_input.specs.Tallies.{Count}
use Rattle.tk_input.specs.declared.files.FileFault.{FileFault}
use Rattle.tk_input.specs.declared.files.FileFault.TheVariants.{Failed, TooLong, NoMemory}

-- the files by name, the numbers of the reads that fail, how many reads there were, and what is counted
pub record MapFilesView : Type 0 where
  pub files : List (List ℕ × List ℕ)
  pub fails : List ℕ
  pub reads : ℕ
  pub counts : List Count

-- names and contents as bytes
abbrev pub files_of : {A B : Type 0} → List (String A × Vec ℕ B) → List (List ℕ × List ℕ)
files_of files = map (λ f. (string_bytes f.0, f.1.items)) files

-- the content under a name, of the first file that has it
abbrev pub content_of : List (List ℕ × List ℕ) → List ℕ → Option (List ℕ)
content_of files name = option_map (λ f. f.1) (find (λ f. bytes_eq f.0 name) files)

-- what a read gives: a failure where it fails or there is no file, else the content, unless it is too long
abbrev pub given : Bool → Option (List ℕ) → Result (List ℕ) FileFault
given true file = Err Failed
given false None = Err Failed
given false (Some bytes) = if nat_lt 67108864 (length bytes) then Err TooLong else Ok bytes

-- what the next read of a name gives
abbrev pub read_of : MapFilesView → List ℕ → Result (List ℕ) FileFault
read_of m name = given (list_any (λ i. i == one_more m.reads) m.fails) (content_of m.files name)

-- a fault is that of the read, but for want of memory
abbrev pub Faults : {A : Type 0} → FileFault → Result A FileFault → Type 0
Faults Failed meant = meant ≡ Err Failed
Faults TooLong meant = meant ≡ Err TooLong
Faults NoMemory meant = Unit

-- the most that a read took is no more than it was, or than what is told, where that is
abbrev pub TakesNoMore : Option (List ℕ) → ℕ → ℕ → Type 0
TakesNoMore told old new = IfSome told (λ bytes. new ≤ max old (length bytes))

-- how many reads there were after one more: one that finds no memory does not count
abbrev pub reads_after : {A : Type 0} → Result A FileFault → ℕ → ℕ
reads_after (Ok bytes) reads = one_more reads
reads_after (Err Failed) reads = one_more reads
reads_after (Err TooLong) reads = one_more reads
reads_after (Err NoMemory) reads = reads

-- how many reads of a name failed, after one more read
abbrev pub faults_after : {A : Type 0} → Result A FileFault → ℕ → ℕ
faults_after (Ok bytes) faults = faults
faults_after (Err Failed) faults = one_more faults
faults_after (Err TooLong) faults = faults
faults_after (Err NoMemory) faults = faults

-- the most bytes that one read of a name took, after one more read
abbrev pub longest_after : {A : Type 0} → Result (Vec ℕ A) FileFault → ℕ → ℕ
longest_after (Ok bytes) longest = max longest (length bytes.items)
longest_after (Err Failed) longest = longest
longest_after (Err TooLong) longest = max longest 67108865
longest_after (Err NoMemory) longest = longest
