-- What reads gave, over the counts of the whole.
use Rattle.std.proofs.Common.{◌≡◌, ℕ, ◌+◌, ◌-◌, ◌^◌, ◌∙◌, ◌<◌, ◌≤◌, Bool, if◌then◌else◌, List, [], Option, Some, None, unwrap_or, IfSome, length, replicate, Result, Ok, Err, ap, refl, subst, arith, inl, inr}
use Rattle.std.proofs.lemmas.Bool.{cases_lt, le-ltb, lt-ltb}
use Rattle.std.proofs.lemmas.List.{length-replicate}
use Rattle.tk_input.specs.Files.{HasRisen}
use Rattle.tk_input.specs.declared.files.Files.{Ghosts as FilesOf}
use Rattle.tk_load.specs.Faults.{Fault, after, bad_file}
use Rattle.tk_load.specs.Input.{File, bytes_from, bytes_in}
use Rattle.tk_load.specs.Reads.{AreKept, AreTaken, FileReads, Gave, IsRead, Meets, Reads, Says, reads_by}
use Rattle.tk_load.specs.declared.status.InputKind.TheVariants.{TooLong}
use Rattle.tk_load.specs.declared.status.Status.{Status}
use Rattle.tk_load.specs.declared.status.Status.TheVariants as s
use Rattle.tk_load.proofs.FaultLemmas.{meets_after, tells_of, tells_on}

-- what is told of a file, or nothing, counts as read
pub gave_told : (told : Option (List ℕ)) (old new longest : ℕ) → Gave told old new longest (Some (unwrap_or told []))
gave_told None old new longest = λ long. absurd (omega (arith, long))
gave_told (Some content) old new longest = refl

-- a count that rose after it did not fall rose in all
rises_on : (a b c : ℕ) → a ≤ b → HasRisen b c → b ≤ c → HasRisen a c
rises_on a b c first next last = λ below. elim (cases_lt b (2 ^ 64 - 1)) [
  | inl lt ↦ let n = next lt in omega (arith, first, n)
  | inr ge ↦ omega (arith, below, ge, last)
]

-- a read before others, and after others
taken_on : (told : Option (List ℕ)) (m n : ℕ) (bytes : List ℕ) → AreTaken told m bytes → m ≤ n → AreTaken told n bytes
taken_on None m n bytes taken more = λ long. let first = taken long in omega (arith, first, more)
taken_on (Some content) m n bytes taken more = taken

pub gave_before : (told : Option (List ℕ)) (a b c m n : ℕ) (content : Option (List ℕ)) → Gave told a b m content → b ≤ c → m ≤ n → Gave told a c n content
gave_before told a b c m n None gave kept more = λ below. let rose = gave below in omega (arith, rose, kept)
gave_before told a b c m n (Some bytes) gave kept more = taken_on told m n bytes gave more

pub gave_after : (told : Option (List ℕ)) (a b c m : ℕ) (content : Option (List ℕ)) → a ≤ b → Gave told b c m content → b ≤ c → Gave told a c m content
gave_after told a b c m None kept gave last = rises_on a b c kept gave last
gave_after told a b c m (Some bytes) kept gave last = gave

-- kept twice
pub kept_on : {F : Type 0} (files : FilesOf F) (a b c : F) → AreKept files a b → AreKept files b c → AreKept files a c
kept_on files a b c first next = record {
  same = λ name. next.same name ∙ first.same name;
  counts = λ name. let f = first.counts name in let n = next.counts name in omega (arith, f, n);
  taken = λ name. let f = first.taken name in let n = next.taken name in omega (arith, f, n);
}

pub kept_all : {F : Type 0} (files : FilesOf F) (a : F) → AreKept files a a
kept_all files a = record { same = λ name. refl; counts = λ name. omega arith; taken = λ name. omega arith }

pub read_before : {F : Type 0} (files : FilesOf F) (a b c : F) (file : File) → IsRead (reads_by files a b) file → AreKept files b c → IsRead (reads_by files a c) file
read_before files a b c file read kept =
    gave_before (files.content a file.name) (files.fault_count a file.name) (files.fault_count b file.name) (files.fault_count c file.name) (files.most_taken b file.name) (files.most_taken c file.name) file.content read (kept.counts file.name) (kept.taken file.name)

pub read_after : {F : Type 0} (files : FilesOf F) (a b c : F) (file : File) → AreKept files a b → IsRead (reads_by files b c) file → AreKept files b c → IsRead (reads_by files a c) file
read_after files a b c file kept read last =
    gave_after (files.content a file.name) (files.fault_count a file.name) (files.fault_count b file.name) (files.fault_count c file.name) (files.most_taken c file.name) file.content (kept.counts file.name)
    (subst (λ (t : Option (List ℕ)). Gave t (files.fault_count b file.name) (files.fault_count c file.name) (files.most_taken c file.name) file.content) (kept.same file.name) read)
    (last.counts file.name)

-- bytes within the limit, and over it
pub bytes_fit : (name bytes : List ℕ) → length bytes ≤ 67108864 → bytes_from name (Some bytes) ≡ Ok bytes
bytes_fit name bytes fit = ap (λ (b : Bool). if b then Err (bad_file name TooLong) else Ok bytes) (le-ltb 67108864 (length bytes) fit)

pub bytes_pass : (name bytes : List ℕ) → 67108864 < length bytes → bytes_from name (Some bytes) ≡ Err (bad_file name TooLong)
bytes_pass name bytes pass = ap (λ (b : Bool). if b then Err (bad_file name TooLong) else Ok bytes) (lt-ltb 67108864 (length bytes) pass)

-- bytes that are too long, of a file that is told or not
long_of : (n : ℕ) → (bytes : List ℕ) × (n < length bytes)
long_of n = (replicate (n + 1) 0, omega (arith, length-replicate {A = ℕ} (n + 1) 0))

long_bytes : (told : Option (List ℕ)) (old new longest : ℕ) → IfSome told (λ content. 67108864 < length content) → 67108864 < longest
    → (bytes : List ℕ) × Gave told old new longest (Some bytes) × (67108864 < length bytes)
long_bytes None old new longest long much = let long_one = long_of 67108864 in (long_one.0, λ over. much, long_one.1)
long_bytes (Some content) old new longest long much = (content, refl, long)

-- a file that is too long
pub reads_too_long : {A : Type 0} (view : A → List ℕ) (reads : FileReads) (name : List ℕ) (status : Status)
    → IfSome (reads.told name) (λ content. 67108864 < length content) → 67108864 < reads.longest name → Says status (bad_file name TooLong) → Reads reads name view bytes_in (Err status)
reads_too_long view reads name status long much says =
    let some = long_bytes (reads.told name) (reads.failed name) (reads.failed_then name) (reads.longest name) long much in record {
      content = Some some.0;
      read = some.1;
      meets = tells_of {V = List ℕ} status (bad_file name TooLong) _ says (bytes_pass name some.0 some.2);
    }

-- bytes within the limit are taken, whether they are told or not
short_taken : (told : Option (List ℕ)) (longest : ℕ) (bytes : List ℕ) → IfSome told (λ content. bytes ≡ content) → length bytes ≤ 67108864 → AreTaken told longest bytes
short_taken None longest bytes is fit = λ long. absurd (omega (arith, long, fit))
short_taken (Some content) longest bytes is fit = is

-- a file that was read
pub reads_bytes : {A : Type 0} (view : A → List ℕ) (reads : FileReads) (name : List ℕ) (bytes : A)
    → IfSome (reads.told name) (λ content. view bytes ≡ content) → length (view bytes) ≤ 67108864 → Reads reads name view bytes_in (Ok bytes)
reads_bytes view reads name bytes is fit = record { content = Some (view bytes); read = short_taken (reads.told name) (reads.longest name) (view bytes) is fit; meets = bytes_fit name (view bytes) fit }

-- want of memory, whatever the file gives
pub reads_wanting : {A V : Type 0} (view : A → V) (meant : File → Result V Fault) (reads : FileReads) (name : List ℕ)
    → Reads reads name view meant (Err s.NoMemory)
reads_wanting view meant reads name = record { content = Some (unwrap_or (reads.told name) []); read = gave_told (reads.told name) (reads.failed name) (reads.failed_then name) (reads.longest name); meets = tt }

-- a file that is refused, whatever comes after
pub reads_refused : {A B V W : Type 0} (view : A → V) (view' : B → W) (meant : File → Result V Fault) (next : File → V → Result W Fault) (reads : FileReads) (name : List ℕ) (status : Status)
    → Reads reads name view meant (Err status) → Reads reads name view' (λ file. after (meant file) (next file)) (Err status)
reads_refused view view' meant next reads name status given = record {
  content = given.content;
  read = given.read;
  meets = tells_on status (meant (record { name = name; content = given.content })) (next (record { name = name; content = given.content })) given.meets;
}

-- what is made of a file that gave something
pub reads_further : {A B V W : Type 0} (view : A → V) (view' : B → W) (meant : File → Result V Fault) (next : File → V → Result W Fault) (reads : FileReads) (name : List ℕ) (x : A) (answer : Result B Status)
    → Reads reads name view meant (Ok x) → ((content : Option (List ℕ)) → Meets view' (next (record { name = name; content = content }) (view x)) answer)
    → Reads reads name view' (λ file. after (meant file) (next file)) answer
reads_further view view' meant next reads name x answer given meets = record {
  content = given.content;
  read = given.read;
  meets = meets_after view' (meant (record { name = name; content = given.content })) (view x) (next (record { name = name; content = given.content })) answer given.meets (meets given.content);
}

-- what a file gave in a read before others, and after others
pub reads_before : {F A V : Type 0} (files : FilesOf F) (a b c : F) (name : List ℕ) (view : A → V) (meant : File → Result V Fault) (answer : Result A Status)
    → AreKept files b c → Reads (reads_by files a b) name view meant answer → Reads (reads_by files a c) name view meant answer
reads_before files a b c name view meant answer next given = record {
  content = given.content;
  read = read_before files a b c (record { name = name; content = given.content }) given.read next;
  meets = given.meets;
}

pub reads_after : {F A V : Type 0} (files : FilesOf F) (a b c : F) (name : List ℕ) (view : A → V) (meant : File → Result V Fault) (answer : Result A Status)
    → AreKept files a b → AreKept files b c → Reads (reads_by files b c) name view meant answer → Reads (reads_by files a c) name view meant answer
reads_after files a b c name view meant answer first next given = record {
  content = given.content;
  read = read_after files a b c (record { name = name; content = given.content }) first given.read next;
  meets = given.meets;
}
