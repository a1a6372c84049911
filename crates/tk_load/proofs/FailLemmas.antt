-- How many reads failed, over several stages of the work.
use Rattle.std.proofs.Common.{◌≡◌, ◌≢◌, ℕ, ◌<◌, Bool, true, false, List, [], ◌∷◌, ◌++◌, All, Option, Result, Ok, Err, IfErr, get_or, length, bytes_eq, refl, ap, subst, sym, ◌∙◌, arith, inl, inr}
use Rattle.std.specs.Prelude.{◌⊎◌, IsErrAnd, is_ok}
use Rattle.std.specs.Global.{Vec}
use Rattle.std.specs.Borrow.{Bor}
use Rattle.std.proofs.lemmas.List.{get_or_push, length-append}
use Rattle.std.proofs.lemmas.List.Elements.{All-push}
use Rattle.std.proofs.lemmas.Slice.Eq.{bytes_eq-Decides}
use Rattle.tk_input.specs.Files.{one_more}
use Rattle.tk_input.specs.MapFiles.{faults_after}
use Rattle.tk_input.specs.declared.files.FileFault.{FileFault}
use Rattle.tk_input.specs.declared.files.Files.{Ghosts as FilesOf}
use Rattle.tk_load.specs.Faults.{Fault, bad_file}
use Rattle.tk_load.specs.Faults.Fault.{Unread}
use Rattle.tk_window.specs.declared.expanded.Expanded.{Expanded}
use Rattle.tk_load.specs.Batch.{AreCounted, EachAt, IsParsed, Parses}
use Rattle.tk_load.specs.Input.{log_from}
use Rattle.tk_load.specs.declared.batch.Unparsed.{Unparsed}
use Rattle.tk_load.specs.declared.status.InputKind.TheVariants.{TooManyUpdates}
use Rattle.tk_load.proofs.FaultLemmas.{tells_of}
use Rattle.tk_load.proofs.UnreadLemmas.{not_log}
use Rattle.tk_load.specs.Reads.{Counts, FailedAtMostOnce, FailedOnce, FailsAsTold, FileReads, Meets, NoneFailed, Says, Tells, reads_by}
use Rattle.tk_load.specs.declared.status.Status.{Status}
use Rattle.tk_load.specs.declared.status.Status.TheVariants as s

-- what is meant is no file that cannot be read
abbrev pub IsOther : {V : Type 0} → Result V Fault → Type 0
IsOther meant = (name : List ℕ) → meant ≡ Err (Unread name) → ⊥

-- a status that tells something else says no more than that at most one read failed
pub tells_other : {V : Type 0} (reads : FileReads) (status : Status) (meant : Result V Fault) → FailedAtMostOnce reads → IsOther meant → Tells status meant → FailsAsTold reads status
tells_other reads (s.ReadFault file) meant most other tells = absurd (other file.items tells)
tells_other reads s.Done meant most other tells = absurd tells
tells_other reads s.WriteFault meant most other tells = absurd tells
tells_other reads s.Usage meant most other tells = most
tells_other reads (s.BadInput file line kind) meant most other tells = most
tells_other reads (s.TooGreat mon obj) meant most other tells = most
tells_other reads s.NoMemory meant most other tells = most
tells_other reads s.LinkFault meant most other tells = most
tells_other reads (s.LinkDiffers difference) meant most other tells = most
tells_other reads (s.BadTrace file fault) meant most other tells = most

-- what is told says so much in any case
pub told_at_most : (reads : FileReads) (status : Status) → FailsAsTold reads status → FailedAtMostOnce reads
told_at_most reads (s.ReadFault file) told = inr (file.items, told)
told_at_most reads s.Done told = inl told
told_at_most reads s.WriteFault told = inl told
told_at_most reads s.Usage told = told
told_at_most reads (s.BadInput file line kind) told = told
told_at_most reads (s.TooGreat mon obj) told = told
told_at_most reads s.NoMemory told = told
told_at_most reads s.LinkFault told = told
told_at_most reads (s.LinkDiffers difference) told = told
told_at_most reads (s.BadTrace file fault) told = told

pub counts_at_most : {A : Type 0} (reads : FileReads) (answer : Result A Status) → Counts reads answer → FailedAtMostOnce reads
counts_at_most reads (Ok x) counts = inl counts
counts_at_most reads (Err status) counts = told_at_most reads status counts

-- an answer behind reads none of which failed, that is no such file
pub counts_other : {A V : Type 0} (view : A → V) (reads : FileReads) (meant : Result V Fault) (answer : Result A Status) → NoneFailed reads → IsOther meant → Meets view meant answer → Counts reads answer
counts_other view reads meant (Ok x) none other meets = none
counts_other view reads meant (Err status) none other meets = tells_other reads status meant (inl none) other meets

-- behind reads none of which failed
module _ {F : Type 0} (files : FilesOf F) (a b c : F) (none : NoneFailed (reads_by files a b)) where
  pub none_behind : NoneFailed (reads_by files b c) → NoneFailed (reads_by files a c)
  none_behind next = λ name. next name ∙ none name

  once_behind : (name : List ℕ) → FailedOnce (reads_by files b c) name → FailedOnce (reads_by files a c) name
  once_behind name once = record {
    counted = once.counted ∙ ap one_more (none name);
    others = λ other apart. once.others other apart ∙ none other;
  }

  pub most_behind : FailedAtMostOnce (reads_by files b c) → FailedAtMostOnce (reads_by files a c)
  most_behind most = elim most [
    | inl next ↦ inl (none_behind next)
    | inr once ↦ inr (once.0, once_behind once.0 once.1)
  ]

  pub told_behind : (status : Status) → FailsAsTold (reads_by files b c) status → FailsAsTold (reads_by files a c) status
  told_behind (s.ReadFault file) told = once_behind file.items told
  told_behind s.Done told = none_behind told
  told_behind s.WriteFault told = none_behind told
  told_behind s.Usage told = most_behind told
  told_behind (s.BadInput file line kind) told = most_behind told
  told_behind (s.TooGreat mon obj) told = most_behind told
  told_behind s.NoMemory told = most_behind told
  told_behind s.LinkFault told = most_behind told
  told_behind (s.LinkDiffers difference) told = most_behind told
  told_behind (s.BadTrace file fault) told = most_behind told

  pub counts_behind : {A : Type 0} (answer : Result A Status) → Counts (reads_by files b c) answer → Counts (reads_by files a c) answer
  counts_behind (Ok x) counts = none_behind counts
  counts_behind (Err status) counts = told_behind status counts

-- a name is another, or not
named : (x y : List ℕ) → (x ≡ y) ⊎ (x ≢ y)
named x y = go (bytes_eq x y) refl
  where
    go : (b : Bool) → bytes_eq x y ≡ b → (x ≡ y) ⊎ (x ≢ y)
    go true is = inl ((bytes_eq-Decides x y).0 is)
    go false is = inr (λ same. let yes = (bytes_eq-Decides x y).1 same in absurd (cc (yes, is)))

-- one read of a file
module _ {F A : Type 0} (files : FilesOf F) (a b : F) (name : List ℕ) (r : Result A FileFault) (counted : files.fault_count b name ≡ faults_after r (files.fault_count a name))
    (beside : (other : List ℕ) → other ≢ name → files.fault_count b other ≡ files.fault_count a other) where
  pub read_stands : ((old : ℕ) → faults_after r old ≡ old) → NoneFailed (reads_by files a b)
  read_stands stands = λ other. elim (named other name) [
    | inl same ↦ rw same (counted ∙ stands (files.fault_count a name))
    | inr apart ↦ beside other apart
  ]

  pub read_failed : ((old : ℕ) → faults_after r old ≡ one_more old) → FailedOnce (reads_by files a b) name
  read_failed fails = record { counted = counted ∙ fails (files.fault_count a name); others = beside }

-- ---- of a batch

no_fault : {A : Type 0} (P : Status → Type 0) (r : Result A Status) → is_ok r ≡ true → IfErr r P
no_fault P (Ok x) fine = tt
no_fault P (Err status) fine = absurd (cc)

pub counts_fine : {A : Type 0} (reads : FileReads) (r : Result A Status) → is_ok r ≡ true → Counts reads r → NoneFailed reads
counts_fine reads (Ok x) fine counts = counts
counts_fine reads (Err status) fine counts = absurd (cc)

counts_fault : {A : Type 0} (reads : FileReads) (r : Result A Status) → Counts reads r → IfErr r (FailsAsTold reads)
counts_fault reads (Ok x) counts = tt
counts_fault reads (Err status) counts = counts

abbrev content_of : Unparsed → Result (Vec ℕ) Status
content_of log = log.content

module _ (reads : FileReads) (logs : List Unparsed) (fine : All (λ (log : Unparsed). is_ok log.content ≡ true) logs) where
  -- each file of a batch gave something
  pub all_counted : NoneFailed reads → AreCounted reads content_of logs
  all_counted none = record {
    each = λ i d within. no_fault (FailsAsTold reads) (get_or logs i d).content (fine i d within);
    most = inl none;
    none = λ all. none;
  }

  -- the last one may not have
  pub last_counted : (file : Bor (List ℕ)) (content : Result (Vec ℕ) Status) (logs_new : List Unparsed) → Counts reads content → logs_new ≡ logs ++ record { file = file; content = content } ∷ [] → AreCounted reads content_of logs_new
  last_counted file content logs_new counts pushed =
      let log : Unparsed = record { file = file; content = content } in
      subst (AreCounted reads content_of) (sym pushed) (record {
        each = All-push (λ (l : Unparsed). IfErr l.content (FailsAsTold reads)) logs log (λ i d within. no_fault (FailsAsTold reads) (get_or logs i d).content (fine i d within)) (counts_fault reads log.content counts);
        most = counts_at_most reads log.content counts;
        none = λ all. counts_fine reads log.content (subst (λ (l : Unparsed). is_ok l.content ≡ true) (get_or_push logs log log (length logs) refl) (all (length logs) log (let long = length-append logs (log ∷ []) in omega (arith, long)))) counts;
      })

-- one more that gave something
pub fine_more : (logs : List Unparsed) (file : Bor (List ℕ)) (content : Result (Vec ℕ) Status) (logs_new : List Unparsed) → All (λ (log : Unparsed). is_ok log.content ≡ true) logs → is_ok content ≡ true
    → logs_new ≡ logs ++ record { file = file; content = content } ∷ [] → All (λ (log : Unparsed). is_ok log.content ≡ true) logs_new
fine_more logs file content logs_new fine one pushed =
    let log : Unparsed = record { file = file; content = content } in
    subst (All (λ (l : Unparsed). is_ok l.content ≡ true)) (sym pushed) (All-push (λ (l : Unparsed). is_ok l.content ≡ true) logs log fine one)

-- where the list of them found no memory
pub if_wanting : {A E : Type 0} (reads : FileReads) (r : Result A E) → FailedAtMostOnce reads → IfErr r (λ e. FailedAtMostOnce reads)
if_wanting reads (Ok x) most = tt
if_wanting reads (Err e) most = most

pub counts_wanting : {A : Type 0} (reads : FileReads) (answer : Result A Status) → FailedAtMostOnce reads → IsErrAnd answer (λ e. e ≡ s.NoMemory) → Counts reads answer
counts_wanting reads (Ok x) most wants = absurd wants
counts_wanting reads (Err status) most wants = subst (FailsAsTold reads) (sym wants) most

-- what is parsed of a content
parsed_fault : (reads : FileReads) (width : Option ℕ) (names : List (List ℕ)) (name : List ℕ) (content : Result (Vec ℕ) Status) (log : Result Expanded Status)
    → FailedAtMostOnce reads → Parses width names name content log → IfErr content (FailsAsTold reads) → IfErr log (FailsAsTold reads)
parsed_fault reads width names name (Ok bytes) (Ok part) most parses told = tt
parsed_fault reads width names name (Ok bytes) (Err status) most parses told = tells_other reads status (log_from width names name bytes.items) most (λ n. not_log n width names name bytes.items) parses
parsed_fault reads width names name (Err status) log most parses told = subst (λ (l : Result Expanded Status). IfErr l (FailsAsTold reads)) (sym parses) told

parsed_fine : (width : Option ℕ) (names : List (List ℕ)) (name : List ℕ) (content : Result (Vec ℕ) Status) (log : Result Expanded Status) → Parses width names name content log → is_ok log ≡ true → is_ok content ≡ true
parsed_fine width names name (Ok bytes) log parses fine = refl
parsed_fine width names name (Err status) log parses fine = absurd (cc (parses, fine))

pub parsed_counted : (reads : FileReads) (width : Option ℕ) (names : List (List ℕ)) (logs : List Unparsed) (all : List (Result Expanded Status)) → length all ≡ length logs
    → EachAt (IsParsed width names) logs all → AreCounted reads content_of logs → AreCounted reads (λ (log : Result Expanded Status). log) all
parsed_counted reads width names [] all same parsed counts = record {
  each = λ i d within. absurd (omega (arith, within, same));
  most = counts.most;
  none = λ fine. counts.none (λ i d within. absurd (omega (arith, within)));
}
parsed_counted reads width names (first ∷ rest) all same parsed counts = record {
  each = λ i d within.
      let from = get_or (first ∷ rest) i first in
      parsed_fault reads width names from.file.now from.content (get_or all i d) counts.most (parsed i first d within).parses (counts.each i first (omega (arith, within, same)));
  most = counts.most;
  none = λ fine. counts.none (λ i d within.
      let at : i < length all = omega (arith, within, same) in
      let from = get_or (first ∷ rest) i d in
      parsed_fine width names from.file.now from.content (get_or all i (Err s.NoMemory)) (parsed i d (Err s.NoMemory) at).parses (fine i (Err s.NoMemory) at));
}

-- a log that is refused tells what reading it gave, or that a rule behind fails
pub refused_counts : (reads : FileReads) (log : Result Expanded Status) (status : Status) (name : List ℕ) → FailedAtMostOnce reads → IfErr log (FailsAsTold reads)
    → (log ≡ Err status) ⊎ Says status (bad_file name TooManyUpdates) → FailsAsTold reads status
refused_counts reads log status name most told is = elim is [
  | inl same ↦ subst (λ (l : Result Expanded Status). IfErr l (FailsAsTold reads)) same told
  | inr says ↦ tells_other {V = Unit {0}} reads status (Err (bad_file name TooManyUpdates)) most (λ n same. cc (same)) (tells_of {V = Unit {0}} status (bad_file name TooManyUpdates) (Err (bad_file name TooManyUpdates)) says refl)
]
