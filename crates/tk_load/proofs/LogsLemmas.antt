-- Logs that are read one after the other.
use Rattle.std.proofs.Common.{◌≡◌, ℕ, ◌+◌, ◌<◌, List, [], ◌∷◌, ◌++◌, All, Bor, Option, Some, Result, Ok, Err, IsErrAnd, unwrap_or, get_or, length, map, max, take, drop, add-one, zero-add, refl, ap, sym, subst, ◌∙◌, arith}
use Rattle.std.proofs.Math.Seq.{take-suc}
use Rattle.std.proofs.lemmas.List.{map-append, take-append-drop}
use Rattle.std.proofs.lemmas.List.Sums.{fold_push, sum_by-append}
use Rattle.std.proofs.lemmas.List.Elements.{All-append, All-map, All-push}
use Rattle.tk_base.specs.declared.ids.Mon.{Mon}
use Rattle.tk_input.specs.Records.{and_then, through}
use Rattle.tk_input.specs.declared.files.Files.{Ghosts as FilesOf}
use Rattle.tk_window.specs.Expanded.{expansion_of, sources_of}
use Rattle.tk_window.specs.TickEnds.{Sources, last_source}
use Rattle.tk_window.specs.Window.{Expansion}
use Rattle.tk_window.specs.declared.expanded.Expanded.{Expanded}
use Rattle.tk_words.specs.Asked.{asked_logs}
use Rattle.tk_load.specs.Faults.{Fault}
use Rattle.tk_load.specs.Input.{File, changes_after, count_of, greatest_monitor, log_added, logs_in}
use Rattle.tk_load.specs.Reads.{AreKept, FileReads, IsRead, Reads, ReadsLogs, Tells, log_of, reads_by}
use Rattle.tk_load.specs.declared.status.Status.{Status}
use Rattle.tk_load.specs.declared.status.Status.TheVariants as s
use Rattle.tk_load.proofs.FaultLemmas.{tells_on}
use Rattle.tk_load.proofs.ReadLemmas.{gave_told, read_before}

bind_same : {A B C E : Type 0} (r : Result A E) (p : A → Result C E) (q : A → Result B E) (f : B → Result C E) → ((x : A) → p x ≡ and_then f (q x)) → and_then p r ≡ and_then f (and_then q r)
bind_same (Ok x) p q f same = same x
bind_same (Err e) p q f same = refl

-- rows and then further ones
pub through-append : {A R E : Type 0} (step : A → R → Result A E) (before : A) (xs ys : List R) → through step before (xs ++ ys) ≡ and_then (λ mid. through step mid ys) (through step before xs)
unfolding through
through-append step before [] ys = refl
through-append step before (x ∷ xs) ys = bind_same (step before x) (λ mid. through step mid (xs ++ ys)) (λ mid. through step mid xs) (λ mid. through step mid ys) (λ mid. through-append step mid xs ys)

-- one more row
through_one : {A R E : Type 0} (step : A → R → Result A E) (before : A) (x : R) (rest : List R) → through step before (x ∷ rest) ≡ and_then (λ mid. through step mid rest) (step before x)
unfolding through
through_one step before x rest = refl

-- what is only handed on
alone : {A R E : Type 0} (step : A → R → Result A E) (r : Result A E) → and_then (λ mid. through step mid []) r ≡ r
unfolding through
alone step (Ok x) = refl
alone step (Err e) = refl

through_none : {A R E : Type 0} (step : A → R → Result A E) (before : A) → through step before [] ≡ Ok before
unfolding through
through_none step before = refl

-- logs whose files are not read
abbrev pub unread : (List ℕ → Option (List ℕ)) → List (ℕ × List ℕ) → List (ℕ × File)
unread told rest = map (λ log. (log.0, record { name = log.1; content = Some (unwrap_or (told log.1) []) })) rest

pub names_unread : (told : List ℕ → Option (List ℕ)) (rest : List (ℕ × List ℕ)) → map log_of (unread told rest) ≡ rest
names_unread told [] = refl
names_unread told (log ∷ rest) = ap (λ (logs : List (ℕ × List ℕ)). log ∷ logs) (names_unread told rest)

pub read_unread : (reads : FileReads) (rest : List (ℕ × List ℕ)) → All (λ (log : ℕ × File). IsRead reads log.1) (unread reads.told rest)
read_unread reads rest =
    All-map (λ (log : ℕ × File). IsRead reads log.1) (λ (log : ℕ × List ℕ). (log.0, record { name = log.1; content = Some (unwrap_or (reads.told log.1) []) })) rest
    (λ i d within. gave_told (reads.told (get_or rest i d).1) (reads.failed (get_or rest i d).1) (reads.failed_then (get_or rest i d).1) (reads.longest (get_or rest i d).1))

-- the logs of some words, and what they give
pub record SoFar (reads : FileReads) (width : Option ℕ) (names : List (List ℕ)) (words : List (ℕ × List ℕ)) (parts : Sources) : Type 0 where
  pub logs : List (ℕ × File)
  pub are_of : map log_of logs ≡ words
  pub read : All (λ log. IsRead reads log.1) logs
  pub value : logs_in width names logs ≡ Ok parts

pub none_so_far : (reads : FileReads) (width : Option ℕ) (names : List (List ℕ)) → SoFar reads width names [] []
none_so_far reads width names = record { logs = []; are_of = refl; read = λ i d within. absurd (omega (arith, within)); value = through_none (log_added width names) [] }

-- later counts do not undo it
pub so_far_later : {F : Type 0} (files : FilesOf F) (a b c : F) (width : Option ℕ) (names : List (List ℕ)) (words : List (ℕ × List ℕ)) (parts : Sources) → AreKept files b c
    → SoFar (reads_by files a b) width names words parts → SoFar (reads_by files a c) width names words parts
so_far_later files a b c width names words parts next so_far = record {
  logs = so_far.logs;
  are_of = so_far.are_of;
  read = λ i d within. read_before files a b c (get_or so_far.logs i d).1 (so_far.read i d within) next;
  value = so_far.value;
}

module _ (reads : FileReads) (width : Option ℕ) (names : List (List ℕ)) (words : List (ℕ × List ℕ)) (parts : Sources) (mon : ℕ) (name : List ℕ)
    (count : ℕ) (counted : count ≡ count_of parts) (so_far : SoFar reads width names words parts) where
  -- a log whose file was read, among those before
  read_one : (content : Option (List ℕ)) → IsRead reads (record { name = name; content = content }) → All (λ (log : ℕ × File). IsRead reads log.1) (so_far.logs ++ (mon, record { name = name; content = content }) ∷ [])
  read_one content read = All-push (λ (log : ℕ × File). IsRead reads log.1) so_far.logs (mon, record { name = name; content = content }) so_far.read read

  are_one : (content : Option (List ℕ)) → map log_of (so_far.logs ++ (mon, record { name = name; content = content }) ∷ []) ≡ words ++ (mon, name) ∷ []
  are_one content = map-append log_of so_far.logs ((mon, record { name = name; content = content }) ∷ []) ∙ ap (λ (logs : List (ℕ × List ℕ)). logs ++ (mon, name) ∷ []) so_far.are_of

  -- what it gives
  value_one : (content : Option (List ℕ)) → through (log_added width names) [] (so_far.logs ++ (mon, record { name = name; content = content }) ∷ []) ≡ log_added width names parts (mon, record { name = name; content = content })
  value_one content =
      let log : ℕ × File = (mon, record { name = name; content = content }) in
      through-append (log_added width names) [] so_far.logs (log ∷ [])
      ∙ ap (λ (r : Result Sources Fault). and_then (λ before. through (log_added width names) before (log ∷ [])) r) so_far.value
      ∙ through_one (log_added width names) parts log []
      ∙ alone (log_added width names) (log_added width names parts log)

  pub so_far_next : {B : Type 0} (shown : B → Expansion) (log : B) → Reads reads name shown (changes_after count width names) (Ok log)
      → SoFar reads width names (words ++ (mon, name) ∷ []) (parts ++ (record { 0 = mon }, shown log) ∷ [])
  so_far_next shown log given = record {
    logs = so_far.logs ++ (mon, record { name = name; content = given.content }) ∷ [];
    are_of = are_one given.content;
    read = read_one given.content given.read;
    value = value_one given.content ∙ ap (and_then (λ (changes : Expansion). Ok (parts ++ (record { 0 = mon }, changes) ∷ []))) (subst (λ (n : ℕ). changes_after n width names (record { name = name; content = given.content }) ≡ Ok (shown log)) counted given.meets);
  }

  -- a log that is refused, whatever logs come behind it
  pub logs_refused : {A B : Type 0} (view : A → Sources) (shown : B → Expansion) (status : Status) (rest all : List (ℕ × List ℕ)) → all ≡ (words ++ (mon, name) ∷ []) ++ rest → Reads reads name shown (changes_after count width names) (Err status)
      → ReadsLogs reads all view (logs_in width names) (Err status)
  logs_refused view shown status rest all is given =
      let log : ℕ × File = (mon, record { name = name; content = given.content }) in
      let front = so_far.logs ++ log ∷ [] in
      let told_of = tells_on status (changes_after (count_of parts) width names log.1) (λ changes. Ok (parts ++ (record { 0 = mon }, changes) ∷ [])) (subst (λ (n : ℕ). Tells status (changes_after n width names log.1)) counted given.meets) in record {
        logs = front ++ unread reads.told rest;
        are_of = map-append log_of front (unread reads.told rest) ∙ ap (λ (logs : List (ℕ × List ℕ)). logs ++ map log_of (unread reads.told rest)) (are_one given.content) ∙ ap (λ (logs : List (ℕ × List ℕ)). (words ++ (mon, name) ∷ []) ++ logs) (names_unread reads.told rest) ∙ sym is;
        read = All-append (λ (log : ℕ × File). IsRead reads log.1) front (unread reads.told rest) (read_one given.content given.read) (read_unread reads rest);
        meets = subst (λ (m : Result Sources Fault). Tells status m) (sym (through-append (log_added width names) [] front (unread reads.told rest) ∙ ap (and_then (λ mid. through (log_added width names) mid (unread reads.told rest))) (value_one given.content)))
            (tells_on status (log_added width names parts log) (λ mid. through (log_added width names) mid (unread reads.told rest)) told_of);
      }

-- no memory is found, whatever the logs give
pub logs_wanting : {A : Type 0} (view : A → Sources) (reads : FileReads) (width : Option ℕ) (names : List (List ℕ)) (words : List (ℕ × List ℕ)) → ReadsLogs reads words view (logs_in width names) (Err s.NoMemory)
logs_wanting view reads width names words = record { logs = unread reads.told words; are_of = names_unread reads.told words; read = read_unread reads words; meets = tt }

pub logs_answered : {A : Type 0} (view : A → Sources) (reads : FileReads) (width : Option ℕ) (names : List (List ℕ)) (words : List (ℕ × List ℕ)) (answer : Result A Status) → IsErrAnd answer (λ e. e ≡ s.NoMemory) → ReadsLogs reads words view (logs_in width names) answer
logs_answered view reads width names words (Err e) wants = subst (λ (status : Status). ReadsLogs reads words view (logs_in width names) (Err status)) (sym wants) (logs_wanting view reads width names words)
logs_answered view reads width names words (Ok x) wants = absurd wants

-- the logs of the words before and the next one
abbrev pub named_at : List (Mon × Bor (List ℕ)) → ℕ → Mon × Bor (List ℕ) → ℕ × List ℕ
named_at words i d = ((get_or words i d).0.0, (get_or words i d).1.now)

pub one_word : (words : List (Mon × Bor (List ℕ))) (i : ℕ) (d : Mon × Bor (List ℕ)) → i < length words → asked_logs (take (i + 1) words) ≡ asked_logs (take i words) ++ named_at words i d ∷ []
one_word words i d within =
    ap (λ (n : ℕ). asked_logs (take n words)) (add-one i)
    ∙ ap (λ (l : List (Mon × Bor (List ℕ))). asked_logs l) (take-suc words i d within)
    ∙ map-append (λ (log : Mon × Bor (List ℕ)). (log.0.0, log.1.now)) (take i words) (get_or words i d ∷ [])

-- and those behind it
pub all_words : (words : List (Mon × Bor (List ℕ))) (i : ℕ) (d : Mon × Bor (List ℕ)) → i < length words → asked_logs words ≡ (asked_logs (take i words) ++ named_at words i d ∷ []) ++ asked_logs (drop (i + 1) words)
all_words words i d within =
    sym (ap (λ (l : List (Mon × Bor (List ℕ))). asked_logs l) (take-append-drop (i + 1) words))
    ∙ map-append (λ (log : Mon × Bor (List ℕ)). (log.0.0, log.1.now)) (take (i + 1) words) (drop (i + 1) words)
    ∙ ap (λ (l : List (ℕ × List ℕ)). l ++ asked_logs (drop (i + 1) words)) (one_word words i d within)

-- the greatest monitor, and how many changes there are, with one more log
pub last_one : (parts : Sources) (part : Expansion) (words : List (ℕ × List ℕ)) (mon : Mon) (name : List ℕ) → last_source parts ≡ greatest_monitor words → last_source (parts ++ (mon, part) ∷ []) ≡ greatest_monitor (words ++ (mon.0, name) ∷ [])
last_one parts part words mon name before =
    fold_push (λ (last : ℕ) (p : Mon × Expansion). max last p.0.0) 0 parts (mon, part)
    ∙ ap (λ (n : ℕ). max n mon.0) before
    ∙ sym (fold_push (λ (last : ℕ) (log : ℕ × List ℕ). max last log.0) 0 words (mon.0, name))

pub count_one : (parts : Sources) (part : Expansion) (mon : Mon) → count_of (parts ++ (mon, part) ∷ []) ≡ count_of parts + length part.part
count_one parts part mon = sum_by-append (λ (log : Mon × Expansion). length log.1.part) parts ((mon, part) ∷ []) ∙ ap (λ (n : ℕ). count_of parts + n) (zero-add (length part.part))

-- the logs of the code, with one more
pub sources_one : (logs : List (Mon × Expanded)) (mon : Mon) (log : Expanded) → sources_of (logs ++ (mon, log) ∷ []) ≡ sources_of logs ++ (mon, expansion_of log) ∷ []
sources_one logs mon log = map-append (λ (l : Mon × Expanded). (l.0, expansion_of l.1)) logs ((mon, log) ∷ [])
