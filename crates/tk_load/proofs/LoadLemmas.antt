-- The input, from what each stage of the work gave.
use Rattle.std.proofs.Common.{◌≡◌, ℕ, max, List, [], All, Option, Some, None, IfSome, unwrap_or, option_map, Result, Ok, Err, get_or, length, map, refl, ap, sym, subst, ◌∙◌}
use Rattle.std.proofs.lemmas.List.Folds.{fold-map}
use Rattle.tk_input.specs.Records.{and_then}
use Rattle.tk_input.specs.declared.files.Files.{Ghosts as FilesOf}
use Rattle.tk_words.specs.Words.{SourceWords}
use Rattle.tk_load.specs.Faults.{Fault, after}
use Rattle.tk_load.specs.Input.{File, ReadWords, basis_of, greatest_monitor, limits_in, logs_in, names_in, together}
use Rattle.tk_load.specs.Reads.{AreKept, AreRead, FileReads, IsRead, LoadsBasis, LoadsBy, Reads, ReadsLogs, ReadsOrder, Tells, log_of, reads_by, without_order, words_of}
use Rattle.tk_window.specs.TickEnds.{Sources}
use Rattle.tk_load.specs.declared.basis.Basis.{Basis}
use Rattle.tk_load.specs.declared.changes.Together.{Together}
use Rattle.tk_load.specs.declared.settings.Limits.{Limits}
use Rattle.tk_load.specs.declared.status.Status.{Status}
use Rattle.tk_load.proofs.FaultLemmas.{tells_on}
use Rattle.tk_load.proofs.LogsLemmas.{names_unread, read_unread, unread}
use Rattle.tk_load.proofs.ReadLemmas.{gave_told, read_after, read_before}

-- ---- what stands in front of the order

-- what is left of the work, once the names, the settings, the logs and all of them together stand
abbrev whole : List (List ℕ) → Limits → Together → Basis
whole names limits all = record { names = names; settings = limits.settings; logs = all.logs; ends = all.ends }

abbrev from_logs : List (List ℕ) → Limits → Sources → Result Basis Fault
from_logs names limits logs = after (together limits.width logs (length names)) (λ all. Ok (whole names limits all))

abbrev from_settings : ReadWords → List (List ℕ) → Limits → Result Basis Fault
from_settings read names limits = after (logs_in limits.width names read.logs) (from_logs names limits)

abbrev settings_at : ReadWords → List (List ℕ) → Result Limits Fault
settings_at read names = limits_in read.k read.epsilon read.own_weight read.width (length names) (greatest_monitor read.logs)

abbrev from_names : ReadWords → List (List ℕ) → Result Basis Fault
from_names read names = after (settings_at read names) (from_settings read names)

at_names : (read : ReadWords) (names : List (List ℕ)) → names_in read.objects ≡ Ok names → basis_of read ≡ from_names read names
at_names read names is = ap (and_then (from_names read)) is

at_settings : (read : ReadWords) (names : List (List ℕ)) (settings : Limits) → settings_at read names ≡ Ok settings → from_names read names ≡ from_settings read names settings
at_settings read names settings is = ap (and_then (from_settings read names)) is

at_logs : (read : ReadWords) (names : List (List ℕ)) (settings : Limits) (logs : Sources) → logs_in settings.width names read.logs ≡ Ok logs → from_settings read names settings ≡ from_logs names settings logs
at_logs read names settings logs is = ap (and_then (from_logs names settings)) is

at_all : (names : List (List ℕ)) (settings : Limits) (logs : Sources) (all : Together) → together settings.width logs (length names) ≡ Ok all → from_logs names settings logs ≡ Ok (whole names settings all)
at_all names settings logs all is = ap (and_then (λ all. Ok (whole names settings all))) is

-- the greatest monitor is that of the words
greatest_of : (logs : List (ℕ × File)) (words : List (ℕ × List ℕ)) → map log_of logs ≡ words → greatest_monitor logs ≡ greatest_monitor words
greatest_of logs words are =
    sym (fold-map (λ (last : ℕ) (log : ℕ × List ℕ). max last log.0) log_of 0 logs) ∙ ap (λ (w : List (ℕ × List ℕ)). greatest_monitor w) are

-- the order's file, where it is not read, its name, and that it counts as read
abbrev pub unread_order : (List ℕ → Option (List ℕ)) → Option (List ℕ) → Option File
unread_order told order = option_map (λ name. record { name = name; content = Some (unwrap_or (told name) []) }) order

pub order_unread : (told : List ℕ → Option (List ℕ)) (order : Option (List ℕ)) → option_map (λ (f : File). f.name) (unread_order told order) ≡ order
order_unread told None = refl
order_unread told (Some name) = refl

pub read_order_unread : (reads : FileReads) (order : Option (List ℕ)) → IfSome (unread_order reads.told order) (IsRead reads)
read_order_unread reads None = tt
read_order_unread reads (Some name) = gave_told (reads.told name) (reads.failed name) (reads.failed_then name) (reads.longest name)

-- the words with these files, and no order
abbrev with_files : SourceWords → Option (List ℕ) → List (ℕ × File) → ReadWords
with_files words content logs = record {
  k = words.k;
  epsilon = words.epsilon;
  own_weight = words.own_weight;
  objects = record { name = words.objects; content = content };
  order = None;
  width = words.width;
  logs = logs;
}

words_with : (words : SourceWords) (content : Option (List ℕ)) (logs : List (ℕ × File)) → map log_of logs ≡ words.logs → words_of (with_files words content logs) ≡ without_order words
words_with words content logs are = ap (λ (l : List (ℕ × List ℕ)). record (without_order words) { logs = l }) are

-- what was read before other files, after them or between them
pub logs_before : {F : Type 0} (files : FilesOf F) (a b c : F) (logs : List (ℕ × File)) → All (λ (log : ℕ × File). IsRead (reads_by files a b) log.1) logs → AreKept files b c
    → All (λ (log : ℕ × File). IsRead (reads_by files a c) log.1) logs
logs_before files a b c logs read kept = λ i d within. read_before files a b c (get_or logs i d).1 (read i d within) kept

pub logs_after : {F : Type 0} (files : FilesOf F) (a b c : F) (logs : List (ℕ × File)) → AreKept files a b → All (λ (log : ℕ × File). IsRead (reads_by files b c) log.1) logs → AreKept files b c
    → All (λ (log : ℕ × File). IsRead (reads_by files a c) log.1) logs
logs_after files a b c logs first read last = λ i d within. read_after files a b c (get_or logs i d).1 first (read i d within) last

pub order_after : {F : Type 0} (files : FilesOf F) (a b c : F) (order : Option File) → AreKept files a b → IfSome order (IsRead (reads_by files b c)) → AreKept files b c → IfSome order (IsRead (reads_by files a c))
order_after files a b c None first read last = tt
order_after files a b c (Some file) first read last = read_after files a b c file first read last

module _ {F : Type 0} (files : FilesOf F) (s0 s1 : F) (words : SourceWords) (kept1 : AreKept files s0 s1) where
  abbrev ReadsNames : Result (List (List ℕ)) Status → Type 0
  ReadsNames answer = Reads (reads_by files s0 s1) words.objects (λ (names : List (List ℕ)). names) names_in answer

  -- where no log was read
  no_logs : (content : Option (List ℕ)) → IsRead (reads_by files s0 s1) (record { name = words.objects; content = content }) → AreRead (reads_by files s0 s1) (without_order words) (with_files words content (unread (files.content s0) words.logs))
  no_logs content objects = record {
    same = words_with words content (unread (files.content s0) words.logs) (names_unread (files.content s0) words.logs);
    objects = objects;
    logs = read_unread (reads_by files s0 s1) words.logs;
    order = tt;
  }

  -- the objects are refused
  pub names_refused : (status : Status) → ReadsNames (Err status) → LoadsBasis (reads_by files s0 s1) words (Err status)
  names_refused status names =
      let read = with_files words names.content (unread (files.content s0) words.logs) in record {
        read = read;
        are_read = no_logs names.content names.read;
        meets = tells_on status (names_in read.objects) (from_names read) names.meets;
      }

  module _ (names : List (List ℕ)) (reads : ReadsNames (Ok names)) where
    -- the settings are refused
    pub settings_refused : (status : Status) → Tells status (limits_in words.k words.epsilon words.own_weight words.width (length names) (greatest_monitor words.logs)) → LoadsBasis (reads_by files s0 s1) words (Err status)
    settings_refused status tells =
        let read = with_files words reads.content (unread (files.content s0) words.logs) in record {
          read = read;
          are_read = no_logs reads.content reads.read;
          meets = subst (λ (m : Result Basis Fault). Tells status m) (sym (at_names read names reads.meets))
              (tells_on status (settings_at read names) (from_settings read names)
              (subst (λ (last : ℕ). Tells status (limits_in words.k words.epsilon words.own_weight words.width (length names) last)) (sym (greatest_of (unread (files.content s0) words.logs) words.logs (names_unread (files.content s0) words.logs))) tells));
        }

    module _ (settings : Limits) (set : limits_in words.k words.epsilon words.own_weight words.width (length names) (greatest_monitor words.logs) ≡ Ok settings)
        (s2 : F) (kept2 : AreKept files s1 s2) where
      -- the settings and the names, whatever logs come after
      settled : (logs : List (ℕ × File)) → map log_of logs ≡ words.logs → basis_of (with_files words reads.content logs) ≡ from_settings (with_files words reads.content logs) names settings
      settled logs are =
          let read = with_files words reads.content logs in
          at_names read names reads.meets
          ∙ at_settings read names settings (ap (λ (last : ℕ). limits_in words.k words.epsilon words.own_weight words.width (length names) last) (greatest_of logs words.logs are) ∙ set)

      -- so are they read, with the logs
      with_logs : (logs : List (ℕ × File)) → map log_of logs ≡ words.logs → All (λ (log : ℕ × File). IsRead (reads_by files s1 s2) log.1) logs → AreRead (reads_by files s0 s2) (without_order words) (with_files words reads.content logs)
      with_logs logs are read =
          let all = with_files words reads.content logs in record {
            same = words_with words reads.content logs are;
            objects = read_before files s0 s1 s2 all.objects reads.read kept2;
            logs = logs_after files s0 s1 s2 logs kept1 read kept2;
            order = tt;
          }

      -- a log is refused
      pub logs_refused : {A : Type 0} (view : A → Sources) (status : Status) → ReadsLogs (reads_by files s1 s2) words.logs view (logs_in settings.width names) (Err status) → LoadsBasis (reads_by files s0 s2) words (Err status)
      logs_refused view status logs = record {
        read = with_files words reads.content logs.logs;
        are_read = with_logs logs.logs logs.are_of logs.read;
        meets = subst (λ (m : Result Basis Fault). Tells status m) (sym (settled logs.logs logs.are_of)) (tells_on status (logs_in settings.width names logs.logs) (from_logs names settings) logs.meets);
      }

      module _ (parts : Sources) (logs : ReadsLogs (reads_by files s1 s2) words.logs (λ (logs : Sources). logs) (logs_in settings.width names) (Ok parts)) where
        to_logs : basis_of (with_files words reads.content logs.logs) ≡ from_logs names settings parts
        to_logs = settled logs.logs logs.are_of ∙ at_logs (with_files words reads.content logs.logs) names settings parts logs.meets

        -- the logs together are refused
        pub joined_refused : (status : Status) → Tells status (together settings.width parts (length names)) → LoadsBasis (reads_by files s0 s2) words (Err status)
        joined_refused status tells = record {
          read = with_files words reads.content logs.logs;
          are_read = with_logs logs.logs logs.are_of logs.read;
          meets = subst (λ (m : Result Basis Fault). Tells status m) (sym to_logs) (tells_on status (together settings.width parts (length names)) (λ all. Ok (whole names settings all)) tells);
        }

        -- nothing is refused
        pub basis_loaded : (all : Together) → together settings.width parts (length names) ≡ Ok all → LoadsBasis (reads_by files s0 s2) words (Ok (whole names settings all))
        basis_loaded all join = record {
          read = with_files words reads.content logs.logs;
          are_read = with_logs logs.logs logs.are_of logs.read;
          meets = to_logs ∙ at_all names settings parts all join;
        }

-- ---- the order behind it, whatever an order is and whatever is made of it

module _ {O I : Type 0} (order_at : Basis → Option File → Result (Option O) Fault) (made : Basis → Option O → I) {F : Type 0} (files : FilesOf F) (s0 s1 : F) (words : SourceWords) where
  abbrev with_order : ReadWords → Option File → ReadWords
  with_order read order = record read { order = order }

  abbrev from_basis : Option File → Basis → Result I Fault
  from_basis order basis = after (order_at basis order) (λ found. Ok (made basis found))

  abbrev meant : ReadWords → Result I Fault
  meant read = after (basis_of read) (from_basis read.order)

  same_words : (read : ReadWords) (order : Option File) → words_of read ≡ without_order words → option_map (λ (f : File). f.name) order ≡ words.order → words_of (with_order read order) ≡ words
  same_words read order same is =
      ap (λ (w : SourceWords). record w { order = option_map (λ (f : File). f.name) order }) same
      ∙ ap (λ (name : Option (List ℕ)). record words { order = name }) is

  -- what stands in front is refused
  pub basis_refused : (status : Status) → LoadsBasis (reads_by files s0 s1) words (Err status) → LoadsBy meant (reads_by files s0 s1) words (Err status)
  basis_refused status basis =
      let order = unread_order (files.content s0) words.order in record {
        read = with_order basis.read order;
        are_read = record {
          same = same_words basis.read order basis.are_read.same (order_unread (files.content s0) words.order);
          objects = basis.are_read.objects;
          logs = basis.are_read.logs;
          order = read_order_unread (reads_by files s0 s1) words.order;
        };
        meets = tells_on status (basis_of basis.read) (from_basis order) basis.meets;
      }

  module _ (basis : Basis) (given : LoadsBasis (reads_by files s0 s1) words (Ok basis)) (s2 : F) (kept1 : AreKept files s0 s1) (kept2 : AreKept files s1 s2) where
    are_all : (order : Option File) → option_map (λ (f : File). f.name) order ≡ words.order → IfSome order (IsRead (reads_by files s1 s2)) → AreRead (reads_by files s0 s2) words (with_order given.read order)
    are_all order is read = record {
      same = same_words given.read order given.are_read.same is;
      objects = read_before files s0 s1 s2 given.read.objects given.are_read.objects kept2;
      logs = logs_before files s0 s1 s2 given.read.logs given.are_read.logs kept2;
      order = order_after files s0 s1 s2 order kept1 read kept2;
    }

    order_then : (order : Option File) → meant (with_order given.read order) ≡ from_basis order basis
    order_then order = ap (and_then (from_basis order)) given.meets

    -- the order is refused
    pub order_refused : (status : Status) → ReadsOrder (reads_by files s1 s2) words.order (order_at basis) (Err status) → LoadsBy meant (reads_by files s0 s2) words (Err status)
    order_refused status order = record {
      read = with_order given.read order.file;
      are_read = are_all order.file order.is_of order.read;
      meets = subst (λ (m : Result I Fault). Tells status m) (sym (order_then order.file)) (tells_on status (order_at basis order.file) (λ found. Ok (made basis found)) order.meets);
    }

    -- nothing is refused
    pub loaded : (found : Option O) → ReadsOrder (reads_by files s1 s2) words.order (order_at basis) (Ok found) → LoadsBy meant (reads_by files s0 s2) words (Ok (made basis found))
    loaded found order = record {
      read = with_order given.read order.file;
      are_read = are_all order.file order.is_of order.read;
      meets = order_then order.file ∙ ap (and_then (λ found. Ok (made basis found))) order.meets;
    }

-- logs that were read, as the words have them
pub seen_logs : {A : Type 0} (view : A → Sources) (reads : FileReads) (width : Option ℕ) (names : List (List ℕ)) (words words' : List (ℕ × List ℕ)) (parts : A) → words' ≡ words
    → ReadsLogs reads words' view (logs_in width names) (Ok parts) → ReadsLogs reads words (λ (logs : Sources). logs) (logs_in width names) (Ok (view parts))
seen_logs view reads width names words words' parts same given = record { logs = given.logs; are_of = given.are_of ∙ same; read = given.read; meets = given.meets }

pub seen_fault : {A : Type 0} (view : A → Sources) (reads : FileReads) (width : Option ℕ) (names : List (List ℕ)) (words words' : List (ℕ × List ℕ)) (status : Status) → words' ≡ words
    → ReadsLogs reads words' view (logs_in width names) (Err status) → ReadsLogs reads words view (logs_in width names) (Err status)
seen_fault view reads width names words words' status same given = record { logs = given.logs; are_of = given.are_of ∙ same; read = given.read; meets = given.meets }
