-- The input of several queries, from what each stage of the work gave.
use Rattle.std.proofs.Common.{◌≡◌, ℕ, List, [], All, Option, Some, None, IfSome, unwrap_or, option_map, Result, Ok, Err, length, map, ap, sym, subst, ◌∙◌}
use Rattle.tk_input.specs.Logs.{LogSet}
use Rattle.tk_input.specs.Records.{and_then}
use Rattle.tk_input.specs.declared.files.Files.{Ghosts as FilesOf}
use Rattle.tk_multi.specs.Order.{MultiOrderView}
use Rattle.tk_multi.specs.Queries.{QueryView}
use Rattle.tk_multi.specs.declared.alone.Alone.{Alone}
use Rattle.tk_window.specs.TickEnds.{Sources, parts_in}
use Rattle.tk_words.specs.Words.{MultiWords}
use Rattle.tk_load.specs.Faults.{Fault, after}
use Rattle.tk_load.specs.Input.{File, joined, logs_in, names_in}
use Rattle.tk_commands.specs.MultiInput.{AreMultiRead, LoadsMulti, MultiGiven, ReadMulti, all_logs_in, alones_in, given_by, multi_input_of, multi_order_in, multi_order_of_file, multi_words_of, queries_in}
use Rattle.tk_load.specs.Reads.{AreKept, FileReads, IsRead, Meets, Reads, ReadsLogs, ReadsOrder, Tells, log_of, reads_by}
use Rattle.tk_commands.specs.declared.multi.MultiInput.{MultiInput}
use Rattle.tk_load.specs.declared.status.Status.{Status}
use Rattle.tk_load.proofs.FaultLemmas.{tells_on}
use Rattle.tk_load.proofs.LoadLemmas.{logs_after, logs_before, order_after, order_unread, read_order_unread, unread_order}
use Rattle.tk_load.proofs.LogsLemmas.{names_unread, read_unread, unread}
use Rattle.tk_load.proofs.ReadLemmas.{gave_told, kept_on, read_after, read_before}

-- what is left of the work behind each stage
abbrev from_alones : ReadMulti → List QueryView → LogSet → List Alone → Result MultiGiven Fault
from_alones read queries logs alones = after (multi_order_in read.order) (λ order. Ok (record { queries = queries; logs = logs; alones = alones; order = order }))

abbrev from_logs : ReadMulti → List (List ℕ) → List QueryView → LogSet → Result MultiGiven Fault
from_logs read names queries logs = after (alones_in read.queries.name names logs queries) (from_alones read queries logs)

abbrev from_queries : ReadMulti → List (List ℕ) → List QueryView → Result MultiGiven Fault
from_queries read names queries = after (all_logs_in names read.logs) (from_logs read names queries)

abbrev from_names : ReadMulti → List (List ℕ) → Result MultiGiven Fault
from_names read names = after (queries_in read.queries) (from_queries read names)

at_names : (read : ReadMulti) (names : List (List ℕ)) → names_in read.objects ≡ Ok names → multi_input_of read ≡ from_names read names
at_names read names is = ap (and_then (from_names read)) is

at_queries : (read : ReadMulti) (names : List (List ℕ)) (queries : List QueryView) → queries_in read.queries ≡ Ok queries → from_names read names ≡ from_queries read names queries
at_queries read names queries is = ap (and_then (from_queries read names)) is

at_logs : (read : ReadMulti) (names : List (List ℕ)) (queries : List QueryView) (logs : LogSet) → all_logs_in names read.logs ≡ Ok logs → from_queries read names queries ≡ from_logs read names queries logs
at_logs read names queries logs is = ap (and_then (from_logs read names queries)) is

at_alones : (read : ReadMulti) (names : List (List ℕ)) (queries : List QueryView) (logs : LogSet) (alones : List Alone) → alones_in read.queries.name names logs queries ≡ Ok alones → from_logs read names queries logs ≡ from_alones read queries logs alones
at_alones read names queries logs alones is = ap (and_then (from_alones read queries logs)) is

-- the words with these files
abbrev read_as : MultiWords → Option (List ℕ) → Option (List ℕ) → Option File → List (ℕ × File) → ReadMulti
read_as words objects queries order logs = record {
  objects = record { name = words.objects; content = objects };
  queries = record { name = words.queries; content = queries };
  order = order;
  logs = logs;
}

abbrev worded : MultiWords → Option (List ℕ) → List (ℕ × List ℕ) → MultiWords
worded words order logs = record { objects = words.objects; queries = words.queries; order = order; logs = logs }

same_words : (words : MultiWords) (objects queries : Option (List ℕ)) (order : Option File) (logs : List (ℕ × File)) → option_map (λ (f : File). f.name) order ≡ words.order → map log_of logs ≡ words.logs
    → multi_words_of (read_as words objects queries order logs) ≡ words
same_words words objects queries order logs is are = ap (λ (o : Option (List ℕ)). worded words o (map log_of logs)) is ∙ ap (λ (l : List (ℕ × List ℕ)). worded words words.order l) are

-- a file that is not read counts as read
abbrev unread_content : (List ℕ → Option (List ℕ)) → List ℕ → Option (List ℕ)
unread_content told name = Some (unwrap_or (told name) [])

-- a read after some work and before some more
between : {F : Type 0} (files : FilesOf F) (a b c d : F) (file : File) → AreKept files a b → IsRead (reads_by files b c) file → AreKept files b c → AreKept files c d → IsRead (reads_by files a d) file
between files a b c d file kept1 read kept2 kept3 = read_before files a c d file (read_after files a b c file kept1 read kept2) kept3

module _ {F : Type 0} (files : FilesOf F) (s0 s1 : F) (words : MultiWords) (kept1 : AreKept files s0 s1) where
  abbrev ReadsNames : Result (List (List ℕ)) Status → Type 0
  ReadsNames answer = Reads (reads_by files s0 s1) words.objects (λ (names : List (List ℕ)). names) names_in answer

  -- the objects are refused
  pub names_refused : (status : Status) → ReadsNames (Err status) → LoadsMulti (reads_by files s0 s1) words (Err status)
  names_refused status names =
      let read = read_as words names.content (unread_content (files.content s0) words.queries) (unread_order (files.content s0) words.order) (unread (files.content s0) words.logs) in record {
        read = read;
        are_read = record {
          same = same_words words names.content (unread_content (files.content s0) words.queries) (unread_order (files.content s0) words.order) (unread (files.content s0) words.logs) (order_unread (files.content s0) words.order) (names_unread (files.content s0) words.logs);
          objects = names.read;
          queries = gave_told (files.content s0 words.queries) (files.fault_count s0 words.queries) (files.fault_count s1 words.queries) (files.most_taken s1 words.queries);
          logs = read_unread (reads_by files s0 s1) words.logs;
          order = read_order_unread (reads_by files s0 s1) words.order;
        };
        meets = tells_on status (names_in read.objects) (from_names read) names.meets;
      }

  module _ (names : List (List ℕ)) (objects : ReadsNames (Ok names)) (s2 : F) (kept2 : AreKept files s1 s2) where
    abbrev ReadsQueries : Result (List QueryView) Status → Type 0
    ReadsQueries answer = Reads (reads_by files s1 s2) words.queries (λ (queries : List QueryView). queries) queries_in answer

    -- the queries are refused
    pub queries_refused : (status : Status) → ReadsQueries (Err status) → LoadsMulti (reads_by files s0 s2) words (Err status)
    queries_refused status queries =
        let read = read_as words objects.content queries.content (unread_order (files.content s0) words.order) (unread (files.content s0) words.logs) in record {
          read = read;
          are_read = record {
            same = same_words words objects.content queries.content (unread_order (files.content s0) words.order) (unread (files.content s0) words.logs) (order_unread (files.content s0) words.order) (names_unread (files.content s0) words.logs);
            objects = read_before files s0 s1 s2 read.objects objects.read kept2;
            queries = read_after files s0 s1 s2 read.queries kept1 queries.read kept2;
            logs = read_unread (reads_by files s0 s2) words.logs;
            order = read_order_unread (reads_by files s0 s2) words.order;
          };
          meets = subst (λ (m : Result MultiGiven Fault). Tells status m) (sym (at_names read names objects.meets)) (tells_on status (queries_in read.queries) (from_queries read names) queries.meets);
        }

    module _ (queries : List QueryView) (asked : ReadsQueries (Ok queries)) (s3 : F) (kept3 : AreKept files s2 s3) where
      abbrev ReadsAll : Result LogSet Status → Type 0
      ReadsAll answer = ReadsLogs (reads_by files s2 s3) words.logs (λ (logs : LogSet). logs) (all_logs_in names) answer

      kept_one_three : AreKept files s1 s3
      kept_one_three = kept_on files s1 s2 s3 kept2 kept3

      kept_to_two : AreKept files s0 s2
      kept_to_two = kept_on files s0 s1 s2 kept1 kept2

      -- the files so far, whatever order comes after
      are_three : (order : Option File) (logs : List (ℕ × File)) → option_map (λ (f : File). f.name) order ≡ words.order → map log_of logs ≡ words.logs → All (λ (log : ℕ × File). IsRead (reads_by files s2 s3) log.1) logs → IfSome order (IsRead (reads_by files s0 s3))
          → AreMultiRead (reads_by files s0 s3) words (read_as words objects.content asked.content order logs)
      are_three order logs is are read last =
          let all = read_as words objects.content asked.content order logs in record {
            same = same_words words objects.content asked.content order logs is are;
            objects = read_before files s0 s1 s3 all.objects objects.read kept_one_three;
            queries = between files s0 s1 s2 s3 all.queries kept1 asked.read kept2 kept3;
            logs = logs_after files s0 s2 s3 logs kept_to_two read kept3;
            order = last;
          }

      to_queries : (order : Option File) (logs : List (ℕ × File)) → multi_input_of (read_as words objects.content asked.content order logs) ≡ from_queries (read_as words objects.content asked.content order logs) names queries
      to_queries order logs = let all = read_as words objects.content asked.content order logs in at_names all names objects.meets ∙ at_queries all names queries asked.meets

      -- the logs are refused
      pub logs_refused : (status : Status) → ReadsAll (Err status) → LoadsMulti (reads_by files s0 s3) words (Err status)
      logs_refused status logs =
          let read = read_as words objects.content asked.content (unread_order (files.content s0) words.order) logs.logs in record {
            read = read;
            are_read = are_three (unread_order (files.content s0) words.order) logs.logs (order_unread (files.content s0) words.order) logs.are_of logs.read (read_order_unread (reads_by files s0 s3) words.order);
            meets = subst (λ (m : Result MultiGiven Fault). Tells status m) (sym (to_queries read.order logs.logs)) (tells_on status (all_logs_in names logs.logs) (from_logs read names queries) logs.meets);
          }

      module _ (all : LogSet) (logs : ReadsAll (Ok all)) where
        to_logs : (order : Option File) → multi_input_of (read_as words objects.content asked.content order logs.logs) ≡ from_logs (read_as words objects.content asked.content order logs.logs) names queries all
        to_logs order = to_queries order logs.logs ∙ at_logs (read_as words objects.content asked.content order logs.logs) names queries all logs.meets

        -- the queries do not go with the logs
        pub alones_refused : (status : Status) → Tells status (alones_in words.queries names all queries) → LoadsMulti (reads_by files s0 s3) words (Err status)
        alones_refused status tells =
            let read = read_as words objects.content asked.content (unread_order (files.content s0) words.order) logs.logs in record {
              read = read;
              are_read = are_three (unread_order (files.content s0) words.order) logs.logs (order_unread (files.content s0) words.order) logs.are_of logs.read (read_order_unread (reads_by files s0 s3) words.order);
              meets = subst (λ (m : Result MultiGiven Fault). Tells status m) (sym (to_logs read.order)) (tells_on status (alones_in words.queries names all queries) (from_alones read queries all) tells);
            }

        module _ (alones : List Alone) (each : alones_in words.queries names all queries ≡ Ok alones) (s4 : F) (kept4 : AreKept files s3 s4) where
          to_alones : (order : Option File) → multi_input_of (read_as words objects.content asked.content order logs.logs) ≡ from_alones (read_as words objects.content asked.content order logs.logs) queries all alones
          to_alones order = to_logs order ∙ at_alones (read_as words objects.content asked.content order logs.logs) names queries all alones each

          are_four : (order : Option File) → option_map (λ (f : File). f.name) order ≡ words.order → IfSome order (IsRead (reads_by files s3 s4)) → AreMultiRead (reads_by files s0 s4) words (read_as words objects.content asked.content order logs.logs)
          are_four order is read =
              let whole = read_as words objects.content asked.content order logs.logs in record {
                same = same_words words objects.content asked.content order logs.logs is logs.are_of;
                objects = read_before files s0 s3 s4 whole.objects (read_before files s0 s1 s3 whole.objects objects.read kept_one_three) kept4;
                queries = read_before files s0 s3 s4 whole.queries (between files s0 s1 s2 s3 whole.queries kept1 asked.read kept2 kept3) kept4;
                logs = logs_before files s0 s3 s4 logs.logs (logs_after files s0 s2 s3 logs.logs kept_to_two logs.read kept3) kept4;
                order = order_after files s0 s3 s4 order (kept_on files s0 s2 s3 kept_to_two kept3) read kept4;
              }

          -- the order is refused
          pub order_refused : (status : Status) → ReadsOrder (reads_by files s3 s4) words.order multi_order_in (Err status) → LoadsMulti (reads_by files s0 s4) words (Err status)
          order_refused status order = record {
            read = read_as words objects.content asked.content order.file logs.logs;
            are_read = are_four order.file order.is_of order.read;
            meets = subst (λ (m : Result MultiGiven Fault). Tells status m) (sym (to_alones order.file))
                (tells_on status (multi_order_in order.file) (λ found. Ok (record { queries = queries; logs = all; alones = alones; order = found })) order.meets);
          }

          -- nothing is refused
          pub loaded : (input : MultiInput) → given_by input ≡ record { queries = queries; logs = all; alones = alones; order = input.order } → ReadsOrder (reads_by files s3 s4) words.order multi_order_in (Ok input.order) → LoadsMulti (reads_by files s0 s4) words (Ok input)
          loaded input is order = record {
            read = read_as words objects.content asked.content order.file logs.logs;
            are_read = are_four order.file order.is_of order.read;
            meets = to_alones order.file ∙ ap (and_then (λ found. Ok (record { queries = queries; logs = all; alones = alones; order = found }))) order.meets ∙ ap (λ (g : MultiGiven). Ok g) (sym is);
          }

-- the logs of all monitors, from the parts that were read
abbrev joined_with : List (List ℕ) → Sources → Result LogSet Fault
joined_with names parts = joined (parts_in parts) (length names)

pub all_refused : {A : Type 0} (view : A → Sources) (reads : FileReads) (names : List (List ℕ)) (words : List (ℕ × List ℕ)) (status : Status)
    → ReadsLogs reads words view (logs_in None names) (Err status) → ReadsLogs reads words (λ (logs : LogSet). logs) (all_logs_in names) (Err status)
all_refused view reads names words status logs = record {
  logs = logs.logs;
  are_of = logs.are_of;
  read = logs.read;
  meets = tells_on status (logs_in None names logs.logs) (joined_with names) logs.meets;
}

-- logs that are joined or refused once they are read
pub all_joined : {A : Type 0} (view : A → Sources) (reads : FileReads) (names : List (List ℕ)) (words : List (ℕ × List ℕ)) (parts : A) (answer : Result LogSet Status)
    → ReadsLogs reads words view (logs_in None names) (Ok parts) → Meets (λ (logs : LogSet). logs) (joined_with names (view parts)) answer → ReadsLogs reads words (λ (logs : LogSet). logs) (all_logs_in names) answer
all_joined view reads names words parts answer logs meets = record {
  logs = logs.logs;
  are_of = logs.are_of;
  read = logs.read;
  meets = subst (λ (m : Result Sources Fault). Meets (λ (all : LogSet). all) (and_then (joined_with names) m) answer) (sym logs.meets) meets;
}

-- an order file that was read, as the words name it
pub order_found : (reads : FileReads) (named : Option (List ℕ)) (name : List ℕ) (is : named ≡ Some name) (order : MultiOrderView)
    → Reads reads name (λ (o : MultiOrderView). o) multi_order_of_file (Ok order) → ReadsOrder reads named multi_order_in (Ok (Some order))
order_found reads named name is order given = record {
  file = Some (record { name = name; content = given.content });
  is_of = sym is;
  read = given.read;
  meets = ap (and_then (λ (o : MultiOrderView). Ok (Some o))) given.meets;
}

pub order_lost : (reads : FileReads) (named : Option (List ℕ)) (name : List ℕ) (is : named ≡ Some name) (status : Status)
    → Reads reads name (λ (o : MultiOrderView). o) multi_order_of_file (Err status) → ReadsOrder reads named multi_order_in (Err status)
order_lost reads named name is status given = record {
  file = Some (record { name = name; content = given.content });
  is_of = sym is;
  read = given.read;
  meets = tells_on status (multi_order_of_file (record { name = name; content = given.content })) (λ (o : MultiOrderView). Ok (Some o)) given.meets;
}

-- logs that were read, as the words have them
pub seen_logs_of : (reads : FileReads) (names : List (List ℕ)) (words words' : List (ℕ × List ℕ)) (answer : Result LogSet Status) → words' ≡ words
    → ReadsLogs reads words' (λ (logs : LogSet). logs) (all_logs_in names) answer → ReadsLogs reads words (λ (logs : LogSet). logs) (all_logs_in names) answer
seen_logs_of reads names words words' answer same given = record { logs = given.logs; are_of = given.are_of ∙ same; read = given.read; meets = given.meets }
