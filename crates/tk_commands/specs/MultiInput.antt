-- The input of several queries: what their words and files give, or the first rule that fails in the order of work.
use Rattle.std.specs.Prelude.{ℕ, ◌≡◌, List, length, map, All, Option, Some, None, IfSome, option_map, Result, Ok}
use Rattle.tk_input.specs.Logs.{LogSet}
use Rattle.tk_multi.specs.Alone.{alones_of}
use Rattle.tk_multi.specs.Order.{MultiOrderView, multi_order_of}
use Rattle.tk_multi.specs.Queries.{QueryView, queries_of}
use Rattle.tk_multi.specs.declared.alone.Alone.{Alone}
use Rattle.tk_multi.specs.declared.fault.MultiFault.{MultiFault}
use Rattle.tk_multi.specs.declared.fault.MultiFault.TheVariants as m
use Rattle.tk_window.specs.TickEnds.{parts_in}
use Rattle.tk_words.specs.Words.{MultiWords}
use Rattle.tk_load.specs.Faults.{Fault, after, bad_whole, catalog_fault, order_fault, setting_kind, telling}
use Rattle.tk_load.specs.Faults.Fault.{Bad, NoRoom}
use Rattle.tk_load.specs.Input.{File, bytes_in, joined, logs_in, names_in}
use Rattle.tk_load.specs.Reads.{FileReads, IsRead, Meets, log_of}
use Rattle.tk_commands.specs.declared.multi.MultiInput.{MultiInput}
use Rattle.tk_load.specs.declared.status.InputKind.TheVariants as k
use Rattle.tk_load.specs.declared.status.Status.{Status}

-- the words of several queries with their files read
pub record ReadMulti : Type 0 where
  pub objects : File
  pub queries : File
  pub order : Option File
  pub logs : List (ℕ × File)

-- what they give: the queries, the common logs, what each query runs over alone, and the order
pub record MultiGiven : Type 0 where
  pub queries : List QueryView
  pub logs : LogSet
  pub alones : List Alone
  pub order : Option MultiOrderView

-- the same of an input as the code has it
abbrev pub given_by : MultiInput → MultiGiven
given_by input = record { queries = input.queries; logs = input.logs; alones = input.alones.items; order = input.order }

-- the queries that the bytes of a file are
abbrev pub queries_from : List ℕ → List ℕ → Result (List QueryView) Fault
queries_from name bytes = telling (catalog_fault name) (queries_of bytes)

-- the queries of a file
abbrev pub queries_in : File → Result (List QueryView) Fault
queries_in file = after (bytes_in file) (queries_from file.name)

-- the logs of all monitors together
abbrev pub all_logs_in : List (List ℕ) → List (ℕ × File) → Result LogSet Fault
all_logs_in names logs = after (logs_in None names logs) (λ parts. joined (parts_in parts) (length names))

-- what is wrong with some queries: with one, at its record of their file, or with their logs together
abbrev pub multi_fault : List ℕ → MultiFault → Fault
multi_fault file (m.Bad query fault) = Bad file query (setting_kind fault)
multi_fault file m.TooManyUpdates = bad_whole k.TooManyUpdates
multi_fault file m.NoMemory = NoRoom

-- what each query of a file runs over alone
abbrev pub alones_in : List ℕ → List (List ℕ) → LogSet → List QueryView → Result (List Alone) Fault
alones_in file names logs queries = telling (multi_fault file) (alones_of names logs queries)

-- the order of several queries that the bytes of a file are
abbrev pub multi_order_from : List ℕ → List ℕ → Result MultiOrderView Fault
multi_order_from name bytes = telling (order_fault name) (multi_order_of bytes)

-- the order of a file
abbrev pub multi_order_of_file : File → Result MultiOrderView Fault
multi_order_of_file file = after (bytes_in file) (multi_order_from file.name)

-- the order, where the words name a file of one
abbrev pub multi_order_in : Option File → Result (Option MultiOrderView) Fault
multi_order_in None = Ok None
multi_order_in (Some file) = after (multi_order_of_file file) (λ order. Ok (Some order))

-- the input of words whose files are read, or the first rule that fails: the objects, the queries, each log, the logs
-- together, the settings of each query, the logs of all queries together, the order
abbrev pub multi_input_of : ReadMulti → Result MultiGiven Fault
multi_input_of words =
    after (names_in words.objects) (λ names.
    after (queries_in words.queries) (λ queries.
    after (all_logs_in names words.logs) (λ logs.
    after (alones_in words.queries.name names logs queries) (λ alones.
    after (multi_order_in words.order) (λ order.
    Ok (record { queries = queries; logs = logs; alones = alones; order = order }))))))

-- ---- how it is read

-- the words themselves
abbrev pub multi_words_of : ReadMulti → MultiWords
multi_words_of read = record {
  objects = read.objects.name;
  queries = read.queries.name;
  order = option_map (λ file. file.name) read.order;
  logs = map log_of read.logs;
}

-- each file of the words was read
pub record AreMultiRead (reads : FileReads) (words : MultiWords) (read : ReadMulti) : Type 0 where
  pub same : multi_words_of read ≡ words
  pub objects : IsRead reads read.objects
  pub queries : IsRead reads read.queries
  pub logs : All (λ log. IsRead reads log.1) read.logs
  pub order : IfSome read.order (IsRead reads)

-- the files of the words were read, and the answer is their input, or the first rule that fails
pub record LoadsMulti (reads : FileReads) (words : MultiWords) (answer : Result MultiInput Status) : Type 0 where
  pub read : ReadMulti
  pub are_read : AreMultiRead reads words read
  pub meets : Meets given_by (multi_input_of read) answer
