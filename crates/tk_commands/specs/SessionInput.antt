-- The input of a coordinator that restarts: what its words and files give, or the first rule that fails.
use Rattle.std.specs.Prelude.{ℕ, ◌*◌, nat_lt, if◌then◌else◌, List, length, sum_by, Option, Some, None, Result, Ok, Err}
use Rattle.tk_base.specs.Settings.{Setup}
use Rattle.tk_input.specs.Logs.{LogSet, updates_of}
use Rattle.tk_input.specs.Records.{through}
use Rattle.tk_session.specs.Order.{lines_of, session_order_of, stretches}
use Rattle.tk_session.specs.declared.session_line.SessionLine.{SessionLine}
use Rattle.tk_session.specs.declared.session_line.SessionLine.TheVariants.{Step, Restart}
use Rattle.tk_words.specs.Words.{SourceWords}
use Rattle.tk_load.specs.Faults.{Fault, after, bad_file, order_fault, telling}
use Rattle.tk_load.specs.Input.{File, ReadWords, bad_line, basis_of, bytes_in, retune_kind}
use Rattle.tk_load.specs.Reads.{FileReads, LoadsBy}
use Rattle.tk_load.specs.declared.basis.Basis.{Basis}
use Rattle.tk_commands.specs.declared.sessions.SessionInput.{SessionInput}
use Rattle.tk_load.specs.declared.status.InputKind.{InputKind}
use Rattle.tk_load.specs.declared.status.InputKind.TheVariants.{TooManyUpdates}
use Rattle.tk_load.specs.declared.status.Status.{Status}

-- how many changes some logs have
abbrev pub changes_of : LogSet → ℕ
changes_of logs = sum_by updates_of logs.logs

-- how many sessions an order makes
abbrev pub sessions_in : List (ℕ × SessionLine) → ℕ
sessions_in order = length (stretches (lines_of order))

-- all sessions of an order together have at most 4,000,000 changes
abbrev pub few_changes : LogSet → List ℕ → List (ℕ × SessionLine) → Result (Unit {0}) Fault
few_changes logs name order = if nat_lt 4000000 (sessions_in order * changes_of logs) then Err (bad_file name TooManyUpdates) else Ok tt

-- what is wrong with the k and epsilon that a line asks for, under the settings
abbrev pub line_kind : Setup → SessionLine → Option InputKind
line_kind settings (Step event) = retune_kind settings event
line_kind settings Restart = None

-- a line passes, unless it is a retune past the limits
abbrev pub line_tested : Setup → List ℕ → Unit {0} → ℕ × SessionLine → Result (Unit {0}) Fault
line_tested settings name done line = bad_line name line.0 (line_kind settings line.1)

-- all lines of an order do
abbrev pub lines_tested : Setup → List ℕ → List (ℕ × SessionLine) → Result (Unit {0}) Fault
lines_tested settings name order = through (line_tested settings name) tt order

-- the order that bytes are, whose first fault is a bad line, then too many changes, then a retune past the limits
abbrev pub session_order_by : Setup → LogSet → List ℕ → List ℕ → Result (List (ℕ × SessionLine)) Fault
session_order_by settings logs name bytes =
    after (telling (order_fault name) (session_order_of bytes)) (λ order.
    after (few_changes logs name order) (λ few.
    after (lines_tested settings name order) (λ done. Ok order)))

-- the order of a file
abbrev pub session_order_from : Setup → LogSet → File → Result (List (ℕ × SessionLine)) Fault
session_order_from settings logs file = after (bytes_in file) (session_order_by settings logs file.name)

-- the order, where the words name a file of one
abbrev pub session_order_in : Setup → LogSet → Option File → Result (Option (List (ℕ × SessionLine))) Fault
session_order_in settings logs None = Ok None
session_order_in settings logs (Some file) = after (session_order_from settings logs file) (λ order. Ok (Some order))

-- what stands in front of an order, with it
abbrev pub sessions_with : Basis → Option (List (ℕ × SessionLine)) → SessionInput
sessions_with basis order = record { names = basis.names; settings = basis.settings; logs = basis.logs; order = order }

-- the input of words whose files are read, or the first rule that fails: what stands in front of the order, the order
abbrev pub session_input_of : ReadWords → Result SessionInput Fault
session_input_of words =
    after (basis_of words) (λ basis.
    after (session_order_in basis.settings basis.logs words.order) (λ order.
    Ok (sessions_with basis order)))

-- the files of the words were read, and the answer is their input, or the first rule that fails
abbrev pub LoadsSessions : FileReads → SourceWords → Result SessionInput Status → Type 0
LoadsSessions = LoadsBy session_input_of
