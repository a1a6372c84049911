-- What is meant by bytes that single commands read is no file that cannot be read.
use Rattle.std.proofs.Common.{◌≡◌, ℕ, Bool, true, false, if◌then◌else◌, List, [], ◌∷◌, Option, Some, None, Result, Ok, Err, inl}
use Rattle.tk_base.specs.Settings.{Setup}
use Rattle.tk_input.specs.Logs.{LogSet}
use Rattle.tk_input.specs.Records.{through}
use Rattle.tk_multi.specs.Queries.{QueryView}
use Rattle.tk_multi.specs.declared.fault.MultiFault.{MultiFault}
use Rattle.tk_multi.specs.declared.fault.MultiFault.TheVariants as m
use Rattle.tk_session.specs.declared.session_line.SessionLine.{SessionLine}
use Rattle.tk_trace.specs.declared.trace.Trace.{Trace}
use Rattle.tk_load.specs.Faults.{bad_file, catalog_fault, order_fault, telling}
use Rattle.tk_load.specs.Faults.Fault.{Unread}
use Rattle.tk_load.specs.Input.{bad_line}
use Rattle.tk_load.specs.Reads.{Counts, FailedAtMostOnce, FailsAsTold, FileReads, NoneFailed}
use Rattle.tk_load.specs.declared.status.InputKind.{InputKind}
use Rattle.tk_load.specs.declared.status.InputKind.TheVariants.{TooManyUpdates}
use Rattle.tk_load.specs.declared.status.Status.{Status}
use Rattle.tk_load.specs.declared.status.Status.TheVariants as s
use Rattle.tk_load.proofs.FailLemmas.{IsOther}
use Rattle.tk_load.proofs.OtherLemmas.{after_other, fine_other, telling_other}
use Rattle.tk_load.proofs.UnreadLemmas.{catalog_other, order_other}
use Rattle.tk_commands.specs.MultiInput.{alones_in, multi_fault, multi_order_from, queries_from}
use Rattle.tk_commands.specs.SessionInput.{few_changes, line_kind, line_tested, lines_tested, session_order_by}
use Rattle.tk_commands.specs.Traced.{TellsWrong, TracesBytes}

pub queries_other : (file bytes : List ℕ) → IsOther (queries_from file bytes)
queries_other file bytes = telling_other (catalog_fault file) _ (λ n. catalog_other n file)

pub multi_order_other : (name bytes : List ℕ) → IsOther (multi_order_from name bytes)
multi_order_other name bytes = telling_other (order_fault name) _ (λ n. order_other n name)

multi_fault_other : (file n : List ℕ) (e : MultiFault) → multi_fault file e ≡ Unread n → ⊥
multi_fault_other file n (m.Bad query fault) is = cc (is)
multi_fault_other file n m.TooManyUpdates is = cc (is)
multi_fault_other file n m.NoMemory is = cc (is)

pub alones_other : (file : List ℕ) (names : List (List ℕ)) (logs : LogSet) (queries : List QueryView) → IsOther (alones_in file names logs queries)
alones_other file names logs queries = telling_other (multi_fault file) _ (multi_fault_other file)

-- ---- an order of sessions

few_other : (many : Bool) (name : List ℕ) → IsOther (if many then Err (bad_file name TooManyUpdates) else Ok (tt {0}))
few_other true name = λ n is. cc (is)
few_other false name = fine_other tt

line_other : (name : List ℕ) (line : ℕ) (kind : Option InputKind) → IsOther (bad_line name line kind)
line_other name line None = fine_other tt
line_other name line (Some kind) = λ n is. cc (is)

lines_other : (settings : Setup) (name : List ℕ) (done : Unit {0}) (lines : List (ℕ × SessionLine)) → IsOther (through (line_tested settings name) done lines)
unfolding through
lines_other settings name done [] = fine_other done
lines_other settings name done (line ∷ lines) = after_other (line_tested settings name done line) (λ mid. through (line_tested settings name) mid lines) (line_other name line.0 (line_kind settings line.1)) (λ mid. lines_other settings name mid lines)

pub session_order_other : (settings : Setup) (logs : LogSet) (name bytes : List ℕ) → IsOther (session_order_by settings logs name bytes)
session_order_other settings logs name bytes =
    after_other _ _ (telling_other (order_fault name) _ (λ n. order_other n name)) (λ order.
    after_other (few_changes logs name order) _ (few_other _ name) (λ few.
    after_other (lines_tested settings name order) _ (lines_other settings name tt order) (λ done. fine_other order)))

-- ---- a trace

-- what is wrong with the bytes of a trace
wrong_other : (reads : FileReads) (name bytes : List ℕ) (status : Status) → FailedAtMostOnce reads → TellsWrong name bytes status → FailsAsTold reads status
wrong_other reads name bytes (s.BadTrace file fault) most wrong = most
wrong_other reads name bytes s.NoMemory most wrong = most
wrong_other reads name bytes s.Done most wrong = absurd wrong
wrong_other reads name bytes s.Usage most wrong = absurd wrong
wrong_other reads name bytes (s.ReadFault file) most wrong = absurd wrong
wrong_other reads name bytes (s.BadInput file line kind) most wrong = absurd wrong
wrong_other reads name bytes (s.TooGreat mon obj) most wrong = absurd wrong
wrong_other reads name bytes s.WriteFault most wrong = absurd wrong
wrong_other reads name bytes s.LinkFault most wrong = absurd wrong
wrong_other reads name bytes (s.LinkDiffers difference) most wrong = absurd wrong

pub trace_counts : (reads : FileReads) (name bytes : List ℕ) (answer : Result Trace Status) → NoneFailed reads → TracesBytes name bytes answer → Counts reads answer
trace_counts reads name bytes (Ok trace) none traces = none
trace_counts reads name bytes (Err status) none traces = wrong_other reads name bytes status (inl none) traces
