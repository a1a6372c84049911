use Rattle.std.proofs.Common.{◌≡◌, ℕ, List, Bor, Ok, ap, subst}
use Rattle.tk_base.specs.declared.ids.Mon.{Mon}
use Rattle.tk_words.specs.Asked.{asked_logs, asked_sources}
use Rattle.tk_window.specs.Expanded.{sources_of}
use Rattle.tk_window.specs.declared.expanded.Expanded.{Expanded}
use Rattle.tk_load.specs.Input.{limits_asked, together}
use Rattle.tk_load.specs.Reads.{Tells, reads_by}
use Rattle.tk_load.proofs.LoadLemmas.{basis_loaded, joined_refused, logs_refused, names_refused, seen_fault, seen_logs, settings_refused}
use Rattle.tk_load.proofs.FailLemmas.{none_behind, tells_other, told_behind}
use Rattle.tk_load.proofs.OtherLemmas.{limits_other, together_other}
use Rattle.std.proofs.Common.{inl}
use Rattle.tk_load.proofs.basis.load_basis.Goals as goal

pub returns-in-Err-clause-read : goal.returns-in-Err-clause-read
returns-in-Err-clause-read g c =
    names_refused g.F.Files c.args.files.now c.read_names.new.files (asked_sources c.args.words.now) c.read_names.ensures.kept
    c.in-Err.status c.in-Err.ensures.read

pub returns-in-Err-limits_of-clause-read : goal.returns-in-Err-limits_of-clause-read
returns-in-Err-limits_of-clause-read g c =
    settings_refused g.F.Files c.args.files.now c.read_names.new.files (asked_sources c.args.words.now) c.read_names.ensures.kept
    c.in-Ok.names c.in-Ok.ensures.read c.in-Err-limits_of.status c.in-Err-limits_of.ensures.meets

pub returns-in-Err-parts_of-clause-read : goal.returns-in-Err-parts_of-clause-read
returns-in-Err-parts_of-clause-read g c =
    let same = ap (λ (logs : List (Mon × Bor (List ℕ))). asked_logs logs) c.as_slice.ensures.value in
    logs_refused g.F.Files c.args.files.now c.read_names.new.files (asked_sources c.args.words.now) c.read_names.ensures.kept
    c.in-Ok.names c.in-Ok.ensures.read c.in-Ok-limits_of.limits c.in-Ok-limits_of.ensures.meets c.parts_of.new.files c.parts_of.ensures.kept _ c.in-Err-parts_of.status
    (seen_fault _ (reads_by g.F.Files c.read_names.new.files c.parts_of.new.files) c.in-Ok-limits_of.limits.width c.in-Ok.names _ _ c.in-Err-parts_of.status same c.in-Err-parts_of.ensures.read)

pub returns-in-Err-join-clause-read : goal.returns-in-Err-join-clause-read
returns-in-Err-join-clause-read g c =
    let same = ap (λ (logs : List (Mon × Bor (List ℕ))). asked_logs logs) c.as_slice.ensures.value in
    joined_refused g.F.Files c.args.files.now c.read_names.new.files (asked_sources c.args.words.now) c.read_names.ensures.kept
    c.in-Ok.names c.in-Ok.ensures.read c.in-Ok-limits_of.limits c.in-Ok-limits_of.ensures.meets c.parts_of.new.files c.parts_of.ensures.kept (sources_of c.in-Ok-parts_of.parts.items)
    (seen_logs _ (reads_by g.F.Files c.read_names.new.files c.parts_of.new.files) c.in-Ok-limits_of.limits.width c.in-Ok.names _ _ c.in-Ok-parts_of.parts same c.in-Ok-parts_of.ensures.read)
    c.in-Err-join.status (subst (λ (n : ℕ). Tells c.in-Err-join.status (together c.in-Ok-limits_of.limits.width (sources_of c.in-Ok-parts_of.parts.items) n)) c.len.ensures.value
    (subst (λ (l : List (Mon × Expanded)). Tells c.in-Err-join.status (together c.in-Ok-limits_of.limits.width (sources_of l) c.len.result)) c.as_slice-2.ensures.value c.in-Err-join.ensures.meets))

pub returns-clause-read : goal.returns-clause-read
returns-clause-read g c =
    let same = ap (λ (logs : List (Mon × Bor (List ℕ))). asked_logs logs) c.as_slice.ensures.value in
    basis_loaded g.F.Files c.args.files.now c.read_names.new.files (asked_sources c.args.words.now) c.read_names.ensures.kept
    c.in-Ok.names c.in-Ok.ensures.read c.in-Ok-limits_of.limits c.in-Ok-limits_of.ensures.meets c.parts_of.new.files c.parts_of.ensures.kept (sources_of c.in-Ok-parts_of.parts.items)
    (seen_logs _ (reads_by g.F.Files c.read_names.new.files c.parts_of.new.files) c.in-Ok-limits_of.limits.width c.in-Ok.names _ _ c.in-Ok-parts_of.parts same c.in-Ok-parts_of.ensures.read)
    c.in-Ok-join.together (subst (λ (n : ℕ). together c.in-Ok-limits_of.limits.width (sources_of c.in-Ok-parts_of.parts.items) n ≡ Ok c.in-Ok-join.together) c.len.ensures.value
    (subst (λ (l : List (Mon × Expanded)). together c.in-Ok-limits_of.limits.width (sources_of l) c.len.result ≡ Ok c.in-Ok-join.together) c.as_slice-2.ensures.value c.in-Ok-join.ensures.meets))

pub returns-in-Err-limits_of-clause-counts : goal.returns-in-Err-limits_of-clause-counts
returns-in-Err-limits_of-clause-counts g c =
    tells_other (reads_by g.F.Files c.args.files.now c.read_names.new.files) c.in-Err-limits_of.status (limits_asked (asked_sources c.args.words.now) c.in-Ok.names) (inl c.in-Ok.ensures.counts) (limits_other (asked_sources c.args.words.now) c.in-Ok.names) c.in-Err-limits_of.ensures.meets

pub returns-in-Err-parts_of-clause-counts : goal.returns-in-Err-parts_of-clause-counts
returns-in-Err-parts_of-clause-counts g c =
    told_behind g.F.Files c.args.files.now c.read_names.new.files c.parts_of.new.files c.in-Ok.ensures.counts c.in-Err-parts_of.status c.in-Err-parts_of.ensures.counts

pub returns-in-Err-join-clause-counts : goal.returns-in-Err-join-clause-counts
returns-in-Err-join-clause-counts g c =
    tells_other (reads_by g.F.Files c.args.files.now c.parts_of.new.files) c.in-Err-join.status (together c.in-Ok-limits_of.limits.width (sources_of c.as_slice-2.result.now) c.len.result)
    (inl (none_behind g.F.Files c.args.files.now c.read_names.new.files c.parts_of.new.files c.in-Ok.ensures.counts c.in-Ok-parts_of.ensures.counts))
    (together_other c.in-Ok-limits_of.limits.width (sources_of c.as_slice-2.result.now) c.len.result) c.in-Err-join.ensures.meets

pub returns-clause-counts : goal.returns-clause-counts
returns-clause-counts g c =
    none_behind g.F.Files c.args.files.now c.read_names.new.files c.parts_of.new.files c.in-Ok.ensures.counts c.in-Ok-parts_of.ensures.counts
