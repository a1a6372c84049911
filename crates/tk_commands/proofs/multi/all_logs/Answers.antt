use Rattle.std.proofs.Common.{ℕ, List, subst}
use Rattle.tk_base.specs.declared.ids.Mon.{Mon}
use Rattle.tk_input.specs.Logs.{LogSet}
use Rattle.tk_window.specs.Expanded.{sources_of}
use Rattle.tk_window.specs.TickEnds.{parts_in}
use Rattle.tk_window.specs.declared.expanded.Expanded.{Expanded}
use Rattle.tk_words.specs.Asked.{asked_logs}
use Rattle.tk_load.specs.Input.{joined}
use Rattle.tk_load.specs.Reads.{Meets, reads_by}
use Rattle.tk_commands.proofs.MultiLemmas.{all_joined, all_refused}
use Rattle.tk_load.proofs.FailLemmas.{counts_other}
use Rattle.tk_load.proofs.OtherLemmas.{joined_other}
use Rattle.tk_commands.proofs.multi.all_logs.Goals as goal

pub returns-in-Err-clause-read : goal.returns-in-Err-clause-read
returns-in-Err-clause-read g c =
    all_refused _ (reads_by g.F.Files c.args.files.now c.parts_of.new.files) c.args.names.now (asked_logs c.args.words.now) c.in-Err.status c.in-Err.ensures.read

pub returns-clause-read : goal.returns-clause-read
returns-clause-read g c =
    all_joined _ (reads_by g.F.Files c.args.files.now c.parts_of.new.files) c.args.names.now (asked_logs c.args.words.now) c.in-Ok.parts c.logs_from.result c.in-Ok.ensures.read
    (subst (λ (n : ℕ). Meets (λ (s : LogSet). s) (joined (parts_in (sources_of c.in-Ok.parts.items)) n) c.logs_from.result) c.len.ensures.value
    (subst (λ (l : List (Mon × Expanded)). Meets (λ (s : LogSet). s) (joined (parts_in (sources_of l)) c.len.result) c.logs_from.result) c.as_slice.ensures.value c.logs_from.ensures.meets))

pub returns-clause-counts : goal.returns-clause-counts
returns-clause-counts g c =
    counts_other {V = LogSet} (λ (s : LogSet). s) (reads_by g.F.Files c.args.files.now c.parts_of.new.files) (joined (parts_in (sources_of c.as_slice.result.now)) c.len.result) c.logs_from.result c.in-Ok.ensures.counts
    (joined_other (parts_in (sources_of c.as_slice.result.now)) c.len.result) c.logs_from.ensures.meets
