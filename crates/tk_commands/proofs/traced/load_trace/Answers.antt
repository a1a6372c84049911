use Rattle.std.proofs.Common.{List, ℕ, subst, sym}
use Rattle.tk_commands.specs.Traced.{TracesBytes, TracesRead}
use Rattle.tk_commands.proofs.TracedLemmas.{unread}
use Rattle.tk_load.specs.Reads.{reads_by}
use Rattle.tk_commands.proofs.OtherLemmas.{trace_counts}
use Rattle.tk_commands.proofs.traced.load_trace.Goals as goal

pub returns-in-Ok-clause-read : goal.returns-in-Ok-clause-read
returns-in-Ok-clause-read g c =
    let given = c.in-Ok.ensures.read in
    let traces = subst (λ (bytes : List ℕ). TracesBytes c.args.file.now bytes c.trace_of.result) c.as_slice.ensures.value c.trace_of.ensures.traces in
    record {
      content = given.content;
      read = given.read;
      traces = subst (λ meant. TracesRead c.args.file.now meant c.trace_of.result) (sym given.meets) traces;
    }

pub returns-in-Err-clause-read : goal.returns-in-Err-clause-read
returns-in-Err-clause-read g c =
    let given = c.in-Err.ensures.read in
    record { content = given.content; read = given.read; traces = unread c.args.file.now c.in-Err.status _ given.meets }

pub returns-in-Ok-clause-counts : goal.returns-in-Ok-clause-counts
returns-in-Ok-clause-counts g c = trace_counts (reads_by g.F.Files c.args.files.now c.read.new.files) _ _ c.trace_of.result c.in-Ok.ensures.counts c.trace_of.ensures.traces
