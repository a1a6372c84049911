use Rattle.std.proofs.Common.{rules}
use Rattle.tk_load.specs.Reads.{Loads, reads_by}
use Rattle.tk_words.specs.Asked.{asked_sources}
use Rattle.tk_run.specs.Ends.{IsStoryOf, IsTracedOf, trace_text}
use Rattle.tk_load.specs.Surroundings.{output_by}
use Rattle.tk_run.proofs.EndsLemmas.{cut_short, has_run}
use Rattle.tk_run.proofs.trace.serve_trace.Goals as goal

pub returns-in-Ok-write-clause-ran : goal.returns-in-Ok-write-clause-ran
returns-in-Ok-write-clause-ran g c = λ done.
    let gives = Loads (reads_by g.F.Files c.args.files.now c.load.new.files) (asked_sources c.args.words.now.sources) in
    let output = output_by g.O.Sink c.args.out.now c.write.new.out in
    let input = c.in-Ok.input in
    let story = c.in-Ok-story_of.story in
    record {
      kept = story;
      is = (search rules);
      alone = c.done.ensures.alone;
      holds = has_run gives IsTracedOf trace_text output input c.in-Ok.ensures.read story (record { story = (search rules); recorded = (search rules) }) _ (search rules) c.in-Ok-write.ensures.ok;
    }

pub returns-in-Err-WriteFailed-clause-ends : goal.returns-in-Err-WriteFailed-clause-ends
returns-in-Err-WriteFailed-clause-ends g c =
    let gives = Loads (reads_by g.F.Files c.args.files.now c.load.new.files) (asked_sources c.args.words.now.sources) in
    let output = output_by g.O.Sink c.args.out.now c.write.new.out in
    rw c.without.ensures.status
    (cut_short gives IsStoryOf trace_text output c.in-Ok.input c.in-Ok.ensures.read c.in-Ok-story_of.story (search rules) _ (search rules) c.in-Err-WriteFailed.ensures.err)
