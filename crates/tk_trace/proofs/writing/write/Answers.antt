use Rattle.std.proofs.Common.{[], ◌∙◌}
use Rattle.tk_base.proofs.OptionLemmas.{on_err}
use Rattle.tk_ledger.proofs.SinkLemmas.{front_of, grows_none, put_done, put_front}
use Rattle.tk_trace.specs.Recorded.{recorded_of}
use Rattle.tk_trace.specs.Spelling.{trace}
use Rattle.tk_trace.proofs.writing.write.Goals as goal

pub returns-in_err-text-clause-err : goal.returns-in_err-text-clause-err
returns-in_err-text-clause-err g c =
    let w = g.O.Sink.written in
    on_err _ _ (front_of (w c.args.out.now) (w c.args.out.now) [] (trace (recorded_of c.args.names.now c.args.story.now.story)) (grows_none (w c.args.out.now)))

pub returns-in_err-put-clause-err : goal.returns-in_err-put-clause-err
returns-in_err-put-clause-err g c =
    let w = g.O.Sink.written in
    on_err _ _ (put_front (w c.args.out.now) (w c.put.new.self) c.deref.result.now (trace (recorded_of c.args.names.now c.args.story.now.story)) (c.deref.ensures.value ∙ c.in_ok-text.ensures.bytes) c.in_err-put.ensures.err)

pub returns-clause-ok : goal.returns-clause-ok
returns-clause-ok g c =
    let w = g.O.Sink.written in
    put_done (w c.args.out.now) (w c.put.new.self) c.deref.result.now (trace (recorded_of c.args.names.now c.args.story.now.story)) (c.deref.ensures.value ∙ c.in_ok-text.ensures.bytes) c.in_ok-put.ensures.ok
