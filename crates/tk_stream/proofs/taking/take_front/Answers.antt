use Rattle.std.proofs.Common.{subst, ap}
use Rattle.tk_stream.specs.Front.{IsLine, IsTooLong}
use Rattle.tk_stream.proofs.TakingLemmas.{line_next, long_next}
use Rattle.tk_stream.proofs.taking.take_front.Goals as goal

pub returns-in_ok-judged-in-Line-clause-ok : goal.returns-in_ok-judged-in-Line-clause-ok
returns-in_ok-judged-in-Line-clause-ok c content last =
    let front = subst (λ xs. IsLine c.in-Line.line.now xs c.in-Line.taken c.args.ended) c.held.ensures.bytes c.in-Line.ensures in
    line_next c.args.ticks c.args.names.now c.in_ok-judged-in-Line.judged c.args.buffer.now c.remove.new.self c.in-Line.line.now content c.in-Line.taken c.args.ended c.held.ensures.none front c.in_ok-judged-in-Line.ensures.ok c.remove.ensures.bytes c.remove.ensures.passing last

pub returns-in-TooLong-clause-ok : goal.returns-in-TooLong-clause-ok
returns-in-TooLong-clause-ok c content _ =
    let long = subst (λ xs. IsTooLong xs) c.held.ensures.bytes c.in-TooLong.ensures in
    long_next c.args.ticks c.args.names.now c.args.buffer.now c.pass.new.self content c.held.ensures.none long (ap (λ h. h.bytes) c.pass.ensures) (ap (λ h. h.passing) c.pass.ensures)
