use Rattle.tk_end.proofs.ReadingLemmas.{leaves_front}
use Rattle.tk_end.proofs.inbox.read.Goals as goal

pub returns-in-Ok-Whole-clause-answer : goal.returns-in-Ok-Whole-clause-answer
returns-in-Ok-Whole-clause-answer c =
    let took = c.in-Ok-Whole in
    leaves_front c.args.buffer.now.version took.frame took.field-0-1 c.args.buffer.now.bytes _ took.field-0 took.field-0-is took.ensures.answer took.ensures.rest
