use Rattle.std.proofs.Common.{rules}
use Rattle.tk_frames.proofs.AnswerLemmas.{read_whole}
use Rattle.tk_frames.proofs.decoder.read.Goals as goal

pub returns-clause-value : goal.returns-clause-value
returns-clause-value c =
    read_whole c.args.version c.read_u32-length.result c.args.bytes.now c.answer.result (search rules) (search rules) (search rules) c.answer.ensures.value
