use Rattle.std.proofs.Common.{arith}
use Rattle.tk_frames.proofs.AnswerLemmas.{is_answer, is_only, kind_is_ahead}
use Rattle.tk_frames.proofs.decoder.next.Goals as goal

pub returns-clause-answer : goal.returns-clause-answer
returns-clause-answer c = is_answer c.args.version c.args.bytes.now c.read.result (λ i. omega (arith, c.type_inv.bytes i)) c.read.ensures.value

pub returns-clause-only : goal.returns-clause-only
returns-clause-only c = is_only c.args.version c.args.bytes.now c.read.result (λ i. omega (arith, c.type_inv.bytes i)) c.read.ensures.value

pub returns-clause-memory : goal.returns-clause-memory
returns-clause-memory c = kind_is_ahead c.read.result c.args.bytes.now (λ i. omega (arith, c.type_inv.bytes i)) c.read.ensures.length c.read.ensures.whole c.read.ensures.kind
