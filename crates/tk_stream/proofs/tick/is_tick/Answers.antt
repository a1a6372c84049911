use Rattle.std.proofs.Common.{sym}
use Rattle.tk_stream.proofs.PlainLemmas.{plain_is_no_tick}
use Rattle.tk_stream.proofs.tick.is_tick.Goals as goal

pub returns-in-Some : goal.returns-in-Some
returns-in-Some c = sym (plain_is_no_tick c.args.line.now c.in-Some.field-0 c.in-Some.ensures)
