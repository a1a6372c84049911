use Rattle.std.proofs.Common.{sym}
use Rattle.std.proofs.lemmas.Bool.{true≢false}
use Rattle.tk_trace.proofs.FieldLemmas.{set_ascends}
use Rattle.tk_trace.proofs.reading.fields.set.Goals as goal

pub returns-in-Err : goal.returns-in-Err
returns-in-Err c = absurd (true≢false (sym (c.in-Err.ensures.ascends.1 (set_ascends c.in_ok-count.count c.in_ok-count.rest.now _ _ c.in_ok-list.ensures))))
