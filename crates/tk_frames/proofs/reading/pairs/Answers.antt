use Rattle.std.proofs.Common.{sym}
use Rattle.std.proofs.lemmas.Bool.{true≢false}
use Rattle.tk_frames.proofs.AscentLemmas.{pairs_ascend}
use Rattle.tk_frames.proofs.reading.pairs.Goals as goal

pub returns-in-Err : goal.returns-in-Err
returns-in-Err c = absurd (true≢false (sym (c.in-Err.ensures.ascends.1 (pairs_ascend c.args.version c.in_ok-count.count c.in_ok-count.rest.now _ _ c.in_ok-list.ensures))))
