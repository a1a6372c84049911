use Rattle.std.proofs.Common.{arith, rules}
use Rattle.tk_show.proofs.TellingLemmas.{untold_more}
use Rattle.tk_show.proofs.telling.Telling.from.Goals as goal

pub loop-i-preserved : goal.loop-i-preserved
loop-i-preserved c =
    let within = c.loop-i-test.true in
    record {
      monitors = untold_more c.args.from.now c.loop-i.i c.at.result.now c.in_ok-from.field-0 _ _ (omega (arith, within, c.len-i-end.ensures)) c.at.ensures c.in_ok-from.ensures c.loop-i.invariant.monitors c.push_reserved.ensures.items;
      room = (search rules);
    }
