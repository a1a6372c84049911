use Rattle.std.proofs.Common.{arith, refl}
use Rattle.tk_show.proofs.NameLemmas.{name_more}
use Rattle.tk_show.proofs.printing.push_catalog.Goals as goal

pub loop-i-preserved : goal.loop-i-preserved
loop-i-preserved c =
    let within = c.loop-i-test.true in
    name_more c.args.names.now c.loop-i.i _ _ _ (omega (arith, within, c.len-i-end.ensures.value)) c.loop-i.invariant c.in_ok-push_name.ensures
