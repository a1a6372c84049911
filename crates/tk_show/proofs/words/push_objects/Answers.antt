use Rattle.std.proofs.Common.{arith, sym}
use Rattle.tk_show.specs.Frames.{name_text}
use Rattle.tk_show.proofs.ListLemmas.{more}
use Rattle.tk_show.proofs.words.push_objects.Goals as goal

pub loop-i-preserved : goal.loop-i-preserved
loop-i-preserved c =
    more (name_text c.args.names.now) _ _ _ c.args.objects.now c.loop-i.i c.at.result.0 0 (omega arith) (sym c.at.ensures.value) c.loop-i.invariant c.in_ok-push_name.ensures
