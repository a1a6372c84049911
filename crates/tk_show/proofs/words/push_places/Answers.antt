use Rattle.std.proofs.Common.{arith, sym}
use Rattle.tk_show.specs.Frames.{place_text}
use Rattle.tk_show.proofs.ListLemmas.{more}
use Rattle.tk_show.proofs.words.push_places.Goals as goal

pub loop-i-preserved : goal.loop-i-preserved
loop-i-preserved c =
    more place_text _ _ _ c.args.places.now c.loop-i.i c.at.result 0 (omega arith) (sym c.at.ensures) c.loop-i.invariant c.in_ok-push_named.ensures
