use Rattle.std.proofs.Common.{refl, ap, ◌∙◌, ◌+◌}
use Rattle.tk_drain.specs.Passing.{raises}
use Rattle.tk_drain.proofs.PartLemmas.{feeder_more}
use Rattle.tk_drain.proofs.parts.push_parts.Goals as goal

pub loop-f-preserved : goal.loop-f-preserved
loop-f-preserved c =
    ap raises c.in_ok-push.ensures.items
    ∙ feeder_more c.loop-f.parts.items (raises c.args.parts.now.items) c.args.mon (record { 0 = c.loop-f.f + 1 }) c.loop-f.f refl c.loop-f.invariant
