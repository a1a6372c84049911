use Rattle.std.proofs.Common.{ap₂, pos, ◌+ℤ◌}
use Rattle.tk_journal.proofs.LineLemmas.{grown}
use Rattle.tk_host.specs.Origins.{origin_of}
use Rattle.tk_host.proofs.LineLemmas.{places_more}
use Rattle.tk_host.proofs.lines.push_absolute.Goals as goal

pub loop-i-preserved : goal.loop-i-preserved
loop-i-preserved c =
    grown _ _ _ _ _ _ c.loop-i.invariant c.in_ok-push_place.ensures
    (places_more c.args.beginnings.now c.args.places.now c.loop-i.i _ (ap₂ (λ b place. origin_of b +ℤ pos place) c.beginning_at.ensures c.at.ensures))
