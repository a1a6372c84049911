use Rattle.std.proofs.Common.{arith}
use Rattle.tk_verify.proofs.TrailLemmas.{no_feeder, no_feeder_past, raised}
use Rattle.tk_verify.proofs.trails.raise.Goals.{then-f-eq0-via-then-f-eq0, then-f-eq0-via-else-f-eq0+then-f-feeders}
use Rattle.tk_verify.proofs.trails.raise.Goals as goal

pub returns-then-f-eq0-clause-leads : goal.returns-then-f-eq0-clause-leads
returns-then-f-eq0-clause-leads c =
    let m = c.args.monitor.now in
    elim c.then-f-eq0.branch [
      | then-f-eq0-via-then-f-eq0 w ↦ let zero' = w.if-f-eq0.true in no_feeder m.setup m.trail c.args.f c.trail.ensures.legal (omega (arith, zero'))
      | then-f-eq0-via-else-f-eq0+then-f-feeders w ↦ let past = w.if-f-feeders.true in let count = c.requires in no_feeder_past m.setup m.trail c.args.f c.trail.ensures.legal (omega (arith, past, count))
    ]

pub returns-clause-leads : goal.returns-clause-leads
returns-clause-leads c = (raised c.args.monitor.now c.args.f c.raise.result c.raise.new.self c.trail.ensures.legal c.raise.ensures.legal c.raise.ensures.answer).leads
