use Rattle.std.proofs.Common.{length, arith, ap}
use Rattle.tk_serve.proofs.NameLemmas.{count_places}
use Rattle.tk_serve.proofs.serving.feeders_of.Goals as goal

pub overflow_cast-result : goal.overflow_cast-result
overflow_cast-result c =
    let m = c.args.monitor.now in
    omega (arith, c.len.ensures, ap length c.in_ok-places.ensures, count_places m.setup m.trail c.requires, c.requires.parts.feeders)

pub returns : goal.returns
returns c =
    let m = c.args.monitor.now in
    omega (arith, c.len.ensures, ap length c.in_ok-places.ensures, count_places m.setup m.trail c.requires)
