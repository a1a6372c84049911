use Rattle.std.proofs.Common.{List, length, ap, arith}
use Rattle.tk_monitor.specs.Monitored.{MonitorView}
use Rattle.tk_verify.proofs.RunLemmas.{ends_more, odds_more, one_longer}
use Rattle.tk_verify.proofs.verifying.ends_of.Goals as goal

pub push_reserved-requires : goal.push_reserved-requires
push_reserved-requires c =
    let rest = ap (λ (monitors : List MonitorView). length monitors) c.in-Some.ensures.steps.0 in
    omega (arith, c.loop-monitor.invariant.room, rest)

pub loop-monitor-preserved : goal.loop-monitor-preserved
loop-monitor-preserved c =
    let before = c.loop-monitor.invariant in
    let rest = ap (λ (monitors : List MonitorView). length monitors) c.in-Some.ensures.steps.0 in
    let more = one_longer c.loop-monitor.ends.items c.new.result c.push_reserved.new.self.items c.push_reserved.ensures.items in
    record {
      monitors = ends_more c.loop-monitor.yielded c.loop-monitor.ends.items c.in-Some.monitor c.new.result c.push_reserved.new.self.items c.push_reserved.ensures.items before.monitors c.new.ensures.monitor;
      odds = odds_more c.loop-monitor.yielded c.loop-monitor.ends.items c.in-Some.monitor c.new.result c.push_reserved.new.self.items c.push_reserved.ensures.items before.odds c.new.ensures.odd;
      room = omega (arith, before.room, rest, more, c.push_reserved.ensures.capacity);
    }
