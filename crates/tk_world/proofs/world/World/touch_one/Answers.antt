use Rattle.std.proofs.Common.{sym, subst}
use Rattle.tk_monitor.specs.Monitored.{MonitorView, IsFeederOf}
use Rattle.tk_story.specs.Kept.{KeptStory}
use Rattle.tk_world.specs.Nodes.{fresh_seat}
use Rattle.tk_world.specs.World.{IsFeeder}
use Rattle.tk_world.proofs.NodesLemmas.{feeder_there, has_seat}
use Rattle.tk_world.proofs.world.World.touch_one.Goals as goal

pub monitor-requires : goal.monitor-requires
monitor-requires g c =
    let w = c.self.inside in
    let is = subst (λ (k : KeptStory). IsFeeder k.story c.args.mon.0 c.args.f.0) (sym c.self.view_is) (c.has_feeder.ensures.yes c.if-not-has_feeder.false) in
    has_seat (g.N.Nodes.seen w.nodes) w.logs w.from c.args.mon.0 c.self.invariant.story is.monitor

pub touch-requires : goal.touch-requires
touch-requires g c =
    let w = c.self.inside in
    let v = g.N.Nodes.seen w.nodes in
    let seat = fresh_seat v.coordinator.settings w.logs w.from 1 in
    let is = subst (λ (k : KeptStory). IsFeeder k.story c.args.mon.0 c.args.f.0) (sym c.self.view_is) (c.has_feeder.ensures.yes c.if-not-has_feeder.false) in
    let there = feeder_there v w.logs w.from w.diary.raises w.work c.args.mon.0 c.args.f.0 c.self.invariant is in
    subst (λ (m : MonitorView). IsFeederOf m.setup c.args.f.0) (sym (c.monitor.ensures seat)) (there seat)
