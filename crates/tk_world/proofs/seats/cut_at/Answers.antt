use Rattle.std.proofs.Common.{◌<◌, ◌∙◌, length, ap, arith}
use Rattle.tk_base.specs.Settings.{Setup}
use Rattle.tk_coord.specs.Coordinator.{CoordinatorView}
use Rattle.tk_world.proofs.NodesLemmas.{places_more}
use Rattle.tk_world.proofs.seats.cut_at.Goals as goal

pub loop-j-preserved : goal.loop-j-preserved
loop-j-preserved g c =
    let v = g.N.Nodes.seen c.args.nodes.now in
    let within : c.loop-j.j < length v.seats =
    (let count = c.monitors-count.ensures.value ∙ ap (λ (s : Setup). s.monitors) (c.settings.ensures ∙ ap (λ (x : CoordinatorView). x.settings) c.coordinator.ensures) in
    let low = c.loop-j-test.true in
    let all = c.requires in
    omega (arith, count, low, all)) in
    c.in_ok-push.ensures.items ∙ places_more v.seats c.loop-j.j c.loop-j.list.items c.monitor.result.now c.in_ok-places.field-0 within c.loop-j.invariant c.monitor.ensures c.in_ok-places.ensures
