use Rattle.std.proofs.Common.{ap}
use Rattle.tk_hub.proofs.KeptLemmas.{hub_new}
use Rattle.tk_hub.proofs.hub.Hub.new.Goals as goal

pub invariant_of-result : goal.invariant_of-result
invariant_of-result g c =
    let s = c.in_ok-seats.seats in
    hub_new s c.new-3.result c.new-4.result c.args.coordinator.settings.monitors c.coordinator.ensures.kept (ap (λ v. v.links) c.in_ok-seats.ensures) c.new-4.ensures c.new-3.ensures.held

pub returns-clause-kept : goal.returns-clause-kept
returns-clause-kept g c =
    let s = c.in_ok-seats.seats in
    hub_new s c.new-3.result c.new-4.result c.args.coordinator.settings.monitors c.coordinator.ensures.kept (ap (λ v. v.links) c.in_ok-seats.ensures) c.new-4.ensures c.new-3.ensures.held
