use Rattle.std.proofs.Common.{subst}
use Rattle.std.proofs.lemmas.Result.{IfOk-weaker}
use Rattle.tk_coord.specs.Dealing.{Ends, IsAssigned, IsDealt}
use Rattle.tk_coord.proofs.OutcomesLemmas.{ends_within}
use Rattle.tk_coord.proofs.outcomes.ended.Goals as goal

pub returns-in-Factors-clause-ends : goal.returns-in-Factors-clause-ends
returns-in-Factors-clause-ends c grid decided dealt =
    let is = subst (IsDealt grid decided) c.in-Factors.is dealt in
    let peers = c.args.peers.now in
    let phase = c.args.phase in
    IfOk-weaker c.assigned.result (IsAssigned grid peers phase decided) (Ends grid peers phase c.args.rounds decided)
    (λ outcome. ends_within grid peers phase c.args.rounds decided outcome is.1) (c.assigned.ensures.assigns grid decided is.0)
