use Rattle.std.proofs.Common.{◌≡◌, None, ap, sym, subst, ◌∙◌}
use Rattle.tk_input.specs.Files.{HasRisen}
use Rattle.tk_live.specs.Lived.{Concludes}
use Rattle.tk_live.specs.Traffic.{traffic_of}
use Rattle.tk_live.specs.declared.outcome.LiveOutcome.{LiveOutcome}
use Rattle.tk_live.proofs.CountLemmas.{unstarted_spared}
use Rattle.tk_live.proofs.TellLemmas.{concludes_unstarted}
use Rattle.tk_live.proofs.ToldLemmas.{net_is, net_linked}
use Rattle.tk_live.proofs.living.live_over.Goals as goal

pub returns-in-Ok-make_stage-clause-ends : goal.returns-in-Ok-make_stage-clause-ends
returns-in-Ok-make_stage-clause-ends g c =
    let plan = c.in-Ok.plan in
    let was = g.O.Sink.written c.args.out.now in
    let now = g.O.Sink.written c.run_stage.new.out in
    let then = (g.N.Net.state c.run_stage.new.net).taken in
    subst (λ i. Concludes i c.args.version (traffic_of was now (g.N.Net.state c.args.net.now).taken then) c.run_stage.result) c.in-Ok.ensures.input
    (subst (λ v. Concludes plan.input v (traffic_of was now (g.N.Net.state c.args.net.now).taken then) c.run_stage.result) c.in-Ok.ensures.version
    (subst (λ n. Concludes plan.input plan.version (traffic_of was now n then) c.run_stage.result) c.make_stage.ensures.gone.taken c.run_stage.ensures.ends))

pub returns-in-Err-clause-ends : goal.returns-in-Err-clause-ends
returns-in-Err-clause-ends g c =
    let which = net_is c.in-Err.fault c.has_risen.result in
    concludes_unstarted c.args.input c.args.version _ _ _ _ c.unstarted-in-Err.result which c.make_stage.ensures.gone.taken (subst (λ s. c.unstarted-in-Err.result ≡ record { status = s; story = None; ends = None }) c.of_net.ensures c.unstarted-in-Err.ensures)

pub returns-in-Err-clause-failed : goal.returns-in-Err-clause-failed
returns-in-Err-clause-failed g c = λ is.
    let told = ap (λ (l : LiveOutcome). l.status) c.unstarted-in-Err.ensures ∙ c.of_net.ensures in
    subst (λ n. HasRisen n (g.N.Net.state c.make_stage.new.net).faults) c.faults-faults.ensures
    (subst (HasRisen c.faults-faults.result) c.faults.ensures (c.has_risen.ensures (net_linked c.in-Err.fault c.has_risen.result (sym told ∙ is))))

pub returns-in-Err-clause-counted : goal.returns-in-Err-clause-counted
returns-in-Err-clause-counted g c = unstarted_spared _ (net_is c.in-Err.fault c.has_risen.result) _ (subst (λ s. c.unstarted-in-Err.result ≡ record { status = s; story = None; ends = None }) c.of_net.ensures c.unstarted-in-Err.ensures) _
