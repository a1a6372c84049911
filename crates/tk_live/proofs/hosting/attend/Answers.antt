use Rattle.std.proofs.Common.{◌≤◌, length, refl, sym, ap, ◌∙◌, subst}
use Rattle.tk_base.specs.Settings.{Setup}
use Rattle.tk_live.specs.Parting.{faults_of}
use Rattle.tk_live.proofs.HostLemmas.{goes_first}
use Rattle.tk_live.proofs.hosting.attend.Goals as goal

pub loop-init : goal.loop-init
loop-init g c =
    let a = c.args in record {
      going = goes_first a.names.now a.hub.now (g.N.Net.state a.net.now) (g.O.Sink.written a.out.now) c.requires.can.going c.coordinator.ensures.kept c.requires.unwritten c.requires.unstopped;
      faults = refl;
    }

pub go_round-requires-after_bounds : goal.go_round-requires-after_bounds
go_round-requires-after_bounds g c κs within =
    let going = c.loop.invariant.going in record {
      going = going.course;
      listens = going.gone.listens c.requires.can.listens;
      named = subst (λ (s : Setup). s.objects ≤ length c.args.names.now) (sym going.settings) c.requires.can.named;
    }

pub returns-in-Err-clause-hosts : goal.returns-in-Err-clause-hosts
returns-in-Err-clause-hosts g c = c.in-Err.ensures.goes _ _ _ c.loop.invariant.going

pub returns-in-Err-clause-counted : goal.returns-in-Err-clause-counted
returns-in-Err-clause-counted g c = c.in-Err.ensures.counted ∙ ap (faults_of c.in-Err.parting) c.loop.invariant.faults

pub loop-preserved : goal.loop-preserved
loop-preserved g c = record {
  going = c.in-Ok.ensures.goes _ _ _ c.loop.invariant.going;
  faults = c.in-Ok.ensures.counted ∙ c.loop.invariant.faults;
}
