use Rattle.std.proofs.Common.{ap, ◌∙◌}
use Rattle.tk_port.specs.Port.{PortView}
use Rattle.tk_host.proofs.stand_in.StandIn.new.Goals as goal

pub returns : goal.returns
returns c =
    let port = c.over.ensures.port in
    record {
      monitor = ap (λ (p : PortView _). p.monitor) port ∙ c.in_ok-port.ensures.monitor;
      run = ap (λ (p : PortView _). p.run) port ∙ c.in_ok-port.ensures.run;
      counts = c.over.ensures.counts;
    }
