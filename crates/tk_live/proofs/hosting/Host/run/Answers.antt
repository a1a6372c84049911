use Rattle.tk_live.proofs.HostLemmas.{closed_left, hosts_left}
use Rattle.tk_live.proofs.hosting.Host.run.Goals as goal

pub returns-clause-hosts : goal.returns-clause-hosts
returns-clause-hosts g c = record {
  hosts = hosts_left c.attend-parting.result _ _ _ _ _ _ _ _ _ c.attend-parting.ensures.hosts c.leave.ensures;
  closed = closed_left c.attend-parting.result _ _ _ _ _ _ _ _ _ c.attend-parting.ensures.hosts c.leave.ensures;
  shut = c.leave.ensures.shut;
  counted = c.attend-parting.ensures.counted;
}
