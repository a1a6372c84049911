use Rattle.std.proofs.Common.{rules}
use Rattle.tk_live.proofs.CountLemmas.{same_count}
use Rattle.tk_live.proofs.HostLemmas.{hosts_same}
use Rattle.tk_live.proofs.playing.play.Goals as goal

-- the net and the sink are left as the host leaves them, since it holds them still
pub returns-clause-hosts : goal.returns-clause-hosts
returns-clause-hosts g c =
    hosts_same _ _ _ _ _ _ _ _ _ _ c.play_in-host.ensures.hosts.hosts (search rules) (search rules)

pub returns-clause-counted : goal.returns-clause-counted
returns-clause-counted g c =
    let host = c.play_in-host.result.0 in
    same_count c.play_in-host.result.1 (g.O.Sink.fault_count c.args.out.now) (g.O.Sink.fault_count host.out.now) _ c.play_in-host.ensures.hosts.counted (search rules)
