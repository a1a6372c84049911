use Rattle.std.proofs.Common.{subst}
use Rattle.tk_trail.proofs.BoundLemmas.{sent_short}
use Rattle.tk_trail.proofs.LawLemmas.{allowed_at}
use Rattle.tk_trail.proofs.SendsLemmas.{sends}
use Rattle.tk_trail.specs.Legal.{IsLegal}
use Rattle.tk_trail.specs.declared.entry.Entry.TheVariants.{Sent}
use Rattle.tk_port.proofs.SideLemmas.{no_hello, sent_stands}
use Rattle.tk_port.proofs.side.SideActor.frame_at.Goals as goal

pub returns-clause-sent : goal.returns-clause-sent
returns-clause-sent c =
    let monitor = c.args.self.now.monitor in
    let at = sent_stands monitor.trail c.args.i c.sent_at.result.now c.sent_at.ensures in
    let legal = subst (IsLegal monitor.setup) at.is c.trail.ensures.legal in
    record {
      short = sent_short monitor.setup at.before at.after c.sent_at.result.now c.requires.peer legal;
      no_bad_hello = no_hello monitor.setup at.before c.sent_at.result.now (sends monitor.setup at.before c.sent_at.result.now (allowed_at monitor.setup at.before at.after (Sent c.sent_at.result.now) legal));
    }
