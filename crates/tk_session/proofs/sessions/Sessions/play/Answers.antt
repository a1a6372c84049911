use Rattle.tk_session.specs.Order.{lines_of}
use Rattle.tk_session.proofs.SessionLemmas.{play_more}
use Rattle.tk_session.proofs.sessions.Sessions.play.Goals as goal

pub loop-i-preserved : goal.loop-i-preserved
loop-i-preserved c = play_more (lines_of c.args.order.now) c.loop-i.i c.at.result.now c.args.self.now c.loop-i.self c.take.new.self c.at.ensures c.loop-i.invariant c.in_ok-take.ensures.ok
