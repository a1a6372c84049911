use Rattle.std.proofs.Common.{◌≡◌, take}
use Rattle.tk_session.specs.Order.{lines_of}
use Rattle.tk_session.specs.Sessions.{played}
use Rattle.tk_session.proofs.sessions.Sessions.play.Given as goal

-- the lines so far were played
abbrev pub invariant-loop-i : goal.invariant-loop-i
invariant-loop-i l = l.self ≡ played l.initial.self (take l.i (lines_of l.order))
