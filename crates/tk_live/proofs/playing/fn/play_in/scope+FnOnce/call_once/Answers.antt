use Rattle.std.proofs.Common.{rules}
use Rattle.tk_live.proofs.playing.fn.play_in.scope+FnOnce.call_once.Goals as goal
use denote.Param.Send.{sendable}

pub scope-requires : goal.scope-requires
scope-requires g c = (search sendable, (search sendable, (search sendable, (search sendable, (search sendable, (search sendable, search rules))))))
