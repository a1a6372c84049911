use Rattle.tk_live.proofs.playing.play_in.Goals as goal
use denote.Param.Send.{sendable}

pub scoped-requires : goal.scoped-requires
scoped-requires g c = record { at = λ a. (c.requires, search sendable) }
