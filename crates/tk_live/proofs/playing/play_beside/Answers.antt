use Rattle.tk_live.proofs.playing.play_beside.Goals as goal

pub start-slots-requires-clause-room : goal.start-slots-requires-clause-room
start-slots-requires-clause-room g c κs within = c.args.crew.slots_room

pub start-slots-requires-clause-empty : goal.start-slots-requires-clause-empty
start-slots-requires-clause-empty g c κs within = c.args.crew.no_slots
