use Rattle.tk_host.proofs.TallyLemmas.{none_left, room_left}
use Rattle.tk_host.proofs.tally.Tally.weigh.Goals as goal

pub returns-then-is_full-clause-full : goal.returns-then-is_full-clause-full
returns-then-is_full-clause-full c = λ is. none_left c.args.journal.now c.count.new.self c.count.ensures.counted c.count.ensures.all (c.is_full.ensures.full c.if-is_full.true)

pub returns-clause-room : goal.returns-clause-room
returns-clause-room c = λ is. room_left c.args.journal.now c.count.new.self c.count.ensures.counted c.count.ensures.all (c.is_full.ensures.room c.if-is_full.false)
