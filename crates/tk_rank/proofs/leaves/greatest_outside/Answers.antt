use Rattle.std.proofs.Common.{map}
use Rattle.tk_rank.proofs.BlockLemmas.{outside_without}
use Rattle.tk_rank.proofs.leaves.greatest_outside.Goals as goal

pub returns-in-Some-clause-number : goal.returns-in-Some-clause-number
returns-in-Some-clause-number g c =
    let number = g.N.Node.number in
    outside_without c.args.set.now c.args.place c.in-Some.next c.args.from c.args.to (map number c.args.leaves.now) (number c.args.top) c.requires.order c.requires.passed c.in-Some.ensures.passed c.in-Some.ensures.other c.requires.top
