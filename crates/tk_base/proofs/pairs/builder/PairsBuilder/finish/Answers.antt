use Rattle.std.proofs.Common.{rules}
use Rattle.tk_base.specs.Pairs.{objects_of}
use Rattle.tk_base.proofs.AscendingLemmas.{disorder_refuses}
use Rattle.tk_base.proofs.pairs.builder.PairsBuilder.finish.Goals as goal

pub returns-in-Some-clause-ascends : goal.returns-in-Some-clause-ascends
returns-in-Some-clause-ascends c =
    (λ no. cc, λ up. absurd (disorder_refuses (objects_of c.args.self) c.in-Some.place (search rules) up))
