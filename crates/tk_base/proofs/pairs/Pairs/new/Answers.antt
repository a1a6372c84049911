use Rattle.std.proofs.Common.{subst, sym, refl}
use Rattle.tk_base.specs.Ascending.{IsAscending, FirstDisorder}
use Rattle.tk_base.proofs.AscendingLemmas.{disorder_refuses}
use Rattle.tk_base.proofs.PairsLemmas.{objects_of-pairs_of}
use Rattle.tk_base.proofs.pairs.Pairs.new.Goals as goal

pub invariant_of-result-in-None : goal.invariant_of-result-in-None
invariant_of-result-in-None c = subst IsAscending (sym (objects_of-pairs_of c.args.list.items)) (rw c.as_slice-2.ensures.value at c.in-None.ensures.none)

pub returns-in-Some-first_disorder-clause-place : goal.returns-in-Some-first_disorder-clause-place
returns-in-Some-first_disorder-clause-place c = subst (λ numbers. FirstDisorder numbers c.in-Some-first_disorder.place) (sym (objects_of-pairs_of c.args.list.items)) (rw c.as_slice-2.ensures.value at c.in-Some-first_disorder.ensures.some)

pub returns-in-Some-first_disorder-clause-ascends : goal.returns-in-Some-first_disorder-clause-ascends
returns-in-Some-first_disorder-clause-ascends c =
    (λ no. cc, λ up. absurd (disorder_refuses _ c.in-Some-first_disorder.place (returns-in-Some-first_disorder-clause-place c) up))

pub returns-in-None-clause-ascends : goal.returns-in-None-clause-ascends
returns-in-None-clause-ascends c = (λ yes. invariant_of-result-in-None c, λ up. refl)
