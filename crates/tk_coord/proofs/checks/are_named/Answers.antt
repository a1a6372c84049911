use Rattle.std.proofs.Common.{arith, sym}
use Rattle.tk_base.specs.Objects.{is_in}
use Rattle.tk_base.specs.Pairs.{objects_of}
use Rattle.tk_coord.proofs.SearchLemmas.{all_pass}
use Rattle.tk_coord.proofs.checks.are_named.Goals as goal

pub returns-clause-value : goal.returns-clause-value
returns-clause-value c = sym (all_pass (is_in (objects_of c.args.values.now)) c.args.set.now 0 (λ k within. c.loop-i.invariant k (omega (arith, c.len-i-end.ensures.value))))
