use Rattle.std.proofs.Common.{◌++◌, List, ℕ, sym, ap, ◌∙◌, arith}
use Rattle.tk_frames.proofs.FrontLemmas.{front_more, front_on}
use Rattle.tk_frames.proofs.GroupLemmas.{groups_small}
use Rattle.tk_frames.proofs.WritingLemmas.{group_written}
use Rattle.tk_frames.proofs.writing.groups.Goals as goal

pub loop-rest-preserved : goal.loop-rest-preserved
loop-rest-preserved c = record {
  told = group_written c.loop-rest.out.items c.push.new.self.items c.loop-rest.rest c.loop-rest-test.true c.in_ok-push.ensures.items ∙ c.loop-rest.invariant.told;
  front = front_on _ _ _ c.loop-rest.invariant.front (front_more _ _ _ c.in_ok-push.ensures.items);
}

pub returns-clause-bytes : goal.returns-clause-bytes
returns-clause-bytes c = c.in_ok-push-2.ensures.items ∙ ap (λ (xs : List ℕ). c.loop-rest.out.items ++ xs) (sym (groups_small c.loop-rest.rest (omega (arith, c.loop-rest-test.false)))) ∙ c.loop-rest.invariant.told
