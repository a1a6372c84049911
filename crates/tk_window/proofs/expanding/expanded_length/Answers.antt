use Rattle.std.proofs.Common.{sym, ap, length, ℕ, ℤ, List, arith}
use Rattle.tk_window.proofs.WindowLemmas.{length-up_to_next, up_to_none}
use Rattle.tk_window.proofs.expanding.expanded_length.Goals as goal

pub loop-i-init : goal.loop-i-init
loop-i-init c = record {
  counted = sym (ap (λ (cs : List (ℕ × ℤ)). length cs) (up_to_none c.args.width c.args.ticked.now));
  small = omega arith;
}

pub loop-i-preserved : goal.loop-i-preserved
loop-i-preserved c =
    let next = length-up_to_next c.args.width c.args.ticked.now c.loop-i.i in
    record {
      counted = omega (arith, next, c.loop-i.invariant.counted, c.step_length-all.ensures.value);
      small = omega (arith, c.loop-i.invariant.small, c.step_length-all.ensures.most);
    }
