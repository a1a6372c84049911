use Rattle.std.proofs.Common.{ℕ, ◌+◌, ap, sym, ◌∙◌, arith}
use Rattle.std.specs.Prelude.{sum_by}
use Rattle.std.specs.List.{range_with_len}
use Rattle.tk_input.specs.Logs.{parts_of, places_of}
use Rattle.tk_monitor.specs.Kept.{left_in}
use Rattle.tk_world.proofs.RangeLemmas.{summed_more}
use Rattle.tk_world.proofs.left.left_after.Goals as goal

pub loop-j-preserved : goal.loop-j-preserved
loop-j-preserved c =
    let left : ℕ → ℕ = λ mon. left_in (parts_of c.args.logs.now.logs mon) (places_of c.args.from.now mon) in
    record {
      left =
          ap (λ (n : ℕ). n + c.left_of-left.result) c.loop-j.invariant.left
          ∙ ap (λ (n : ℕ). sum_by left (range_with_len 1 c.loop-j.j) + n) c.left_of-left.ensures.value
          ∙ sym (summed_more left c.loop-j.j);
      few = omega (arith, c.loop-j.invariant.few, c.left_of-left.ensures.size);
    }
