use Rattle.std.proofs.Common.{◌≡◌, ◌∙◌, ◌+◌, ◌≤◌, sym, ap, subst, length, map, ℕ, ℤ, List, arith, rules}
use Rattle.std.specs.List.{range_with_len}
use Rattle.std.specs.List.Sorted.{IsNonDecreasing}
use Rattle.std.proofs.lemmas.List.FromFn.{length-map-range_with_len}
use Rattle.tk_window.specs.Ticks.{AreOver}
use Rattle.tk_window.specs.Window.{up_to}
use Rattle.tk_window.proofs.WindowLemmas.{ends_in_order, ends_on, moved_on, over_expanded, sums_to_window, up_to_longer, up_to_none}
use Rattle.tk_window.proofs.expanding.expand.Goals as goal

pub loop-i-init : goal.loop-i-init
loop-i-init c = record {
  moved = c.new-list.ensures ∙ sym (up_to_none c.args.width c.args.ticked.now);
  ends = c.in_ok-ends.ensures.items;
}

pub overflow_cast-len : goal.overflow_cast-len
overflow_cast-len c =
    let ticks = c.args.ticked.now in
    let moved = moved_on c.args.width ticks c.loop-i.i c.loop-i.list c.step.new.list c.loop-i.invariant.moved c.in_ok-step.ensures in
    let longer = up_to_longer c.args.width ticks (c.loop-i.i + 1) (length ticks) (omega arith) in
    let many = ap (λ (cs : List (ℕ × ℤ)). length cs) moved in
    let short : c.len.result ≤ 1000000 = omega (arith, longer, many, c.len.ensures, c.expanded_length-length.ensures) in
    search rules

pub loop-i-preserved : goal.loop-i-preserved
loop-i-preserved c =
    let ticks = c.args.ticked.now in
    let moved = moved_on c.args.width ticks c.loop-i.i c.loop-i.list c.step.new.list c.loop-i.invariant.moved c.in_ok-step.ensures in
    let many = ap (λ (cs : List (ℕ × ℤ)). length cs) moved in
    record {
      moved = moved;
      ends = ends_on c.args.width ticks c.loop-i.i c.len.result c.loop-i.ends.items c.push.new.self.items c.loop-i.invariant.ends c.in_ok-push.ensures.items
          (omega (arith, many, c.len.ensures));
    }

pub invariant_of-result : goal.invariant_of-result
invariant_of-result c =
    let ticks = c.args.ticked.now in
    let many = ap (λ (es : List ℕ). length es) c.loop-i.invariant.ends in
    let each = length-map-range_with_len (λ t. length (up_to c.args.width ticks t)) 1 c.loop-i.i in
    let short : length c.loop-i.ends.items ≤ 1000001 = omega (arith, many, each, c.ticks-i-end.ensures.limits.records) in
    record {
      ordered = subst IsNonDecreasing (sym c.loop-i.invariant.ends) (ends_in_order c.args.width ticks c.loop-i.i);
      few = short;
    }

pub returns-clause-sums : goal.returns-clause-sums
returns-clause-sums c =
    let width = c.args.width in
    let ticks = c.args.ticked.now in
    let whole : c.loop-i.i ≡ length ticks = omega arith in
    let part : c.in_ok-part.part ≡ up_to width ticks (length ticks) = c.in_ok-part.ensures ∙ c.new.ensures ∙ c.shrink_to_fit.ensures ∙ c.loop-i.invariant.moved ∙ ap (up_to width ticks) whole in
    let ends : c.loop-i.ends.items ≡ map (λ t. length (up_to width ticks t)) (range_with_len 1 (length ticks)) = c.loop-i.invariant.ends ∙ ap (λ n. map (λ t. length (up_to width ticks t)) (range_with_len 1 n)) whole in
    rw (part, ends) (sums_to_window width ticks)

pub returns-clause-objects : goal.returns-clause-objects
returns-clause-objects c n all =
    subst (AreOver n) (sym (c.in_ok-part.ensures ∙ c.new.ensures ∙ c.shrink_to_fit.ensures ∙ c.loop-i.invariant.moved)) (over_expanded n c.args.width c.args.ticked.now c.loop-i.i all)
