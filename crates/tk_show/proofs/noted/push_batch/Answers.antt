use Rattle.std.proofs.Common.{◌≡◌, ◌≤◌, ◌∙◌, arith, length, refl, sym}
use Rattle.tk_show.proofs.TurnLemmas.{goes_on, is_whole, none_before, none_left, one_before}
use Rattle.tk_show.proofs.noted.push_batch.Goals as goal

pub loop-i-init : goal.loop-i-init
loop-i-init c = record { within = c.requires; text = refl; end = refl }

pub returns-then-is_input-clause-text : goal.returns-then-is_input-clause-text
returns-then-is_input-clause-text c =
    let none = none_before c.args.names.now c.args.journal.now c.loop-i.i c.index-journal-i.result c.loop-i-test.true c.index-journal-i.is (sym c.is_input.ensures ∙ c.if-is_input.true) in
    is_whole _ _ _ none.0 c.loop-i.invariant.text

pub returns-then-is_input-clause-end : goal.returns-then-is_input-clause-end
returns-then-is_input-clause-end c =
    let none = none_before c.args.names.now c.args.journal.now c.loop-i.i c.index-journal-i.result c.loop-i-test.true c.index-journal-i.is (sym c.is_input.ensures ∙ c.if-is_input.true) in
    omega (arith, none.1, c.loop-i.invariant.end)

pub loop-i-preserved : goal.loop-i-preserved
loop-i-preserved c =
    let one = one_before c.args.names.now c.args.journal.now c.loop-i.i c.index-journal-i.result c.loop-i-test.true c.index-journal-i.is (sym c.is_input.ensures ∙ c.if-is_input.false) in
    record {
      within = omega (arith, c.loop-i-test.true);
      text = goes_on _ _ _ _ _ _ one.0 c.in_ok-push_noted.ensures c.loop-i.invariant.text;
      end = omega (arith, one.1, c.loop-i.invariant.end);
    }

pub returns-clause-text : goal.returns-clause-text
returns-clause-text c =
    let end = c.loop-i-test.false in
    let past : length c.args.journal.now ≤ c.loop-i.i = omega (arith, end) in
    is_whole _ _ _ (none_left c.args.names.now c.args.journal.now c.loop-i.i past).0 c.loop-i.invariant.text

pub returns-clause-end : goal.returns-clause-end
returns-clause-end c =
    let end = c.loop-i-test.false in
    let past : length c.args.journal.now ≤ c.loop-i.i = omega (arith, end) in
    let none = none_left c.args.names.now c.args.journal.now c.loop-i.i past in
    omega (arith, end, none.1, c.loop-i.invariant.end, c.loop-i.invariant.within)
