use Rattle.std.proofs.Common.{◌≡◌, ℕ, ◌+◌, ◌||◌, List, [], Vec, Global, refl, ap, sym, ◌∙◌, length, take, arith}
use Rattle.std.specs.Prelude.{unwrap_or}
use Rattle.std.specs.List.{list_any}
use Rattle.tk_base.specs.History.{last_of}
use Rattle.tk_ledger.specs.Text.{is_tuned, line_at, lines_of}
use Rattle.tk_ledger.proofs.LineLemmas.{last-push, length-push, line_is, no_line, no_line_is, one_line, tuned_next}
use Rattle.tk_ledger.proofs.printing.last_line.Goals as goal
use Rattle.tk_ledger.proofs.printing.last_line.Goals.{in-Some, in_default}

pub loop-entry-init : goal.loop-entry-init
unfolding lines_of
loop-entry-init c = record { tuned = refl; count = refl; few = omega arith; line = c.new-line.ensures.items }

pub loop-entry-preserved : goal.loop-entry-preserved
unfolding lines_of
loop-entry-preserved c =
    let names = c.args.names.now in
    let journal = c.args.journal.now in
    let i = c.loop-entry.entry-index in
    let entry = c.entry-item.result in
    let was = c.loop-entry.invariant in
    let tuned : (c.loop-entry.tuned || c.is_retune-tuned.result) ≡ list_any is_tuned (take (i + 1) journal) = tuned_next journal i entry c.loop-entry.tuned c.is_retune-tuned.result c.loop-entry-test.true c.entry-item.is was.tuned c.is_retune-tuned.ensures in
    elim c.match-branch-2.branch [
      | in-Some x ↦
          let line = x.in-Some.next.items in
          let is = line_is (line_at names) journal i entry c.loop-entry.tuned c.in_ok-next.field-0 x.in-Some.next was.tuned c.in_ok-next.ensures x.in-Some.is in
          let more = one_line (line_at names) journal i entry line c.loop-entry-test.true c.entry-item.is is in
          record {
            tuned = tuned;
            count = omega (arith, x.count-is, was.count, length-push (lines_of names (take i journal)) (lines_of names (take (i + 1) journal)) line more);
            few = omega (arith, x.count-is, was.few);
            line = ap (λ (l : Vec ℕ Global). l.items) x.line-is ∙ sym (last-push (lines_of names (take i journal)) (lines_of names (take (i + 1) journal)) line more);
          }
      | in_default x ↦
          let none = no_line_is (line_at names) journal i entry c.loop-entry.tuned c.in_ok-next.field-0 was.tuned c.in_ok-next.ensures x.in_default.is in
          let same = no_line (line_at names) journal i entry c.loop-entry-test.true c.entry-item.is none in
          record {
            tuned = tuned;
            count = x.count-is ∙ was.count ∙ ap (λ (l : List (List ℕ)). length l) (sym same);
            few = omega (arith, x.count-is, was.few);
            line = ap (λ (l : Vec ℕ Global). l.items) x.line-is ∙ was.line ∙ ap (λ (l : List (List ℕ)). unwrap_or (last_of l) []) (sym same);
          }
    ]
