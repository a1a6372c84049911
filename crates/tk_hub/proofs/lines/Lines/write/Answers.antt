use Rattle.std.proofs.Common.{rules, ◌≤◌, [], unwrap_or, subst, sym, ap, ◌∙◌, arith}
use Rattle.tk_input.specs.Sink.{Grows, GrowsByFront}
use Rattle.tk_ledger.specs.Text.{line_at}
use Rattle.tk_hub.specs.Lines.{IsAt, IsCutShort, text_between, text_from, written_in}
use Rattle.tk_hub.specs.declared.lines.Lines.{Lines}
use Rattle.tk_hub.proofs.LinesLemmas.{IsEntryAt, at_next, count_more, cut_next, grown_next}
use Rattle.tk_hub.proofs.lines.Lines.write.Goals as goal

pub loop-self-preserved : goal.loop-self-preserved
loop-self-preserved g c =
    let w = g.O.Sink.written in
    let names = c.args.names.now in
    let journal = c.args.journal.now in
    let start = c.args.self.now in
    let was = c.loop-self.self in
    let entry = c.index-journal-self.result in
    let kept = c.loop-self.invariant in
    let here : IsEntryAt journal was.passed entry = record { within = c.loop-self-test.true; is = c.index-journal-self.is } in
    let passed = c.in_ok-pass.ensures in
    let more = count_more journal was.passed entry here in
    record {
      at = subst (IsAt journal) (sym passed.ok) (at_next journal was entry kept.at here);
      forward = omega (arith, kept.forward, ap (λ (l : Lines). l.passed) passed.ok);
      counted = subst (λ (l : Lines). written_in journal start ≤ written_in journal l) (sym passed.ok) (omega (arith, kept.counted, more));
      grown = subst (λ (l : Lines). Grows (w c.args.out.now) (w c.pass.new.out) (text_between names journal (written_in journal start) (written_in journal l))) (sym passed.ok)
          (grown_next names journal start was entry (w c.args.out.now) (w c.loop-self.out) (w c.pass.new.out) kept.at here kept.counted kept.grown passed.written);
      faults = passed.counted ∙ kept.faults;
    }

pub returns-in_err-pass-clause-cut : goal.returns-in_err-pass-clause-cut
returns-in_err-pass-clause-cut g c = λ failed.
    let w = g.O.Sink.written in
    let names = c.args.names.now in
    let journal = c.args.journal.now in
    let start = c.args.self.now in
    let was = c.loop-self.self in
    let entry = c.index-journal-self.result in
    let kept = c.loop-self.invariant in
    let here : IsEntryAt journal was.passed entry = record { within = c.loop-self-test.true; is = c.index-journal-self.is } in
    let front : GrowsByFront (w c.loop-self.out) (w c.pass.new.out) (unwrap_or (line_at names was.tuned entry) []) = search rules in
    subst (λ (l : Lines). IsCutShort (text_between names journal (written_in journal start) (written_in journal l)) (text_from names journal (written_in journal l)) (w c.args.out.now) (w c.pass.new.out)) (sym c.in_err-pass.ensures.err)
    (cut_next names journal start was entry (w c.args.out.now) (w c.loop-self.out) (w c.pass.new.out) kept.at here kept.grown front)
