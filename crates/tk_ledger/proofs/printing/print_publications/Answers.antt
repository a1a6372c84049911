use Rattle.std.proofs.Common.{◌≡◌, ◌+◌, ◌||◌, ◌∙◌, subst, take, ap, sym, refl, ℕ, List, Option, Bor, option_map}
use Rattle.std.specs.List.{concat, list_any}
use Rattle.tk_base.proofs.OptionLemmas.{on_err}
use Rattle.tk_input.specs.Sink.{Grows}
use Rattle.tk_ledger.specs.Text.{is_tuned, line_with, lines_by}
use Rattle.tk_ledger.proofs.LineLemmas.{concat-push, lines_split, line_is, no_line, no_line_is, one_line, tuned_next}
use Rattle.tk_ledger.proofs.SinkLemmas.{goes_on, grows_none, stops_before, stops_within}
use Rattle.tk_ledger.proofs.printing.print_publications.Goals as goal
use Rattle.tk_ledger.proofs.printing.print_publications.Goals.{in-Some+in_ok-put_line, in_default}

pub loop-entry-init : goal.loop-entry-init
loop-entry-init g c = record { tuned = refl; written = grows_none (g.O.Sink.written c.args.out.now); faults = refl }

pub returns-in_err-line-clause-err : goal.returns-in_err-line-clause-err
returns-in_err-line-clause-err g c =
    let w = g.O.Sink.written in
    let line_of = line_with (option_map (λ (t : Bor (List (List (List ℕ)))). t.now) c.args.ticks) c.args.names.now in
    let journal = c.args.journal.now in
    let i = c.loop-entry.entry-index in
    let split = lines_split line_of journal i in
    on_err _ _ (stops_before (w c.args.out.now) (w c.loop-entry.out) (concat (lines_by line_of (take i journal))) split.0 (concat (lines_by line_of journal)) split.1 c.loop-entry.invariant.written)

pub returns-in_err-put_line-clause-err : goal.returns-in_err-put_line-clause-err
returns-in_err-put_line-clause-err g c =
    let w = g.O.Sink.written in
    let line_of = line_with (option_map (λ (t : Bor (List (List (List ℕ)))). t.now) c.args.ticks) c.args.names.now in
    let journal = c.args.journal.now in
    let i = c.loop-entry.entry-index in
    let entry = c.entry-item.result in
    let split = lines_split line_of journal (i + 1) in
    let line = c.in-Some.line.items in
    let is = line_is line_of journal i entry c.loop-entry.tuned c.in_ok-line.field-0 c.in-Some.line c.loop-entry.invariant.tuned c.in_ok-line.ensures c.in-Some.is in
    let more = concat-push (lines_by line_of (take i journal)) (lines_by line_of (take (i + 1) journal)) line (one_line line_of journal i entry line c.loop-entry-test.true c.entry-item.is is) in
    on_err _ _ (stops_within (w c.args.out.now) (w c.loop-entry.out) (w c.put_line.new.out) (concat (lines_by line_of (take i journal))) line (concat (lines_by line_of (take (i + 1) journal))) split.0
    (concat (lines_by line_of journal)) line more split.1 refl c.loop-entry.invariant.written c.in_err-put_line.ensures.err)

pub loop-entry-preserved : goal.loop-entry-preserved
loop-entry-preserved g c =
    let w = g.O.Sink.written in
    let line_of = line_with (option_map (λ (t : Bor (List (List (List ℕ)))). t.now) c.args.ticks) c.args.names.now in
    let journal = c.args.journal.now in
    let i = c.loop-entry.entry-index in
    let entry = c.entry-item.result in
    let was = c.loop-entry.invariant in
    let tuned : (c.loop-entry.tuned || c.is_retune-tuned.result) ≡ list_any is_tuned (take (i + 1) journal) = tuned_next journal i entry c.loop-entry.tuned c.is_retune-tuned.result c.loop-entry-test.true c.entry-item.is was.tuned c.is_retune-tuned.ensures in
    elim c.match-branch-2.branch [
      | in-Some+in_ok-put_line x ↦
          let line = x.in-Some.line.items in
          let is = line_is line_of journal i entry c.loop-entry.tuned c.in_ok-line.field-0 x.in-Some.line was.tuned c.in_ok-line.ensures x.in-Some.is in
          let more = concat-push (lines_by line_of (take i journal)) (lines_by line_of (take (i + 1) journal)) line (one_line line_of journal i entry line c.loop-entry-test.true c.entry-item.is is) in
          let written = goes_on (w c.args.out.now) (w c.loop-entry.out) (w x.put_line.new.out) (concat (lines_by line_of (take i journal))) line (concat (lines_by line_of (take (i + 1) journal))) line
          more refl was.written x.in_ok-put_line.ensures.ok in
          record {
            tuned = tuned;
            written = subst (λ (b : Option (List ℕ)). Grows (w c.args.out.now) b (concat (lines_by line_of (take (i + 1) journal)))) (sym (ap w x.out-is)) written;
            faults = ap g.O.Sink.fault_count x.out-is ∙ x.in_ok-put_line.ensures.counted ∙ was.faults;
          }
      | in_default x ↦
          let none = no_line_is line_of journal i entry c.loop-entry.tuned c.in_ok-line.field-0 was.tuned c.in_ok-line.ensures x.in_default.is in
          let same = no_line line_of journal i entry c.loop-entry-test.true c.entry-item.is none in
          record {
            tuned = tuned;
            written = subst (λ (l : List (List ℕ)). Grows (w c.args.out.now) (w c.match-branch-2.out) (concat l)) (sym same)
                (subst (λ (b : Option (List ℕ)). Grows (w c.args.out.now) b (concat (lines_by line_of (take i journal)))) (sym (ap w x.out-is)) was.written);
            faults = ap g.O.Sink.fault_count x.out-is ∙ was.faults;
          }
    ]
