use Rattle.std.proofs.Common.{◌≡◌, ◌+◌, ◌≤◌, ◌++◌, ◌∙◌, ℕ, List, arith, drop, length, refl, subst}
use Rattle.tk_base.proofs.OptionLemmas.{on_err}
use Rattle.tk_show.specs.Text.{line_of, lines_from}
use Rattle.tk_show.proofs.WritingLemmas.{Goes, begins, ends, fails, goes_further, next_lines, no_lines, stops}
use Rattle.tk_show.proofs.printing.print_events.Goals as goal

pub loop-event-init : goal.loop-event-init
loop-event-init g c = record { written = begins _ _; faults = refl }

pub returns-in_err-line-clause-err : goal.returns-in_err-line-clause-err
returns-in_err-line-clause-err g c = on_err _ _ (stops _ _ _ _ c.loop-event.invariant.written)

pub returns-in_err-put_line-clause-err : goal.returns-in_err-put_line-clause-err
returns-in_err-put_line-clause-err g c =
    let w = g.O.Sink.written in
    let s = c.args.story.now.story in
    let names = c.args.names.now in
    let event = c.event-item.result in
    let whole = lines_from names s c.args.telling.now c.args.events.now in
    let rest = lines_from names s c.line.new.self (drop (c.loop-event.event-index + 1) c.args.events.now) in
    let piece = line_of names s c.loop-event.telling event in
    let more = next_lines names s c.loop-event.telling c.line.new.self c.args.events.now c.loop-event.event-index event c.loop-event-test.true c.event-item.is c.in_ok-line.ensures.further in
    let goes = subst (λ (l : List ℕ). Goes (w c.args.out.now) (w c.loop-event.out) whole l) more c.loop-event.invariant.written in
    on_err _ _ (fails (w c.args.out.now) (w c.loop-event.out) (w c.put_line.new.out) whole piece rest _ c.in_ok-line.ensures.line goes c.in_err-put_line.ensures.err)

pub loop-event-preserved : goal.loop-event-preserved
loop-event-preserved g c =
    let w = g.O.Sink.written in
    let s = c.args.story.now.story in
    let names = c.args.names.now in
    let event = c.event-item.result in
    let whole = lines_from names s c.args.telling.now c.args.events.now in
    let rest = lines_from names s c.line.new.self (drop (c.loop-event.event-index + 1) c.args.events.now) in
    let piece = line_of names s c.loop-event.telling event in
    let more = next_lines names s c.loop-event.telling c.line.new.self c.args.events.now c.loop-event.event-index event c.loop-event-test.true c.event-item.is c.in_ok-line.ensures.further in
    let goes = subst (λ (l : List ℕ). Goes (w c.args.out.now) (w c.loop-event.out) whole l) more c.loop-event.invariant.written in
    record {
      written = goes_further (w c.args.out.now) (w c.loop-event.out) (w c.put_line.new.out) whole piece rest _ c.in_ok-line.ensures.line goes c.in_ok-put_line.ensures.ok;
      faults = c.in_ok-put_line.ensures.counted ∙ c.loop-event.invariant.faults;
    }

pub returns-clause-ok : goal.returns-clause-ok
returns-clause-ok g c =
    let w = g.O.Sink.written in
    let end = c.loop-event-test.false in
    let past : length c.args.events.now ≤ c.loop-event.event-index = omega (arith, end) in
    ends (w c.args.out.now) (w c.loop-event.out) _ _ (no_lines c.args.names.now c.args.story.now.story c.loop-event.telling c.args.events.now c.loop-event.event-index past) c.loop-event.invariant.written
