use Rattle.std.proofs.Common.{◌≡◌, true, Ok, None, IfOk, IfErr, subst, ◌∙◌, ap}
use Rattle.tk_stream.specs.LineBuffer.{left_in}
use Rattle.tk_stream.specs.Records.{FailsItem, first_in, found_before}
use Rattle.tk_stream.specs.Turn.{Turns}
use Rattle.tk_stream.proofs.TurnLemmas.{counted_ok, counted_err, finds_nothing, shown}
use Rattle.tk_stream.proofs.records.Records.turn.Goals as goal

pub returns-in-Ok-Line-clause-ok : goal.returns-in-Ok-Line-clause-ok
returns-in-Ok-Line-clause-ok g c =
    let r = c.self.inside in
    let content = g.S.Source.content r.source in
    let faults = g.S.Source.fault_count r.source in
    let left = left_in c.take_front.new.buffer content in
    let met = rw c.in-Ok-Line.field-0-is at c.in-Ok-Line.ensures.ok in
    subst (λ old. IfOk c.count.result (λ turn. Turns c.args.ticks c.args.names.now turn old (shown g.S.Source.tells r.skips faults left c.count.new.number c.count.new.skipped))) c.self.view_is
    (counted_ok c.args.ticks c.args.names.now c.in-Ok-Line.judged g.S.Source.tells r.skips c.count.result faults r.number c.count.new.number r.skipped c.count.new.skipped (left_in r.buffer content) left (λ told. met content (λ over. c.self.invariant over told)) c.count.ensures.number c.count.ensures.counts)

pub returns-in-Ok-Line-clause-err : goal.returns-in-Ok-Line-clause-err
returns-in-Ok-Line-clause-err g c =
    let r = c.self.inside in
    let content = g.S.Source.content r.source in
    let faults = g.S.Source.fault_count r.source in
    let left = left_in c.take_front.new.buffer content in
    let met = rw c.in-Ok-Line.field-0-is at c.in-Ok-Line.ensures.ok in
    subst (λ old. IfErr c.count.result (λ fault. FailsItem c.args.ticks c.args.names.now fault old (shown g.S.Source.tells r.skips faults left c.count.new.number c.count.new.skipped))) c.self.view_is
    (counted_err c.args.ticks c.args.names.now c.in-Ok-Line.judged g.S.Source.tells r.skips c.count.result faults r.number c.count.new.number r.skipped c.count.new.skipped (left_in r.buffer content) left (λ told. met content (λ over. c.self.invariant over told)) c.count.ensures.number c.count.ensures.counts)

pub returns-in-Ok-Nothing-clause-ok : goal.returns-in-Ok-Nothing-clause-ok
returns-in-Ok-Nothing-clause-ok g c told =
    let r = c.self.inside in
    let content = g.S.Source.content r.source in
    let faults = g.S.Source.fault_count r.source in
    let met = rw c.in-Ok-Nothing.field-0-is at c.in-Ok-Nothing.ensures.ok in
    let tells : g.S.Source.tells ≡ true = ap (λ u. u.tells) c.self.view_is ∙ told in
    subst (λ old. first_in c.args.ticks c.args.names.now old ≡ found_before (Ok None) (shown g.S.Source.tells r.skips faults (left_in c.take_front.new.buffer content) r.number r.skipped)) c.self.view_is
    (finds_nothing c.args.ticks c.args.names.now g.S.Source.tells r.skips faults r.number r.skipped r.buffer c.take_front.new.buffer content met.0 met.1 (c.self.invariant met.2 tells))
