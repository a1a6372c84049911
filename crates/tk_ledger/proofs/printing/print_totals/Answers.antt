use Rattle.std.proofs.Common.{◌++◌}
use Rattle.tk_base.proofs.OptionLemmas.{on_err}
use Rattle.tk_ledger.specs.Text.{bytes_text, frames_text, rounds_text}
use Rattle.tk_ledger.proofs.SinkLemmas.{front_more, front_of, grows_more, put_done, put_failed, put_front}
use Rattle.tk_ledger.proofs.printing.print_totals.Goals as goal

pub returns-in_err-put_line-clause-err : goal.returns-in_err-put_line-clause-err
returns-in_err-put_line-clause-err g c =
    let w = g.O.Sink.written in
    let l = c.args.ledger.now in
    on_err _ _ (put_failed (w c.args.out.now) (w c.put_line.new.out) _ (frames_text l) (rounds_text l ++ bytes_text l)
    c.in_ok-frames_line.ensures c.in_err-put_line.ensures.err)

pub returns-in_err-rounds_line-clause-err : goal.returns-in_err-rounds_line-clause-err
returns-in_err-rounds_line-clause-err g c =
    let w = g.O.Sink.written in
    let l = c.args.ledger.now in
    on_err _ _ (front_of (w c.args.out.now) (w c.put_line.new.out) (frames_text l) (rounds_text l ++ bytes_text l)
    (put_done (w c.args.out.now) (w c.put_line.new.out) _ (frames_text l) c.in_ok-frames_line.ensures c.in_ok-put_line.ensures.ok))

pub returns-in_err-put_line-2-clause-err : goal.returns-in_err-put_line-2-clause-err
returns-in_err-put_line-2-clause-err g c =
    let w = g.O.Sink.written in
    let l = c.args.ledger.now in
    let first = put_done (w c.args.out.now) (w c.put_line.new.out) _ (frames_text l) c.in_ok-frames_line.ensures c.in_ok-put_line.ensures.ok in
    on_err _ _ (front_more (w c.args.out.now) (w c.put_line.new.out) (w c.put_line-2.new.out) (frames_text l) (rounds_text l ++ bytes_text l) first
    (put_failed (w c.put_line.new.out) (w c.put_line-2.new.out) _ (rounds_text l) (bytes_text l) c.in_ok-rounds_line.ensures c.in_err-put_line-2.ensures.err))

pub returns-in_err-bytes_line-clause-err : goal.returns-in_err-bytes_line-clause-err
returns-in_err-bytes_line-clause-err g c =
    let w = g.O.Sink.written in
    let l = c.args.ledger.now in
    let first = put_done (w c.args.out.now) (w c.put_line.new.out) _ (frames_text l) c.in_ok-frames_line.ensures c.in_ok-put_line.ensures.ok in
    let second = put_done (w c.put_line.new.out) (w c.put_line-2.new.out) _ (rounds_text l) c.in_ok-rounds_line.ensures c.in_ok-put_line-2.ensures.ok in
    on_err _ _ (front_more (w c.args.out.now) (w c.put_line.new.out) (w c.put_line-2.new.out) (frames_text l) (rounds_text l ++ bytes_text l) first
    (front_of (w c.put_line.new.out) (w c.put_line-2.new.out) (rounds_text l) (bytes_text l) second))

pub returns-in_err-put_line-3-clause-err : goal.returns-in_err-put_line-3-clause-err
returns-in_err-put_line-3-clause-err g c =
    let w = g.O.Sink.written in
    let l = c.args.ledger.now in
    let first = put_done (w c.args.out.now) (w c.put_line.new.out) _ (frames_text l) c.in_ok-frames_line.ensures c.in_ok-put_line.ensures.ok in
    let second = put_done (w c.put_line.new.out) (w c.put_line-2.new.out) _ (rounds_text l) c.in_ok-rounds_line.ensures c.in_ok-put_line-2.ensures.ok in
    let third = put_front (w c.put_line-2.new.out) (w c.put_line-3.new.out) _ (bytes_text l) c.in_ok-bytes_line.ensures c.in_err-put_line-3.ensures.err in
    on_err _ _ (front_more (w c.args.out.now) (w c.put_line.new.out) (w c.put_line-3.new.out) (frames_text l) (rounds_text l ++ bytes_text l) first
    (front_more (w c.put_line.new.out) (w c.put_line-2.new.out) (w c.put_line-3.new.out) (rounds_text l) (bytes_text l) second third))

pub returns-clause-ok : goal.returns-clause-ok
returns-clause-ok g c =
    let w = g.O.Sink.written in
    let l = c.args.ledger.now in
    let first = put_done (w c.args.out.now) (w c.put_line.new.out) _ (frames_text l) c.in_ok-frames_line.ensures c.in_ok-put_line.ensures.ok in
    let second = put_done (w c.put_line.new.out) (w c.put_line-2.new.out) _ (rounds_text l) c.in_ok-rounds_line.ensures c.in_ok-put_line-2.ensures.ok in
    let third = put_done (w c.put_line-2.new.out) (w c.put_line-3.new.out) _ (bytes_text l) c.in_ok-bytes_line.ensures c.in_ok-put_line-3.ensures.ok in
    grows_more (w c.args.out.now) (w c.put_line.new.out) (w c.put_line-3.new.out) (frames_text l) (rounds_text l ++ bytes_text l) first
    (grows_more (w c.put_line.new.out) (w c.put_line-2.new.out) (w c.put_line-3.new.out) (rounds_text l) (bytes_text l) second third)
