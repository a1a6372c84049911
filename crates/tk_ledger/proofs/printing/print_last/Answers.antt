use Rattle.tk_base.proofs.OptionLemmas.{on_err}
use Rattle.tk_ledger.specs.Text.{publications_text}
use Rattle.tk_ledger.proofs.SinkLemmas.{front_more, grows_more, put_done, put_failed, put_front}
use Rattle.tk_ledger.proofs.printing.print_last.Goals as goal

pub returns-in_err-put_line-clause-err : goal.returns-in_err-put_line-clause-err
returns-in_err-put_line-clause-err g c =
    let w = g.O.Sink.written in
    let last = c.args.last.now in
    on_err _ _ (put_failed (w c.args.out.now) (w c.put_line.new.out) _ (publications_text last.0) last.1.items c.in_ok-publications_line.ensures c.in_err-put_line.ensures.err)

pub returns-in_err-put-clause-err : goal.returns-in_err-put-clause-err
returns-in_err-put-clause-err g c =
    let w = g.O.Sink.written in
    let last = c.args.last.now in
    let first = put_done (w c.args.out.now) (w c.put_line.new.out) _ (publications_text last.0) c.in_ok-publications_line.ensures c.in_ok-put_line.ensures.ok in
    on_err _ _ (front_more (w c.args.out.now) (w c.put_line.new.out) (w c.put.new.self) (publications_text last.0) last.1.items first
    (put_front (w c.put_line.new.out) (w c.put.new.self) _ last.1.items c.deref.ensures.value c.in_err-put.ensures.err))

pub returns-clause-ok : goal.returns-clause-ok
returns-clause-ok g c =
    let w = g.O.Sink.written in
    let last = c.args.last.now in
    let first = put_done (w c.args.out.now) (w c.put_line.new.out) _ (publications_text last.0) c.in_ok-publications_line.ensures c.in_ok-put_line.ensures.ok in
    grows_more (w c.args.out.now) (w c.put_line.new.out) (w c.put.new.self) (publications_text last.0) last.1.items first
    (put_done (w c.put_line.new.out) (w c.put.new.self) _ last.1.items c.deref.ensures.value c.in_ok-put.ensures.ok)
