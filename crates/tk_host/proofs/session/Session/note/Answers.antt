use Rattle.std.proofs.Common.{refl, sym, subst}
use Rattle.tk_ledger.proofs.SinkLemmas.{put_done, put_front}
use Rattle.tk_host.proofs.GoingLemmas.{told_seated, unwritten}
use Rattle.tk_host.specs.Going.{IsTold, going}
use Rattle.tk_host.specs.Text.{seat_text}
use Rattle.tk_host.proofs.session.Session.note.Goals as goal

pub returns-clause-tells : goal.returns-clause-tells
returns-clause-tells g c = λ names before h.
    told_seated names _ _ before (g.O.Sink.written c.args.out.now) (subst (λ s. IsTold going names s before (g.O.Sink.written c.args.out.now)) (sym c.self.view_is) h) going c.args.seat (g.O.Sink.written c.put_line.new.out) refl c.in_ok-seat.ensures.ok refl
    (put_done (g.O.Sink.written c.args.out.now) (g.O.Sink.written c.put_line.new.out) _ (seat_text c.args.seat) c.in_ok-line.ensures c.in_ok-put_line.ensures.ok)

pub returns-in_err-put_line-clause-tells : goal.returns-in_err-put_line-clause-tells
returns-in_err-put_line-clause-tells g c = λ names before h.
    told_seated names _ _ before (g.O.Sink.written c.args.out.now) (subst (λ s. IsTold going names s before (g.O.Sink.written c.args.out.now)) (sym c.self.view_is) h) c.from_residual-in_err-put_line.result c.args.seat (g.O.Sink.written c.put_line.new.out) refl c.in_ok-seat.ensures.ok refl
    (unwritten c.from_residual-in_err-put_line.result _ _ _ c.from_residual-in_err-put_line.ensures.1
    (put_front (g.O.Sink.written c.args.out.now) (g.O.Sink.written c.put_line.new.out) _ (seat_text c.args.seat) c.in_ok-line.ensures c.in_err-put_line.ensures.err))
