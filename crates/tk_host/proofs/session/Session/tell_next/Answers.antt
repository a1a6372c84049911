use Rattle.std.proofs.Common.{◌≡◌, ◌<◌, length, Some, refl, sym, ap, ◌∙◌, subst, arith}
use Rattle.std.specs.Prelude.{slice_get}
use Rattle.tk_journal.specs.Publishing.{publications}
use Rattle.tk_hub.proofs.WriteLemmas.{all_named}
use Rattle.tk_ledger.proofs.SinkLemmas.{put_done, put_front}
use Rattle.tk_host.proofs.GoingLemmas.{named_set, told_published, unwritten}
use Rattle.tk_host.specs.Going.{IsTold, going, published_by}
use Rattle.tk_host.specs.Text.{set_text}
use Rattle.tk_host.proofs.session.Session.tell_next.Goals as goal

pub set_line-requires : goal.set_line-requires
set_line-requires g c =
    let k = c.coordinator-coordinator.result.now in
    let here = ap (λ x. x.settings.objects) c.coordinator-coordinator.ensures.value in
    let same = ap (λ s. s.hub.coordinator.settings.objects) c.self.view_is in
    named_set (length c.args.names.now) k.journal
    (all_named k.settings.monitors k.settings.objects (length c.args.names.now) k.journal (omega (arith, here, same, c.requires.named)) c.journal.ensures.entries)
    _ _ c.publication-publication.ensures

pub overflow_add-self : goal.overflow_add-self
overflow_add-self g c =
    let count = c.published.ensures ∙ ap (λ k. length (publications k.journal)) c.coordinator-coordinator.ensures.value in
    let more = subst (λ s. s.told < length (published_by s)) (sym c.self.view_is) c.requires.more in
    search (arith, count, more)

pub returns-in_err-put_line-clause-tells : goal.returns-in_err-put_line-clause-tells
returns-in_err-put_line-clause-tells g c = λ before h.
    let p = c.publication-publication.result.now in
    let over = c.from_residual-in_err-put_line.result in
    told_published c.args.names.now _ _ before (g.O.Sink.written c.args.out.now) (subst (λ s. IsTold going c.args.names.now s before (g.O.Sink.written c.args.out.now)) (sym c.self.view_is) h) over p (g.O.Sink.written c.put_line.new.out) refl refl refl
    (subst (λ k. slice_get (publications k.journal) c.self.inside.told ≡ Some p) c.coordinator-coordinator.ensures.value c.publication-publication.ensures)
    (subst (λ s. s.told < length (published_by s)) (sym c.self.view_is) c.requires.more)
    (unwritten over _ _ _ c.from_residual-in_err-put_line.ensures.1
    (put_front (g.O.Sink.written c.args.out.now) (g.O.Sink.written c.put_line.new.out) _ (set_text c.args.names.now c.self.inside.roster p) c.in_ok-line.ensures c.in_err-put_line.ensures.err))

pub returns-clause-tells : goal.returns-clause-tells
returns-clause-tells g c = λ before h.
    let p = c.publication-publication.result.now in
    told_published c.args.names.now _ _ before (g.O.Sink.written c.args.out.now) (subst (λ s. IsTold going c.args.names.now s before (g.O.Sink.written c.args.out.now)) (sym c.self.view_is) h) going p (g.O.Sink.written c.put_line.new.out) refl refl refl
    (subst (λ k. slice_get (publications k.journal) c.self.inside.told ≡ Some p) c.coordinator-coordinator.ensures.value c.publication-publication.ensures)
    (subst (λ s. s.told < length (published_by s)) (sym c.self.view_is) c.requires.more)
    (put_done (g.O.Sink.written c.args.out.now) (g.O.Sink.written c.put_line.new.out) _ (set_text c.args.names.now c.self.inside.roster p) c.in_ok-line.ensures c.in_ok-put_line.ensures.ok)
