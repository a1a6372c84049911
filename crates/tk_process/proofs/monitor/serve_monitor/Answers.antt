use Rattle.std.proofs.Common.{◌≡◌, ◌∙◌, ◌∷◌, [], ap, ap₂, length, List, refl, subst, sym, ℕ}
use Rattle.std.specs.Prelude.{replicate}
use Rattle.std.specs.Borrow.{Bor}
use Rattle.std.proofs.lemmas.List.{length-map, length-replicate}
use Rattle.tk_input.specs.Changes.{closing}
use Rattle.tk_process.specs.Monitoring.{named_by}
use Rattle.tk_process.specs.Monitoring.EndsMonitor.{Ran, Unopened}
use Rattle.tk_watch.specs.Connections.{Writes}
use Rattle.tk_watch.specs.Watch.{Named, WatchView, named_of}
use Rattle.tk_words.specs.Asked.{asked_monitor}
use Rattle.tk_process.proofs.monitor.serve_monitor.Goals as goal

pub returns-in-Err-open_all-clause-ends : goal.returns-in-Err-open_all-clause-ends
returns-in-Err-open_all-clause-ends g c = Unopened c.in-Ok.input c.in-Ok.ensures.read c.in-Err-open_all.ensures.unopened refl

pub returns-clause-ends : goal.returns-clause-ends
returns-clause-ends g c =
    let W : Type 0 = g.row.L.Denot in
    let words = asked_monitor c.args.words.now in
    let input = c.in-Ok.input in
    let name : ℕ → ℕ → Named = λ objects streams. record { number = words.number; objects = objects; streams = streams; run = input.run; version = words.frames } in
    let streams : length (replicate (length c.as_slice.result.now) (closing ∷ [])) ≡ length words.sources =
    length-replicate (length c.as_slice.result.now) (closing ∷ []) ∙ ap (λ (s : List _). length s) c.as_slice.ensures.value ∙ c.in-Ok-open_all.ensures.each ∙ sym (length-map c.args.words.now.sources.items (λ (s : Bor (List ℕ)). s.now)) in
    let made : Named = named_of c.in-Ok-new.watch in
    let same : made ≡ named_by words input = ap (λ (w : WatchView W). named_of w) c.in-Ok-new.ensures.fresh ∙ ap₂ name (sym c.in-Ok.ensures.objects) streams in
    Ran input c.monitor-verdict.result c.in-Ok.ensures.read c.status_by.ensures
    (subst (λ (n : Named). Writes W n c.monitor-verdict.result (g.O.Sink.written c.args.out.now) (g.O.Sink.written c.monitor-verdict.new.out)) same c.monitor-verdict.ensures.writes)
