use Rattle.std.proofs.Common.{◌≡◌, ◌-◌, ◌++◌, take, ◌∙◌, ap}
use Rattle.std.specs.List.{slice_range}
use Rattle.tk_stream.specs.Lines.{lines_left}
use Rattle.tk_stream.proofs.RangeLemmas.{refilled}
use Rattle.tk_stream.proofs.line_buffer.LineBuffer.fill_behind.Goals as goal

pub returns-in-Ok-clause-left : goal.returns-in-Ok-clause-left
returns-in-Ok-clause-left g c told =
    let b = c.self.inside in
    let new = c.refill-outcome.new.bytes in
    let before = g.S.Source.content c.args.source.now in
    let held : take (b.end - b.start) new ≡ c.args.self.now.bytes =
    c.refill-outcome.ensures.front ∙ ap (λ xs. slice_range xs b.start b.end) c.deref_mut.ensures.value ∙ ap (λ h. h.bytes) c.self.view_is in
    ap (λ xs. lines_left b.passing xs) (refilled (b.end - b.start) c.in-Ok.count b.bytes.len new _ c.args.self.now.bytes before (g.S.Source.content c.refill-outcome.new.source) (c.refill-outcome.auto.bytes ∙ c.deref_mut.ensures.len) held (c.in-Ok.ensures.told told).0)
    ∙ ap (λ p. lines_left p (c.args.self.now.bytes ++ before)) (ap (λ h. h.passing) c.self.view_is)
