use Rattle.std.proofs.Common.{◌≡◌, true, [], Some, None, take, sym, ◌∙◌, ap}
use Rattle.std.specs.Prelude.{position}
use Rattle.std.specs.Str.Lines.{lines}
use Rattle.std.proofs.lemmas.List.{take_at}
use Rattle.tk_stream.proofs.LinesLemmas.{is_feed}
use Rattle.tk_stream.proofs.RangeLemmas.{left_passing, nothing_between, passed_all, passed_to}
use Rattle.tk_stream.proofs.line_buffer.LineBuffer.fill_passing.Goals as goal

pub returns-in-None-clause-left : goal.returns-in-None-clause-left
returns-in-None-clause-left g c told =
    let b = c.self.inside in
    let new = c.read_behind.new.bytes in
    let passing : b.passing ≡ true = ap (λ h. h.passing) c.self.view_is ∙ c.requires in
    let none : c.args.self.now.bytes ≡ [] = sym (ap (λ h. h.bytes) c.self.view_is) ∙ nothing_between b.start b.end b.bytes.items (c.self.invariant.3 passing) in
    let whole = c.deref.ensures.value ∙ take_at new _ b.bytes.len (c.read_behind.auto.bytes ∙ c.deref_mut.ensures.len) in
    let place : position is_feed (take c.in-Ok.count new) ≡ None = ap (λ xs. position is_feed (take c.in-Ok.count xs)) (sym whole) ∙ sym c.feed_in.ensures ∙ c.in-None.is in
    left_passing _ (g.S.Source.content c.read_behind.new.source) (nothing_between b.start b.end _ (c.self.invariant.3 passing)) passing
    ∙ ap lines (passed_all c.in-Ok.count new (g.S.Source.content c.args.source.now) (g.S.Source.content c.read_behind.new.source) (c.in-Ok.ensures.told told).0 place)
    ∙ sym (left_passing c.args.self.now (g.S.Source.content c.args.source.now) none c.requires)

pub returns-clause-left : goal.returns-clause-left
returns-clause-left g c told =
    let b = c.self.inside in
    let new = c.read_behind.new.bytes in
    let size = c.read_behind.auto.bytes ∙ c.deref_mut.ensures.len in
    let passing : b.passing ≡ true = ap (λ h. h.passing) c.self.view_is ∙ c.requires in
    let none : c.args.self.now.bytes ≡ [] = sym (ap (λ h. h.bytes) c.self.view_is) ∙ nothing_between b.start b.end b.bytes.items (c.self.invariant.3 passing) in
    let whole = c.deref.ensures.value ∙ take_at new _ b.bytes.len size in
    let place : position is_feed (take c.in-Ok.count new) ≡ Some c.in-Some.place = ap (λ xs. position is_feed (take c.in-Ok.count xs)) (sym whole) ∙ sym c.feed_in.ensures ∙ c.in-Some.is in
    ap lines (passed_to c.in-Some.place c.in-Ok.count b.bytes.len new _ (g.S.Source.content c.args.source.now) (g.S.Source.content c.read_behind.new.source) size (c.in-Ok.ensures.told told).0 place)
    ∙ sym (left_passing c.args.self.now (g.S.Source.content c.args.source.now) none c.requires)
