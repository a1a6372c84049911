use Rattle.std.proofs.Common.{◌≡◌, ◌≤◌, ◌+◌, ◌∙◌, drop, length, ap, arith}
use Rattle.std.specs.List.{slice_range}
use Rattle.tk_stream.proofs.RangeLemmas.{removed_front, slice_size}
use Rattle.tk_stream.proofs.line_buffer.LineBuffer.remove.Goals as goal

pub returns-clause-bytes : goal.returns-clause-bytes
returns-clause-bytes c =
    let b = c.self.inside in
    let held = ap (λ s. s.bytes) c.self.view_is in
    let same : length (slice_range b.bytes.items b.start b.end) ≡ length c.args.self.now.bytes = ap length held in
    let within : b.start + c.args.count ≤ b.end = omega (arith, slice_size b.start b.end b.bytes.items, c.requires, c.self.invariant.0) in
    removed_front b.start c.args.count b.end b.bytes.items within ∙ ap (drop c.args.count) held
