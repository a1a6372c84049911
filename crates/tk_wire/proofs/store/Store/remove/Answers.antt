use Rattle.std.proofs.Common.{◌≡◌, ◌≤◌, ◌+◌, ◌∙◌, drop, length, ap, arith}
use Rattle.std.specs.List.{slice_range}
use Rattle.tk_wire.proofs.StoreLemmas.{removed_front, slice_size}
use Rattle.tk_wire.proofs.store.Store.remove.Goals as goal

pub returns-else-self : goal.returns-else-self
returns-else-self c =
    let held = ap (λ s. s.held) c.self.view_is in
    let same : length (slice_range c.self.inside.bytes.items c.self.inside.start c.self.inside.end) ≡ length c.args.self.now.held = ap length held in
    let size = slice_size c.self.inside.start c.self.inside.end c.self.inside.bytes.items in
    let within : c.self.inside.start + c.args.count ≤ c.self.inside.end = omega arith in
    removed_front c.self.inside.start c.args.count c.self.inside.end c.self.inside.bytes.items within ∙ ap (drop c.args.count) held
