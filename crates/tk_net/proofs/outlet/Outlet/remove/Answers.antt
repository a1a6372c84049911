use Rattle.std.proofs.Common.{◌≤◌, ◌+◌, ◌∙◌, drop, length, ap, arith}
use Rattle.tk_wire.proofs.StoreLemmas.{removed_front, slice_size}
use Rattle.tk_net.proofs.outlet.Outlet.remove.Goals as goal

pub returns : goal.returns
returns c =
    let o = c.self.inside in
    let size = ap length c.self.view_is in
    let within : o.start + c.args.count ≤ o.end = omega (arith, c.requires, c.self.invariant, size, slice_size o.start o.end o.bytes.items) in
    removed_front o.start c.args.count o.end o.bytes.items within ∙ ap (drop c.args.count) c.self.view_is
