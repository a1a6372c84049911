use Rattle.std.proofs.Common.{◌≤◌, ◌+◌, ◌∙◌, ap, sym, take, arith}
use Rattle.tk_net.proofs.CableLemmas.{filled, fills_nothing, same_within}
use Rattle.tk_net.proofs.inlet.Inlet.fill.Goals as goal

pub returns-in-Bytes : goal.returns-in-Bytes
returns-in-Bytes g c =
    let i = c.self.inside in
    let held = ap (λ v. v.held) (sym c.self.view_is) in
    let unread = ap (λ v. v.unread) (sym c.self.view_is) in
    let front = c.read_behind-took.ensures.front ∙ ap (take i.end) c.deref_mut.ensures.value in
    let long = c.read_behind-took.ensures.size ∙ c.deref_mut.ensures.len in
    let fits : i.end + c.in-Bytes.count ≤ i.bytes.len = omega (arith, c.in-Bytes.ensures.fits, c.deref_mut.ensures.len, c.self.invariant) in (
      same_within i.start i.middle i.end i.bytes.len i.bytes.items c.read_behind-took.new.bytes _ c.args.self.now.held c.self.invariant.0 c.self.invariant.1 long front held,
      filled i.middle i.end c.in-Bytes.count i.bytes.len i.bytes.items c.read_behind-took.new.bytes _ c.args.self.now.unread c.self.invariant.1 fits long front unread,
    )

pub returns-in_default : goal.returns-in_default
returns-in_default g c =
    let i = c.self.inside in
    let held = ap (λ v. v.held) (sym c.self.view_is) in
    let unread = ap (λ v. v.unread) (sym c.self.view_is) in
    let front = c.read_behind-took.ensures.front ∙ ap (take i.end) c.deref_mut.ensures.value in
    let long = c.read_behind-took.ensures.size ∙ c.deref_mut.ensures.len in
    fills_nothing c.read_behind-took.result c.args.self.now _ c.in_default.not-Bytes
    (same_within i.start i.middle i.end i.bytes.len i.bytes.items c.read_behind-took.new.bytes _ c.args.self.now.held c.self.invariant.0 c.self.invariant.1 long front held)
    (same_within i.middle i.end i.end i.bytes.len i.bytes.items c.read_behind-took.new.bytes _ c.args.self.now.unread c.self.invariant.1 (omega arith) long front unread)
