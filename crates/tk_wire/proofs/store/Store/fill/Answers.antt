use Rattle.std.proofs.Common.{◌≡◌, ◌≤◌, ◌+◌, ◌-◌, vec_len, ◌∙◌, ap, sym, take, arith}
use Rattle.tk_wire.proofs.StoreLemmas.{fills_nothing, nothing_behind, gains_behind}
use Rattle.tk_wire.proofs.store.Store.fill.Goals as goal

pub returns-in-Bytes-clause-told : goal.returns-in-Bytes-clause-told
returns-in-Bytes-clause-told g c =
    let room : vec_len c.self.inside.bytes - c.self.inside.end ≡ c.args.self.now.room = ap (λ s. s.room) c.self.view_is in
    let fits : c.self.inside.end + c.in-Bytes.count ≤ vec_len c.self.inside.bytes = omega (arith, c.in-Bytes.ensures.fits, c.requires.room) in
    ((c.in-Bytes.ensures.fits.0, omega (arith, c.in-Bytes.ensures.fits, c.requires.size)), gains_behind c.self.inside.start c.self.inside.end c.in-Bytes.count c.self.inside.bytes.len c.self.inside.bytes.items c.take_behind-took.new.bytes _ c.args.self.now.held g.W.Wire.tells _ _ (ap (λ s. s.held) (sym c.self.view_is)) c.self.invariant.0 fits (c.take_behind-took.auto.bytes ∙ c.deref_mut.ensures.len) (c.take_behind-took.ensures.front ∙ ap (take c.self.inside.end) c.deref_mut.ensures.value) c.in-Bytes.ensures.told)

pub returns-in_default-clause-told : goal.returns-in_default-clause-told
returns-in_default-clause-told g c =
    fills_nothing c.take_behind-took.result g.W.Wire.tells _ c.args.self.now.held _ _ _ c.in_default.not-Bytes (nothing_behind c.self.inside.start c.self.inside.end c.self.inside.bytes.len c.self.inside.bytes.items c.take_behind-took.new.bytes _ c.args.self.now.held (ap (λ s. s.held) (sym c.self.view_is)) c.self.invariant.0 (c.take_behind-took.auto.bytes ∙ c.deref_mut.ensures.len) (c.take_behind-took.ensures.front ∙ ap (take c.self.inside.end) c.deref_mut.ensures.value)) c.take_behind-took.ensures.told
