use Rattle.std.proofs.Common.{◌≡◌, ◌+◌, ◌∙◌, List, ℕ, ap, arith, refl, sym}
use Rattle.std.specs.List.{slice_range}
use Rattle.tk_net.proofs.CableLemmas.{hands_out}
use Rattle.tk_net.proofs.inlet.Inlet.take.Goals as goal

pub returns : goal.returns
returns c =
    let i = c.self.inside in
    let n = c.min-count.result in
    let copied : c.copy_from_slice.new.self ≡ slice_range i.bytes.items i.start (i.start + n) = c.copy_from_slice.ensures.after ∙ ap (λ (xs : List ℕ). slice_range xs i.start (i.start + n)) c.deref.ensures.value in
    hands_out i.start i.middle i.end _ n i.bytes.items c.args.into.now c.copy_from_slice.new.self (slice_range i.bytes.items i.start i.middle) (slice_range i.bytes.items i.middle i.end) c.self.invariant.0 (omega (arith, c.self.invariant)) refl refl c.min-count.ensures copied c.args.self.now (ap (λ v. v.held) (sym c.self.view_is)) (ap (λ v. v.unread) (sym c.self.view_is))
