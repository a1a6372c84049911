use Rattle.std.proofs.Common.{◌≡◌, ap, ◌∙◌, length, arith}
use Rattle.std.specs.List.{slice_range}
use Rattle.tk_wire.proofs.StoreLemmas.{range_within, slice_size}
use Rattle.tk_wire.proofs.store.Store.into_range.Goals as goal

pub returns : goal.returns
returns c =
    let s = c.self.inside in
    let held : slice_range s.bytes.items s.start s.end ≡ c.args.self.held = ap (λ v. v.held) c.self.view_is in
    c.keep_range.ensures
    ∙ range_within c.args.from c.args.to s.start s.end s.bytes.items c.requires.0 (omega (arith, c.requires.1, ap length held, slice_size s.start s.end s.bytes.items))
    ∙ ap (λ xs. slice_range xs c.args.from c.args.to) held
