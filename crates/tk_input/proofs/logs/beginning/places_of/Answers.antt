use Rattle.std.proofs.Common.{◌≡◌, ◌∙◌, length, replicate, refl, rules}
use Rattle.std.proofs.lemmas.Simd.{splat_is_map}
use Rattle.tk_input.proofs.logs.beginning.places_of.Goals as goal

pub returns : goal.returns
returns c =
    let row = c.args.row.now in
    let same : c.in_ok-vec.field-0.items ≡ replicate (length row) 0 = search rules in
    c.new.ensures ∙ same ∙ splat_is_map row (length row) 0 refl
