use Rattle.std.proofs.Common.{◌∙◌, ap, arith, cond, get_or, None}
use Rattle.std.proofs.lemmas.Bool.{lt-ltb}
use Rattle.std.proofs.lemmas.List.{ext_get_or}
use Rattle.tk_rank.proofs.side.widen.Goals as goal

pub returns-clause-leaves : goal.returns-clause-leaves
returns-clause-leaves c =
    let wide = c.loop-place.wide.leaves in
    let narrow = c.args.narrow.now.leaves in
    ext_get_or None wide narrow c.loop-place.invariant.count
    (λ i within.
    c.loop-place.invariant.written i
    ∙ ap (λ t. cond t (get_or narrow i None) None) (lt-ltb i c.loop-place.place (omega (arith, within, c.loop-place.invariant.count, c.loop-place-test.false, c.len-place-end.ensures.value))))
