use Rattle.std.proofs.Common.{◌∙◌, ◌∷◌, [], ap, arith}
use Rattle.std.specs.Prelude.{replicate}
use Rattle.tk_input.specs.Changes.{closing}
use Rattle.tk_watch.proofs.watch.unfed_parts.Goals as goal

pub returns : goal.returns
returns c =
    c.loop-i.invariant ∙ ap (λ n. replicate n (closing ∷ [])) (omega (arith, c.loop-i-test.false, c.loop-i.auto.i-end))
