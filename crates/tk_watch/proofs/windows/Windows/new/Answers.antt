use Rattle.std.proofs.Common.{◌∙◌, ap, arith}
use Rattle.std.specs.Prelude.{replicate}
use Rattle.tk_recent.specs.Kept.{fresh}
use Rattle.tk_watch.proofs.windows.Windows.new.Goals as goal

pub returns : goal.returns
returns c =
    c.loop.invariant ∙ ap (λ n. replicate n (fresh c.args.objects c.args.width)) (omega (arith, c.loop-test.false, c.loop.auto.counter-end))
