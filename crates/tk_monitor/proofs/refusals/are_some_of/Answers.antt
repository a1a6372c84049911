use Rattle.std.proofs.Common.{arith, ◌∙◌, ap, ◌-◌, get_or}
use Rattle.std.specs.Prelude.{nat_le}
use Rattle.tk_monitor.proofs.RefusalLemmas.{last_tells}
use Rattle.tk_monitor.proofs.refusals.are_some_of.Goals as goal

pub returns-then-len-gt0 : goal.returns-then-len-gt0
returns-then-len-gt0 c =
    ap (λ o. nat_le o c.args.objects) (c.at.ensures.value ∙ ap (λ n. get_or c.args.list.now (n - 1) 0) c.len-then-len-gt0.ensures.value)
    ∙ last_tells c.args.objects c.args.list.now c.len.ensures.ascends (omega (arith, c.len.ensures.value, c.if-len-gt0.true))
