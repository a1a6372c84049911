use Rattle.std.proofs.Common.{ap, ap₂, ◌∙◌}
use Rattle.std.proofs.lemmas.Result.{IfOk-weaker}
use Rattle.clap.specs.Words.{App, with_rule}
use Rattle.tk_words.specs.Clap.{with_order_rule}
use Rattle.tk_words.proofs.multi.command.Goals as goal

pub returns : goal.returns
returns c =
    let objects = c.in_ok-arg.ensures.shape c.option.ensures.local ∙ ap₂ with_rule c.new.ensures.app c.option.ensures.rule in
    let queries = c.in_ok-command.ensures.shape c.option-2.ensures.local ∙ ap₂ with_rule objects c.option-2.ensures.rule in
    let order = c.in_ok-with_order.ensures ∙ ap (λ (a : App). with_order_rule a) queries in
    IfOk-weaker c.arg-3.result _ _ (λ r added. added.shape c.log_words.ensures.local ∙ ap₂ with_rule order c.log_words.ensures.rule) c.arg-3.ensures
