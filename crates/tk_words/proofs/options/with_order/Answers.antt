use Rattle.std.proofs.Common.{ap, ◌∙◌}
use Rattle.std.proofs.lemmas.Result.{IfOk-weaker}
use Rattle.clap.specs.Words.{Rule, app_of, with_rule}
use Rattle.tk_words.proofs.options.with_order.Goals as goal

pub returns : goal.returns
returns c = IfOk-weaker c.arg.result _ _ (λ r added. added.shape c.option.ensures.local ∙ ap (λ (rule : Rule). with_rule (app_of c.args.command) rule) c.option.ensures.rule) c.arg.ensures
