use Rattle.std.proofs.Common.{ap, ap₂, ◌∙◌}
use Rattle.std.proofs.lemmas.Result.{IfOk-weaker}
use Rattle.clap.specs.Words.{App, with_rule}
use Rattle.tk_words.specs.Clap.{with_carriage_rules, with_order_rule, with_source_rules}
use Rattle.tk_words.proofs.replay.command.Goals as goal

pub returns : goal.returns
returns c =
    let sources = c.in_ok-command.ensures ∙ ap (λ (a : App). with_source_rules a) c.new.ensures.app in
    let order = c.in_ok-command-2.ensures ∙ ap (λ (a : App). with_order_rule a) sources in
    let carriage = c.in_ok-with_carriage.ensures ∙ ap (λ (a : App). with_carriage_rules a) order in
    IfOk-weaker c.arg.result _ _ (λ r added. added.shape c.log_words.ensures.local ∙ ap₂ with_rule carriage c.log_words.ensures.rule) c.arg.ensures
