use Rattle.std.proofs.Common.{ap, ap₂, ◌∙◌}
use Rattle.std.proofs.lemmas.Result.{IfOk-weaker}
use Rattle.clap.specs.Words.{App, with_rule}
use Rattle.tk_words.specs.Clap.{with_source_rules}
use Rattle.tk_words.proofs.live.command.Goals as goal

pub returns : goal.returns
returns c =
    let sources = c.in_ok-with_sources.ensures ∙ ap (λ (a : App). with_source_rules a) c.new.ensures.app in
    let frames = c.in_ok-arg.ensures.shape c.option.ensures.local ∙ ap₂ with_rule sources c.option.ensures.rule in
    IfOk-weaker c.arg-2.result _ _ (λ r added. added.shape c.log_words.ensures.local ∙ ap₂ with_rule frames c.log_words.ensures.rule) c.arg-2.ensures
