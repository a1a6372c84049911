use Rattle.std.proofs.Common.{ap, ap₂, ◌∙◌}
use Rattle.std.proofs.lemmas.Result.{IfOk-weaker}
use Rattle.clap.specs.Words.{App, with_rule}
use Rattle.tk_words.specs.Clap.{with_source_rules}
use Rattle.tk_words.proofs.coordinate.command.Goals as goal

pub returns : goal.returns
returns c =
    let sources = c.in_ok-with_sources.ensures ∙ ap (λ (a : App). with_source_rules a) c.new.ensures.app in
    let monitors = c.in_ok-arg.ensures.shape c.option.ensures.local ∙ ap₂ with_rule sources c.option.ensures.rule in
    let run = c.in_ok-arg-2.ensures.shape c.option-2.ensures.local ∙ ap₂ with_rule monitors c.option-2.ensures.rule in
    let listen = c.in_ok-arg-3.ensures.shape c.option-3.ensures.local ∙ ap₂ with_rule run c.option-3.ensures.rule in
    let silence = c.in_ok-arg-4.ensures.shape c.option-4.ensures.local ∙ ap₂ with_rule listen c.option-4.ensures.rule in
    let sessions = c.in_ok-arg-5.ensures.shape c.option-5.ensures.local ∙ ap₂ with_rule silence c.option-5.ensures.rule in
    IfOk-weaker c.arg-6.result _ _ (λ r added. added.shape c.option-6.ensures.local ∙ ap₂ with_rule sessions c.option-6.ensures.rule) c.arg-6.ensures
