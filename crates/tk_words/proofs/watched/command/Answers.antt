use Rattle.std.proofs.Common.{ap₂, ◌∙◌}
use Rattle.std.proofs.lemmas.Result.{IfOk-weaker}
use Rattle.clap.specs.Words.{with_rule}
use Rattle.tk_words.proofs.watched.command.Goals as goal

pub returns : goal.returns
returns c =
    let number = c.in_ok-arg.ensures.shape c.option.ensures.local ∙ ap₂ with_rule c.new.ensures.app c.option.ensures.rule in
    let objects = c.in_ok-arg-2.ensures.shape c.option-2.ensures.local ∙ ap₂ with_rule number c.option-2.ensures.rule in
    let run = c.in_ok-arg-3.ensures.shape c.option-3.ensures.local ∙ ap₂ with_rule objects c.option-3.ensures.rule in
    let connect = c.in_ok-arg-4.ensures.shape c.option-4.ensures.local ∙ ap₂ with_rule run c.option-4.ensures.rule in
    let frames = c.in_ok-arg-5.ensures.shape c.option-5.ensures.local ∙ ap₂ with_rule connect c.option-5.ensures.rule in
    let pause = c.in_ok-arg-6.ensures.shape c.option-6.ensures.local ∙ ap₂ with_rule frames c.option-6.ensures.rule in
    let silence = c.in_ok-arg-7.ensures.shape c.option-7.ensures.local ∙ ap₂ with_rule pause c.option-7.ensures.rule in
    let tries = c.in_ok-arg-8.ensures.shape c.option-8.ensures.local ∙ ap₂ with_rule silence c.option-8.ensures.rule in
    let skip_bad = c.in_ok-arg-9.ensures.shape c.option-9.ensures.local ∙ ap₂ with_rule tries c.option-9.ensures.rule in
    let width = c.in_ok-arg-10.ensures.shape c.option-10.ensures.local ∙ ap₂ with_rule skip_bad c.option-10.ensures.rule in
    let tick = c.in_ok-arg-11.ensures.shape c.option-11.ensures.local ∙ ap₂ with_rule width c.option-11.ensures.rule in
    IfOk-weaker c.arg-12.result _ _ (λ r added. added.shape c.source_words.ensures.local ∙ ap₂ with_rule tick c.source_words.ensures.rule) c.arg-12.ensures
