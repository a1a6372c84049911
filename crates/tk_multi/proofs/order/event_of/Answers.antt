use Rattle.std.proofs.Common.{◌∙◌, sym, ap}
use Rattle.tk_input.proofs.LinesLemmas.{after}
use Rattle.tk_multi.proofs.OrderLemmas.{four_words}
use Rattle.tk_multi.proofs.order.event_of.Goals as goal

-- a fourth word
pub returns-in-Some : goal.returns-in-Some
returns-in-Some c =
    sym (four_words c.args.line.now c.in_ok-rest.field-0.now c.in_ok-rest-2.field-0.now c.in-Some.field-0.now _ _ _
    (c.split_word.ensures ∙ ap (after c.split_word.result.0.now) c.in_ok-rest.was)
    (c.split_word-2.ensures ∙ ap (after c.split_word-2.result.0.now) c.in_ok-rest-2.was)
    (c.split_word-3.ensures ∙ ap (after c.split_word-3.result.0.now) c.in-Some.is))
