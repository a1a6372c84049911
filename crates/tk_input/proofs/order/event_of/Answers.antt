use Rattle.std.proofs.Common.{◌∙◌, ap}
use Rattle.tk_input.proofs.LinesLemmas.{four_words, after}
use Rattle.tk_input.proofs.order.event_of.Goals as goal

-- a fourth word
pub returns-in-Some-more : goal.returns-in-Some-more
returns-in-Some-more c =
    four_words c.args.line.now c.in_ok-rest.field-0.now c.in-Some.rest.now c.in-Some-more.field-0.now _ _ _
    (c.split_word.ensures ∙ ap (after c.split_word.result.0.now) c.in_ok-rest.was)
    (c.split_word-2.ensures ∙ ap (after c.split_word-2.result.0.now) c.in-Some.is)
    (c.split_word-3.ensures ∙ ap (after c.split_word-3.result.0.now) c.in-Some-more.is)
