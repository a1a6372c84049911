use Rattle.std.proofs.Common.{◌∙◌, ap, sym}
use Rattle.tk_multi.specs.Multi.{MultiView, next_multi, passed}
use Rattle.tk_multi.proofs.AnswerLemmas.{passed_by, passed_more}
use Rattle.tk_multi.proofs.playing.play.Goals as goal

pub loop-i-preserved : goal.loop-i-preserved
loop-i-preserved c =
    let event = c.at.result in
    let events = c.in-Some.order.events in
    passed_by (next_multi c.loop-i.multi event) c.loop-i.multi c.step.new.self c.in_ok-step.field-0 c.in_ok-step.ensures.ok
    ∙ ap (λ (m : MultiView). passed m event) c.loop-i.invariant
    ∙ sym (passed_more c.args.multi.now events c.loop-i.i event c.at.ensures)
