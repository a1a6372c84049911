use Rattle.std.proofs.Common.{subst}
use Rattle.tk_multi.specs.Answers.{AreFinished, events_in}
use Rattle.tk_multi.specs.Multi.{MultiView, begun_over, passed_all}
use Rattle.tk_multi.proofs.AnswerLemmas.{answers}
use Rattle.tk_multi.proofs.playing.tell.Goals as goal

pub returns-in-Ok-clause-stories : goal.returns-in-Ok-clause-stories
returns-in-Ok-clause-stories c =
    let all = c.args.logs in
    let events = events_in c.args.order.now in
    let alones = c.args.alones.items in
    let stories = c.in-Ok.stories.items in
    answers all events alones (passed_all (begun_over all alones) events).worlds stories
    (λ q one here. c.each_query_is_as_alone.ensures.alone all alones events q one here) (c.each_query_is_as_alone.ensures.count all alones events)
    c.a_drive_is_reached.ensures.driven c.what_is_reached_runs.ensures
    (subst (λ (m : MultiView). AreFinished (passed_all m events).worlds stories) c.in_ok-multi.ensures.multi c.in-Ok.ensures)
