use Rattle.std.proofs.Common.{ap, subst, ◌∙◌}
use Rattle.tk_story.specs.Story.{IsStory}
use Rattle.tk_session.specs.Order.{lines_of}
use Rattle.tk_session.specs.Sessions.{AreFinished, SessionsView, played}
use Rattle.tk_session.proofs.playing.tell.Goals as goal

pub returns : goal.returns
returns c =
    let lines = lines_of c.args.order.now in
    let stories = c.in_ok-stories.stories.items in
    let begun = c.in_ok-sessions.ensures.value in
    c.a_chain_keeps_its_stretches.ensures c.args.settings c.args.logs lines stories
    (subst (λ (v : SessionsView). IsStory v.present.story) begun c.in_ok-sessions.ensures.legal)
    (subst (λ (v : SessionsView). AreFinished v stories) (c.in-Ok.ensures.ok ∙ ap (λ (v : SessionsView). played v lines) begun) c.in_ok-stories.ensures)
