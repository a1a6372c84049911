use Rattle.std.proofs.Common.{ap, subst, List, ◌∷◌, [], ◌++◌, ◌∙◌}
use Rattle.std.proofs.lemmas.Result.{on_ok_weaker}
use Rattle.tk_story.specs.Kept.{KeptStory}
use Rattle.tk_drain.specs.Drive.{IsFinishing}
use Rattle.tk_session.proofs.sessions.finish_all.Goals as goal

pub returns : goal.returns
returns c =
    let last = c.finish.new.world in
    let before = c.in-Ok-add_stories.ensures ∙ ap (λ (ks : List KeptStory). ks ++ c.into_parts-past.result.0.items) c.requires ∙ c.into_parts-past.ensures.past in
    on_ok_weaker c.add_story.result (λ added. record {
      last = last;
      legal = c.finish.ensures.legal;
      finished = subst (λ (k : KeptStory). IsFinishing k last) c.into_parts-past.ensures.present c.in-Ok.ensures.finished;
      over = c.in-Ok.ensures.over;
      are = added ∙ ap (λ (ks : List KeptStory). ks ++ last ∷ []) before;
    }) c.add_story.ensures
