use Rattle.std.proofs.Common.{List, ap, subst, ◌∙◌}
use Rattle.std.specs.Prelude.{IfOk}
use Rattle.tk_story.specs.Kept.{KeptStory}
use Rattle.tk_multi.specs.Answers.{AreFinished}
use Rattle.tk_multi.specs.Multi.{MultiView}
use Rattle.tk_multi.proofs.playing.end.Goals as goal

pub returns-in-Ok : goal.returns-in-Ok
returns-in-Ok c =
    let worlds = c.into_worlds.ensures ∙ ap (λ (m : MultiView). m.worlds) c.in-Ok.ensures in
    subst (λ (ws : List KeptStory). IfOk c.finish_all.result (λ stories. AreFinished ws stories.items)) worlds c.finish_all.ensures
