use Rattle.std.proofs.Common.{◌++◌, ◌∷◌, [], List, length, ap, arith, sym, subst}
use Rattle.std.proofs.lemmas.List.{length-append}
use Rattle.tk_story.specs.Kept.{KeptStory}
use Rattle.tk_multi.specs.Answers.{AreFinished}
use Rattle.tk_multi.proofs.AnswerLemmas.{finished_more}
use Rattle.tk_multi.proofs.playing.finish_all.Goals as goal

pub push_reserved-requires : goal.push_reserved-requires
push_reserved-requires c =
    let rest = ap (λ (worlds : List KeptStory). length worlds) c.in-Some.ensures.steps.0 in
    omega (arith, c.loop-world.invariant.room, rest)

pub loop-world-preserved : goal.loop-world-preserved
loop-world-preserved c =
    let story = c.in_ok-finish_one.field-0 in
    let rest = ap (λ (worlds : List KeptStory). length worlds) c.in-Some.ensures.steps.0 in
    let more = ap (λ (stories : List KeptStory). length stories) c.push_reserved.ensures.items in
    let sum = length-append c.loop-world.stories.items (story ∷ []) in
    record {
      finished = subst (λ (stories : List KeptStory). AreFinished (c.loop-world.yielded ++ c.in-Some.world ∷ []) stories) (sym c.push_reserved.ensures.items)
          (finished_more c.loop-world.yielded c.loop-world.stories.items c.in-Some.world story c.loop-world.invariant.finished c.in_ok-finish_one.ensures);
      room = omega (arith, c.loop-world.invariant.room, rest, more, sum, c.push_reserved.ensures.capacity);
    }
