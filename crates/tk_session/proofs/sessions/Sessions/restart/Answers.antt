use Rattle.std.proofs.Common.{ap, sym, subst, List, ◌∷◌, [], ◌++◌, ◌∙◌}
use Rattle.tk_story.specs.Kept.{KeptStory}
use Rattle.tk_story.specs.Story.{IsStory}
use Rattle.tk_session.proofs.ChainLemmas.{restarted_chain}
use Rattle.tk_session.proofs.sessions.Sessions.restart.Goals as goal

pub invariant_of-self-2 : goal.invariant_of-self-2
invariant_of-self-2 c =
    let old = c.self.inside.present in
    let next = c.replace-ended.new.dest in
    let was = c.replace-ended.ensures.after in
    restarted_chain c.a_beginning_is_a_session.ensures c.self.inside.past.items c.push_reserved.new.self.items old c.replace-ended.result next c.replace-ended.ensures.value
    (c.push_reserved.ensures.items ∙ ap (λ (ks : List KeptStory). ks ++ c.replace-ended.result ∷ []) c.in_ok-reserve.ensures.items)
    (was ∙ c.in_ok-next.ensures.value) (subst (λ (k : KeptStory). IsStory k.story) (sym was) c.in_ok-next.ensures.legal) c.self.invariant
