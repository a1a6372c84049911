use Rattle.tk_story.proofs.PublishedLemmas.{last_is_full}
use Rattle.tk_story.proofs.validity.the_last_one_is_at_the_full_cut.Goals as goal

pub returns : goal.returns
returns c = λ s before after p h is last. last_is_full s h p (record { before = before; after = after; is = is }) last
