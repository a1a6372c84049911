use Rattle.tk_story.proofs.PublishedLemmas.{published_holds}
use Rattle.tk_story.proofs.validity.published_is_valid.Goals as goal

pub returns : goal.returns
returns c = λ s before after p h is. published_holds s h p (record { before = before; after = after; is = is })
