use Rattle.tk_story.proofs.JoinLemmas.{sent_at_most, seq_at_most}
use Rattle.tk_story.proofs.joined.at_most_one_behind.Goals as goal

pub returns-clause-most : goal.returns-clause-most
returns-clause-most c = seq_at_most

pub returns-clause-least : goal.returns-clause-least
returns-clause-least c = sent_at_most
