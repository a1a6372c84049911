use Rattle.tk_load.proofs.UnreadLemmas.{unread_is_lost}
use Rattle.tk_load.proofs.laws.an_unreadable_file_is_counted.Goals as goal

pub returns : goal.returns
returns c = λ reads words status loads. unread_is_lost reads words status loads
