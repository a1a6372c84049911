use Rattle.tk_trail.proofs.LawLemmas.{allowed_at}
use Rattle.tk_trail.proofs.bounds.each_entry_is_allowed.Goals as goal

pub returns : goal.returns
returns c = allowed_at
