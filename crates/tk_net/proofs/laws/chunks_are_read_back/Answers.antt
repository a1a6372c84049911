use Rattle.tk_net.proofs.LawLemmas.{read_back}
use Rattle.tk_net.proofs.laws.chunks_are_read_back.Goals as goal

pub returns : goal.returns
returns c = read_back
