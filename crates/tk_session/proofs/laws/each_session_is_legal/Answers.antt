use Rattle.tk_session.proofs.ChainLemmas.{chain_is_legal}
use Rattle.tk_session.proofs.laws.each_session_is_legal.Goals as goal

pub returns : goal.returns
returns c = chain_is_legal
