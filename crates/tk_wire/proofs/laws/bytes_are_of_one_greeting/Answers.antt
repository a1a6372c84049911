use Rattle.tk_wire.proofs.GreetingLemmas.{one_greeting}
use Rattle.tk_wire.proofs.laws.bytes_are_of_one_greeting.Goals as goal

pub returns : goal.returns
returns c = one_greeting
