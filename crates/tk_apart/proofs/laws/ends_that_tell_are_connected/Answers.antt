use Rattle.tk_apart.proofs.CarriedLemmas.{connected}
use Rattle.tk_apart.proofs.laws.ends_that_tell_are_connected.Goals as goal

pub returns : goal.returns
returns g c run journal mon trail port seat = connected run journal mon trail port seat
