use Rattle.std.proofs.Common.{refl}
use Rattle.tk_wire.specs.Greeting.{greeting_bytes}
use Rattle.tk_wire.proofs.GreetingLemmas.{form_of}
use Rattle.tk_wire.proofs.laws.greetings_have_one_size.Goals as goal

pub returns : goal.returns
returns c = λ g is. (form_of (greeting_bytes g) g (record { form = is; bytes_are = refl })).size
