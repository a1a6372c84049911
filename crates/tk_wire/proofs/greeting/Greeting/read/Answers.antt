use Rattle.std.proofs.Common.{ap, ◌∙◌, arith, length}
use Rattle.std.proofs.lemmas.List.{take_rest}
use Rattle.byteorder.specs.Endian.{big_number}
use Rattle.tk_wire.specs.GreetingReading.{beginnings_at}
use Rattle.tk_wire.proofs.GreetingLemmas.{form_of, greeting_of}
use Rattle.tk_wire.proofs.greeting.Greeting.read.Goals as goal

pub returns-in_default-clause-none : goal.returns-in_default-clause-none
returns-in_default-clause-none c = λ g is. c.in_default.ensures.none (length g.beginnings.items) (form_of c.args.bytes.now g is)

pub returns-clause-some : goal.returns-clause-some
returns-clause-some c =
    let bytes = c.args.bytes.now in
    greeting_of bytes c.in-Some.streams _ (λ i. omega (arith, c.type_inv.bytes i)) c.in-Some.ensures.some
    (c.read_u64.ensures ∙ ap (big_number 8) (take_rest bytes 4)) (c.read_u32.ensures ∙ ap (big_number 4) (take_rest bytes 12))
    (c.in_ok-beginnings.ensures ∙ ap (beginnings_at c.in-Some.streams) (take_rest bytes 17))
