use Rattle.std.proofs.Common.{arith, rules}
use Rattle.tk_words.proofs.AddressLemmas.{rsplit_once_byte}
use Rattle.tk_words.proofs.forms.port_of.Goals as goal

pub returns-in_err-host : goal.returns-in_err-host
returns-in_err-host c =
    let split = rsplit_once_byte 58 c.args.address.now _ c.rsplit_once.ensures.cases (omega arith) in
    rw (← split) (grind rules)

pub returns-then-is_empty : goal.returns-then-is_empty
returns-then-is_empty c =
    let split = rsplit_once_byte 58 c.args.address.now _ c.rsplit_once.ensures.cases (omega arith) in
    rw (← split) (grind rules)

pub returns : goal.returns
returns c =
    let split = rsplit_once_byte 58 c.args.address.now _ c.rsplit_once.ensures.cases (omega arith) in
    rw (← split) (grind rules)
