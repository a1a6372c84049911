use Rattle.std.proofs.Common.{◌++◌, ◌∙◌, ap}
use Rattle.tk_wire.proofs.GreetingLemmas.{padding_of}
use Rattle.tk_wire.proofs.greeting.put_padding.Goals as goal

pub returns : goal.returns
returns c = c.in_ok-extend_from_slice.ensures.items ∙ ap (λ xs. c.args.out.now.items ++ xs) (padding_of c.args.streams)
