use Rattle.std.specs.Prelude.{◌==◌}
use Rattle.tk_input.proofs.FirstByteLemmas.{first_position}
use Rattle.tk_input.proofs.place.place_of.Goals as goal

pub returns : goal.returns
returns c = first_position (λ b. b == c.args.byte) c.args.text.now c.memchr.result c.memchr.ensures
