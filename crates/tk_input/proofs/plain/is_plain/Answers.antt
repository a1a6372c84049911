use Rattle.tk_input.specs.Plain.{is_apart}
use Rattle.tk_input.proofs.FirstByteLemmas.{found_none}
use Rattle.tk_input.proofs.plain.is_plain.Goals as goal

pub returns : goal.returns
returns c = found_none is_apart c.args.text.now c.memchr3.result c.is_none.result c.is_none.ensures c.memchr3.ensures
