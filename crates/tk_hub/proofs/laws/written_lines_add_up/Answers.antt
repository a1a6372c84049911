use Rattle.tk_hub.proofs.LinesLemmas.{lines_add}
use Rattle.tk_hub.proofs.laws.written_lines_add_up.Goals as goal

pub returns : goal.returns
returns c = lines_add
