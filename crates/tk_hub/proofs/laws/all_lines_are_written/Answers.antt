use Rattle.tk_hub.proofs.LinesLemmas.{text_all}
use Rattle.tk_hub.proofs.laws.all_lines_are_written.Goals as goal

pub returns : goal.returns
returns c = text_all
