use Rattle.tk_hub.proofs.LinesLemmas.{text_stays}
use Rattle.tk_hub.proofs.laws.written_lines_stay.Goals as goal

pub returns : goal.returns
returns c = text_stays
