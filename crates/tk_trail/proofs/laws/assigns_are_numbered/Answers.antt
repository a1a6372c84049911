use Rattle.tk_trail.proofs.LawLemmas.{assigns_numbered}
use Rattle.tk_trail.proofs.laws.assigns_are_numbered.Goals as goal

pub returns : goal.returns
returns c = assigns_numbered
