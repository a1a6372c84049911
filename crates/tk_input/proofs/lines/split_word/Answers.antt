use Rattle.std.proofs.Common.{sym, ◌∙◌}
use Rattle.std.specs.Prelude.{◌==◌}
use Rattle.tk_input.proofs.LinesLemmas.{split_found, split_missing}
use Rattle.tk_input.proofs.lines.split_word.Goals as goal

pub returns-in-Some : goal.returns-in-Some
returns-in-Some c = split_found (λ b. b == 32) c.args.text.now c.in-Some.place (sym c.place_of.ensures ∙ c.in-Some.is)

pub returns-in-None : goal.returns-in-None
returns-in-None c = split_missing (λ b. b == 32) c.args.text.now (sym c.place_of.ensures ∙ c.in-None.is)
