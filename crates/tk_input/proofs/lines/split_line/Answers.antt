use Rattle.std.proofs.Common.{ℕ, ◌+◌, ◌-◌, sym, ◌∙◌, ap, List, ◌∷◌, take, drop, length}
use Rattle.std.specs.Str.Lines.{lines}
use Rattle.tk_input.proofs.LinesLemmas.{lines_found, lines_missing, none_after}
use Rattle.tk_input.proofs.lines.split_line.Goals as goal

pub returns-in-Some-clause-lines : goal.returns-in-Some-clause-lines
returns-in-Some-clause-lines c =
    lines_found c.args.text.now c.in-Some.place (sym c.place_of.ensures ∙ c.in-Some.is)
    ∙ ap (λ (line : List ℕ). line ∷ lines (take (length c.args.text.now - (c.in-Some.place + 1)) (drop (c.in-Some.place + 1) c.args.text.now))) (sym c.strip_return.ensures)

pub returns-in-None-clause-lines : goal.returns-in-None-clause-lines
returns-in-None-clause-lines c =
    lines_missing c.args.text.now c.requires (sym c.place_of.ensures ∙ c.in-None.is)
    ∙ ap (λ (rest : List ℕ). c.args.text.now ∷ lines rest) (sym (none_after c.args.text.now))
