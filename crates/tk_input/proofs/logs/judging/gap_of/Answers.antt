use Rattle.std.proofs.Common.{ℕ, ◌+◌, Option, option_map, sym, ap, ◌∙◌}
use Rattle.tk_input.proofs.RowsLemmas.{gap_is}
use Rattle.tk_input.proofs.logs.judging.gap_of.Goals as goal

pub returns-in_err-place : goal.returns-in_err-place
returns-in_err-place c =
    rw c.from_residual.ensures
    (ap (λ (o : Option ℕ). option_map (λ i. i + 1) o) (sym c.in_err-place.was)
    ∙ gap_is c.args.rows.now c.first_bare.result (sym c.is_empty.ensures ∙ c.if-is_empty.false) c.first_bare.ensures)

pub returns : goal.returns
returns c =
    ap (λ (o : Option ℕ). option_map (λ i. i + 1) o) (sym c.in_ok-place.was)
    ∙ gap_is c.args.rows.now c.first_bare.result (sym c.is_empty.ensures ∙ c.if-is_empty.false) c.first_bare.ensures
