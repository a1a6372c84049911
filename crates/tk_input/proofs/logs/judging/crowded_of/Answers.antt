use Rattle.std.proofs.Common.{ℕ, ◌+◌, Option, option_map, length, sym, ap, ◌∙◌}
use Rattle.std.specs.Prelude.{nat_lt}
use Rattle.tk_input.proofs.RowsLemmas.{first_row}
use Rattle.tk_input.proofs.logs.judging.crowded_of.Goals as goal

pub returns-in_err-place : goal.returns-in_err-place
returns-in_err-place c =
    rw c.from_residual.ensures
    (ap (λ (o : Option ℕ). option_map (λ i. i + 1) o) (sym c.in_err-place.was)
    ∙ first_row (λ parts. nat_lt 8 (length parts)) c.args.rows.now c.first_wide.result c.first_wide.ensures)

pub returns : goal.returns
returns c =
    ap (λ (o : Option ℕ). option_map (λ i. i + 1) o) (sym c.in_ok-place.was)
    ∙ first_row (λ parts. nat_lt 8 (length parts)) c.args.rows.now c.first_wide.result c.first_wide.ensures
