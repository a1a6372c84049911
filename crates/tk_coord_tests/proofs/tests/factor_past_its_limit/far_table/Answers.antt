use Rattle.std.proofs.Common.{ℕ, ℤ, List, ap, ◌∙◌, arith}
use Rattle.tk_rows.specs.Factors.{factor_at}
use Rattle.tk_rows.specs.Replacing.{factor_in}
use Rattle.tk_coord_tests.proofs.tests.factor_past_its_limit.far_table.Goals as goal

pub returns-clause-second : goal.returns-clause-second
returns-clause-second c =
    c.replace.ensures.factors 0 2 (omega arith)
    ∙ ap (λ (xs : List (ℕ × ℤ)). factor_in xs 2 (factor_at c.in_ok-table.table 0 2)) c.in_ok-change.ensures.own
