use Rattle.std.proofs.Common.{ℕ, ℤ, List, ap, ◌∙◌, arith}
use Rattle.tk_rows.specs.declared.mon_change.MonChange.{MonChange}
use Rattle.tk_rows.specs.Factors.{factor_at}
use Rattle.tk_rows.specs.Replacing.{changes_of, factor_in}
use Rattle.tk_alloc_tests.proofs.tests.limit_table.Goals as goal

pub returns-clause-own_one : goal.returns-clause-own_one
returns-clause-own_one c =
    c.replace.ensures.factors 0 1 (omega arith) ∙ ap (λ (xs : List (ℕ × ℤ)). factor_in xs 1 (factor_at c.in_ok-table.table 0 1)) c.in_ok-change.ensures.own

pub returns-clause-own_two : goal.returns-clause-own_two
returns-clause-own_two c =
    c.replace.ensures.factors 0 2 (omega arith) ∙ ap (λ (xs : List (ℕ × ℤ)). factor_in xs 2 (factor_at c.in_ok-table.table 0 2)) c.in_ok-change.ensures.own

pub returns-clause-great : goal.returns-clause-great
returns-clause-great c =
    let great = ap (λ (at : List MonChange). changes_of at 1) c.in_ok-change.ensures.at in
    c.replace.ensures.factors 1 1 (omega arith) ∙ ap (λ (xs : List (ℕ × ℤ)). factor_in xs 1 (factor_at c.in_ok-table.table 1 1)) great

pub returns-clause-small : goal.returns-clause-small
returns-clause-small c =
    let small = ap (λ (at : List MonChange). changes_of at 2) c.in_ok-change.ensures.at in
    c.replace.ensures.factors 2 1 (omega arith) ∙ ap (λ (xs : List (ℕ × ℤ)). factor_in xs 1 (factor_at c.in_ok-table.table 2 1)) small
