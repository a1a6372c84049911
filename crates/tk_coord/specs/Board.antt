-- The members and the factors, with the own factors as a rank keeps them. No public clause cites this.
use Rattle.std.specs.Prelude.{ℕ, ◌-◌, ℤ, List, fold, slice_set}
use Rattle.tk_rank.specs.Rank.{RankView}
use Rattle.tk_rows.specs.Factors.{Grid}
use Rattle.tk_alloc.specs.Resolving.{own_factors}

-- the own factors of a table, and some members
abbrev pub ranks_of : Grid → List ℕ → RankView
ranks_of table members = record { levels = own_factors table; members = members }

-- the levels where some objects have others
abbrev pub relevelled : List ℤ → List (ℕ × ℤ) → List ℤ
relevelled levels own = fold (λ ls p. slice_set ls (p.0 - 1) p.1) levels own

-- the members, and the table of factors
pub record BoardView : Type 0 where
  pub members : List ℕ
  pub table : Grid
