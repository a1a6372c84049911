-- What a reallocation does to a table.
use Rattle.std.specs.Prelude.{ℕ, zero, suc, ◌≤◌, ◌≡◌, ◌==◌, ℤ, pos, ◌+ℤ◌, List, [], map, length, unwrap_or}
use Rattle.std.specs.List.{All}
use Rattle.std.specs.Map.{lookup}
use Rattle.tk_base.specs.Ascending.{IsAscending}
use Rattle.tk_base.specs.Pairs.{objects_of, value_at}
use Rattle.tk_base.specs.Sum.{int_sum}
use Rattle.tk_rows.specs.declared.mon_change.MonChange.{MonChange}
use Rattle.tk_rows.specs.declared.reallocation.Reallocation.{Reallocation}
use Rattle.tk_rows.specs.Factors.{Grid, IsFactor, factor_at}

-- the monitors that are named
abbrev pub monitors_of : List MonChange → List ℕ
monitors_of at = map (λ c. c.mon.0) at

-- the changes of a monitor, none where it is not named
abbrev pub changes_of : List MonChange → ℕ → List (ℕ × ℤ)
changes_of at j = unwrap_or (lookup (λ q. q == j) (map (λ c. (c.mon.0, c.changes)) at)) []

-- the changes at a node
abbrev pub changes_at : Reallocation → ℕ → List (ℕ × ℤ)
changes_at change zero = change.own
changes_at change (suc j) = changes_of change.at.items (suc j)

-- the factor that changes give to an object, the old one where they do not name it
abbrev pub factor_in : List (ℕ × ℤ) → ℕ → ℤ → ℤ
factor_in changes o old = unwrap_or (value_at changes o) old

-- changes of these objects, within their limit
pub record AreChanges (objects : List ℕ) (changes : List (ℕ × ℤ)) : Type 0 where
  pub same : objects_of changes ≡ objects
  pub small : All (λ p. IsFactor p.1) changes

-- the sum of an object's new factors at the nodes that a reallocation names
abbrev pub new_sum : Reallocation → ℕ → ℤ
new_sum change o = factor_in change.own o (pos 0) +ℤ int_sum (map (λ c. factor_in c.changes o (pos 0)) change.at.items)

-- the sum of the object's factors at these nodes before it
abbrev pub old_sum : Grid → Reallocation → ℕ → ℤ
old_sum grid change o = factor_at grid 0 o +ℤ int_sum (map (λ c. factor_at grid c.mon.0 o) change.at.items)

-- what a reallocation must be so that a table can take it
pub record IsReplacement (grid : Grid) (change : Reallocation) : Type 0 where
  pub objects : All (λ o. o ≤ length grid.rows) (objects_of change.own)
  pub order : IsAscending (monitors_of change.at.items)
  pub monitors : All (λ j. j ≤ grid.monitors) (monitors_of change.at.items)
  pub own : AreChanges (objects_of change.own) change.own
  pub at : All (λ c. AreChanges (objects_of change.own) c.changes) change.at.items
  pub sum : All (λ o. new_sum change o ≡ old_sum grid change o) (objects_of change.own)
