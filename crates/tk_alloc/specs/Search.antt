-- The search for a factor past its limit, and the short test, as the code goes. No public clause cites it.
use Rattle.std.specs.Prelude.{ℕ, ◌^◌, ◌<◌, ◌≡◌, ℤ, pos, ◌+ℤ◌, ◌≤ℤ◌, unsigned_abs, List, ◌∷◌, Option, Some, None, false, length, slice_index, slice_index_or}
use Rattle.std.specs.List.{All}
use Rattle.tk_base.specs.Ascending.{IsAscending}
use Rattle.tk_base.specs.Objects.{is_in}
use Rattle.tk_base.specs.Pairs.{objects_of}
use Rattle.tk_rows.specs.declared.reallocation.Reallocation.{Reallocation}
use Rattle.tk_rows.specs.Factors.{Grid, IsFactor, factor_at}
use Rattle.tk_rows.specs.Replacing.{monitors_of}
use Rattle.tk_alloc.specs.declared.reported.Reported.{Reported}
use Rattle.tk_alloc.specs.Parts.{by_monitor, value_of}

-- ---- the limit

-- the changes of a reallocation, by node
abbrev pub by_node : Reallocation → List (ℕ × List (ℕ × ℤ))
by_node change = (0, change.own) ∷ by_monitor change.at.items

-- it names the same objects at ascending nodes
pub record IsEven (change : Reallocation) : Type 0 where
  pub objects : All (λ c. objects_of c.changes ≡ objects_of change.own) change.at.items
  pub order : IsAscending (monitors_of change.at.items)

-- the factor at a place of some changes
abbrev pub placed : List (ℕ × ℤ) → ℕ → ℤ
placed changes i = (slice_index_or {A = ℕ × ℤ} changes i (0, pos 0)).1

-- the factors of a place are within their limit at these nodes
abbrev pub AreWithin : List (ℕ × List (ℕ × ℤ)) → ℕ → Type 0
AreWithin nodes i = All (λ n. IsFactor (placed n.1 i)) nodes

-- the first node at which the factor of a place is past its limit
pub record IsFirstNode (nodes : List (ℕ × List (ℕ × ℤ))) (i node : ℕ) (factor : ℤ) : Type 0 where
  pub entry : ℕ
  pub within : entry < length nodes
  pub before : (j : ℕ) (d : ℕ × List (ℕ × ℤ)) → j < entry → IsFactor (placed (slice_index_or nodes j d).1 i)
  pub number : (d : ℕ × List (ℕ × ℤ)) → (slice_index_or nodes entry d).0 ≡ node
  pub factor_is : (d : ℕ × List (ℕ × ℤ)) → placed (slice_index_or nodes entry d).1 i ≡ factor
  pub past : 2 ^ 112 < unsigned_abs factor

-- ---- the short test

-- the level of an object at the coordinator and a monitor together, without epsilon
abbrev pub joint_of : Grid → Reported → ℕ → ℤ
joint_of grid report o = factor_at grid 0 o +ℤ factor_at grid report.mon.0 o +ℤ value_of report.values o

-- a number is at most another that is there
abbrev pub IsAtMost : ℤ → Option ℤ → Type 0
IsAtMost z None = ⊥
IsAtMost z (Some g) = z ≤ℤ g

-- no object that is none of the members has a level above this one
abbrev pub BoundsOthers : Grid → List ℕ → Reported → Option ℤ → Type 0
BoundsOthers grid members report greatest =
    (i : ℕ) → i < length report.values → is_in members (slice_index (objects_of report.values) i) ≡ false → IsAtMost (joint_of grid report (slice_index (objects_of report.values) i)) greatest

-- one of the first objects that is no member has this level
abbrev pub IsReachedBelow : Grid → List ℕ → Reported → ℕ → ℤ → Type 0
IsReachedBelow grid members report n g =
    (i : ℕ) × (i < n) × (is_in members (slice_index (objects_of report.values) i) ≡ false) × (joint_of grid report (slice_index (objects_of report.values) i) ≡ g)
