-- Factors: the row of one monitor, and the table of all nodes. Node 0 is the coordinator.
use Rattle.std.specs.Prelude.{ℕ, ◌+◌, ◌-◌, ◌^◌, ◌<◌, ◌≤◌, ◌≡◌, ℤ, pos, unsigned_abs, List, [], length, slice_index_or}
use Rattle.tk_base.specs.Sum.{int_sum}

-- a factor is within its limit
abbrev pub IsFactor : ℤ → Type 0
IsFactor z = unsigned_abs z ≤ 2 ^ 112

-- all factors of a row are
abbrev pub AreFactors : List ℤ → Type 0
AreFactors row = (i : ℕ) → IsFactor (slice_index_or row i (pos 0))

-- the factor of an object in the row of a monitor
abbrev pub factor_of : List ℤ → ℕ → ℤ
factor_of row o = slice_index_or row (o - 1) (pos 0)

-- the factors of one object by node: one for each node, within their limit, and in sum zero
pub record IsBalanced (monitors : ℕ) (row : List ℤ) : Type 0 where
  pub nodes : length row ≡ monitors + 1
  pub sum : int_sum row ≡ pos 0
  pub small : AreFactors row

-- the factors of all objects, by object and node
pub record Grid : Type 0 where
  pub monitors : ℕ
  pub rows : List (List ℤ)

-- the factors of an object
abbrev pub row_of : Grid → ℕ → List ℤ
row_of grid o = slice_index_or grid.rows (o - 1) []

-- the factor of an object at a node
abbrev pub factor_at : Grid → ℕ → ℕ → ℤ
factor_at grid node o = slice_index_or (row_of grid o) node (pos 0)

-- the factors of each object are balanced
abbrev pub AreBalanced : Grid → Type 0
AreBalanced grid = (i : ℕ) → i < length grid.rows → IsBalanced grid.monitors (slice_index_or grid.rows i [])
