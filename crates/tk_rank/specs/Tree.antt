-- A tournament tree of numbers, some of its leaves empty. No public clause cites this file.
use Rattle.std.specs.Prelude.{◌≡◌, ◌≢◌, ℕ, ◌+◌, ◌-◌, ◌/◌, ◌<◌, ◌≤◌, max, ℤ, ◌+ℤ◌, Bool, false, List, [], ◌∷◌, length, drop, Option, Some, None, slice_index_or, slice_set, filter, not}
use Rattle.std.specs.Int.{int_max, IsPowerOfTwo}
use Rattle.std.specs.List.{filter_map}
use Rattle.std.specs.Ordering.{int_cmp, is_lt}
use Rattle.tk_base.specs.Objects.{is_in, objects}
use Rattle.tk_border.specs.Levels.{greatest_of, outside}

-- the greater of two numbers, each of which may be missing
abbrev pub greater : Option ℤ → Option ℤ → Option ℤ
greater None y = y
greater (Some x) None = Some x
greater (Some x) (Some y) = Some (int_max x y)

-- whether there is a number and it is above a level
abbrev pub is_over : ℤ → Option ℤ → Bool
is_over level None = false
is_over level (Some y) = is_lt (int_cmp level y)

-- the number at a node
abbrev pub node_at : List (Option ℤ) → ℕ → Option ℤ
node_at nodes j = slice_index_or nodes j None

-- how many leaves a tree of these nodes has
abbrev pub width_of : List (Option ℤ) → ℕ
width_of nodes = length nodes / 2

-- the leaves, which are the last half of the nodes
abbrev pub leaves_of : List (Option ℤ) → List (Option ℤ)
leaves_of nodes = drop (width_of nodes) nodes

-- leaves, and how many of them there is room for
pub record LeavesView : Type 0 where
  pub leaves : List (Option ℤ)
  pub room : ℕ

-- there is room for so many leaves
abbrev pub HasRoom : ℕ → ℕ → Type 0
HasRoom leaves room = leaves ≤ room

-- so many nodes are enough for so many leaves, rounded up to a power of two
abbrev pub HasNodes : ℕ → ℕ → Type 0
HasNodes leaves room = (width : ℕ) → IsPowerOfTwo width → width / 2 < max 1 leaves → width + width ≤ room

-- the greater number of a node's two children
abbrev pub greater_under : List (Option ℤ) → ℕ → Option ℤ
greater_under nodes j = greater (node_at nodes (j + j)) (node_at nodes (j + j + 1))

-- an inner node has it
abbrev pub IsMended : List (Option ℤ) → ℕ → Type 0
IsMended nodes j = node_at nodes j ≡ greater_under nodes j

-- a full binary tree: node 1 is the root, the children of j are 2 j and 2 j + 1
pub record IsTree (nodes : List (Option ℤ)) : Type 0 where
  pub width : IsPowerOfTwo (width_of nodes)
  pub even : length nodes ≡ width_of nodes + width_of nodes
  pub few : width_of nodes ≤ 131072
  pub mended : (j : ℕ) → 0 < j → j < width_of nodes → IsMended nodes j

-- the number at the leaf of an object
abbrev pub leaf_at : List (Option ℤ) → ℕ → Option ℤ
leaf_at leaves o = slice_index_or leaves (o - 1) None

-- those of some objects whose number is above a level
abbrev pub those_over : ℤ → List (Option ℤ) → List ℕ → List ℕ
those_over level leaves some = filter (λ o. is_over level (leaf_at leaves o)) some

-- those of some objects that are outside a set
abbrev pub others_in : List ℕ → List ℕ → List ℕ
others_in set some = filter (λ o. not (is_in set o)) some

-- the numbers of those of some objects that have one
abbrev pub standing : List (Option ℤ) → List ℕ → List ℤ
standing leaves list = filter_map (leaf_at leaves) list

-- the leaf of an object has not this number
abbrev pub IsOther : List (Option ℤ) → Option ℤ → ℕ → Type 0
IsOther leaves number o = leaf_at leaves o ≢ number

-- the objects whose number is above a level
abbrev pub objects_over : ℤ → List (Option ℤ) → List ℕ
objects_over level leaves = those_over level leaves (objects (length leaves))

-- the greatest number of all leaves
abbrev pub greatest_leaf : List (Option ℤ) → Option ℤ
greatest_leaf leaves = greatest_of (standing leaves (objects (length leaves)))

-- the greatest number of the leaves of objects outside a set
abbrev pub greatest_leaf_outside : List (Option ℤ) → List ℕ → Option ℤ
greatest_leaf_outside leaves set = greatest_of (standing leaves (outside (length leaves) set))

-- the leaves in two lists: those of the wide one, unless it is empty
abbrev pub leaves_in : List (Option ℤ) → List (Option ℤ) → List (Option ℤ)
leaves_in narrow [] = narrow
leaves_in narrow (x ∷ wide) = x ∷ wide

-- there was a number, and there is another by so much
pub record Moves (by : ℤ) (old new : Option ℤ) : Type 0 where
  pub number : ℤ
  pub was : old ≡ Some number
  pub is : new ≡ Some (number +ℤ by)

-- there was a number at a place, which stands there moved
pub record Shifts (place : ℕ) (by : ℤ) (old new : List (Option ℤ)) : Type 0 where
  pub number : ℤ
  pub was : slice_index_or old place None ≡ Some number
  pub is : new ≡ slice_set old place (Some (number +ℤ by))
