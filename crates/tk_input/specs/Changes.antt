-- Changes as pairs of an object and a whole number.
use Rattle.std.specs.Prelude.{ℕ, ◌-◌, ◌^◌, ◌≤◌, ℤ, pos, unsigned_abs, List, ◌∷◌, ◌++◌, length, map, take, drop, All}
use Rattle.tk_base.specs.Pairs.{narrow_pair_of}
use Rattle.tk_base.specs.declared.narrow_pair.NarrowPair.{NarrowPair}
use Rattle.tk_input.specs.declared.change.Change.{Change}
use Rattle.tk_input.specs.declared.changes.Form.{Form}
use Rattle.tk_input.specs.declared.changes.Form.TheVariants.{Narrow, Wide}

-- a change: its object, and by how much
abbrev pub pair_of : Change → ℕ × ℤ
pair_of c = (c.obj.0, c.by)

-- some changes
abbrev pub changes_of : List Change → List (ℕ × ℤ)
changes_of list = map pair_of list

-- some changes that are kept in 8 bytes each
abbrev pub narrow_changes_of : List NarrowPair → List (ℕ × ℤ)
narrow_changes_of list = map narrow_pair_of list

-- the changes of a list, in either form
abbrev pub changes_in : Form → List (ℕ × ℤ)
changes_in (Narrow list) = map narrow_pair_of list.items
changes_in (Wide list) = changes_of list.items

-- the amounts of some changes fit in 4 bytes
abbrev pub AreSmall : List (ℕ × ℤ) → Type 0
AreSmall changes = All (λ c. unsigned_abs c.1 ≤ 2 ^ 31) changes

-- those that are kept in 8 bytes each do
abbrev pub IsKept : Form → Type 0
IsKept (Narrow list) = AreSmall (narrow_changes_of list.items)
IsKept (Wide list) = Unit

-- some changes with one more at a place
abbrev pub inserted : ℕ → ℕ × ℤ → List (ℕ × ℤ) → List (ℕ × ℤ)
inserted place change changes = take place changes ++ (change ∷ drop place changes)

-- some changes with one more in front of the last
abbrev pub grown_by : ℕ × ℤ → List (ℕ × ℤ) → List (ℕ × ℤ)
grown_by change changes = inserted (length changes - 1) change changes

-- the closing record of a stream's log: a change of nothing, raised once the stream has ended
abbrev pub closing : ℕ × ℤ
closing = (1, pos 0)
