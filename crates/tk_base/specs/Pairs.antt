-- Whole numbers under ascending objects.
use Rattle.std.specs.Prelude.{ℕ, ℤ, List, Option, map, ◌==◌}
use Rattle.std.specs.Map.{lookup}
use Rattle.tk_base.specs.declared.ids.Obj.{Obj}
use Rattle.tk_base.specs.declared.narrow_pair.NarrowPair.{NarrowPair}
use Rattle.tk_base.specs.declared.pairs.Form.{Form}
use Rattle.tk_base.specs.declared.pairs.Form.TheVariants.{Narrow, Wide}

-- the pairs, each with the number of its object
abbrev pub pairs_of : List (Obj × ℤ) → List (ℕ × ℤ)
pairs_of pairs = map (λ p. (p.0.0, p.1)) pairs

-- the same of a pair in 8 bytes
abbrev pub narrow_pair_of : NarrowPair → ℕ × ℤ
narrow_pair_of p = (p.obj.0, p.by)

-- the pairs of a list, in either form
abbrev pub pairs_in : Form → List (ℕ × ℤ)
pairs_in (Narrow list) = map narrow_pair_of list.items
pairs_in (Wide list) = pairs_of list.items

-- the objects that have a number
abbrev pub objects_of : List (ℕ × ℤ) → List ℕ
objects_of pairs = map (λ p. p.0) pairs

-- the number under an object, if it has one
abbrev pub value_at : List (ℕ × ℤ) → ℕ → Option ℤ
value_at pairs o = lookup (λ q. q == o) pairs
