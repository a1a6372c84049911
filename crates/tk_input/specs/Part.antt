-- The changes that a part holds.
use Rattle.std.specs.Prelude.{ℕ, ℤ, List}
use Rattle.std.specs.Arc.{arc_value}
use Rattle.tk_input.specs.declared.part.Held.{Held}
use Rattle.tk_input.specs.declared.part.Held.TheVariants.{Own, Shared}

-- those of its own list, or of the one that it shares
abbrev pub held_by : Held → List (ℕ × ℤ)
held_by (Own changes) = changes
held_by (Shared changes) = arc_value changes
