-- A number at a node, or none. No public clause cites this file.
use Rattle.std.specs.Prelude.{◌==◌, ◌-◌, ◌^◌, ℕ, ℤ, pos, negsuc, if◌then◌else◌, Option, Some, None}
use Rattle.tk_rank.specs.declared.narrow.Narrow.{Narrow}
use Rattle.tk_rank.specs.declared.wide.Wide.{Wide}

-- what a number of so many bits beside its sign stands for: the least of all for none, each other for itself
abbrev pub number_in : ℕ → ℤ → Option ℤ
number_in bits (pos n) = Some (pos n)
number_in bits (negsuc n) = if n == 2 ^ bits - 1 then None else Some (negsuc n)

-- what a node of 8 bytes stands for
abbrev pub narrow_number : Narrow → Option ℤ
narrow_number node = number_in 63 node.number

-- what a node of 16 bytes stands for
abbrev pub wide_number : Wide → Option ℤ
wide_number node = number_in 127 node.number
