use Rattle.std.proofs.Common.{◌≡◌, ◌∷◌, take}
use Rattle.tk_rows.specs.Writing.{named_at, written}
use Rattle.tk_rows.proofs.factors.Factors.replace.Given as goal

abbrev pub invariant-loop-change : goal.invariant-loop-change
invariant-loop-change l = l.self-inside.list.items ≡ written l.fn.self ((0, l.own) ∷ named_at (take l.change-index l.at) l.place)
