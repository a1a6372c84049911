use Rattle.std.proofs.Common.{◌≡◌, ◌∷◌, []}
use Rattle.std.specs.Prelude.{replicate}
use Rattle.tk_input.specs.Changes.{closing}
use Rattle.tk_watch.proofs.watch.unfed_parts.Given as goal

-- so many parts are there
abbrev pub invariant-loop-i : goal.invariant-loop-i
invariant-loop-i l = l.parts.items ≡ replicate l.i (closing ∷ [])
