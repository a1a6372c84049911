use Rattle.std.proofs.Common.{◌≡◌, ◌++◌, take}
use Rattle.tk_show.specs.Frames.{pairs_text}
use Rattle.tk_show.proofs.words.push_pairs.Given as goal

-- the pairs so far are written
abbrev pub invariant-loop-i : goal.invariant-loop-i
invariant-loop-i l = l.line.items ≡ l.initial.line.items ++ pairs_text l.names (take l.i l.pairs)
