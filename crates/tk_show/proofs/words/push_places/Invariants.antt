use Rattle.std.proofs.Common.{◌≡◌, ◌++◌, take}
use Rattle.tk_show.specs.Frames.{places_text}
use Rattle.tk_show.proofs.words.push_places.Given as goal

-- the places so far are written
abbrev pub invariant-loop-i : goal.invariant-loop-i
invariant-loop-i l = l.line.items ≡ l.initial.line.items ++ places_text (take l.i l.places)
