use Rattle.std.specs.Prelude.{drop}
use Rattle.tk_journal.specs.Legal.{inputs_of}
use Rattle.tk_world.specs.Serializing.{IsAt}
use Rattle.tk_world.proofs.serializing.walk_journal.Given as goal

-- the journal is walked up to the entries that are left
abbrev pub invariant-loop-noted : goal.invariant-loop-noted
invariant-loop-noted l = IsAt l.story.story l.walk (inputs_of (drop l.noted-index l.journal)) 0
