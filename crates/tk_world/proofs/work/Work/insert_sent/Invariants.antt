use Rattle.std.proofs.Common.{◌≡◌, ◌||◌, ℕ, take}
use Rattle.tk_world.specs.Work.{has, is_sent}
use Rattle.tk_world.proofs.work.Work.insert_sent.Given as goal

-- the monitors of the entries passed are in the set
abbrev pub invariant-loop-entry : goal.invariant-loop-entry
invariant-loop-entry l = (q : ℕ) → has l.self q ≡ (has l.initial.self q || is_sent (take l.entry-index l.entries) q)
