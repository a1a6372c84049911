use Rattle.std.proofs.Common.{ℕ, ◌≡◌, ◌<◌, Some}
use Rattle.std.specs.Prelude.{slice_get}
use Rattle.tk_trail.specs.Legal.{IsLegal}
use Rattle.tk_story.specs.Ends.{kept_by}
use Rattle.tk_story.specs.declared.ends.mon_end.MonEnd.{MonEnd}
use Rattle.tk_story.proofs.JoiningLemmas.{AreBefore}
use Rattle.tk_story.proofs.ends.comparing.check.Given as goal

-- the links of the monitors passed are ordered, and their trails are legal
abbrev pub invariant-loop-j : goal.invariant-loop-j
invariant-loop-j l = record {
  before : AreBefore (kept_by l.ends.coordinator l.ends.monitors.items) l.j;
  legal : (k : ℕ) (end : MonEnd) → k < l.j → slice_get l.ends.monitors.items k ≡ Some end → IsLegal end.monitor.setup end.monitor.trail;
}
