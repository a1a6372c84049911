use Rattle.std.proofs.Common.{◌≡◌, take}
use Rattle.tk_journal.specs.Legal.{IsLegal, start}
use Rattle.tk_verify.specs.Driving.{IsDriven}
use Rattle.tk_verify.proofs.journals.drive.Given as goal

-- the coordinator did what was seen of the journal
abbrev pub invariant-loop-i : goal.invariant-loop-i
invariant-loop-i l = record {
  settings : l.coordinator.settings ≡ l.initial.coordinator.settings;
  driven : IsDriven (IsLegal (start l.initial.coordinator.settings)) (take l.i l.journal) l.coordinator.journal;
}
