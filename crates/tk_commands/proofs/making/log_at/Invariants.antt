use Rattle.std.proofs.Common.{◌≡◌, ◌≤◌, All, length, take}
use Rattle.tk_input.specs.Logs.{IsObject}
use Rattle.tk_commands.specs.Generated.{log_of}
use Rattle.tk_commands.proofs.making.log_at.Given as goal

-- the log of the updates before
abbrev pub invariant-loop-update : goal.invariant-loop-update
invariant-loop-update l = record {
  value : l.list ≡ log_of l.mon.0 (take l.update-index l.updates);
  objects : All (λ c. IsObject l.objects c.0) l.list;
  few : length l.list ≤ l.update-index;
}
