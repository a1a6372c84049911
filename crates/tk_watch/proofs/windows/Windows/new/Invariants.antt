use Rattle.std.proofs.Common.{◌≡◌}
use Rattle.std.specs.Prelude.{replicate}
use Rattle.tk_recent.specs.Kept.{fresh}
use Rattle.tk_watch.proofs.windows.Windows.new.Given as goal

-- so many windows are there
abbrev pub invariant-loop : goal.invariant-loop
invariant-loop l = l.list.items ≡ replicate l.counter (fresh l.objects l.width)
