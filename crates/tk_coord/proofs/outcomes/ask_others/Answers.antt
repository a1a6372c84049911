use Rattle.std.proofs.Common.{subst}
use Rattle.std.specs.List.{All}
use Rattle.tk_journal.specs.Entries.{IsEntryOf}
use Rattle.tk_coord.proofs.outcomes.ask_others.Goals as goal

pub returns-clause-entries : goal.returns-clause-entries
returns-clause-entries c n = subst (λ m. All (IsEntryOf m n) c.in_ok-entries.entries.items) c.monitors-monitors.ensures.value (c.in_ok-entries.ensures.entries n)
