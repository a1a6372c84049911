use Rattle.std.proofs.Common.{subst}
use Rattle.std.specs.Prelude.{IfOk}
use Rattle.std.specs.List.{All}
use Rattle.tk_journal.specs.Entries.{IsEntryOf}
use Rattle.tk_coord.specs.declared.phase.Phase.{Phase}
use Rattle.tk_coord.specs.declared.step.TurnOutcome.{TurnOutcome}
use Rattle.tk_coord.proofs.outcomes.end_round.Goals as goal

pub returns-then-wide-clause-entries : goal.returns-then-wide-clause-entries
returns-then-wide-clause-entries c = λ n.
    subst (λ (st : Phase). IfOk c.end_wide.result (λ (o : TurnOutcome). All (IsEntryOf st.settings.monitors n) o.entries.items)) c.closed-phase.ensures (c.end_wide.ensures.entries n)

pub returns-clause-entries : goal.returns-clause-entries
returns-clause-entries c = λ n.
    subst (λ (st : Phase). IfOk c.end_full.result (λ (o : TurnOutcome). All (IsEntryOf st.settings.monitors n) o.entries.items)) c.closed-phase.ensures (c.end_full.ensures.entries n)
