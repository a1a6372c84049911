use Rattle.std.proofs.Common.{ℕ, not, nat_lt, sym, ap, ◌∙◌}
use Rattle.tk_journal.specs.Kinds.{streak_of}
use Rattle.tk_journal.specs.Turns.{streak}
use Rattle.tk_coord.specs.Coordinator.{CoordinatorView}
use Rattle.tk_coord.proofs.GrowLemmas.{streak_at}
use Rattle.tk_coord.proofs.coordinator.Coordinator.is_tired.Goals as goal

pub returns : goal.returns
returns c =
    let f = c.self.inside in
    c.is_tired.ensures
    ∙ ap (λ (k : ℕ). not (nat_lt k 8))
    (ap streak_of c.self.invariant.0.turned ∙ sym (streak_at f.settings f.journal.entries c.self.invariant.0.journal) ∙ ap (λ (v : CoordinatorView). streak v.settings v.journal) c.self.view_is)
