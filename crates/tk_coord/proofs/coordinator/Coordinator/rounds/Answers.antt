use Rattle.std.proofs.Common.{◌≡◌, sym, ap, ◌∙◌}
use Rattle.std.proofs.lemmas.Result.{IfOk-weaker}
use Rattle.tk_journal.specs.Turns.{rounds}
use Rattle.tk_journal.specs.RoundEnds.{openings}
use Rattle.tk_coord.specs.Coordinator.{CoordinatorView}
use Rattle.tk_coord.proofs.GrowLemmas.{rounds_at}
use Rattle.tk_coord.proofs.coordinator.Coordinator.rounds.Goals as goal

pub returns : goal.returns
returns c =
    let f = c.self.inside in
    let now = c.args.self.now in
    let same : openings f.turns.list ≡ rounds now.settings now.journal =
    ap openings c.self.invariant.0.turned ∙ sym (rounds_at f.settings f.journal.entries c.self.invariant.0.journal) ∙ ap (λ (v : CoordinatorView). rounds v.settings v.journal) c.self.view_is in
    IfOk-weaker c.rounds.result (λ n. n ≡ openings f.turns.list) (λ n. n ≡ rounds now.settings now.journal) (λ n is. is ∙ same) c.rounds.ensures
