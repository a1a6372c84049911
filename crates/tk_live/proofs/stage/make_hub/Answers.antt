use Rattle.std.proofs.Common.{ap, ◌∙◌}
use Rattle.tk_hub.proofs.DeskLemmas.{opened_inputs}
use Rattle.tk_coord.specs.Coordinator.{CoordinatorView}
use Rattle.tk_journal.specs.Legal.{inputs_of, start}
use Rattle.tk_journal.specs.Publishing.{publications}
use Rattle.tk_journal.specs.Readings.{is_stopped}
use Rattle.tk_coord.proofs.BatchLemmas.{opened_unpublished, opened_running}
use Rattle.tk_live.proofs.stage.make_hub.Goals as goal

pub new-requires-2 : goal.new-requires-2
new-requires-2 g c = ap inputs_of c.in-Ok.ensures.journal ∙ opened_inputs (start c.args.plan.now.input.settings)

pub returns-in-Ok-new-clause-unwritten : goal.returns-in-Ok-new-clause-unwritten
returns-in-Ok-new-clause-unwritten g c =
    ap (λ (k : CoordinatorView). publications k.journal) c.in-Ok-new.ensures.coordinator ∙ ap publications c.in-Ok.ensures.journal ∙ opened_unpublished (start c.args.plan.now.input.settings)

pub returns-in-Ok-new-clause-unstopped : goal.returns-in-Ok-new-clause-unstopped
returns-in-Ok-new-clause-unstopped g c =
    ap (λ (k : CoordinatorView). is_stopped k.journal) c.in-Ok-new.ensures.coordinator ∙ ap is_stopped c.in-Ok.ensures.journal ∙ opened_running (start c.args.plan.now.input.settings)
