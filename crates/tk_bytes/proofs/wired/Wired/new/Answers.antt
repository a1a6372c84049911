use Rattle.std.proofs.Common.{◌∙◌, ap}
use Rattle.tk_coord.specs.Coordinator.{CoordinatorView}
use Rattle.tk_journal.specs.Legal.{inputs_of, start}
use Rattle.tk_bytes.proofs.MakingLemmas.{made_none}
use Rattle.tk_bytes.proofs.wired.Wired.new.Goals as goal

pub new-requires-2 : goal.new-requires-2
new-requires-2 c = ap inputs_of c.in_ok-coordinator.ensures.journal ∙ c.an_opening_has_no_input.ensures (start c.args.settings)

pub new_lines-requires-clause-begins : goal.new_lines-requires-clause-begins
new_lines-requires-clause-begins c =
    ap (λ (k : CoordinatorView). inputs_of k.journal) c.in_ok-hub.ensures.coordinator ∙ ap inputs_of c.in_ok-coordinator.ensures.journal ∙ c.an_opening_has_no_input.ensures (start c.args.settings)

pub new_lines-requires-clause-none : goal.new_lines-requires-clause-none
new_lines-requires-clause-none c =
    let hub = c.in_ok-hub.ensures in
    made_none c.in_ok-hub.hub c.in_ok-coordinator.coordinator.settings.monitors hub.kept hub.course hub.run hub.held hub.links
