use Rattle.std.proofs.Common.{refl, ap, ◌∙◌}
use Rattle.tk_journal.specs.Legal.{inputs_of, start}
use Rattle.tk_hub.proofs.DeskLemmas.{opened_inputs}
use Rattle.tk_host.proofs.GoingLemmas.{going_first}
use Rattle.tk_host.proofs.session.Session.new.Goals as goal

pub new-requires-2 : goal.new-requires-2
new-requires-2 g c = ap inputs_of c.in_ok-coordinator.ensures.journal ∙ opened_inputs (start c.args.settings)

pub returns-clause-going : goal.returns-clause-going
returns-clause-going g c =
    let same = c.in_ok-hub.ensures.coordinator in
    going_first _ c.args.settings c.in_ok-hub.ensures.kept (ap (λ k. k.settings) same ∙ c.in_ok-coordinator.ensures.settings)
    (ap (λ k. k.journal) same ∙ c.in_ok-coordinator.ensures.journal) c.in_ok-hub.ensures.course refl c.new-4.ensures c.new-3.ensures
