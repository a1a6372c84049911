use Rattle.std.specs.List.{All}
use Rattle.tk_journal.specs.Entries.{IsEntryOf}
use Rattle.tk_coord.specs.Dealing.{OpensWide}
use Rattle.tk_coord.specs.Grounds.{OpensOver}
use Rattle.tk_coord.proofs.AnswerLemmas.{both_ok}
use Rattle.tk_coord.proofs.GroundLemmas.{opened_over}
use Rattle.tk_coord.proofs.coordinator.Coordinator.wide.Goals as goal

pub returns : goal.returns
returns c =
    let s = c.args.self.now.settings in
    let j = c.args.self.now.journal in
    let g = c.grounds-grounds.result in
    both_ok (OpensWide g.phase g.rounds) (λ o. All (IsEntryOf g.phase.settings.monitors s.objects) o.entries.items) (OpensOver s j) c.open_wide.result
    (λ outcome. opened_over s j g outcome c.grounds-grounds.ensures) c.open_wide.ensures.opens (c.open_wide.ensures.entries s.objects)
