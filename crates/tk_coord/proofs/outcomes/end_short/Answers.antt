use Rattle.std.proofs.Common.{FitsSigned, rules, ◌∙◌}
use Rattle.std.specs.Int.{w128}
use Rattle.std.proofs.lemmas.Int.{to_z-of_z}
use Rattle.tk_journal.specs.Deciding.{short_decides}
use Rattle.tk_coord.proofs.OutcomesLemmas.{dealt_named}
use Rattle.tk_coord.proofs.outcomes.end_short.Goals as goal

pub deal_short-requires-clause-border : goal.deal_short-requires-clause-border
deal_short-requires-clause-border c =
    let grounds = c.args.grounds in
    let fits : FitsSigned w128 c.in_ok-border.border = search rules in
    to_z-of_z w128 c.in_ok-border.border fits
    ∙ c.in_ok-border.ensures

pub ended-requires-clause-named : goal.ended-requires-clause-named
ended-requires-clause-named c =
    let grounds = c.args.grounds in
    let settings = grounds.phase.settings in
    dealt_named grounds.board.now.table (short_decides settings grounds.board.now.table grounds.board.now.members c.args.report.now) settings.monitors c.in_ok-dealt.dealt
    c.in_ok-dealt.ensures c.requires.ready.size.monitors
