use Rattle.std.proofs.Common.{Contains, FitsSigned, rules, List, ℕ, sym, ap, ◌∙◌, subst, arith}
use Rattle.std.specs.Int.{w128}
use Rattle.std.specs.List.{All}
use Rattle.std.proofs.lemmas.Int.{to_z-of_z}
use Rattle.tk_base.specs.Pairs.{objects_of}
use Rattle.tk_alloc.specs.Resolving.{objects_over, round_border}
use Rattle.tk_alloc.specs.declared.reported.Reported.{Reported}
use Rattle.tk_alloc.proofs.GatheredLemmas.{first_over}
use Rattle.tk_alloc.proofs.WideLemmas.{reports_count}
use Rattle.tk_journal.specs.Deciding.{full_decides}
use Rattle.tk_coord.proofs.OutcomesLemmas.{dealt_named}
use Rattle.tk_coord.proofs.outcomes.end_full.Goals as goal

pub bounds-reports-0 : goal.bounds-reports-0
bounds-reports-0 c =
    let settings = c.args.grounds.phase.settings in
    let reports = c.args.reports.now in
    let some = c.monitors.ensures.limits.some_monitor in
    let count = reports_count settings.monitors (objects_over reports) reports c.requires.order in
    omega (arith, some, count)

pub border_over-requires : goal.border_over-requires
border_over-requires c =
    let grounds = c.args.grounds in
    let over = first_over grounds.phase.settings c.args.reports.now c.index-reports-0.result c.monitors.ensures.limits c.requires.order c.index-reports-0.is in
    let here = sym over ∙ ap (λ (r : Reported). objects_of r.values) c.index-reports-0.is in
    subst (λ (xs : List ℕ). All (Contains xs) grounds.board.now.members) here c.requires.ready.members

pub deal_full-requires-clause-border : goal.deal_full-requires-clause-border
deal_full-requires-clause-border c =
    let grounds = c.args.grounds in
    let settings = grounds.phase.settings in
    let over = first_over settings c.args.reports.now c.index-reports-0.result c.monitors.ensures.limits c.requires.order c.index-reports-0.is in
    let here = sym over ∙ ap (λ (r : Reported). objects_of r.values) c.index-reports-0.is in
    let fits : FitsSigned w128 c.in_ok-border.border = search rules in
    to_z-of_z w128 c.in_ok-border.border fits
    ∙ c.in_ok-border.ensures
    ∙ ap (round_border settings grounds.board.now.table grounds.board.now.members) (sym here)

pub ended-requires-clause-named : goal.ended-requires-clause-named
ended-requires-clause-named c =
    let grounds = c.args.grounds in
    let settings = grounds.phase.settings in
    dealt_named grounds.board.now.table (full_decides settings grounds.board.now.table grounds.board.now.members c.args.reports.now) settings.monitors c.in_ok-dealt.dealt
    c.in_ok-dealt.ensures c.requires.ready.size.monitors
