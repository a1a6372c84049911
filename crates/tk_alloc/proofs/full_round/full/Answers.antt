use Rattle.std.proofs.Common.{sym, ap, ◌∙◌, subst, arith, FitsSigned}
use Rattle.std.specs.Int.{w128}
use Rattle.std.proofs.lemmas.Int.{ints, to_z-of_z}
use Rattle.tk_base.specs.Pairs.{objects_of}
use Rattle.tk_alloc.specs.declared.reported.Reported.{Reported}
use Rattle.tk_alloc.specs.Resolving.{IsReady, round_border}
use Rattle.tk_alloc.proofs.GatheredLemmas.{first_over}
use Rattle.tk_alloc.proofs.full_round.full.Goals as goal

pub own_border-border-requires : goal.own_border-border-requires
own_border-border-requires c =
    let over = first_over c.args.settings.now c.args.reports.now c.index-reports-0.result c.monitors.ensures.limits c.requires.reports c.index-reports-0.is in
    let here = sym over ∙ ap (λ (r : Reported). objects_of r.values) c.index-reports-0.is in
    subst (IsReady c.args.settings.now c.args.table.now c.args.members.now) here c.requires.ready

-- the border that it finds is the round's
pub full_with_border-requires-clause-border : goal.full_with_border-requires-clause-border
full_with_border-requires-clause-border c =
    let fits : FitsSigned w128 c.own_border-border.result = omega (arith, ints) in
    let over = first_over c.args.settings.now c.args.reports.now c.index-reports-0.result c.monitors.ensures.limits c.requires.reports c.index-reports-0.is in
    let here = sym over ∙ ap (λ (r : Reported). objects_of r.values) c.index-reports-0.is in
    to_z-of_z w128 c.own_border-border.result fits ∙ c.own_border-border.ensures ∙ sym (ap (round_border c.args.settings.now c.args.table.now c.args.members.now) here)
