use Rattle.std.proofs.Common.{◌≡◌, Option, None, option_map, arith, ap, sym, ◌∙◌}
use Rattle.tk_base.specs.declared.ids.Mon.{Mon}
use Rattle.tk_input.specs.Judged.{first_crowded, first_gap}
use Rattle.tk_input.specs.Logs.{LogSet}
use Rattle.tk_input.specs.Rows.{logs_in}
use Rattle.tk_input.proofs.LimitsLemmas.{countable, passed}
use Rattle.tk_input.proofs.RowsLemmas.{length-logs_in}
use Rattle.tk_input.proofs.logs.judging.judge.Goals as goal

pub updates_of-requires : goal.updates_of-requires
updates_of-requires c =
    let crowded : first_crowded (logs_in c.args.rows.now) ≡ None = sym c.crowded_of.ensures ∙ ap (λ (o : Option Mon). option_map (λ mon. mon.0) o) c.in_default-crowded_of.is in
    countable (logs_in c.args.rows.now) (omega (arith, length-logs_in c.args.rows.now, c.requires.monitors)) crowded c.requires.lengths

pub returns-clause-gathered : goal.returns-clause-gathered
returns-clause-gathered c =
    let s : LogSet = record { logs = logs_in c.args.rows.now; objects = c.args.objects } in
    let gap : first_gap (logs_in c.args.rows.now) ≡ None = sym c.gap_of.ensures ∙ ap (λ (o : Option Mon). option_map (λ mon. mon.0) o) c.in_default.is in
    let crowded : first_crowded (logs_in c.args.rows.now) ≡ None = sym c.crowded_of.ensures ∙ ap (λ (o : Option Mon). option_map (λ mon. mon.0) o) c.in_default-crowded_of.is in
    passed s (omega (arith, length-logs_in c.args.rows.now, c.requires.monitors)) c.requires.objects c.requires.lengths gap crowded
    (omega (arith, c.updates_of.ensures, c.if-updates_of-gt-MAX_UPDATES.false)) (sym c.in_ok-great.ensures ∙ c.in_default-2.is)
