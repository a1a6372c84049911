use Rattle.tk_trail.proofs.BorderLemmas.{report_border, values_border}
use Rattle.tk_trail.proofs.bounds.borders_are_within_limits.Goals as goal

pub returns-clause-report : goal.returns-clause-report
returns-clause-report c = report_border

pub returns-clause-values : goal.returns-clause-values
returns-clause-values c = values_border
