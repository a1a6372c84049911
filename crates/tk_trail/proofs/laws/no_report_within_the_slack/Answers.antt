use Rattle.tk_trail.proofs.LawLemmas.{no_report, no_report_later}
use Rattle.tk_trail.proofs.laws.no_report_within_the_slack.Goals as goal

pub returns-clause-assign : goal.returns-clause-assign
returns-clause-assign c = no_report

pub returns-clause-later : goal.returns-clause-later
returns-clause-later c = no_report_later
