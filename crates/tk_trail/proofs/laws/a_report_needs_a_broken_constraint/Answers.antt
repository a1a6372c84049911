use Rattle.tk_trail.proofs.LawLemmas.{reports_broken, reports_first}
use Rattle.tk_trail.proofs.laws.a_report_needs_a_broken_constraint.Goals as goal

pub returns-clause-broken : goal.returns-clause-broken
returns-clause-broken c = reports_broken

pub returns-clause-first : goal.returns-clause-first
returns-clause-first c = reports_first
