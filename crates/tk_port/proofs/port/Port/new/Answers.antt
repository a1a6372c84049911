use Rattle.std.proofs.Common.{rules, sym, subst}
use Rattle.tk_monitor.proofs.StartLemmas.{start_legal}
use Rattle.tk_trail.specs.Legal.{IsLegal}
use Rattle.tk_port.proofs.port.Port.new.Goals as goal

pub invariant_of-result : goal.invariant_of-result
invariant_of-result g c = record {
  version = (search rules);
  setup = c.requires.setup;
  legal = subst (IsLegal c.args.monitor.setup) (sym c.requires.trail) (start_legal c.args.monitor.setup);
  written = (search rules);
  ends = record { came = (search rules); went = (search rules); covered = (search rules) };
  course = (search rules);
}

pub returns-clause-kept : goal.returns-clause-kept
returns-clause-kept g c = invariant_of-result g c
