use Rattle.std.proofs.Common.{◌≡◌, ◌≤◌, vec_capacity, vec_len}
use Rattle.tk_coord.proofs.reports.no_reports.Given as goal

-- a report of each monitor up to here, and room for the others
abbrev pub invariant-loop-j : goal.invariant-loop-j
invariant-loop-j l = record {
  len : vec_len l.reports ≡ l.j;
  room : l.monitors ≤ vec_capacity l.reports;
}
