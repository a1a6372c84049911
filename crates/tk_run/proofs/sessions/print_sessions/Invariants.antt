use Rattle.std.proofs.Common.{◌≡◌, take}
use Rattle.std.specs.Prelude.{flat_map}
use Rattle.std.specs.List.{enumerate_from}
use Rattle.tk_input.specs.Sink.{Grows}
use Rattle.tk_run.specs.Sessions.{numbered_text}
use Rattle.tk_run.proofs.sessions.print_sessions.Given as goal

-- the sessions so far are written, and no put failed
abbrev pub invariant-loop-i : goal.invariant-loop-i
invariant-loop-i g l = record {
  written : Grows (g.O.Sink.written l.fn.out) (g.O.Sink.written l.out) (flat_map (numbered_text l.names) (take l.i (enumerate_from 1 l.stories)));
  faults : g.O.Sink.fault_count l.out ≡ g.O.Sink.fault_count l.fn.out;
}
