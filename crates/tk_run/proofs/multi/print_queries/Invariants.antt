use Rattle.std.proofs.Common.{◌≡◌, map, take}
use Rattle.std.specs.Prelude.{flat_map}
use Rattle.std.specs.List.{zip}
use Rattle.tk_input.specs.Sink.{Grows}
use Rattle.tk_run.specs.Multi.{query_text}
use Rattle.tk_run.proofs.multi.print_queries.Given as goal

-- the texts so far are written, and no put failed
abbrev pub invariant-loop-i : goal.invariant-loop-i
invariant-loop-i g l = record {
  written : Grows (g.O.Sink.written l.fn.out) (g.O.Sink.written l.out) (flat_map query_text (take l.i (zip (zip (map (λ query. query.name) l.queries) l.names) l.stories)));
  faults : g.O.Sink.fault_count l.out ≡ g.O.Sink.fault_count l.fn.out;
}
