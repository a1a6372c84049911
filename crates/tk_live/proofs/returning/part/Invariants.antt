use Rattle.std.proofs.Common.{◌≡◌, ◌≤◌, length, map, sum_by, vec_capacity, All, true, None}
use Rattle.tk_trail.specs.Readings.{is_stopped, taken_by}
use Rattle.tk_serve.specs.declared.served.Why.TheVariants.{Stopped}
use Rattle.tk_live.specs.Carried.{HasTaken, bytes_of}
use Rattle.tk_live.specs.Crew.{IsCalm, gravest}
use Rattle.tk_live.proofs.returning.part.Given as goal

-- the ends, causes and bytes of the workers passed were kept
abbrev pub invariant-loop-worked : goal.invariant-loop-worked
invariant-loop-worked g l = record {
  ends : l.ends.items ≡ map (λ w. w.served.end) l.yielded;
  cause : l.cause ≡ gravest (map (λ w. w.served.why) l.yielded);
  calm : IsCalm l.cause → All (λ w. w.served.end.odd ≡ None) l.yielded;
  stopped : l.cause ≡ Stopped → All (λ w. is_stopped w.served.end.monitor.trail ≡ true) l.yielded;
  taken : HasTaken (g.N.Net.state l.fn.net) (g.N.Net.state l.net) (sum_by (λ w. bytes_of w.version (taken_by w.served.end.monitor.trail)) l.yielded);
  count : length l.ends.items ≡ length l.yielded;
  room : length l.fn.workers.items ≤ vec_capacity l.ends;
}
