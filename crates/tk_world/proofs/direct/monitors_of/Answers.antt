use Rattle.std.proofs.Common.{List, [], ◌∷◌, ◌++◌, ◌∙◌, length, sym, ap, arith}
use Rattle.std.proofs.lemmas.List.{length-append, map-append}
use Rattle.tk_monitor.specs.Monitored.{MonitorView}
use Rattle.tk_world.specs.declared.seat.Seat.{Seat}
use Rattle.tk_world.proofs.direct.monitors_of.Goals as goal

pub push_reserved-requires : goal.push_reserved-requires
push_reserved-requires c =
    let rest = ap (λ (seats : List Seat). length seats) c.in-Some.ensures.steps.0 in
    omega (arith, c.loop-seat.invariant.room, rest)

pub loop-seat-preserved : goal.loop-seat-preserved
loop-seat-preserved c =
    let seat = c.in-Some.seat in
    let before = c.loop-seat.monitors.items in
    let rest = ap (λ (seats : List Seat). length seats) c.in-Some.ensures.steps.0 in
    let more = ap (λ (ms : List MonitorView). length ms) c.push_reserved.ensures.items in
    let sum = length-append before (seat.monitor ∷ []) in
    record {
      monitors = c.push_reserved.ensures.items ∙ ap (λ (ms : List MonitorView). ms ++ seat.monitor ∷ []) c.loop-seat.invariant.monitors
          ∙ sym (map-append (λ (x : Seat). x.monitor) c.loop-seat.yielded (seat ∷ []));
      room = omega (arith, c.loop-seat.invariant.room, rest, more, sum, c.push_reserved.ensures.capacity);
    }
