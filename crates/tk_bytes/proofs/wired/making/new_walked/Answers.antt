use Rattle.std.proofs.Common.{ap}
use Rattle.tk_world.specs.declared.seat.Seat.{Seat}
use Rattle.tk_bytes.proofs.MakingLemmas.{new_line_walked}
use Rattle.tk_bytes.proofs.wired.making.new_walked.Goals as goal

pub returns-clause-walked : goal.returns-clause-walked
returns-clause-walked c =
    let seat = c.in_ok-monitor.field-0 in
    let fresh = c.in_ok-monitor.ensures.value in
    let joined = c.in_ok-line.ensures in
    (new_line_walked c.args.mon.0 c.args.hub.now c.join.new.hub c.in_ok-line.line seat joined.line joined.monitor joined.seats (ap (λ (s : Seat). s.monitor.setup.number) fresh) (ap (λ (s : Seat). s.monitor.trail) fresh) (ap (λ (s : Seat). s.taken) fresh) (ap (λ (s : Seat). s.got) fresh) c.requires.begins).0
