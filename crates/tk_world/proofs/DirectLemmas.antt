-- What the calls of nodes in memory leave, whose seat is read out of the list and whose frame is a copy of the next one.
use Rattle.tk_journal.specs.declared.noted.Noted.TheVariants as n
use Rattle.std.proofs.Common.{◌≡◌, ℕ, ◌-◌, List, get_or, set, Some, sym, ap, ◌∙◌, subst}
use Rattle.tk_base.specs.declared.ids.Mon.{Mon}
use Rattle.tk_coord.specs.Coordinator.{CoordinatorView}
use Rattle.tk_frames.specs.declared.frame.Frame.{Frame}
use Rattle.tk_world.specs.Nodes.{AtSeat, CanGoDown, CanGoUp, GoesDown, GoesUp, HasSeat, NodesView, with_input}
use Rattle.tk_world.specs.Taking.{CanTakeDown, CanTakeUp, TakesDown, TakesUp}
use Rattle.tk_world.specs.declared.seat.Seat.{Seat}
use Rattle.tk_world.proofs.NodesLemmas.{at_seat}

abbrev pub of_parts : CoordinatorView → List Seat → NodesView
of_parts coordinator seats = record { coordinator = coordinator; seats = seats }

pub same_frame : (sent frame next : Frame) → frame ≡ sent → Some sent ≡ Some next → frame ≡ next
same_frame sent frame next copied both = cc

pub can_take_up : (v old : NodesView) (mon : ℕ) (seat : Seat) → v ≡ old → seat ≡ get_or v.seats (mon - 1) seat → AtSeat old mon (CanGoUp old mon) → CanTakeUp v.coordinator mon seat
can_take_up v old mon seat same at can =
    let here : CanGoUp v mon seat = subst (CanGoUp v mon) (sym at) (subst (λ (z : NodesView). AtSeat z mon (CanGoUp z mon)) (sym same) can seat) in
    record { frame = here.frame; next = here.next; accepted = here.accepted }

pub goes_up : (v old : NodesView) (coordinator : CoordinatorView) (mon : Mon) (seat after : Seat) → v ≡ old → HasSeat old mon.0 → seat ≡ get_or v.seats (mon.0 - 1) seat
    → TakesUp mon v.coordinator coordinator seat after
    → AtSeat old mon.0 (GoesUp mon old (of_parts coordinator (set v.seats (mon.0 - 1) after)))
goes_up v old coordinator mon seat after same has at takes =
    let new = of_parts coordinator (set v.seats (mon.0 - 1) after) in
    let here : GoesUp mon v new seat = record {
      frame = takes.frame;
      next = takes.next;
      is = ap (λ (x : CoordinatorView). of_parts x (set v.seats (mon.0 - 1) after)) takes.coordinator
          ∙ ap (λ (x : Seat). of_parts (with_input v.coordinator (n.Got mon takes.frame)) (set v.seats (mon.0 - 1) x)) takes.seat;
    } in
    subst (λ (z : NodesView). AtSeat z mon.0 (GoesUp mon z new)) same
    (at_seat v mon.0 (GoesUp mon v new) seat (subst (λ (z : NodesView). HasSeat z mon.0) (sym same) has) (subst (GoesUp mon v new) at here))

pub can_take_down : (v old : NodesView) (mon : ℕ) (seat : Seat) → v ≡ old → seat ≡ get_or v.seats (mon - 1) seat → AtSeat old mon (CanGoDown old mon) → CanTakeDown v.coordinator mon seat
can_take_down v old mon seat same at can =
    let here : CanGoDown v mon seat = subst (CanGoDown v mon) (sym at) (subst (λ (z : NodesView). AtSeat z mon (CanGoDown z mon)) (sym same) can seat) in
    record { frame = here.frame; next = here.next; accepted = here.accepted }

pub goes_down : (v old : NodesView) (mon : ℕ) (seat after : Seat) → v ≡ old → HasSeat old mon → seat ≡ get_or v.seats (mon - 1) seat
    → TakesDown mon v.coordinator seat after
    → AtSeat old mon (GoesDown mon old (of_parts v.coordinator (set v.seats (mon - 1) after)))
goes_down v old mon seat after same has at takes =
    let new = of_parts v.coordinator (set v.seats (mon - 1) after) in
    let here : GoesDown mon v new seat = record {
      frame = takes.frame;
      next = takes.next;
      is = ap (λ (x : Seat). of_parts v.coordinator (set v.seats (mon - 1) x)) takes.seat;
    } in
    subst (λ (z : NodesView). AtSeat z mon (GoesDown mon z new)) same
    (at_seat v mon (GoesDown mon v new) seat (subst (λ (z : NodesView). HasSeat z mon) (sym same) has) (subst (GoesDown mon v new) at here))
