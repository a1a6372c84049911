use Rattle.std.proofs.Common.{◌≡◌, ℕ, ◌+◌, ◌++◌, ◌∷◌, [], List, map, ap, ap₂, sym, subst, ◌∙◌, arith, refl}
use Rattle.std.specs.List.{range_with_len}
use Rattle.std.proofs.lemmas.List.{map-append}
use Rattle.tk_coord.specs.Coordinator.{CoordinatorView}
use Rattle.tk_hub.specs.Hub.{HubView}
use Rattle.tk_journal.specs.Legal.{inputs_of}
use Rattle.tk_wire.specs.SureWire.{SureView}
use Rattle.tk_border.proofs.RisingLemmas.{counted_more}
use Rattle.tk_world.specs.Nodes.{fresh_seat}
use Rattle.tk_world.specs.declared.seat.Seat.{Seat}
use Rattle.tk_bytes.specs.Greeting.{AreMade}
use Rattle.tk_bytes.specs.Wired.{seat_of}
use Rattle.tk_bytes.specs.declared.walked.Walked.{Walked}
use Rattle.tk_bytes.proofs.MakingLemmas.{can_join, made_more}
use Rattle.tk_bytes.proofs.wired.making.new_lines.Goals as goal

pub loop-j-init : goal.loop-j-init
loop-j-init c =
    let none = c.in_ok-lines.ensures.items in
    record {
      made = subst (λ (ls : List Walked). AreMade 0 c.args.hub.now ls) (sym none) c.requires.none;
      seats = ap (λ (ls : List Walked). map seat_of ls) none;
      coordinator = refl;
    }

pub new_walked-requires-clause-can : goal.new_walked-requires-clause-can
new_walked-requires-clause-can c =
    let l = c.loop-j in
    let a = ap (λ (k : CoordinatorView). k.settings.monitors) l.invariant.coordinator in
    let b = ap (λ s. s.monitors) c.requires.settings in
    can_join l.j l.hub l.lines.items l.invariant.made (omega (arith, a, b, c.loop-j-test.true, c.monitors-count.ensures.value))

pub new_walked-requires-clause-begins : goal.new_walked-requires-clause-begins
new_walked-requires-clause-begins c = ap (λ (k : CoordinatorView). inputs_of k.journal) c.loop-j.invariant.coordinator ∙ c.requires.begins

pub loop-j-preserved : goal.loop-j-preserved
loop-j-preserved c =
    let l = c.loop-j in
    let new = c.in_ok-new_walked in
    let of_ = fresh_seat c.args.plan.now.settings.now c.args.plan.now.logs.now c.args.plan.now.from.now in
    record {
      made = subst (λ (ls : List Walked). AreMade (l.j + 1) c.new_walked.new.hub ls) (sym c.in_ok-push.ensures.items) (made_more l.j l.hub c.new_walked.new.hub l.lines.items new.field-0 l.invariant.made new.ensures.walked new.ensures.seats);
      seats =
          ap (λ (ls : List Walked). map seat_of ls) c.in_ok-push.ensures.items
          ∙ map-append seat_of l.lines.items (new.field-0 ∷ [])
          ∙ ap₂ (λ (seats : List Seat) (seat : Seat). seats ++ seat ∷ []) l.invariant.seats new.ensures.seat
          ∙ sym (counted_more of_ l.j);
      coordinator = ap (λ (h : HubView SureView). h.coordinator) new.ensures.seats.rest ∙ l.invariant.coordinator;
    }

pub returns-clause-made : goal.returns-clause-made
returns-clause-made c =
    let last : c.loop-j.j ≡ c.args.plan.now.settings.now.monitors = omega (arith, c.monitors-count.ensures.value, c.loop-j-test.false, c.loop-j.auto.j-end) in
    subst (λ (n : ℕ). AreMade n c.loop-j.hub c.loop-j.lines.items) last c.loop-j.invariant.made

pub returns-clause-seats : goal.returns-clause-seats
returns-clause-seats c =
    let last : c.loop-j.j ≡ c.args.plan.now.settings.now.monitors = omega (arith, c.monitors-count.ensures.value, c.loop-j-test.false, c.loop-j.auto.j-end) in
    c.loop-j.invariant.seats ∙ ap (λ (n : ℕ). map (fresh_seat c.args.plan.now.settings.now c.args.plan.now.logs.now c.args.plan.now.from.now) (range_with_len 1 n)) last

pub returns-clause-coordinator : goal.returns-clause-coordinator
returns-clause-coordinator c = c.loop-j.invariant.coordinator
