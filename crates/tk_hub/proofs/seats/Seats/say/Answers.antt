use Rattle.std.proofs.Common.{◌≡◌, ◌+◌, ◌-◌, Ok, Result, ap, subst, arith, refl}
use Rattle.tk_base.specs.declared.memory.NoMemory.{NoMemory}
use Rattle.tk_hub.specs.Seats.{link_at}
use Rattle.tk_hub.specs.Slot.{SeatSays}
use Rattle.tk_hub.specs.Turn.{Stays}
use Rattle.tk_wire.specs.declared.out_buffer.Pushed.{Pushed}
use Rattle.tk_wire.specs.declared.out_buffer.Pushed.TheVariants as p
use Rattle.tk_hub.proofs.SayLemmas.{heard_fail, heard_want, said_past, says_step}
use Rattle.tk_hub.proofs.SeatsLemmas.{monitor_at, place_at}
use Rattle.tk_hub.proofs.seats.Seats.say.Goals as goal
use Rattle.tk_hub.proofs.seats.Seats.say.Goals.{in-Ok-Empty, in-Ok-NotYet}

pub loop-place-init : goal.loop-place-init
loop-place-init g c = (refl, λ i few. absurd (omega (arith, few)), λ old turn goes h. h, c.monitors-place-end.ensures.kept)

pub say_at-requires : goal.say_at-requires
say_at-requires g c =
    let l = c.loop-place in
    monitor_at l.place c.args.self.now l.self (Stays c.args.self.now.coordinator l.self.coordinator (ap (λ s. s.coordinator) l.invariant.0)) (omega (arith, c.loop-place-test.true, c.monitors-place-end.ensures.value))

pub returns-in-Ok-Failed-clause-heard : goal.returns-in-Ok-Failed-clause-heard
returns-in-Ok-Failed-clause-heard g c =
    let l = c.loop-place in
    let new = c.say_at.new.self in
    let q = l.place + 1 - 1 in
    let is = monitor_at l.place c.args.self.now l.self (Stays c.args.self.now.coordinator l.self.coordinator (ap (λ s. s.coordinator) l.invariant.0)) (omega (arith, c.loop-place-test.true, c.monitors-place-end.ensures.value)) in
    let says = subst (λ k. SeatSays (l.place + 1) l.self.coordinator (Ok k) (link_at l.self.links q) (link_at new.links q)) c.in-Ok-Failed.field-0-is c.in-Ok-Failed.ensures.says in
    λ old turn goes h. heard_fail l.place q turn old l.self new (omega arith) (place_at l.place l.self is l.invariant.3) says c.say_at.ensures.rest goes (l.invariant.2 old turn goes h)

pub returns-in-Err-clause-heard : goal.returns-in-Err-clause-heard
returns-in-Err-clause-heard g c =
    let l = c.loop-place in
    let new = c.say_at.new.self in
    let q = l.place + 1 - 1 in
    let is = monitor_at l.place c.args.self.now l.self (Stays c.args.self.now.coordinator l.self.coordinator (ap (λ s. s.coordinator) l.invariant.0)) (omega (arith, c.loop-place-test.true, c.monitors-place-end.ensures.value)) in
    λ old turn goes h. heard_want l.place q turn c.in-Err.field-0 old l.self new (omega arith) (place_at l.place l.self is l.invariant.3) c.in-Err.ensures.says c.say_at.ensures.rest goes (l.invariant.2 old turn goes h)

pub loop-place-preserved : goal.loop-place-preserved
loop-place-preserved g c =
    let l = c.loop-place in
    let new = c.say_at.new.self in
    let q = l.place + 1 - 1 in
    let is = monitor_at l.place c.args.self.now l.self (Stays c.args.self.now.coordinator l.self.coordinator (ap (λ s. s.coordinator) l.invariant.0)) (omega (arith, c.loop-place-test.true, c.monitors-place-end.ensures.value)) in
    let within = place_at l.place l.self is l.invariant.3 in
    let Says : Result Pushed NoMemory → Type 0 = λ r. SeatSays (l.place + 1) l.self.coordinator r (link_at l.self.links q) (link_at new.links q) in
    elim c.match-say_at-2.branch [
      | in-Ok-Empty w ↦
          let empty : c.say_at.result ≡ Ok p.Empty = cc in
          says_step l.place q p.Empty c.args.self.now l.self new (omega arith) within (subst Says empty c.say_at.ensures.says) c.say_at.ensures.rest (λ e. absurd (cc)) c.say_at.ensures.kept l.invariant
      | in-Ok-NotYet w ↦
          let not_yet : c.say_at.result ≡ Ok p.NotYet = cc in
          says_step l.place q p.NotYet c.args.self.now l.self new (omega arith) within (subst Says not_yet c.say_at.ensures.says) c.say_at.ensures.rest (λ e. absurd (cc)) c.say_at.ensures.kept l.invariant
    ]

pub returns-clause-said : goal.returns-clause-said
returns-clause-said g c = λ goes.
    let l = c.loop-place in
    let monitors = ap (λ s. s.coordinator.settings.monitors) l.invariant.0 in
    said_past l.place l.self.coordinator l.self.links (omega (arith, c.loop-place-test.false, c.monitors-place-end.ensures.value, monitors, l.invariant.3.count)) l.invariant.1

pub returns-in-Ok-Failed-clause-unwritten : goal.returns-in-Ok-Failed-clause-unwritten
returns-in-Ok-Failed-clause-unwritten g c = λ is. absurd (cc)

pub returns-in-Err-clause-unwritten : goal.returns-in-Err-clause-unwritten
returns-in-Err-clause-unwritten g c = λ is. absurd (cc)

pub returns-clause-unwritten : goal.returns-clause-unwritten
returns-clause-unwritten g c = λ is. absurd (cc)
