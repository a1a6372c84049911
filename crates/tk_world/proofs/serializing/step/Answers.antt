use Rattle.std.proofs.Common.{◌≡◌, ◌+◌, ◌-◌, ◌<◌, ◌≤◌, ℕ, List, [], length, get_or, set, arith, Bool, if◌then◌else◌, ◌∙◌, refl, sym, ap}
use Rattle.std.proofs.lemmas.List.{get_or-set_other, get_or-set_same, get_or_default}
use Rattle.std.proofs.lemmas.Option.{get_or_from_slice_get, slice_get_read}
use Rattle.tk_story.specs.Story.{trail_of}
use Rattle.tk_input.specs.declared.event.Event.{Event}
use Rattle.tk_input.specs.declared.event.Event.TheVariants.{Down}
use Rattle.tk_trail.specs.declared.entry.Entry.{Entry}
use Rattle.tk_world.specs.Order.{of_entry}
use Rattle.tk_world.specs.Runs.{wants_answer}
use Rattle.tk_world.specs.Serializing.{sends, uses}
use Rattle.tk_world.proofs.SerializingLemmas.{step_by}
use Rattle.tk_world.proofs.serializing.step.Goals.{in-Raised, in-Took, in-Took-2, in-Sent}
use Rattle.tk_world.proofs.serializing.step.Goals as goal

pub returns-clause-walking : goal.returns-clause-walking
returns-clause-walking c = λ left w turn.
    let mon = c.args.mon in
    let x = c.index-trail-place.result in
    let read : Entry → Event × ℕ × Bool = λ e. (of_entry mon.0 e, uses e, sends e) in
    let s = c.args.story.now.story in
    let place : c.index-place.result.now ≡ get_or c.args.walk.now.places.items (mon.0 - 1) 0 = c.index-place.ensures ∙ get_or_default c.args.walk.now.places.items (mon.0 - 1) c.index-place.result.now 0 (omega (arith, w.count, c.requires.monitor.from_one, c.requires.monitor.within)) in
    let trail : trail_of s mon.0 ≡ c.trail.result.now = get_or_from_slice_get s.trails (mon.0 - 1) c.trail.result.now [] c.trail.ensures in
    let inside : c.index-place.result.now < length (trail_of s mon.0) = omega (arith, place, c.requires.can.more) in
    let is : c.match-trail-place.event ≡ read x = elim c.match-trail-place.branch [
      | in-Raised w ↦ w.event-is ∙ ap read (sym w.in-Raised.is)
      | in-Took w ↦
          w.event-is ∙ ap (λ (b : Bool). (Down mon, (if b then 2 else 1), b)) (sym w.if-is_answered.true ∙ w.is_answered.ensures ∙ ap wants_answer w.get.ensures)
          ∙ ap read (sym w.in-Took.is)
      | in-Took-2 w ↦
          w.event-is ∙ ap (λ (b : Bool). (Down mon, (if b then 2 else 1), b)) (sym w.if-is_answered.false ∙ w.is_answered.ensures ∙ ap wants_answer w.get.ensures)
          ∙ ap read (sym w.in-Took.is)
      | in-Sent w ↦ w.event-is ∙ ap read (sym w.in-Sent.is)
    ] in
    step_by c.args.story.now.story c.args.walk.now.places.items c.args.walk.now.events.items c.push.new.self.items left mon.0 x c.match-trail-place.event c.index-place.result.now is
    c.in_ok-push.ensures.items place (slice_get_read (trail_of s mon.0) (length (trail_of s mon.0)) c.index-place.result.now x refl inside (c.index-trail-place.is ∙ ap (λ (xs : List Entry). get_or xs c.index-place.result.now x) (sym trail))) c.requires.monitor w turn

pub returns-clause-further : goal.returns-clause-further
returns-clause-further c =
    let i = c.args.mon.0 - 1 in
    let places = c.args.walk.now.places.items in
    let place = c.index-place.result.now in
    let length' = c.match-trail-place.event.1 in
    let within : i < length places = omega (arith, c.requires.can.walking.count, c.requires.monitor.from_one, c.requires.monitor.within) in
    let old : place ≡ get_or places i 0 = c.index-place.ensures ∙ get_or_default places i place 0 within in
    let new = get_or-set_same places i (place + length') 0 within in
    let one : length' ≡ 1 → 1 ≤ length' = λ is. omega (arith, is) in
    let two : length' ≡ 2 → 1 ≤ length' = λ is. omega (arith, is) in
    let some : 1 ≤ length' = elim c.match-trail-place.branch [
      | in-Raised w ↦ one (ap (λ (e : Event × ℕ × Bool). e.1) w.event-is)
      | in-Took w ↦ two (ap (λ (e : Event × ℕ × Bool). e.1) w.event-is)
      | in-Took-2 w ↦ one (ap (λ (e : Event × ℕ × Bool). e.1) w.event-is)
      | in-Sent w ↦ one (ap (λ (e : Event × ℕ × Bool). e.1) w.event-is)
    ] in
    let more : get_or places i 0 < get_or (set places i (place + length')) i 0 = omega (arith, old, new, some) in
    more

pub returns-clause-others : goal.returns-clause-others
returns-clause-others c = λ i apart. get_or-set_other c.args.walk.now.places.items (c.args.mon.0 - 1) i (c.index-place.result.now + c.match-trail-place.event.1) 0 apart
