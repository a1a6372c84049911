use Rattle.std.proofs.Common.{◌≡◌, ◌+◌, length, arith, ap}
use Rattle.std.proofs.lemmas.List.{length_push}
use Rattle.tk_monitor.specs.Trail.{TrailView}
use Rattle.tk_trail.specs.declared.entry.Entry.TheVariants.{Took}
use Rattle.tk_monitor.proofs.TrailLemmas.{places-took}
use Rattle.tk_monitor.proofs.trail.Trail.took.Goals as goal

pub invariant_of-self : goal.invariant_of-self
invariant_of-self c =
    let inside = c.self.inside in
    let left : inside.spare ≡ c.args.self.now.spare = ap (λ (l : TrailView). l.spare) c.self.view_is in
    let grown : length c.push_reserved.new.self.items ≡ length inside.entries.items + 1 = rw c.push_reserved.ensures.items (length_push inside.entries.items (Took c.args.frame)) in
    let room = c.self.invariant.0 in
    let place = c.self.invariant.1 in (
      record { room = omega (arith, room.room, grown, c.push_reserved.ensures.capacity, c.requires, left); few = omega (arith, room.few) },
      record { room = omega (arith, place.room); few = place.few },
      rw c.push_reserved.ensures.items (places-took inside.entries.items inside.sent_places.items c.args.frame c.self.invariant.2),
    )
