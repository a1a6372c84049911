use Rattle.std.proofs.Common.{◌≡◌, ◌+◌, length, arith, ap}
use Rattle.std.proofs.lemmas.List.{length_push}
use Rattle.tk_monitor.specs.Trail.{TrailView}
use Rattle.tk_trail.specs.declared.entry.Entry.TheVariants.{Raised}
use Rattle.tk_monitor.proofs.TrailLemmas.{places-raised}
use Rattle.tk_monitor.proofs.trail.Trail.raised.Goals as goal

pub invariant_of-self : goal.invariant_of-self
invariant_of-self c =
    let inside = c.self.inside in
    let left : inside.raises ≡ c.args.self.now.raises = ap (λ (l : TrailView). l.raises) c.self.view_is in
    let grown : length c.push_reserved.new.self.items ≡ length inside.entries.items + 1 = rw c.push_reserved.ensures.items (length_push inside.entries.items (Raised c.args.f)) in
    let room = c.self.invariant.0 in
    let place = c.self.invariant.1 in (
      record { room = omega (arith, room.room, grown, c.push_reserved.ensures.capacity, c.requires, left); few = omega (arith, room.few) },
      record { room = omega (arith, place.room); few = place.few },
      rw c.push_reserved.ensures.items (places-raised inside.entries.items inside.sent_places.items c.args.f c.self.invariant.2),
    )
