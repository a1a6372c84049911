use Rattle.std.proofs.Common.{◌≡◌, ◌+◌, length, arith, ap}
use Rattle.std.proofs.lemmas.List.{length_push}
use Rattle.tk_monitor.specs.Trail.{TrailView}
use Rattle.tk_trail.specs.declared.entry.Entry.TheVariants.{Sent}
use Rattle.tk_monitor.proofs.TrailLemmas.{places-sent}
use Rattle.tk_monitor.proofs.trail.Trail.sent.Goals as goal

pub invariant_of-self : goal.invariant_of-self
invariant_of-self c =
    let inside = c.self.inside in
    let left : inside.spare ≡ c.args.self.now.spare = ap (λ (l : TrailView). l.spare) c.self.view_is in
    let grown : length c.push_reserved-2.new.self.items ≡ length inside.entries.items + 1 = rw c.push_reserved-2.ensures.items (length_push inside.entries.items (Sent c.args.frame)) in
    let longer : length c.push_reserved.new.self.items ≡ length inside.sent_places.items + 1 = rw c.push_reserved.ensures.items (length_push inside.sent_places.items c.len.result) in
    let here : c.len.result ≡ length inside.entries.items = omega (arith, c.len.ensures) in
    let room = c.self.invariant.0 in
    let place = c.self.invariant.1 in (
      record { room = omega (arith, room.room, grown, c.push_reserved-2.ensures.capacity, c.requires, left); few = room.few },
      record { room = omega (arith, place.room, longer, c.push_reserved.ensures.capacity, c.requires, left); few = place.few },
      rw (c.push_reserved-2.ensures.items, c.push_reserved.ensures.items, here) (places-sent inside.entries.items inside.sent_places.items c.args.frame c.self.invariant.2),
    )
