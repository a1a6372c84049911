-- A monitor that is admitted by a connection that is not shut.
use Rattle.std.proofs.Common.{◌≡◌, ℕ, true, false, nat_lt, List, Option, Some, None, refl}
use Rattle.std.proofs.lemmas.Bool.{ltb-true, and_parts, not-true}
use Rattle.tk_end.specs.Link.{LinkView}
use Rattle.tk_journal.specs.Laws.{IsMonitor}
use Rattle.tk_hub.proofs.LeavingLemmas.{monitor_is}
use Rattle.tk_hub.specs.Seats.{AreSeats, SeatsView, admits, is_used, link_of}
use Rattle.tk_hub.specs.Turn.{HoldsAt}

used : {W : Type 0} (o : Option (LinkView W)) → is_used o ≡ true → (link : LinkView W) × (o ≡ Some link) × (link.shut ≡ false)
used None is = absurd (cc)
used (Some link) is = (link, refl, not-true link.shut is)

pub admitted_link : {W : Type 0} (links : List (Option (LinkView W))) (mon : ℕ) → admits links mon ≡ true → HoldsAt links mon (λ link. link.shut ≡ false)
admitted_link links mon is =
    let two = and_parts (nat_lt 0 mon) (is_used (link_of links mon)) is in
    let there = used (link_of links mon) two.1 in
    record { some = ltb-true 0 mon two.0; link = there.0; at = there.1; holds = there.2 }

-- it is one of the run's
pub admitted_monitor : {W : Type 0} (seats : SeatsView W) (mon : ℕ) → AreSeats seats → admits seats.links mon ≡ true → IsMonitor seats.coordinator.settings mon
admitted_monitor seats mon are is =
    let there = admitted_link seats.links mon is in
    monitor_is mon seats there.link there.some there.at are
