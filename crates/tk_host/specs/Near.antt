-- Connections to monitors that are far and to stand-ins, as contracts see them.
use Rattle.std.specs.Prelude.{Bool}
use Rattle.tk_wire.specs.Meanings.{Counts, Traffic}
use Rattle.tk_host.specs.declared.contact.Contact.{Contact}
use Rattle.tk_host.specs.declared.contact.Contact.TheVariants as at

-- the bytes of a connection, of which it tells nothing
abbrev pub traffic_of : {W : Type 0} → (W → Traffic) → Contact W → Traffic
traffic_of traffic (at.Far link) = traffic link
traffic_of traffic (at.Near s) = s.port.link.traffic

-- the counts of a connection
abbrev pub counts_of : {W : Type 0} → (W → Counts) → Contact W → Counts
counts_of counts (at.Far link) = counts link
counts_of counts (at.Near s) = s.counts

-- whether it was shut
abbrev pub is_shut_of : {W : Type 0} → (W → Bool) → Contact W → Bool
is_shut_of shut (at.Far link) = shut link
is_shut_of shut (at.Near s) = s.shut
