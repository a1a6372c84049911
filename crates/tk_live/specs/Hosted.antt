-- The hub's side of a live run, from what the host was given to what it hands on. No public clause cites it.
use Rattle.std.specs.Prelude.{ℕ, ◌≡◌, false, List}
use Rattle.tk_hub.specs.Hub.{IsClosed}
use Rattle.tk_input.specs.declared.sink.Sink.{Ghosts as SinkOf}
use Rattle.tk_wire.specs.Net.{NetState}
use Rattle.tk_live.specs.Hosting.{Hosts}
use Rattle.tk_live.specs.Parting.{faults_of}
use Rattle.tk_live.specs.declared.hosting.Host.{Host}
use Rattle.tk_live.specs.declared.parting.Parting.{Parting}
use Rattle.tk_live.specs.declared.parting.Parting.TheVariants as p

-- a host ran its hub over its net and its output. Unless the run is done every wire of the hub is shut, nobody is held any
-- more and the door is closed, so that no worker waits for the hub; and a put failed just where the end tells it
pub record HostsFrom {N O Link Rest Bell : Type 0} (net : N → NetState) (out : SinkOf O) (parting : Parting) (names : List (List ℕ)) (old new : Host N O Link Rest Bell) : Type 0 where
  pub hosts : Hosts parting names old.hub new.hub (net old.net.now) (net new.net.now) (out.written old.out.now) (out.written new.out.now)
  pub closed : (parting ≡ p.Finished → ⊥) → IsClosed new.hub.links new.hub.held
  pub shut : (parting ≡ p.Finished → ⊥) → (net new.net.now).listens ≡ false
  pub counted : out.fault_count new.out.now ≡ faults_of parting (out.fault_count old.out.now)
