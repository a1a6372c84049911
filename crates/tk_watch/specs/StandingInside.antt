-- What the form of a standing shows. No public clause cites this file.
use Rattle.std.specs.Prelude.{Some, None, ⊤}
use Rattle.tk_watch.specs.Standing.{StandingView}
use Rattle.tk_watch.specs.Tally.{IsTally}
use Rattle.tk_watch.specs.declared.standing.Form.{Form}
use Rattle.tk_watch.specs.declared.standing.Form.TheVariants as s

-- a monitor that is not connected, or one at its end of a connection
abbrev pub standing_in : {W : Type 0} → Form W → StandingView W
standing_in (s.Idle monitor) = record { monitor = monitor; port = None }
standing_in (s.Joined port tally) = record { monitor = port.monitor; port = Some port }

-- what is left of the room for frames is known of a connection
abbrev pub IsTallied : {W : Type 0} → Form W → Type 0
IsTallied (s.Idle monitor) = ⊤
IsTallied (s.Joined port tally) = IsTally tally port.monitor.trail
