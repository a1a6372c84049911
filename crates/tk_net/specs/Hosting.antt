-- What contracts see of hosts, of links that were dialed, and of those who came in.
use Rattle.std.specs.Prelude.{◌≡◌, ◌≤◌, ℕ, Bool, false, ⊤}
use Rattle.tk_wire.specs.Host.{HostState, IsOfOurs}
use Rattle.tk_wire.specs.Meanings.{Counts}
use Rattle.tk_wire.specs.declared.wire.Gave.{Gave}
use Rattle.tk_wire.specs.declared.wire.Gave.TheVariants as gave
use Rattle.tk_net.specs.declared.caller.Standing.{Standing}
use Rattle.tk_net.specs.declared.caller.Standing.TheVariants as standing

-- a host: its state, its run, and the greatest number of its monitors
pub record HostView : Type 0 where
  pub state : HostState
  pub run : ℕ
  pub monitors : ℕ

-- a host that was just made
abbrev pub new_host : ℕ → ℕ → HostView
new_host run monitors = record { state = record { listens = false; faults = 0; strangers = 0 }; run = run; monitors = monitors }

-- those who came in: whose greetings are awaited, and how many were turned away
pub record LobbyView : Type 0 where
  pub run : ℕ
  pub monitors : ℕ
  pub strangers : ℕ

-- a few more may have been turned away
pub record TurnsAway (old new : LobbyView) : Type 0 where
  pub run : new.run ≡ old.run
  pub monitors : new.monitors ≡ old.monitors
  pub strangers : old.strangers ≤ new.strangers

-- who greets is one of ours
abbrev pub GreetsOurs : ℕ → ℕ → Standing → Type 0
GreetsOurs run monitors standing.Waits = ⊤
GreetsOurs run monitors standing.Stranger = ⊤
GreetsOurs run monitors (standing.Greets greeting) = IsOfOurs run monitors greeting

-- a link that was dialed: its counts, whether it was shut, and whether it was greeted
pub record DialedView : Type 0 where
  pub counts : Counts
  pub shut : Bool
  pub greeted : Bool

-- a give that took no byte over
abbrev pub IsNoBytes : Gave → Type 0
IsNoBytes (gave.Bytes n) = ⊥
IsNoBytes gave.NotYet = ⊤
IsNoBytes gave.Failed = ⊤
