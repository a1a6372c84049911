-- What one session of a process comes to. No public clause cites it.
use Rattle.std.specs.Prelude.{ℕ, ◌≡◌, ◌≤◌, ◌⊎◌, All, length, take, List, [], ◌++◌, Option, Some, None, Result, Ok, Err, OnOk, IfErr, IfSome}
use Rattle.std.specs.List.{cons_option}
use Rattle.tk_base.specs.Settings.{Setup}
use Rattle.tk_wire.specs.Host.{HostState}
use Rattle.tk_wire.specs.Meanings.{raised_by}
use Rattle.tk_host.specs.Coordinating.{IsFinal, IsFollowed, WritesEnding, WritesOn, opening_text, run_faults}
use Rattle.tk_host.specs.Going.{WritesLeft, published_by}
use Rattle.tk_host.specs.Session.{IsEnded, IsSession, PastSession, Told, seats_in, sets_in}
use Rattle.tk_host.specs.Sitting.{SessionView}
use Rattle.tk_host.specs.Text.{over_text, sessions_text, text_of, told_text}
use Rattle.tk_host.specs.declared.coordinated.Coordinated.{Coordinated}
use Rattle.tk_host.specs.declared.coordinated.Coordinated.TheVariants as d
use Rattle.tk_host.specs.declared.over.Over.{Over}
use Rattle.tk_host.specs.declared.over.Over.TheVariants as o

-- what was told in a session that began with a line and was left so: the seats that were taken, and the first sets; its text was written
pub record Begins {W : Type 0} (over : Over) (names : List (List ℕ)) (line : List ℕ) (s : SessionView W) (before now : Option (List ℕ)) : Type 0 where
  pub told : List Told
  pub seats : seats_in told ≡ s.roster
  pub sets : sets_in told ≡ take s.told (published_by s)
  pub within : s.told ≤ length (published_by s)
  pub written : WritesLeft over before now (line ++ told_text names [] told)

-- the text of a session that began, and none of one that did not
abbrev pub held_text : List (List ℕ) → ℕ → Option PastSession → List ℕ
held_text names number None = []
held_text names number (Some s) = text_of names number s

-- a session began, and ended by a cause
abbrev pub HasEndedBy : Option PastSession → Type 0
HasEndedBy None = ⊥
HasEndedBy (Some s) = IsEnded s.over

-- a session was held, or did not begin; its text was written
pub record Holds {A : Type 0} (result : Result A Coordinated) (names : List (List ℕ)) (settings : Setup) (missing : Option ℕ) (number : ℕ) (before now : Option (List ℕ)) : Type 0 where
  pub held : Option PastSession
  pub is : IfSome held (IsSession settings missing)
  pub followed : OnOk result (HasEndedBy held)
  pub final : IfErr result (λ end. end ≡ d.Done → IsFinal held)
  pub written : WritesOn result before now (held_text names number held)

-- the host is opened, and the first line is written
pub record Opens {A : Type 0} (result : Result A Coordinated) (before now : Option (List ℕ)) : Type 0 where
  pub address : Option (List ℕ)
  pub written : WritesOn result before now (opening_text address)
  pub undone : IfErr result (λ end. end ≡ d.Done → ⊥)

-- how many calls of the host failed
abbrev pub FailsHost : Coordinated → HostState → HostState → Type 0
FailsHost end old new = end ≡ d.LinkFault → new.faults ≡ raised_by 1 old.faults

-- a host went on, or one call more failed where the process ends by that
pub record Hosts {A : Type 0} (result : Result A Coordinated) (old new : HostState) : Type 0 where
  pub on : OnOk result (new.faults ≡ old.faults)
  pub listens : OnOk result (new.listens ≡ old.listens)
  pub off : IfErr result (λ end. FailsHost end old new)

-- how many puts failed
abbrev pub faults_on : {A : Type 0} → Result A Coordinated → ℕ → ℕ
faults_on (Ok x) faults = faults
faults_on (Err end) faults = run_faults end faults

-- ---- how a session is left

-- how many puts failed once a session was left so: none more where one failed in it
abbrev pub faults_behind : {A : Type 0} → Over → Result A Coordinated → ℕ → ℕ
faults_behind o.Finished result faults = faults_on result faults
faults_behind (o.Ended cause) result faults = faults_on result faults
faults_behind o.HostFailed result faults = faults_on result faults
faults_behind o.WriteFailed result faults = faults

-- a session that was left so makes the process end, or go on behind a cause
pub record Parts {A : Type 0} (over : Over) (result : Result A Coordinated) (number : ℕ) (before now : Option (List ℕ)) : Type 0 where
  pub ended : OnOk result (IsEnded over)
  pub final : IfErr result (λ end. end ≡ d.Done → over ≡ o.Finished)
  pub failed : IfErr result (λ end. end ≡ d.LinkFault → over ≡ o.HostFailed)
  pub unwritten : over ≡ o.WriteFailed → IfErr result (λ end. end ≡ d.WriteFault)
  pub unmade : over ≡ o.WriteFailed → OnOk result ⊥
  pub same : over ≡ o.WriteFailed → now ≡ before
  pub written : WritesOn result before now (over_text number over)

-- the sessions of a process, behind its first line
pub record HoldsAll (end : Coordinated) (names : List (List ℕ)) (settings : Setup) (missing : Option ℕ) (limit : ℕ) (before now : Option (List ℕ)) : Type 0 where
  pub past : List PastSession
  pub last : Option PastSession
  pub each : All (IsSession settings missing) past
  pub each_followed : All IsFollowed past
  pub last_is : IfSome last (IsSession settings missing)
  pub written : WritesEnding end before now (sessions_text names 1 (past ++ cons_option last []))
  pub done : end ≡ d.Done → IsFinal last ⊎ (length past ≡ limit)
