-- A session while it goes on. No public clause cites it.
use Rattle.std.specs.Prelude.{ℕ, ◌≡◌, ◌≤◌, ◌⊎◌, ◌++◌, ◌∷◌, true, false, None, List, [], length, take, Option, Result, Ok, Err, OnOk, IfErr, ⊤}
use Rattle.tk_base.specs.History.{IsFront}
use Rattle.tk_hub.specs.Hub.{IsHub}
use Rattle.tk_hub.specs.Turn.{course_of}
use Rattle.tk_hub.specs.declared.course.Course.TheVariants as cs
use Rattle.tk_hub.specs.declared.course.HubTurn.{HubTurn}
use Rattle.tk_hub.specs.declared.course.HubTurn.TheVariants as t
use Rattle.tk_input.specs.Files.{one_more}
use Rattle.tk_input.specs.Sink.{Grows, GrowsByFront}
use Rattle.tk_journal.specs.Legal.{opened, start}
use Rattle.tk_journal.specs.Publishing.{publications}
use Rattle.tk_journal.specs.Readings.{is_stopped}
use Rattle.tk_journal.specs.declared.publication.Publication.{Publication}
use Rattle.tk_wire.specs.Host.{HostState}
use Rattle.tk_wire.specs.Meanings.{raised_by}
use Rattle.tk_host.specs.Room.{IsFull}
use Rattle.tk_host.specs.Seats.{has_joined, has_stand_in, is_missing}
use Rattle.tk_host.specs.Session.{IsCausedBy, Told, seats_in, sets_in}
use Rattle.tk_host.specs.Tallying.{IsCounted}
use Rattle.tk_host.specs.Text.{told_text}
use Rattle.tk_host.specs.declared.cause.Cause.{Cause}
use Rattle.tk_host.specs.declared.cause.Cause.TheVariants as c
use Rattle.tk_host.specs.declared.over.Over.{Over}
use Rattle.tk_host.specs.declared.over.Over.TheVariants as o
use Rattle.tk_host.specs.declared.seat.Seat.{Seat}
use Rattle.tk_host.specs.Sitting.{SessionView}

-- ---- the journal

-- the sets that were published
abbrev pub published_by : {W : Type 0} → SessionView W → List Publication
published_by s = publications s.hub.coordinator.journal

-- all sets that were published are told
abbrev pub TellsAll : {W : Type 0} → SessionView W → Type 0
TellsAll s = s.told ≡ length (published_by s)

-- the hub is one, its journal begins as that of these settings, the bytes of a front of it are counted,
-- and no stand-in sits there unless one may
pub record IsStanding {W : Type 0} (s : SessionView W) : Type 0 where
  pub kept : IsHub s.hub
  pub begins : IsFront (opened (start s.hub.coordinator.settings)) s.hub.coordinator.journal
  pub counted : IsCounted s.hub.coordinator.journal s.tally
  pub attended : s.missing ≡ None → has_stand_in s.roster ≡ false

-- a session goes on: its hub is open, and all sets are told
pub record IsGoing {W : Type 0} (s : SessionView W) : Type 0 where
  pub standing : IsStanding s
  pub course : s.hub.course ≡ cs.Open
  pub all : TellsAll s

-- the journal has ended, and no stand-in sits there
pub record HasFinished {W : Type 0} (s : SessionView W) : Type 0 where
  pub stopped : is_stopped s.hub.coordinator.journal ≡ true
  pub attended : has_stand_in s.roster ≡ false

-- what a session shows that is left so
abbrev pub Leaves : {W : Type 0} → SessionView W → Over → Type 0
Leaves s o.Finished = TellsAll s × HasFinished s
Leaves s (o.Ended (c.Link mon)) = TellsAll s
Leaves s (o.Ended (c.Refused mon)) = TellsAll s
Leaves s (o.Ended (c.Bad mon)) = TellsAll s
Leaves s (o.Ended (c.Again mon)) = TellsAll s × IsCausedBy s.roster s.hub.coordinator.journal (o.Ended (c.Again mon))
Leaves s (o.Ended (c.Back mon)) = TellsAll s × IsCausedBy s.roster s.hub.coordinator.journal (o.Ended (c.Back mon))
Leaves s (o.Ended (c.Early mon)) = IsCausedBy s.roster s.hub.coordinator.journal (o.Ended (c.Early mon))
Leaves s (o.Ended c.Full) = TellsAll s × IsFull s.hub.coordinator.journal
Leaves s (o.Ended c.Memory) = ⊤
Leaves s o.HostFailed = TellsAll s
Leaves s o.WriteFailed = ⊤

-- a step of a session, after which it goes on or is left
pub record Steps {W A : Type 0} (result : Result A Over) (old new : SessionView W) : Type 0 where
  pub standing : IsStanding new
  pub going : OnOk result (IsGoing new)
  pub leaves : IfErr result (Leaves new)
  pub settings : new.hub.coordinator.settings ≡ old.hub.coordinator.settings
  pub missing : new.missing ≡ old.missing

-- a turn of the hub: the journal grows, and nothing is told
pub record Turns {W : Type 0} (turn : HubTurn) (old new : SessionView W) : Type 0 where
  pub standing : IsStanding new
  pub settings : new.hub.coordinator.settings ≡ old.hub.coordinator.settings
  pub grows : IsFront old.hub.coordinator.journal new.hub.coordinator.journal
  pub course : new.hub.course ≡ course_of turn
  pub written : turn ≡ t.WriteFailed → ⊥
  pub finished : turn ≡ t.Finished → is_stopped new.hub.coordinator.journal ≡ true
  pub roster : new.roster ≡ old.roster
  pub told : new.told ≡ old.told
  pub tally : new.tally ≡ old.tally
  pub missing : new.missing ≡ old.missing

-- behind a turn whose sets are told
pub record EndsTurn {W : Type 0} (turn : HubTurn) (s : SessionView W) : Type 0 where
  pub standing : IsStanding s
  pub all : TellsAll s
  pub course : s.hub.course ≡ course_of turn
  pub written : turn ≡ t.WriteFailed → ⊥
  pub finished : turn ≡ t.Finished → is_stopped s.hub.coordinator.journal ≡ true
  pub attended : is_stopped s.hub.coordinator.journal ≡ true → has_stand_in s.roster ≡ false

-- a cause by which one who greets ends a session
abbrev pub IsBarred : List Seat → Cause → Type 0
IsBarred seats (c.Link mon) = ⊥
IsBarred seats (c.Refused mon) = ⊥
IsBarred seats (c.Bad mon) = ⊥
IsBarred seats (c.Again mon) = has_joined seats mon.0 ≡ true
IsBarred seats (c.Back mon) = is_missing seats mon.0 ≡ true
IsBarred seats (c.Early mon) = ⊥
IsBarred seats c.Full = ⊥
IsBarred seats c.Memory = ⊥

-- a session is left since there is no memory
abbrev pub IsMemory : Over → Type 0
IsMemory over = over ≡ o.Ended c.Memory

-- a seat is taken, or none is
abbrev pub IsSeated : Seat → List Seat → List Seat → Type 0
IsSeated seat old new = (new ≡ old ++ seat ∷ []) ⊎ (new ≡ old)

-- a cause that is a link
abbrev pub IsLink : Cause → Type 0
IsLink (c.Link mon) = ⊤
IsLink (c.Refused mon) = ⊥
IsLink (c.Bad mon) = ⊥
IsLink (c.Again mon) = ⊥
IsLink (c.Back mon) = ⊥
IsLink (c.Early mon) = ⊥
IsLink c.Full = ⊥
IsLink c.Memory = ⊥

-- ---- what is told

-- what was written of a text in a session that is left so: where the sink failed a front of it
abbrev pub WritesLeft : Over → Option (List ℕ) → Option (List ℕ) → List ℕ → Type 0
WritesLeft o.Finished before now text = Grows before now text
WritesLeft (o.Ended cause) before now text = Grows before now text
WritesLeft o.HostFailed before now text = Grows before now text
WritesLeft o.WriteFailed before now text = GrowsByFront before now text

-- the same after a step
abbrev pub WritesStep : {A : Type 0} → Result A Over → Option (List ℕ) → Option (List ℕ) → List ℕ → Type 0
WritesStep (Ok x) before now text = Grows before now text
WritesStep (Err over) before now text = WritesLeft over before now text

-- a step after which a session goes on
abbrev pub going : Result (Unit {0}) Over
going = Ok tt

-- a step by which a session is left
abbrev pub left : Over → Result (Unit {0}) Over
left over = Err over

-- what was told so far: the seats that are taken, and the first sets of the journal; its text was written
pub record IsTold {W A : Type 0} (result : Result A Over) (names : List (List ℕ)) (s : SessionView W) (before now : Option (List ℕ)) : Type 0 where
  pub told : List Told
  pub seats : seats_in told ≡ s.roster
  pub sets : sets_in told ≡ take s.told (published_by s)
  pub within : s.told ≤ length (published_by s)
  pub written : WritesStep result before now (told_text names [] told)

-- behind what was told a step tells more
abbrev pub TellsOf : {W A : Type 0} → List (List ℕ) → Result A Over → SessionView W → SessionView W → Option (List ℕ) → Option (List ℕ) → Type 0
TellsOf names result old new now next =
    (before : Option (List ℕ)) → IsTold going names old before now → IsTold result names new before next

-- the same with whatever names
abbrev pub TellsMore : {W A : Type 0} → Result A Over → SessionView W → SessionView W → Option (List ℕ) → Option (List ℕ) → Type 0
TellsMore result old new now next = (names : List (List ℕ)) → TellsOf names result old new now next

-- what ends a session while something is told: a failed write, or no memory for a line
abbrev pub IsUntold : Over → Type 0
IsUntold o.Finished = ⊥
IsUntold (o.Ended (c.Link mon)) = ⊥
IsUntold (o.Ended (c.Refused mon)) = ⊥
IsUntold (o.Ended (c.Bad mon)) = ⊥
IsUntold (o.Ended (c.Again mon)) = ⊥
IsUntold (o.Ended (c.Back mon)) = ⊥
IsUntold (o.Ended (c.Early mon)) = ⊥
IsUntold (o.Ended c.Full) = ⊥
IsUntold (o.Ended c.Memory) = ⊤
IsUntold o.HostFailed = ⊥
IsUntold o.WriteFailed = ⊤

-- what ends a session by its host: a call that failed, or no memory
abbrev pub IsOfHost : Over → Type 0
IsOfHost o.Finished = ⊥
IsOfHost (o.Ended (c.Link mon)) = ⊥
IsOfHost (o.Ended (c.Refused mon)) = ⊥
IsOfHost (o.Ended (c.Bad mon)) = ⊥
IsOfHost (o.Ended (c.Again mon)) = ⊥
IsOfHost (o.Ended (c.Back mon)) = ⊥
IsOfHost (o.Ended (c.Early mon)) = ⊥
IsOfHost (o.Ended c.Full) = ⊥
IsOfHost (o.Ended c.Memory) = ⊤
IsOfHost o.HostFailed = ⊤
IsOfHost o.WriteFailed = ⊥

-- what ends a session by itself
abbrev pub IsOfSession : Over → Type 0
IsOfSession o.Finished = ⊤
IsOfSession (o.Ended cause) = ⊤
IsOfSession o.HostFailed = ⊥
IsOfSession o.WriteFailed = ⊤

-- what ends a session by a turn
abbrev pub IsOfTurn : Over → Type 0
IsOfTurn o.Finished = ⊤
IsOfTurn (o.Ended cause) = ⊤
IsOfTurn o.HostFailed = ⊥
IsOfTurn o.WriteFailed = ⊥

-- ---- faults

-- how many puts failed after a step: one more exactly where a line was not written
abbrev pub faults_left : Over → ℕ → ℕ
faults_left o.Finished faults = faults
faults_left (o.Ended cause) faults = faults
faults_left o.HostFailed faults = faults
faults_left o.WriteFailed faults = one_more faults

-- the same
abbrev pub step_faults : {A : Type 0} → Result A Over → ℕ → ℕ
step_faults (Ok x) faults = faults
step_faults (Err over) faults = faults_left over faults

-- how many calls of a host failed
abbrev pub calls_failed : Over → ℕ → ℕ
calls_failed o.Finished faults = faults
calls_failed (o.Ended cause) faults = faults
calls_failed o.HostFailed faults = raised_by 1 faults
calls_failed o.WriteFailed faults = faults

-- a host went on listening, and one call more failed exactly where a step says so
pub record Serves {A : Type 0} (result : Result A Over) (old new : HostState) : Type 0 where
  pub listens : new.listens ≡ old.listens
  pub on : OnOk result (new.faults ≡ old.faults)
  pub off : IfErr result (λ over. new.faults ≡ calls_failed over old.faults)
