-- What the caller's loop over its hub does with the net, the sink and the hub. No public clause cites it.
use Rattle.std.specs.Prelude.{ℕ, ◌≡◌, ◌≤◌, List, [], length, Bool, true, false, Option, Result, Ok, Err, ⊤}
use Rattle.std.specs.List.{concat}
use Rattle.tk_base.specs.History.{IsFront}
use Rattle.tk_hub.specs.Hub.{HubView, IsFinished, IsHub}
use Rattle.tk_hub.specs.Lines.{text_written}
use Rattle.tk_journal.specs.Publishing.{publications}
use Rattle.tk_journal.specs.Readings.{is_stopped}
use Rattle.tk_ledger.specs.Text.{lines_of}
use Rattle.tk_hub.specs.declared.course.Course.{Course}
use Rattle.tk_hub.specs.declared.course.Course.TheVariants as cs
use Rattle.tk_input.specs.Sink.{Grows, GrowsByFront}
use Rattle.tk_wire.specs.Net.{NetState}
use Rattle.tk_live.specs.Parting.{left_on}
use Rattle.tk_live.specs.declared.parting.Parting.{Parting}
use Rattle.tk_live.specs.declared.parting.Parting.TheVariants as p

-- a net that listens went on listening, and took nothing back
pub record HasGone (old new : NetState) : Type 0 where
  pub listens : old.listens ≡ true → new.listens ≡ true
  pub taken : new.taken ≡ old.taken

-- the lines of all publications of the hub's journal
abbrev pub all_told : {W : Type 0} → List (List ℕ) → HubView W → List ℕ
all_told names hub = concat (lines_of names hub.coordinator.journal)

-- a frame was refused, or bytes were none
abbrev pub IsRefusedCourse : Course → Type 0
IsRefusedCourse (cs.Refused mon why) = ⊤
IsRefusedCourse (cs.Bad mon fault) = ⊤
IsRefusedCourse cs.Open = ⊥
IsRefusedCourse cs.Halted = ⊥
IsRefusedCourse cs.Failed = ⊥
IsRefusedCourse cs.WriteFailed = ⊥

-- how much of the lines was written: all of them where nothing ended a turn but that it was done, and else some front
abbrev pub Writes : {W : Type 0} → Parting → List (List ℕ) → HubView W → Option (List ℕ) → Option (List ℕ) → Type 0
Writes p.Finished names hub old new = Grows old new (all_told names hub)
Writes p.Alarmed names hub old new = Grows old new (all_told names hub)
Writes p.NetFailed names hub old new = Grows old new (all_told names hub)
Writes p.Failed names hub old new = GrowsByFront old new (all_told names hub)
Writes p.Refused names hub old new = GrowsByFront old new (all_told names hub)
Writes p.WriteFailed names hub old new = GrowsByFront old new (all_told names hub)
Writes p.NoMemory names hub old new = GrowsByFront old new (all_told names hub)

-- what an end tells of the hub: that it is finished, refused something, or did not write
abbrev pub TellsParting : {W : Type 0} → Parting → HubView W → Type 0
TellsParting p.Finished hub = IsFinished hub
TellsParting p.Refused hub = IsRefusedCourse hub.course
TellsParting p.Alarmed hub = ⊤
TellsParting p.Failed hub = ⊤
TellsParting p.WriteFailed hub = hub.course ≡ cs.WriteFailed
TellsParting p.NetFailed hub = ⊤
TellsParting p.NoMemory hub = ⊤

-- an open hub beside a net that listens, with names for its objects
pub record CanGoOn {W : Type 0} (hub : HubView W) (net : NetState) (names : List (List ℕ)) : Type 0 where
  pub going : hub.course ≡ cs.Open
  pub listens : net.listens ≡ true
  pub named : hub.coordinator.settings.objects ≤ length names

-- the same of a hub that has published nothing
pub record CanHost {W : Type 0} (hub : HubView W) (net : NetState) (names : List (List ℕ)) : Type 0 where
  pub can : CanGoOn hub net names
  pub unwritten : publications hub.coordinator.journal ≡ []
  pub unstopped : is_stopped hub.coordinator.journal ≡ false

-- the hub's side of a live run: from a hub, a net and a sink to what it left of them
pub record Hosts {W : Type 0} (parting : Parting) (names : List (List ℕ)) (old new : HubView W) (net net' : NetState) (before after : Option (List ℕ)) : Type 0 where
  pub settings : new.coordinator.settings ≡ old.coordinator.settings
  pub grows : IsFront old.coordinator.journal new.coordinator.journal
  pub kept : IsHub new
  pub taken : net'.taken ≡ net.taken
  pub writes : Writes parting names new before after
  pub tells : TellsParting parting new
  pub unrefused : (parting ≡ p.Refused → ⊥) → IsRefusedCourse new.course → ⊥

-- the hub goes on: all its lines are written, and it is not finished
pub record IsGoing {W : Type 0} (names : List (List ℕ)) (old hub : HubView W) (net net' : NetState) (before now : Option (List ℕ)) : Type 0 where
  pub course : hub.course ≡ cs.Open
  pub kept : IsHub hub
  pub settings : hub.coordinator.settings ≡ old.coordinator.settings
  pub grows : IsFront old.coordinator.journal hub.coordinator.journal
  pub unfinished : IsFinished hub → ⊥
  pub gone : HasGone net net'
  pub written : Grows before now (text_written names hub.coordinator.journal hub.lines)
  pub all : text_written names hub.coordinator.journal hub.lines ≡ all_told names hub

-- how a round leaves the loop, whatever it began with: it goes on, or it has ended
abbrev pub GoesRound : {W : Type 0} → Result Bool Parting → List (List ℕ) → HubView W → HubView W → NetState → NetState → Option (List ℕ) → Option (List ℕ) → Type 0
GoesRound {W} (Ok idle) names hub hub' net net' now next =
    (old : HubView W) (first : NetState) (before : Option (List ℕ)) → IsGoing names old hub first net before now → IsGoing names old hub' first net' before next
GoesRound {W} (Err parting) names hub hub' net net' now next =
    (old : HubView W) (first : NetState) (before : Option (List ℕ)) → IsGoing names old hub first net before now → Hosts parting names old hub' first net' before next

-- what ends the loop between two turns: the net failed, or there was no memory
abbrev pub IsOfNet : Parting → Type 0
IsOfNet p.NetFailed = ⊤
IsOfNet p.NoMemory = ⊤
IsOfNet p.Finished = ⊥
IsOfNet p.Alarmed = ⊥
IsOfNet p.Failed = ⊥
IsOfNet p.Refused = ⊥
IsOfNet p.WriteFailed = ⊥

-- the hub's side is left: what its coordinator has done stays, and unless the run is done the hub is halted, where that is
-- due, and the door is closed
pub record Closes {W : Type 0} (parting : Parting) (old new : HubView W) (net net' : NetState) : Type 0 where
  pub coordinator : new.coordinator ≡ old.coordinator
  pub finished : parting ≡ p.Finished → new ≡ old
  pub course : new.course ≡ left_on parting old.course
  pub kept : IsHub new
  pub taken : net'.taken ≡ net.taken
  pub shut : (parting ≡ p.Finished → ⊥) → net'.listens ≡ false
