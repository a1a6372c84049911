-- What is sent, so that it can be taken, and what stands where a set is published.
use Rattle.tk_frames.specs.declared.frame.Frame.TheVariants as f
use Rattle.tk_journal.specs.declared.noted.Noted.TheVariants as n
use Rattle.std.specs.Prelude.{ℕ, ◌<◌, ◌≤◌, ◌≡◌, ℤ, Bool, true, List, length, Contains, Some}
use Rattle.std.specs.List.{All}
use Rattle.tk_base.specs.Ascending.{IsAscending}
use Rattle.tk_base.specs.Settings.{Setup}
use Rattle.tk_frames.specs.Assigns.{members_of}
use Rattle.tk_frames.specs.declared.frame.Frame.{Frame}
use Rattle.tk_journal.specs.Laws.{AreFactorsSmall, AreMembers, IsMonitor, KeepsConstraint, AreChanges}
use Rattle.tk_journal.specs.Publishing.{is_due, publication_at}
use Rattle.tk_journal.specs.Readings.{Progress, answer_of, assigns_sent, asked_of, assigns_to, last_round, members_at, settled_of}
use Rattle.tk_frames.specs.Carried.{seq_in}
use Rattle.tk_journal.specs.Links.{frames_from, frames_to}
use Rattle.tk_journal.specs.Refusal.{is_report}
use Rattle.tk_base.specs.History.{last_of}
use Rattle.tk_journal.specs.declared.noted.Noted.{Noted}
use Rattle.tk_journal.specs.declared.publication.Publication.{Publication}

-- 1 to 1,024 ascending members of the catalogue, and changes
pub record IsAssignable (s : Setup) (members : List ℕ) (changes : List (ℕ × ℤ)) : Type 0 where
  pub some : 0 < length members
  pub few : length members ≤ 1024
  pub ascends : IsAscending members
  pub within : All (λ o. o ≤ s.objects) members
  pub each : AreChanges s.objects changes

-- behind an Assign, over some objects of the catalogue, ascending, with the members among them
pub record IsAskable (s : Setup) (before : List Noted) (mon : ℕ) (asked : List ℕ) : Type 0 where
  pub begun : 0 < assigns_sent mon before
  pub some : 0 < length asked
  pub ascends : IsAscending asked
  pub within : All (λ o. o ≤ s.objects) asked
  pub among : All (Contains asked) (members_at before)
  pub named : members_of (assigns_to mon before) ≡ members_at before

-- a frame to a monitor is an Assign, a Collect, or Stop where it said that it is at the ends
abbrev pub CanBeTaken : Setup → List Noted → ℕ → Frame → Type 0
CanBeTaken s before mon (f.Assign seq members changes) = IsAssignable s members changes
CanBeTaken s before mon (f.Collect round asked) = IsAskable s before mon asked
CanBeTaken s before mon f.Stop = (p : Progress) × (settled_of mon before ≡ Some p) × (p.last ≡ true)
CanBeTaken s before mon (f.Hello run version m) = ⊥
CanBeTaken s before mon (f.Report seq border failed values) = ⊥
CanBeTaken s before mon (f.Values round seq border values) = ⊥
CanBeTaken s before mon (f.Settled seq last places) = ⊥

-- what stands in front of a publication
pub record Stands (s : Setup) (before : List Noted) : Type 0 where
  pub members : AreMembers s before
  pub own : KeepsConstraint s before
  pub small : AreFactorsSmall s before
  pub named : (mon : ℕ) → IsMonitor s mon → members_of (assigns_to mon before) ≡ members_at before

-- that stands, a publication is due, and this is the one
pub record IsPublishable (s : Setup) (before : List Noted) (p : Publication) : Type 0 where
  pub stands : Stands s before
  pub due : is_due s before ≡ true
  pub says : p ≡ publication_at s before

-- an entry says what may be said over those in front of it
abbrev pub IsSaidWell : Setup → List Noted → Noted → Type 0
IsSaidWell s before (n.Got from frame) = Unit {0}
IsSaidWell s before (n.Sent to frame) = CanBeTaken s before to.0 frame
IsSaidWell s before (n.Published p) = IsPublishable s before p
IsSaidWell s before (n.Tuned k epsilon) = Unit {0}

-- the last frame sent to a monitor is the Collect of the last round
pub record IsLastAsked (mon : ℕ) (j : List Noted) : Type 0 where
  pub asked : List ℕ
  pub is : asked_of (last_round j) mon j ≡ Some asked
  pub last : last_of (frames_to mon j) ≡ Some (f.Collect (last_round j) asked)

-- a monitor has a current answer, and where so it is a Report
pub record IsAnswered (mon : ℕ) (j : List Noted) (reports : Bool) : Type 0 where
  pub frame : Frame
  pub is : answer_of mon j ≡ Some frame
  pub report : reports ≡ true → is_report (Some frame) ≡ true

-- a frame that speaks of this number of Assigns was got from a monitor
pub record WasHeard (mon : ℕ) (j : List Noted) (number : ℕ) : Type 0 where
  pub frame : Frame
  pub among : Contains (frames_from mon j) frame
  pub carries : seq_in frame ≡ Some number
