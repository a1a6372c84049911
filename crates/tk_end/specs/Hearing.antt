-- What the taking of frames leaves, and why it ended.
use Rattle.std.specs.Prelude.{◌≡◌, ℕ, ◌≤◌, List, [], ◌++◌, length, Bool, true, Option, Some, None, ⊤}
use Rattle.tk_base.specs.History.{IsFront}
use Rattle.tk_frames.specs.declared.frame.Frame.{Frame}
use Rattle.tk_frames.specs.declared.answer.Next.TheVariants as n
use Rattle.tk_frames.specs.Answer.{Answers}
use Rattle.tk_wire.specs.Meanings.{Counts, raised_by}
use Rattle.tk_wire.specs.Parse.{IsParse}
use Rattle.tk_end.specs.Actor.{TakesAll}
use Rattle.tk_end.specs.Inbox.{Inbox, Leaves}
use Rattle.tk_end.specs.Link.{LinkView, Listens}
use Rattle.tk_end.specs.declared.hearing.Step.{Step}
use Rattle.tk_end.specs.declared.hearing.Step.TheVariants as s
use Rattle.tk_end.specs.declared.hearing.Heard.{Heard}
use Rattle.tk_end.specs.declared.hearing.Heard.TheVariants as h

-- the frame at the front of the bytes was read, and is refused for this reason
pub record IsRefused {A R : Type 0} (refusal : ℕ → Frame → A → Option R) (peer version : ℕ) (unread : List ℕ) (front : Option Frame) (actor : A) (why : R) : Type 0 where
  pub frame : Frame
  pub read : front ≡ Some frame
  pub rest : List ℕ
  pub leaves : Leaves version frame unread rest
  pub refused : refusal peer frame actor ≡ Some why

-- why no further frame is taken: the actor takes no more, none is whole, the next is refused, or the next bytes are none
abbrev pub Stops : {A R : Type 0} → (ℕ → Frame → A → Option R) → (ℕ → A → Bool) → ℕ → Inbox → A → Step R → Type 0
Stops refusal done peer inbox actor s.Done = done peer actor ≡ true
Stops refusal done peer inbox actor s.Part = Answers inbox.version inbox.unread n.Part
Stops refusal done peer inbox actor (s.Refused why) = IsRefused refusal peer inbox.version inbox.unread inbox.front actor why
Stops refusal done peer inbox actor (s.Bad fault) = Answers inbox.version inbox.unread (n.Bad fault) × (inbox.front ≡ None)
Stops refusal done peer inbox actor s.NoMemory = ⊤

-- some frames left the front of the bytes, and the actor took them in turn
pub record Takes {A R : Type 0} (refusal : ℕ → Frame → A → Option R) (after : ℕ → Frame → A → A) (heard said : ℕ → A → List Frame) (peer version : ℕ) (old new : List ℕ) (before now : A) : Type 0 where
  pub frames : List Frame
  pub parse : IsParse version frames old new
  pub takes : TakesAll refusal after peer before frames now
  pub more : heard peer now ≡ heard peer before ++ frames
  pub grown : IsFront (said peer before) (said peer now)

-- the same of what an inbox has
abbrev pub TakesIn : {A R : Type 0} → (ℕ → Frame → A → Option R) → (ℕ → Frame → A → A) → (heard said : ℕ → A → List Frame) → ℕ → Inbox → Inbox → A → A → Type 0
TakesIn refusal after heard said peer old new before now = Takes refusal after heard said peer old.version old.unread new.unread before now

-- bytes came, at least so many, and of all that is not read the actor took some frames in turn
pub record Hears {W A R : Type 0} (refusal : ℕ → Frame → A → Option R) (after : ℕ → Frame → A → A) (heard said : ℕ → A → List Frame) (peer least : ℕ) (old new : LinkView W) (before now : A) : Type 0 where
  pub piece : List ℕ
  pub size : least ≤ length piece
  pub listens : Listens piece old new
  pub takes : Takes refusal after heard said peer old.version (old.unread ++ piece) new.unread before now

-- why a hearing ended; Quiet says that nothing waits, and both it and Ended that no frame is whole
abbrev pub Ends : {W A R : Type 0} → (ℕ → Frame → A → Option R) → (ℕ → A → Bool) → ℕ → LinkView W → A → Heard R → Type 0
Ends refusal done peer link actor h.Quiet = Answers link.version link.unread n.Part × (link.tells ≡ true → link.traffic.waiting ≡ [])
Ends refusal done peer link actor h.More = ⊤
Ends refusal done peer link actor h.Done = done peer actor ≡ true
Ends refusal done peer link actor h.Failed = ⊤
Ends refusal done peer link actor h.Ended = Answers link.version link.unread n.Part
Ends refusal done peer link actor (h.Refused why) = IsRefused refusal peer link.version link.unread link.front actor why
Ends refusal done peer link actor (h.Bad fault) = Answers link.version link.unread (n.Bad fault) × (link.front ≡ None)
Ends refusal done peer link actor h.NoMemory = ⊤

-- the counts of the wire after a hearing: a fault and an end each raise theirs by one, and nothing else does
abbrev pub CountsHeard : {R : Type 0} → Heard R → Counts → Counts → Type 0
CountsHeard h.Failed old new = (new.faults ≡ raised_by 1 old.faults) × (new.ends ≡ old.ends)
CountsHeard h.Ended old new = (new.faults ≡ old.faults) × (new.ends ≡ raised_by 1 old.ends)
CountsHeard h.Quiet old new = (new.faults ≡ old.faults) × (new.ends ≡ old.ends)
CountsHeard h.More old new = (new.faults ≡ old.faults) × (new.ends ≡ old.ends)
CountsHeard h.Done old new = (new.faults ≡ old.faults) × (new.ends ≡ old.ends)
CountsHeard (h.Refused why) old new = (new.faults ≡ old.faults) × (new.ends ≡ old.ends)
CountsHeard (h.Bad fault) old new = (new.faults ≡ old.faults) × (new.ends ≡ old.ends)
CountsHeard h.NoMemory old new = (new.faults ≡ old.faults) × (new.ends ≡ old.ends)

-- how many bytes came at least: one for each piece
abbrev pub least_of : {R : Type 0} → Heard R → ℕ
least_of h.More = 64
least_of h.Quiet = 0
least_of h.Done = 0
least_of h.Failed = 0
least_of h.Ended = 0
least_of (h.Refused why) = 0
least_of (h.Bad fault) = 0
least_of h.NoMemory = 0

-- the actor took one frame, which it does not refuse
pub record TakesOne {A R : Type 0} (refusal : ℕ → Frame → A → Option R) (after : ℕ → Frame → A → A) (peer : ℕ) (before now : A) : Type 0 where
  pub frame : Frame
  pub accepted : refusal peer frame before ≡ None
  pub taken : now ≡ after peer frame before

-- what a hearing of one frame takes: one where it ends with More or Done, and else none
abbrev pub TakesOnce : {A R : Type 0} → (ℕ → Frame → A → Option R) → (ℕ → Frame → A → A) → ℕ → A → A → Heard R → Type 0
TakesOnce refusal after peer before now h.More = TakesOne refusal after peer before now
TakesOnce refusal after peer before now h.Done = TakesOne refusal after peer before now
TakesOnce refusal after peer before now h.Quiet = now ≡ before
TakesOnce refusal after peer before now h.Failed = now ≡ before
TakesOnce refusal after peer before now h.Ended = now ≡ before
TakesOnce refusal after peer before now (h.Refused why) = now ≡ before
TakesOnce refusal after peer before now (h.Bad fault) = now ≡ before
TakesOnce refusal after peer before now h.NoMemory = now ≡ before
