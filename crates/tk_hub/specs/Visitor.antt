-- A connection that has said no Hello yet, and what its greeting brings about.
use Rattle.std.specs.Prelude.{◌≡◌, ◌⊎◌, ℕ, ◌<◌, ◌≤◌, List, [], ◌∷◌, ◌++◌, length, take, Bool, true, false, Option, Some, None}
use Rattle.tk_base.specs.declared.ids.Mon.{Mon}
use Rattle.tk_frames.specs.Answer.{HasFrame}
use Rattle.tk_frames.specs.Spelling.{IsVersion}
use Rattle.tk_frames.specs.declared.frame.Frame.{Frame}
use Rattle.tk_frames.specs.declared.frame.Frame.TheVariants as f
use Rattle.tk_wire.specs.Meanings.{Arrives, Counts, Traffic, raised_by}
use Rattle.tk_end.specs.Link.{IsEnd, LinkView}
use Rattle.tk_hub.specs.declared.visitor.Greeting.{Greeting}
use Rattle.tk_hub.specs.declared.visitor.Greeting.TheVariants as g
use Rattle.tk_hub.specs.declared.visitor.Guest.{Guest}

-- its wire, with the bytes that it tells and its counts; all bytes that came, and the first frame of them, where it is
-- read already
pub record VisitorView (W : Type 0) : Type 0 where
  pub wire : W
  pub tells : Bool
  pub traffic : Traffic
  pub counts : Counts
  pub bytes : List ℕ
  pub front : Option Frame

-- nothing has passed the wire yet, where that is told
pub record IsUnused (tells : Bool) (traffic : Traffic) : Type 0 where
  pub came : tells ≡ true → traffic.came ≡ []
  pub went : tells ≡ true → traffic.went ≡ []

-- ---- what came

-- the Hello of a guest to a run
abbrev pub hello_of : ℕ → Guest → Frame
hello_of run guest = f.Hello run guest.version guest.mon

-- that Hello, which has 18 bytes, stands at the front
abbrev pub BeginsWithHello : ℕ → Guest → List ℕ → Type 0
BeginsWithHello run guest bytes = HasFrame 1 (hello_of run guest) 18 bytes

-- four bytes are there, and say another length than a Hello's
pub record HasStrangeLength (bytes : List ℕ) : Type 0 where
  pub whole : 4 ≤ length bytes
  pub other : take 4 bytes ≡ 0 ∷ 0 ∷ 0 ∷ 14 ∷ [] → ⊥

-- as many bytes are there as a Hello has, and they are no Hello to this run
pub record HasStrangeFrame (run : ℕ) (bytes : List ℕ) : Type 0 where
  pub whole : 18 ≤ length bytes
  pub no_hello : (guest : Guest) → BeginsWithHello run guest bytes → ⊥

-- what came is no greeting to this run
abbrev pub IsStrange : ℕ → List ℕ → Type 0
IsStrange run bytes = HasStrangeLength bytes ⊎ HasStrangeFrame run bytes

-- less came than a Hello, and what came may yet be one
pub record IsAwaited (bytes : List ℕ) : Type 0 where
  pub part : length bytes < 18
  pub not_strange : HasStrangeLength bytes → ⊥

-- ---- a greeting

-- no take failed or found the end
pub record IsSteady (old new : Counts) : Type 0 where
  pub faults : new.faults ≡ old.faults
  pub ends : new.ends ≡ old.ends

-- one take failed, or found the end
abbrev pub IsLost : Counts → Counts → Type 0
IsLost old new =
    ((new.faults ≡ raised_by 1 old.faults) × (new.ends ≡ old.ends)) ⊎ ((new.faults ≡ old.faults) × (new.ends ≡ raised_by 1 old.ends))

-- what a greeting says. Nothing: less than a Hello came, and the last take answered that nothing waits. Hello: it stands
-- at the front. Strange: what came is no greeting, or the wire failed or ended before it was whole
abbrev pub Greets : {W : Type 0} → ℕ → Greeting → VisitorView W → VisitorView W → Type 0
Greets run g.Nothing old new = IsAwaited new.bytes × IsSteady old.counts new.counts × (new.tells ≡ true → new.traffic.waiting ≡ [])
Greets run (g.Hello guest) old new = BeginsWithHello run guest new.bytes × IsSteady old.counts new.counts × (new.front ≡ Some (hello_of run guest))
Greets run g.Strange old new = (IsStrange run new.bytes × IsSteady old.counts new.counts) ⊎ (IsAwaited new.bytes × IsLost old.counts new.counts)
Greets run g.NoMemory old new = IsSteady old.counts new.counts

-- this is the greeting, or there was no memory to read it
abbrev pub IsUnlessMemory : Greeting → Greeting → Type 0
IsUnlessMemory greeting answer = (greeting ≡ g.NoMemory) ⊎ (greeting ≡ answer)

-- bytes came behind those that were there, and all are kept
pub record Gathers {W : Type 0} (old new : VisitorView W) : Type 0 where
  pub tells : new.tells ≡ old.tells
  pub piece : List ℕ
  pub bytes : new.bytes ≡ old.bytes ++ piece
  pub arrived : old.tells ≡ true → Arrives piece old.traffic new.traffic
  pub taken : raised_by (length piece) old.counts.taken ≤ new.counts.taken

-- ---- a visitor becomes a link

-- the link goes on over the visitor's wire, open, and nothing is written to it
pub record GoesOn {W : Type 0} (visitor : VisitorView W) (link : LinkView W) : Type 0 where
  pub wire : link.wire ≡ visitor.wire
  pub tells : link.tells ≡ visitor.tells
  pub traffic : link.traffic ≡ visitor.traffic
  pub counts : link.counts ≡ visitor.counts
  pub output : link.output ≡ []
  pub written : link.written ≡ 0
  pub shut : link.shut ≡ false

-- a link that has heard the Hello of this monitor to this run alone, and said nothing
pub record HasGreeted {W : Type 0} (run : ℕ) (mon : Mon) (link : LinkView W) : Type 0 where
  pub version : IsVersion link.version
  pub front : link.front ≡ None
  pub ends : IsEnd link (f.Hello run link.version mon ∷ []) []
