-- What a hearing and a saying do at one seat.
use Rattle.std.specs.Prelude.{◌≡◌, ◌↔◌, ℕ, [], length, Option, Some, None, Result, Ok, OnOk, OnErr, IfOk, ⊤}
use Rattle.tk_base.specs.declared.memory.NoMemory.{NoMemory}
use Rattle.tk_coord.specs.Coordinator.{CoordinatorView}
use Rattle.tk_frames.specs.declared.frame.Frame.{Frame}
use Rattle.tk_journal.specs.Links.{frames_to}
use Rattle.tk_journal.specs.Refusal.{refusal_of}
use Rattle.tk_wire.specs.Buffered.{counts_pushed}
use Rattle.tk_wire.specs.declared.out_buffer.Pushed.{Pushed}
use Rattle.tk_wire.specs.declared.out_buffer.Pushed.TheVariants as p
use Rattle.tk_end.specs.Hearing.{Hears}
use Rattle.tk_end.specs.Link.{LeavesFull, LinkView, Says}
use Rattle.tk_hub.specs.Desk.{getting, heard_from, refuses, said_to, takes}
use Rattle.tk_hub.specs.Seats.{SeatsView, link_of}
use Rattle.tk_hub.specs.Turn.{CountsAt, EndsAt, pieces_of}
use Rattle.tk_hub.specs.declared.course.HubTurn.{HubTurn}
use Rattle.tk_hub.specs.declared.course.HubTurn.TheVariants as t
use Rattle.tk_hub.specs.declared.desk.Desk.{Desk}

-- the coordinator beside the seats
abbrev pub desk_of : {W : Type 0} → SeatsView W → Desk
desk_of seats = record { coordinator = seats.coordinator }

-- pieces came at a link, and the coordinator took frames of them
pub record HearsAt {W : Type 0} (mon : ℕ) (turn : HubTurn) (x y : LinkView W) (before now : Desk) : Type 0 where
  pub hears : Hears refuses takes heard_from said_to mon (pieces_of turn) x y before now
  pub ends : EndsAt mon now.coordinator y turn
  pub counts : CountsAt mon now.coordinator x y turn

-- at a seat that is free nothing happens
abbrev pub SeatHears : {W : Type 0} → ℕ → HubTurn → Option (LinkView W) → Option (LinkView W) → Desk → Desk → Type 0
SeatHears mon turn None new before now = (new ≡ None) × (now ≡ before) × (turn ≡ t.Quiet)
SeatHears mon turn (Some x) None before now = ⊥
SeatHears mon turn (Some x) (Some y) before now = HearsAt mon turn x y before now

-- the same at the seat of a monitor
abbrev pub HearsSeat : {W : Type 0} → ℕ → HubTurn → SeatsView W → SeatsView W → Type 0
HearsSeat mon turn old new = SeatHears mon turn (link_of old.links mon) (link_of new.links mon) (desk_of old) (desk_of new)

-- the coordinator took one frame of a monitor
pub record TakesFrame (mon : ℕ) (old new : CoordinatorView) : Type 0 where
  pub frame : Frame
  pub accepted : refusal_of old.settings old.journal mon frame ≡ None
  pub taken : new ≡ getting old mon frame

-- what a turn of one frame did to the coordinator: More says that it took one, and else it took none
abbrev pub TakesUpTo : HubTurn → ℕ → CoordinatorView → CoordinatorView → Type 0
TakesUpTo t.More mon old new = TakesFrame mon old new
TakesUpTo t.Quiet mon old new = new ≡ old
TakesUpTo t.Finished mon old new = ⊥
TakesUpTo t.Failed mon old new = new ≡ old
TakesUpTo (t.Refused of_ why) mon old new = new ≡ old
TakesUpTo (t.Bad of_ fault) mon old new = new ≡ old
TakesUpTo t.WriteFailed mon old new = ⊥
TakesUpTo t.NoMemory mon old new = new ≡ old

-- why a turn of one frame ended, where it took none
abbrev pub EndsOne : {W : Type 0} → ℕ → CoordinatorView → LinkView W → HubTurn → Type 0
EndsOne mon c link t.More = ⊤
EndsOne mon c link t.Quiet = EndsAt mon c link t.Quiet
EndsOne mon c link t.Finished = ⊥
EndsOne mon c link t.Failed = ⊤
EndsOne mon c link (t.Refused of_ why) = EndsAt mon c link (t.Refused of_ why)
EndsOne mon c link (t.Bad of_ fault) = EndsAt mon c link (t.Bad of_ fault)
EndsOne mon c link t.WriteFailed = ⊥
EndsOne mon c link t.NoMemory = ⊤

-- one frame came at a link, and the coordinator took it, or none did
pub record HearsOneAt {W : Type 0} (mon : ℕ) (turn : HubTurn) (x y : LinkView W) (before now : Desk) : Type 0 where
  pub hears : Hears refuses takes heard_from said_to mon 0 x y before now
  pub once : TakesUpTo turn mon before.coordinator now.coordinator
  pub ends : EndsOne mon now.coordinator y turn
  pub counts : CountsAt mon now.coordinator x y turn

-- the same at a seat, and at one that is free nothing happens
abbrev pub SeatHearsOne : {W : Type 0} → ℕ → HubTurn → Option (LinkView W) → Option (LinkView W) → Desk → Desk → Type 0
SeatHearsOne mon turn None new before now = (new ≡ None) × (now ≡ before) × (turn ≡ t.Quiet)
SeatHearsOne mon turn (Some x) None before now = ⊥
SeatHearsOne mon turn (Some x) (Some y) before now = HearsOneAt mon turn x y before now

-- the same at the seat of a monitor
abbrev pub HearsOneSeat : {W : Type 0} → ℕ → HubTurn → SeatsView W → SeatsView W → Type 0
HearsOneSeat mon turn old new = SeatHearsOne mon turn (link_of old.links mon) (link_of new.links mon) (desk_of old) (desk_of new)

-- what was sent to a monitor and was not written is written, and given. Where there is the memory, every frame is
-- written, and what is not given has no room on the wire; where there is not, nothing was given
pub record SaysAt {W : Type 0} (mon : ℕ) (c : CoordinatorView) (result : Result Pushed NoMemory) (x y : LinkView W) : Type 0 where
  pub says : Says (frames_to mon c.journal) x y
  pub ok : OnOk result (y.written ≡ length (frames_to mon c.journal))
  pub empty : IfOk result (λ pushed. (pushed ≡ p.Empty) ↔ (y.output ≡ []))
  pub full : IfOk result (λ pushed. LeavesFull pushed y)
  pub counted : IfOk result (λ pushed. y.counts ≡ counts_pushed pushed x.counts)
  pub err : OnErr result ((y.wire ≡ x.wire) × (y.counts ≡ x.counts))

-- the same at a seat, and at one that is free nothing is left to give
abbrev pub SeatSays : {W : Type 0} → ℕ → CoordinatorView → Result Pushed NoMemory → Option (LinkView W) → Option (LinkView W) → Type 0
SeatSays mon c result None new = (new ≡ None) × (result ≡ Ok p.Empty)
SeatSays mon c result (Some x) None = ⊥
SeatSays mon c result (Some x) (Some y) = SaysAt mon c result x y
