-- How the peers change at what is sent, and what that needs. No public clause cites this.
use Rattle.std.specs.Prelude.{ℕ, ◌+◌, ◌-◌, ◌^◌, ◌<◌, ◌≤◌, ◌≡◌, ◌≢◌, min, Bool, true, false, ◌==◌, if◌then◌else◌, List, [], length, fold, Option, Some, None, slice_get}
use Rattle.tk_border.specs.Levels.{AreMembers}
use Rattle.tk_rows.specs.declared.mon_change.MonChange.{MonChange}
use Rattle.tk_rows.specs.Replacing.{IsReplacement}
use Rattle.tk_coord.specs.Board.{BoardView}
use Rattle.tk_coord.specs.Checks.{AreNamed}
use Rattle.tk_coord.specs.declared.answer.Answer.{Answer}
use Rattle.tk_coord.specs.declared.answer.Answer.TheVariants as a
use Rattle.tk_coord.specs.declared.peer.Peer.{Peer}
use Rattle.tk_coord.specs.declared.state.State.{State}
use Rattle.tk_coord.specs.declared.step.Reply.{Reply}
use Rattle.tk_coord.specs.declared.step.Reply.TheVariants as reply

-- whether a place is the one that is left out
abbrev pub is_but : Option ℕ → ℕ → Bool
is_but None place = false
is_but (Some but) place = but == place

-- the peer of a monitor that was sent one more Assign; its count stops at its limit
abbrev pub one_more : Peer → Peer
one_more peer = record peer { assigns = min (peer.assigns + 1) (2 ^ 64 - 1); answer = None }

-- the peer of a monitor after the Assigns to those with changes
abbrev pub assigned_at : ℕ → List MonChange → Peer → Peer
assigned_at mon changes peer = fold (λ l c. if c.mon.0 == mon then one_more l else l) peer changes

-- the peer of a monitor that was sent one Assign, and nothing else
abbrev pub first_peer : Peer
first_peer = record { assigns = 1; answer = None; progress = None; waits = false }

-- what is kept before the first frame: the given board, and of each monitor only that it was sent one Assign
pub record HasBegun (monitors : ℕ) (given : BoardView) (state : State) : Type 0 where
  pub board : state.board ≡ given
  pub count : length state.peers.items ≡ monitors
  pub peers : (i : ℕ) (l : Peer) → slice_get state.peers.items i ≡ Some l → l ≡ first_peer
  pub round : state.round ≡ record { number = 0; waiting = false; wide = false; asked = [] }
  pub reports : length state.gathered.items ≡ monitors

-- all peers but the one at this place are such
abbrev pub AreOthers : (Peer → Type 0) → List Peer → ℕ → Type 0
AreOthers P peers place = (i : ℕ) (l : Peer) → i ≢ place → slice_get peers i ≡ Some l → P l

-- one of them is such
abbrev pub HasOther : (Peer → Type 0) → List Peer → ℕ → Type 0
HasOther P peers place = (i : ℕ) × (l : Peer) × (i ≢ place) × (slice_get peers i ≡ Some l) × P l

-- each peer has changed, by its place
abbrev pub AreChanged : (ℕ → Peer → Peer) → List Peer → List Peer → Type 0
AreChanged change old new = (i : ℕ) (l : Peer) → slice_get new i ≡ Some l → (m : Peer) × (slice_get old i ≡ Some m) × (l ≡ change i m)

-- whether an answer is a Settled
abbrev pub is_settled_in : Option Answer → Bool
is_settled_in None = false
is_settled_in (Some a.Report) = false
is_settled_in (Some a.Settled) = true

-- whether the monitor of a peer has settled
abbrev pub has_settled : Peer → Bool
has_settled peer = is_settled_in peer.answer

-- a monitor has its places among the peers and among the reports
pub record HasPlace (state : State) (mon : ℕ) : Type 0 where
  pub some : 0 < mon
  pub peer : mon ≤ length state.peers.items
  pub report : mon ≤ length state.gathered.items

-- what a state needs so that what is sent can be noted in it
abbrev pub CanReply : State → Reply → Type 0
CanReply state reply.Nothing = Unit {0}
CanReply state (reply.Ask round None) = Unit {0}
CanReply state (reply.Ask round (Some report)) = HasPlace state report.mon.0
CanReply state (reply.Assign r) = IsReplacement state.board.table r × AreNamed (length state.peers.items) r.at.items × AreMembers (length state.board.table.rows) r.members
