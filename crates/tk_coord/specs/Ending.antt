-- How rounds end over the fields that they are dealt over. No public clause cites this.
use Rattle.std.specs.Prelude.{ℕ, List, Result, IfOk}
use Rattle.tk_base.specs.declared.memory.NoMemory.{NoMemory}
use Rattle.tk_rows.specs.Factors.{Grid}
use Rattle.tk_rows.specs.declared.reallocation.Reallocation.{Reallocation}
use Rattle.tk_alloc.specs.declared.reported.Reported.{Reported}
use Rattle.tk_journal.specs.Deciding.{Decided, full_decides, short_decides, wide_decides}
use Rattle.tk_coord.specs.Dealing.{CanEndFull, CanEndShort, CanEndWide, Ends, IsAssigned, IsDealt, IsDecided, OpensOrEnds, closed}
use Rattle.tk_coord.specs.declared.dealing.Dealt.{Dealt}
use Rattle.tk_coord.specs.declared.peer.Peer.{Peer}
use Rattle.tk_coord.specs.declared.outcomes.Grounds.{Grounds}
use Rattle.tk_coord.specs.declared.phase.Phase.{Phase}
use Rattle.tk_coord.specs.declared.step.TurnOutcome.{TurnOutcome}

-- the grounds at the end of a round: the next k and epsilon are in force
abbrev pub at_end : Grounds → Grounds
at_end g = record g { phase = closed g.phase }

-- over the grounds a short round with this Report can end
abbrev pub CanDealShort : Grounds → Reported → Type 0
CanDealShort g report = CanEndShort g.phase.settings g.board.now.table g.board.now.members g.peers.now report

-- a full round with these reports can end
abbrev pub CanDealFull : Grounds → List Reported → Type 0
CanDealFull g reports = CanEndFull g.phase.settings g.board.now.table g.board.now.members g.peers.now reports

-- a wide round with these reports can end
abbrev pub CanDealWide : Grounds → List Reported → Type 0
CanDealWide g reports = CanEndWide g.phase.settings g.board.now.table g.peers.now reports

-- a short round ends
abbrev pub EndsShort : Grounds → Reported → TurnOutcome → Type 0
EndsShort g report =
    Ends g.board.now.table g.peers.now g.phase g.rounds (short_decides g.phase.settings g.board.now.table g.board.now.members report)

-- a full round ends
abbrev pub EndsFull : Grounds → List Reported → TurnOutcome → Type 0
EndsFull g reports =
    Ends g.board.now.table g.peers.now g.phase g.rounds (full_decides g.phase.settings g.board.now.table g.board.now.members reports)

-- a wide round ends
abbrev pub EndsWide : Grounds → List Reported → TurnOutcome → Type 0
EndsWide g reports =
    IsAssigned g.board.now.table g.peers.now g.phase (wide_decides g.phase.settings g.board.now.table g.board.now.members reports)

-- a full round opens with this Report, and with one monitor it ends at once
abbrev pub OpensOrEndsFull : Grounds → Reported → TurnOutcome → Type 0
OpensOrEndsFull g report = OpensOrEnds g.board.now.table g.peers.now g.phase g.rounds g.board.now.members report

-- whatever was decided, the Assigns of a reallocation that is as decided are its Assigns
abbrev pub AssignsDecided : List Peer → Phase → Reallocation → Result TurnOutcome NoMemory → Type 0
AssignsDecided peers phase reallocation result =
    (grid : Grid) (decided : Decided) → IsDecided grid decided reallocation → IfOk result (IsAssigned grid peers phase decided)

-- whatever was decided, a round ends with it where what was dealt is as decided
abbrev pub EndsDealt : List Peer → Phase → ℕ → Dealt → Result TurnOutcome NoMemory → Type 0
EndsDealt peers phase rounds dealt result =
    (grid : Grid) (decided : Decided) → IsDealt grid decided dealt → IfOk result (Ends grid peers phase rounds decided)
