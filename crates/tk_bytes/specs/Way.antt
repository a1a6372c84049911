-- One way of a connection: what is said at the one end, what is on its way, and what is heard at the other.
use Rattle.std.specs.Prelude.{◌≡◌, ◌<◌, ℕ, List, ◌++◌, true}
use Rattle.tk_frames.specs.declared.frame.Frame.{Frame}
use Rattle.tk_wire.specs.Joint.{Joins}
use Rattle.tk_wire.specs.Meanings.{Counts}
use Rattle.tk_wire.specs.Parse.{IsEncoding, IsParse}
use Rattle.tk_wire.specs.Pipe.{Queue}
use Rattle.tk_end.specs.Link.{LinkView}

-- these frames were said at the one end and those heard at the other, over a pipe between their wires
pub record IsWay {W : Type 0} (said heard : List Frame) (x y : LinkView W) (between : List ℕ) : Type 0 where
  pub version : y.version ≡ x.version
  pub gave : IsEncoding x.version said x.traffic.went x.output
  pub came : IsParse y.version heard y.traffic.came y.unread
  pub joins : Joins x.traffic y.traffic between

-- no call of a wire failed, and none found its end
pub record IsSure (counts : Counts) : Type 0 where
  pub faults : counts.faults ≡ 0
  pub ends : counts.ends ≡ 0

-- the two ends of a connection, with a pipe between them each way
pub record AreJoined {W : Type 0} (x y : LinkView W) (up down : Queue) : Type 0 where
  pub version : y.version ≡ x.version
  pub tells_here : x.tells ≡ true
  pub tells_there : y.tells ≡ true
  pub goes_up : Joins x.traffic y.traffic up.bytes
  pub goes_down : Joins y.traffic x.traffic down.bytes
  pub sure_here : IsSure x.counts
  pub sure_there : IsSure y.counts
  pub room_here : 0 < x.traffic.room
  pub room_there : 0 < y.traffic.room
  pub room_up : 0 < up.room
  pub room_down : 0 < down.room

-- the bytes that are said and not heard: those that are left to give, those that are on the way, and those that wait
abbrev pub under_way : {W : Type 0} → LinkView W → LinkView W → List ℕ → List ℕ
under_way x y between = y.traffic.waiting ++ (between ++ (x.traffic.held ++ x.output))
