use Rattle.std.proofs.Common.{◌≡◌, take}
use Rattle.tk_coord.specs.Board.{relevelled}
use Rattle.tk_coord.proofs.board.relevel.Given as goal

-- the first objects have their new levels
abbrev pub invariant-loop-place : goal.invariant-loop-place
invariant-loop-place l = l.ranks ≡ record l.initial.ranks { levels = relevelled l.initial.ranks.levels (take l.place l.own) }
