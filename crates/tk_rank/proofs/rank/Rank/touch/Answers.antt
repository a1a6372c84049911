use Rattle.std.proofs.Common.{◌≤◌, length, arith}
use Rattle.tk_base.specs.Ascending.{numbers_of}
use Rattle.tk_rank.specs.Sides.{levels_of}
use Rattle.tk_rank.proofs.rank.Rank.touch.Goals as goal

pub seat_of-requires : goal.seat_of-requires
seat_of-requires c = c.requires.from_one

pub touch-requires : goal.touch-requires
touch-requires c =
    let r = c.self.inside in
    let within : c.args.o.0 ≤ length (levels_of r.count (numbers_of r.list.items) r.members.leaves r.outsiders.leaves) = rw (← c.self.view_is) at c.requires.within in
    omega (arith, c.seat_of.ensures, c.requires.from_one, within, c.self.invariant.sides.outsiders.room)
