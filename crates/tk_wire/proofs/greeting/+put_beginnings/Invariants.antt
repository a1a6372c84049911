use Rattle.std.proofs.Common.{length}
use Rattle.tk_wire.proofs.greeting.+put_beginnings.Given as goal

abbrev pub decreases-put_beginnings : goal.decreases-put_beginnings
decreases-put_beginnings l = length l.beginnings.now
