use Rattle.tk_wire.proofs.JointLemmas.{joins-given, joins-drained, joins-filled, joins-taken, joins-front}
use Rattle.tk_wire.proofs.laws.pieces_keep_their_order.Goals as goal

pub returns : goal.returns
returns c = record { given = joins-given; drained = joins-drained; filled = joins-filled; taken = joins-taken; front = joins-front }
