use Rattle.std.proofs.Common.{sym, ◌∙◌}
use Rattle.tk_frames.proofs.laws.each_frame_has_one_spelling.Goals as goal

pub returns : goal.returns
returns c = λ version frame a b is left right. left.bytes_are ∙ sym right.bytes_are
