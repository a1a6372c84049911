use Rattle.tk_frames.proofs.SizeLemmas.{length-spelling}
use Rattle.tk_frames.proofs.laws.sizes_in_version_1.Goals as goal

pub returns : goal.returns
returns c = length-spelling
