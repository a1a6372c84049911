use Rattle.tk_frames.proofs.SizeLemmas.{short_fits, frame_within}
use Rattle.tk_frames.proofs.laws.short_frames_fit.Goals as goal

pub returns : goal.returns
returns c = λ version frame is good few. short_fits version frame (frame_within frame good) few
