use Rattle.tk_trail.proofs.BoundLemmas.{sent_short}
use Rattle.tk_trail.proofs.bounds.sent_frames_are_short.Goals as goal

pub returns : goal.returns
returns c = sent_short
