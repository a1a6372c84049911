use Rattle.std.proofs.lemmas.Bool.Decides.{Decides-at}
use Rattle.tk_story.proofs.FrameLemmas.{derived, frames_tell}
use Rattle.tk_story.proofs.same.is_same_frame.Goals as goal

pub returns : goal.returns
returns c = Decides-at c.eq.result (derived c.args.a.now c.args.b.now) c.eq.ensures (frames_tell c.args.a.now c.args.b.now)
