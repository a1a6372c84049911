-- What a frame that comes back says.
use Rattle.std.proofs.Common.{◌≡◌, Option, Some, None, Err}
use Rattle.tk_frames.specs.declared.frame.Frame.{Frame}
use Rattle.tk_end.specs.Actor.{AnswersTake}
use Rattle.tk_end.specs.declared.actor.Declined.TheVariants.{Refused, NoMemory}

pub is_refused : {R : Type 0} (first : Option R) (frame back : Frame) (why : R) → AnswersTake first frame (Err (Refused why back)) → (first ≡ Some why) × (back ≡ frame)
is_refused (Some w) frame back why a = (cc, cc)
is_refused None frame back why a = absurd (cc)

pub is_declined : {R : Type 0} (first : Option R) (frame back : Frame) → AnswersTake first frame (Err (NoMemory back)) → back ≡ frame
is_declined (Some w) frame back a = absurd (cc)
is_declined None frame back a = cc
