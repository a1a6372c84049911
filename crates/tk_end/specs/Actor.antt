-- What an actor answers to a frame, and what it may send.
use Rattle.std.specs.Prelude.{◌≡◌, ℕ, List, [], ◌∷◌, Option, Some, None, Result, Err, IfErr}
use Rattle.tk_frames.specs.declared.frame.Frame.{Frame}
use Rattle.tk_frames.specs.Encoding.{IsBadHello}
use Rattle.tk_frames.specs.Size.{IsShort}
use Rattle.tk_end.specs.declared.actor.Declined.{Declined}
use Rattle.tk_end.specs.declared.actor.Declined.TheVariants.{Refused, NoMemory}

-- what taking a frame answers: the refusal that it meets; where it meets none, want of memory alone hands it back
abbrev pub AnswersTake : {R : Type 0} → Option R → Frame → Result (Unit {0}) (Declined R) → Type 0
AnswersTake (Some why) frame result = result ≡ Err (Refused why frame)
AnswersTake None frame result = IfErr result (λ declined. declined ≡ NoMemory frame)

-- a frame that fits in both versions, and no Hello that names no monitor or no version
pub record CanBeSent (frame : Frame) : Type 0 where
  pub short : IsShort frame
  pub no_bad_hello : IsBadHello frame → ⊥

-- these frames were taken one after the other, each of them refused by no test when its turn came
abbrev pub TakesAll : {A R : Type 0} → (ℕ → Frame → A → Option R) → (ℕ → Frame → A → A) → ℕ → A → List Frame → A → Type 0
TakesAll refusal after peer old [] new = new ≡ old
TakesAll refusal after peer old (frame ∷ frames) new =
    (refusal peer frame old ≡ None) × TakesAll refusal after peer (after peer frame old) frames new
