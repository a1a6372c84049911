-- Frames that leave the front of bytes.
use Rattle.std.proofs.Common.{◌≡◌, ℕ, List, ◌++◌, drop, ap, sym, ◌∙◌, subst, refl, Ok}
use Rattle.std.proofs.lemmas.List.{take-append-drop}
use Rattle.tk_frames.specs.declared.frame.Frame.{Frame}
use Rattle.tk_frames.specs.declared.answer.Next.{Next}
use Rattle.tk_frames.specs.declared.answer.Next.TheVariants.{Whole}
use Rattle.tk_frames.specs.Answer.{Answers}
use Rattle.tk_frames.specs.Spelling.{spelling}
use Rattle.tk_wire.specs.Buffered.{rest_of}
use Rattle.tk_end.specs.Inbox.{Leaves}

-- a whole frame that was read and removed
pub leaves_front : (version : ℕ) (frame : Frame) (size : ℕ) (old new : List ℕ) (next : Next) → next ≡ Whole frame size → Answers version old next → new ≡ rest_of (Ok next) old → Leaves version frame old new
leaves_front version frame size old new next is answers rest =
    let a = subst (Answers version old) is answers in
    let left : new ≡ drop size old = rest ∙ ap (λ n. rest_of (Ok n) old) is in
    record {
      spelled = record { frame_is = a.front.frame_is; fits = a.front.fits; bytes_are = refl };
      parts = sym (take-append-drop size old) ∙ ap (λ xs. xs ++ drop size old) a.front.bytes_are ∙ ap (λ xs. spelling version frame ++ xs) (sym left);
    }

-- a frame that was read and put back
pub put_back : (version : ℕ) (frame back : Frame) (old between new : List ℕ) → Leaves version frame old between → back ≡ frame → new ≡ spelling version back ++ between → new ≡ old
put_back version frame back old between new leaves same is = is ∙ ap (λ f. spelling version f ++ between) same ∙ sym leaves.parts
