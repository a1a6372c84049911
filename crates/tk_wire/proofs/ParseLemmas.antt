-- Streams of bytes as frames.
use Rattle.std.proofs.Common.{◌≡◌, ◌≤◌, ℕ, ◌++◌, List, [], ◌∷◌, length, take, drop, refl, ap, sym, ◌∙◌, append_assoc, arith, subst}
use Rattle.std.proofs.lemmas.List.{append-nil, append_cancel_left, take-append-drop}
use Rattle.std.proofs.lemmas.Grind.{flat_map-append}
use Rattle.tk_frames.specs.declared.frame.Frame.{Frame}
use Rattle.tk_frames.specs.declared.answer.Next.TheVariants.{Whole}
use Rattle.tk_frames.specs.Answer.{Answers}
use Rattle.tk_frames.specs.Encoding.{Appends}
use Rattle.tk_frames.specs.Spelling.{IsSpelling, spelling}
use Rattle.tk_frames.proofs.EncodingLemmas.{one_spelling, spelling_stands}
use Rattle.tk_wire.specs.Parse.{HasNoFrame, HaveSpellings, IsEncoding, IsParse, spellings}

-- one frame more at the end
spellings-push : (version : ℕ) (frames : List Frame) (frame : Frame) → spellings version (frames ++ frame ∷ []) ≡ spellings version frames ++ spelling version frame
spellings-push version frames frame = flat_map-append (spelling version) frames (frame ∷ []) ∙ ap (λ xs. spellings version frames ++ xs) (append-nil (spelling version frame))

HaveSpellings-push : (version : ℕ) (frames : List Frame) (frame : Frame) → HaveSpellings version frames → IsSpelling version frame (spelling version frame) → HaveSpellings version (frames ++ frame ∷ [])
HaveSpellings-push version [] frame each one = (one, tt)
HaveSpellings-push version (f ∷ frames) frame each one = (each.0, HaveSpellings-push version frames frame each.1 one)

-- the spelling of a frame, once it has one
spelled : (version : ℕ) (frame : Frame) (bytes : List ℕ) → IsSpelling version frame bytes → IsSpelling version frame (spelling version frame)
spelled version frame bytes is = record { frame_is = is.frame_is; fits = is.fits; bytes_are = refl }

pub parse-piece : (version : ℕ) (frames : List Frame) (came left piece : List ℕ) → IsParse version frames came left → IsParse version frames (came ++ piece) (left ++ piece)
parse-piece version frames came left piece p = record { each = p.each; parts = ap (λ xs. xs ++ piece) p.parts ∙ append_assoc (spellings version frames) left piece }

pub parse-frame : (version : ℕ) (frames : List Frame) (came left : List ℕ) (frame : Frame) (size : ℕ) → IsParse version frames came left → Answers version left (Whole frame size) → IsParse version (frames ++ frame ∷ []) came (drop size left)
parse-frame version frames came left frame size p a = record {
  each = HaveSpellings-push version frames frame p.each (spelled version frame (take size left) a.front);
  parts = p.parts ∙ ap (λ xs. spellings version frames ++ xs) (sym (take-append-drop size left) ∙ ap (λ xs. xs ++ drop size left) a.front.bytes_are) ∙ sym (append_assoc (spellings version frames) (spelling version frame) (drop size left)) ∙ ap (λ xs. xs ++ drop size left) (sym (spellings-push version frames frame));
}

pub encoding-frame : (version : ℕ) (frames : List Frame) (given old new : List ℕ) (frame : Frame) → IsEncoding version frames given old → Appends version frame old new → IsEncoding version (frames ++ frame ∷ []) given new
encoding-frame version frames given old new frame e a = record {
  each = HaveSpellings-push version frames frame e.each (spelled version frame a.bytes a.spelled);
  parts = ap (λ xs. given ++ xs) a.appended ∙ sym (append_assoc given old a.bytes) ∙ ap (λ xs. xs ++ a.bytes) e.parts ∙ ap (λ xs. spellings version frames ++ xs) a.spelled.bytes_are ∙ sym (spellings-push version frames frame);
}

pub encoding-piece : (version : ℕ) (frames : List Frame) (given piece left : List ℕ) → IsEncoding version frames given (piece ++ left) → IsEncoding version frames (given ++ piece) left
encoding-piece version frames given piece left e = record { each = e.each; parts = append_assoc given piece left ∙ e.parts }

-- the first frames of the same bytes are the same, and so is what stands behind them
pub first_alike : (version : ℕ) (f g : Frame) (fs gs : List Frame) (r s : List ℕ) → HaveSpellings version (f ∷ fs) → HaveSpellings version (g ∷ gs) → spellings version (f ∷ fs) ++ r ≡ spellings version (g ∷ gs) ++ s → (f ≡ g) × (spellings version fs ++ r ≡ spellings version gs ++ s)
first_alike version f g fs gs r s left right same =
    let whole : spelling version f ++ (spellings version fs ++ r) ≡ spelling version g ++ (spellings version gs ++ s) = sym (append_assoc (spelling version f) (spellings version fs) r) ∙ same ∙ append_assoc (spelling version g) (spellings version gs) s in
    let one = one_spelling version f g (spelling version f) (spelling version g) (spellings version fs ++ r) (spellings version gs ++ s) left.0 right.0 whole in
    (one.0, append_cancel_left (spelling version g) _ _ (ap (λ xs. xs ++ (spellings version fs ++ r)) (sym one.1) ∙ whole))

-- bytes that begin with a spelling begin with a frame
begins : (version : ℕ) (f : Frame) (fs : List Frame) (r bytes : List ℕ) → HaveSpellings version (f ∷ fs) → bytes ≡ spellings version (f ∷ fs) ++ r → HasNoFrame version bytes → ⊥
begins version f fs r bytes each is none =
    let stands = spelling_stands version f (spelling version f) (spellings version fs ++ r) each.0 in
    none f (length (spelling version f)) (subst (λ xs. Answers version xs (Whole f (length (spelling version f)))) (sym (is ∙ append_assoc (spelling version f) (spellings version fs) r)) stands)

pub parses_end_alike : (version : ℕ) (fs gs : List Frame) (r s : List ℕ) → HaveSpellings version fs → HasNoFrame version r → HaveSpellings version gs → HasNoFrame version s → spellings version fs ++ r ≡ spellings version gs ++ s → (fs ≡ gs) × (r ≡ s)
parses_end_alike version [] [] r s fe re ge se same = (refl, same)
parses_end_alike version [] (g ∷ gs) r s fe re ge se same = absurd (begins version g gs s r ge same re)
parses_end_alike version (f ∷ fs) [] r s fe re ge se same = absurd (begins version f fs r s fe (sym same) se)
parses_end_alike version (f ∷ fs) (g ∷ gs) r s fe re ge se same =
    let one = first_alike version f g fs gs r s fe ge same in
    let rest = parses_end_alike version fs gs r s fe.1 re ge.1 se one.1 in
    (ap (λ x. x ∷ fs) one.0 ∙ ap (λ xs. g ∷ xs) rest.0, rest.1)

pub parses_are_fronts : (version : ℕ) (fs gs : List Frame) (r s : List ℕ) → HaveSpellings version fs → HaveSpellings version gs → spellings version fs ++ r ≡ spellings version gs ++ s → length fs ≤ length gs → fs ≡ take (length fs) gs
parses_are_fronts version [] gs r s fe ge same le = refl
parses_are_fronts version (f ∷ fs) [] r s fe ge same le = absurd (omega arith)
parses_are_fronts version (f ∷ fs) (g ∷ gs) r s fe ge same le =
    let one = first_alike version f g fs gs r s fe ge same in
    ap (λ x. x ∷ fs) one.0 ∙ ap (λ xs. g ∷ xs) (parses_are_fronts version fs gs r s fe.1 ge.1 one.1 (omega arith))
