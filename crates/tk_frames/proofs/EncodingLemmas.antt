-- What encoding leaves, and the laws of spellings.
use Rattle.std.proofs.Common.{◌≡◌, ℕ, ◌+◌, ◌-◌, ◌≤◌, List, [], ◌∷◌, ◌++◌, length, take, drop, refl, sym, ap, subst, ◌∙◌, append_assoc, arith, length-append}
use Rattle.std.proofs.lemmas.List.{take_at, drop_at, drop-drop}
use borrow.Rule.Slice.PartMut.{put_mid}
use Rattle.byteorder.specs.Endian.{big_bytes}
use Rattle.tk_frames.specs.declared.frame.Frame.{Frame}
use Rattle.tk_frames.specs.declared.answer.Next.TheVariants.{Whole}
use Rattle.tk_frames.specs.Spelling.{IsSpelling, payload, spelling}
use Rattle.tk_frames.specs.Encoding.{Appends, IsBadHello, AreWithin}
use Rattle.tk_frames.specs.Answer.{Answers}
use Rattle.tk_frames.proofs.SizeLemmas.{within_frame}
use Rattle.tk_frames.proofs.AnswerLemmas.{whole_once}

-- a list after four bytes in it were written anew
pub four_put : (start count : ℕ) (bytes head text : List ℕ) → head ≡ text → count ≡ 4 → put_mid start count bytes head ≡ take start bytes ++ (text ++ drop (start + 4) bytes)
four_put start count bytes head text is four = rw (is, four) (ap (λ (xs : List ℕ). take start bytes ++ (text ++ xs)) (drop-drop 4 start bytes))

-- how long a text is that stands behind four bytes
pub length_behind : (start end : ℕ) (old bytes text : List ℕ) → bytes ≡ old ++ (0 ∷ 0 ∷ 0 ∷ 0 ∷ text) → start ≡ length old → end ≡ length bytes → end - start - 4 ≡ length text
length_behind start end old bytes text is start_is end_is =
    let all : length bytes ≡ length (old ++ (0 ∷ 0 ∷ 0 ∷ 0 ∷ text)) = ap (λ (xs : List ℕ). length xs) is in
    omega (arith, all, start_is, end_is, length-append old (0 ∷ 0 ∷ 0 ∷ 0 ∷ text))

-- a payload behind its length is a spelling
pub appended : (version : ℕ) (frame : Frame) (start n : ℕ) (old bytes last : List ℕ) → AreWithin frame → (IsBadHello frame → ⊥)
    → bytes ≡ old ++ (0 ∷ 0 ∷ 0 ∷ 0 ∷ payload version frame) → start ≡ length old → n ≡ length (payload version frame) → n ≤ 2097152
    → last ≡ take start bytes ++ (big_bytes 4 n ++ drop (start + 4) bytes) → Appends version frame old last
appended version frame start n old bytes last within good is start_is n_is few put =
    let text : List ℕ = payload version frame in
    let fits : length (payload version frame) ≤ 2097152 = omega (arith, n_is, few) in
    let gap : List ℕ = 0 ∷ 0 ∷ 0 ∷ 0 ∷ [] in
    let front : take start bytes ≡ old = ap (take start) is ∙ take_at old (gap ++ text) start (sym start_is) in
    let behind : length (old ++ gap) ≡ start + 4 = omega (arith, start_is, length-append old gap) in
    let rest : drop (start + 4) bytes ≡ text = ap (drop (start + 4)) (is ∙ sym (append_assoc old gap text)) ∙ drop_at (old ++ gap) text (start + 4) behind in
    record {
      bytes = spelling version frame;
      spelled = record { frame_is = within_frame version frame within good fits; fits = fits; bytes_are = refl };
      appended = put ∙ ap (λ (xs : List ℕ). xs ++ (big_bytes 4 n ++ drop (start + 4) bytes)) front ∙ ap (λ (xs : List ℕ). old ++ (big_bytes 4 n ++ xs)) rest ∙ ap (λ (m : ℕ). old ++ (big_bytes 4 m ++ text)) n_is;
    }

-- a spelling is read as its frame, whatever follows it
pub spelling_stands : (version : ℕ) (frame : Frame) (bytes rest : List ℕ) → IsSpelling version frame bytes → Answers version (bytes ++ rest) (Whole frame (length bytes))
spelling_stands version frame bytes rest is = record {
  within = omega (arith, length-append bytes rest);
  front = subst (IsSpelling version frame) (sym (take_at bytes rest (length bytes) refl)) is;
}

-- of two spellings at the front of the same bytes the frames are one, and the spellings
pub one_spelling : (version : ℕ) (f g : Frame) (a b x y : List ℕ) → IsSpelling version f a → IsSpelling version g b → a ++ x ≡ b ++ y → (f ≡ g) × (a ≡ b)
one_spelling version f g a b x y left right same =
    let one : f ≡ g = whole_once version f g (length a) (length b) (a ++ x) (spelling_stands version f a x left) (subst (λ (bytes : List ℕ). Answers version bytes (Whole g (length b))) (sym same) (spelling_stands version g b y right)) in
    (one, left.bytes_are ∙ ap (spelling version) one ∙ sym right.bytes_are)
