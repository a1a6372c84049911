-- The reader of frames is exact.
use Rattle.std.proofs.Common.{◌≡◌, ℕ, ◌+◌, ◌-◌, ◌≤◌, false, eqb, ltb, List, [], ◌++◌, length, take, drop, Some, refl, sym, ap, subst, ◌∙◌, append_assoc, ne_eqb, arith}
use Rattle.std.proofs.lemmas.Bool.{le-ltb}
use Rattle.std.proofs.lemmas.List.{append-nil, drop_at, length-append, take-append-drop, take_at}
use Rattle.byteorder.specs.Endian.{big_bytes, big_number}
use Rattle.byteorder.specs.Numbers.{big_number-reads_back, length-bytes_high_first}
use Rattle.tk_frames.specs.declared.frame.Frame.{Frame}
use Rattle.tk_frames.specs.declared.kind.Kind.TheVariants as k
use Rattle.tk_frames.specs.declared.answer.Next.{Next}
use Rattle.tk_frames.specs.declared.answer.Next.TheVariants.{Whole, Part, Bad}
use Rattle.tk_frames.specs.Answer.{Answers}
use Rattle.tk_frames.specs.Frame.{kind_of}
use Rattle.tk_frames.specs.Reading.{answer_of, fields_at, kind_answer, next_of, payload_answer}
use Rattle.tk_frames.specs.Spelling.{code_of, fields, framed, payload, spelling}
use Rattle.tk_frames.proofs.AnswerLemmas.{answer_only, answer_stands, kind_at-code}
use Rattle.tk_frames.proofs.BytesLemmas.{IsBytes}
use Rattle.tk_frames.proofs.ExactLemmas.{IsExact}
use Rattle.tk_frames.proofs.FrameLemmas.{fields_again}
use Rattle.tk_frames.proofs.Steps.{some_is}
use Rattle.tk_trace.specs.Reading.{frame_at, frame_in}
use Rattle.tk_trace.specs.Spelling.{IsFrame}

-- ---- what is spelled is read

payload_read : (frame : Frame) → IsFrame frame → payload_answer 1 (payload 1 frame) ≡ Whole frame (length (fields 1 frame) + 5)
unfolding payload_answer
payload_read frame is =
    let behind = fields 1 frame in
    let whole = length behind + 5 in
    let found = ap (λ (bytes : List ℕ). answer_of (kind_of frame) whole (fields_at 1 (kind_of frame) bytes)) (sym (append-nil behind)) in
    ap (kind_answer 1 whole (code_of (kind_of frame)) behind) (kind_at-code (kind_of frame))
    ∙ found ∙ ap (answer_of (kind_of frame) whole) (fields_again 1 frame [] is.frame_is)

spelled_read : (frame : Frame) (rest : List ℕ) → IsFrame frame → next_of 1 (spelling 1 frame ++ rest) ≡ Whole frame (length (spelling 1 frame))
unfolding next_of
spelled_read frame rest is =
    let text = payload 1 frame in
    let size = length text in
    let bytes = framed text ++ rest in
    let few : size ≤ 2097152 = is.fits in
    let four : length (big_bytes 4 size) ≡ 4 = length-bytes_high_first 4 size in
    let long : length bytes ≡ 4 + size + length rest = omega (arith, length-append (framed text) rest, length-append (big_bytes 4 size) text, four) in
    let parts : bytes ≡ big_bytes 4 size ++ (text ++ rest) = append_assoc (big_bytes 4 size) text rest in
    let told : big_number 4 bytes ≡ size = ap (big_number 4) parts ∙ big_number-reads_back 4 size (text ++ rest) (omega (arith, few)) in
    let behind : take size (drop 4 bytes) ≡ text = ap (λ (b : List ℕ). take size (drop 4 b)) parts ∙ ap (take size) (drop_at (big_bytes 4 size) (text ++ rest) 4 four) ∙ take_at text rest size refl in
    let a : ltb (length bytes) 4 ≡ false = le-ltb (length bytes) 4 (omega (arith, long)) in
    let b : eqb size 0 ≡ false = ne_eqb size 0 (λ e. omega (arith, e)) in
    let c : ltb 2097152 size ≡ false = le-ltb 2097152 size few in
    let d : ltb (length bytes) (4 + size) ≡ false = le-ltb (length bytes) (4 + size) (omega (arith, long)) in
    let all : length (spelling 1 frame) ≡ length (fields 1 frame) + 5 = omega (arith, length-append (big_bytes 4 size) text, four) in
    rw (a, told, b, c, d, behind) (payload_read frame is ∙ ap (Whole frame) (sym all))

-- ---- what is read is spelled

front_of : (bytes : List ℕ) (next : Next) (frame : Frame) (rest : List ℕ) → Answers 1 bytes next → frame_in bytes next ≡ Some (frame, rest) → (bytes ≡ spelling 1 frame ++ rest) × IsFrame frame
front_of bytes (Whole f size) frame rest has e =
    let is = some_is (f, drop size bytes) (frame, rest) e in
    let front = has.front in
    let whole : bytes ≡ spelling 1 f ++ drop size bytes = sym (take-append-drop size bytes) ∙ ap (λ (head : List ℕ). head ++ drop size bytes) front.bytes_are in
    let spelled : IsFrame f = record { frame_is = front.frame_is; fits = front.fits; bytes_are = refl } in
    subst (λ (p : Frame × List ℕ). (bytes ≡ spelling 1 p.0 ++ p.1) × IsFrame p.0) is (whole, spelled)
front_of bytes Part frame rest has e = absurd cc
front_of bytes (Bad why) frame rest has e = absurd cc

-- what is answered is what stands there
pub frame_found : (bytes : List ℕ) (next : Next) → IsBytes bytes → Answers 1 bytes next → frame_at bytes ≡ frame_in bytes next
unfolding frame_at
frame_found bytes next fits has = ap (frame_in bytes) (sym (answer_only 1 bytes next fits has))

pub exact_frame : IsExact IsFrame (spelling 1) frame_at
unfolding frame_at
exact_frame = record {
  takes = λ bytes frame rest fits e. front_of bytes (next_of 1 bytes) frame rest (answer_stands 1 bytes fits) e;
  again = λ frame rest is.
      ap (frame_in (spelling 1 frame ++ rest)) (spelled_read frame rest is)
      ∙ ap (λ (b : List ℕ). Some (frame, b)) (drop_at (spelling 1 frame) rest (length (spelling 1 frame)) refl);
}
