-- The answer that is read is the one that stands at the front, and the only one.
use Rattle.std.proofs.Common.{◌≡◌, ℕ, suc, ◌+◌, ◌-◌, ◌<◌, ◌≤◌, Bool, true, false, cond, eqb, ltb, List, [], ◌∷◌, ◌++◌, length, take, drop, Option, Some, None, refl, sym, ap, subst, ◌∙◌, append_assoc, arith, inl, inr, ◌⊎◌}
use Rattle.std.proofs.lemmas.Bool.{cases_lt, lt-ltb, le-ltb, eqb-true, ne_eqb}
use Rattle.std.proofs.lemmas.List.{take_at, drop_at, take-append-drop, append-nil, length-append, length-take, length-drop}
use Rattle.byteorder.specs.Endian.{big_bytes, big_number}
use Rattle.byteorder.specs.Numbers.{big_number-reads_back, length-bytes_high_first}
use Rattle.std.specs.Prelude.{Result, Ok, Err, IfOk, IsSome, OnErr}
use Rattle.tk_base.specs.declared.memory.NoMemory.{NoMemory}
use Rattle.tk_frames.specs.declared.frame.Frame.{Frame}
use Rattle.tk_frames.specs.declared.kind.Kind.{Kind}
use Rattle.tk_frames.specs.declared.kind.Kind.TheVariants as k
use Rattle.tk_frames.specs.declared.answer.Next.{Next}
use Rattle.tk_frames.specs.declared.answer.Next.TheVariants.{Whole, Part, Bad}
use Rattle.tk_frames.specs.declared.answer.BadFrame.TheVariants.{BadLength, BadKind, BadFields}
use Rattle.tk_frames.specs.Frame.{kind_of}
use Rattle.tk_frames.specs.Spelling.{fields, payload, framed, spelling, code_of, IsFrame, IsLength}
use Rattle.tk_frames.specs.Answer.{Answers, HasFrame, IsPart, HasBadLength, HasPayload, HasBadKind, HasBadFields, HasKind}
use Rattle.tk_frames.specs.Reading.{Found, fields_at, kind_ahead, kind_at, answer_of, kind_answer, payload_answer, next_of}
use Rattle.tk_frames.proofs.Steps.{some_is}
use Rattle.tk_frames.proofs.BytesLemmas.{IsBytes, rest_fits, front_fits, bytes_of_number}
use Rattle.tk_frames.proofs.FrameLemmas.{fields_take, fields_again}

-- ---- kinds

-- the code of a kind tells the kind
pub kind_at-code : (kind : Kind) → kind_at (code_of kind) ≡ Some kind
unfolding kind_at
kind_at-code k.Hello = refl
kind_at-code k.Report = refl
kind_at-code k.Collect = refl
kind_at-code k.Values = refl
kind_at-code k.Assign = refl
kind_at-code k.Settled = refl
kind_at-code k.Stop = refl

-- no two kinds have one byte
code_once : (a b : Kind) → code_of a ≡ code_of b → a ≡ b
code_once a b e = some_is a b (sym (kind_at-code a) ∙ ap kind_at e ∙ kind_at-code b)

chosen : (code here : ℕ) (kind told : Kind) (others : Option Kind) → here ≡ code_of kind → cond (eqb code here) (Some kind) others ≡ Some told → (code ≡ code_of told) ⊎ (others ≡ Some told)
chosen code here kind told others is e = go (eqb code here) refl e where
  go : (b : Bool) → eqb code here ≡ b → cond b (Some kind) others ≡ Some told → (code ≡ code_of told) ⊎ (others ≡ Some told)
  go true same e = inl (eqb-true code here same ∙ is ∙ ap code_of (some_is kind told e))
  go false other e = inr e

kind_known : (code : ℕ) (kind : Kind) → kind_at code ≡ Some kind → code ≡ code_of kind
unfolding kind_at
kind_known code kind e = elim (chosen code 1 k.Hello kind _ refl e) [
  | inl is ↦ is
  | inr e ↦ elim (chosen code 2 k.Report kind _ refl e) [
    | inl is ↦ is
    | inr e ↦ elim (chosen code 3 k.Collect kind _ refl e) [
      | inl is ↦ is
      | inr e ↦ elim (chosen code 4 k.Values kind _ refl e) [
        | inl is ↦ is
        | inr e ↦ elim (chosen code 5 k.Assign kind _ refl e) [
          | inl is ↦ is
          | inr e ↦ elim (chosen code 6 k.Settled kind _ refl e) [
            | inl is ↦ is
            | inr e ↦ elim (chosen code 7 k.Stop kind None refl e) [
              | inl is ↦ is
              | inr e ↦ absurd cc
            ]
          ]
        ]
      ]
    ]
  ]
]

-- ---- fields

-- a payload that is a frame's is read as that frame
reads : (version : ℕ) (kind : Kind) (behind : List ℕ) (frame : Frame) → IsFrame frame → code_of kind ∷ behind ≡ payload version frame → fields_at version kind behind ≡ Some (frame, [])
reads version kind behind frame good e =
    let code : code_of kind ≡ code_of (kind_of frame) = cc in
    let tail : behind ≡ fields version frame = cc in
    let kind_is : kind ≡ kind_of frame = code_once kind (kind_of frame) code in
    ap (λ (here : Kind). fields_at version here behind) kind_is ∙ ap (fields_at version (kind_of frame)) (tail ∙ sym (append-nil (fields version frame))) ∙ fields_again version frame [] good

-- what was read to its end is a frame's payload
read_payload : (version : ℕ) (kind : Kind) (behind : List ℕ) (frame : Frame) → IsBytes behind → fields_at version kind behind ≡ Some (frame, []) → IsFrame frame × (code_of kind ∷ behind ≡ payload version frame)
read_payload version kind behind frame fits is =
    let t = fields_take version kind behind (frame, []) fits is in
    let tail : behind ≡ fields version frame = t.parts ∙ append-nil (fields version frame) in
    (t.frame_is, ap (λ (bytes : List ℕ). code_of kind ∷ bytes) tail ∙ ap (λ (here : Kind). code_of here ∷ fields version frame) (sym t.kind_is))

behind_fits : (code : ℕ) (behind bytes : List ℕ) → IsBytes bytes → HasPayload (code ∷ behind) bytes → IsBytes behind
behind_fits code behind bytes fits has =
    let all : IsBytes (framed (code ∷ behind) ++ has.rest) = subst IsBytes has.parts fits in
    let text : IsBytes (code ∷ behind) = rest_fits (big_bytes 4 (length (code ∷ behind))) (code ∷ behind) (front_fits (framed (code ∷ behind)) has.rest all) in
    λ i. text (suc i)

-- a length in front of a text takes 4 bytes
pub length-framed : (text : List ℕ) → length (framed text) ≡ length text + 4
length-framed text = omega (arith, length-append (big_bytes 4 (length text)) text, length-bytes_high_first 4 (length text))

-- ---- each answer stands there

some_none : {A : Type 0} (x : A) (found : Option A) → found ≡ None → found ≡ Some x → ⊥
some_none x found none some = absurd cc

fields_sound : (version : ℕ) (kind : Kind) (behind bytes : List ℕ) → IsBytes bytes → HasPayload (code_of kind ∷ behind) bytes → (found : Found Frame) → fields_at version kind behind ≡ found → Answers version bytes (answer_of kind (length behind + 5) found)
fields_sound version kind behind bytes fits has None is = record {
  behind = behind;
  stands = has;
  no_frame = λ frame good e. some_none (frame, []) (fields_at version kind behind) is (reads version kind behind frame good e);
}
fields_sound version kind behind bytes fits has (Some (frame, b ∷ rest)) is = record {
  behind = behind;
  stands = has;
  no_frame = λ other good e.
      let same = some_is (frame, b ∷ rest) (other, []) (sym is ∙ reads version kind behind other good e) in
      let tails : b ∷ rest ≡ [] = ap (λ p. p.1) same in
      absurd cc;
}
fields_sound version kind behind bytes fits has (Some (frame, [])) is =
    let good = read_payload version kind behind frame (behind_fits (code_of kind) behind bytes fits has) is in
    let size : length (framed (payload version frame)) ≡ length behind + 5 = ap (λ text. length (framed text)) (sym good.1) ∙ length-framed (code_of kind ∷ behind) ∙ omega arith in
    let parts : bytes ≡ spelling version frame ++ has.rest = has.parts ∙ ap (λ text. framed text ++ has.rest) good.1 in
    let long : length behind + 5 ≤ length bytes = subst (λ all. length behind + 5 ≤ length all) (sym parts) (omega (arith, size, length-append (spelling version frame) has.rest)) in
    let front : take (length behind + 5) bytes ≡ spelling version frame = ap (take (length behind + 5)) parts ∙ take_at (spelling version frame) has.rest (length behind + 5) size in
    let few : length (payload version frame) ≤ 2097152 = subst (λ text. length text ≤ 2097152) good.1 has.size.1 in
    record { within = long; front = record { frame_is = good.0; fits = few; bytes_are = front } }

kind_sound : (version code : ℕ) (behind bytes : List ℕ) → IsBytes bytes → HasPayload (code ∷ behind) bytes → (found : Option Kind) → kind_at code ≡ found → Answers version bytes (kind_answer version (length behind + 5) code behind found)
kind_sound version code behind bytes fits has None is = record {
  behind = behind;
  stands = has;
  no_kind = λ kind e. some_none kind (kind_at code) is (ap kind_at e ∙ kind_at-code kind);
}
kind_sound version code behind bytes fits has (Some kind) is =
    fields_sound version kind behind bytes fits (subst (λ (c : ℕ). HasPayload (c ∷ behind) bytes) (kind_known code kind is) has) (fields_at version kind behind) refl

payload_sound : (version : ℕ) (text bytes : List ℕ) → IsBytes bytes → HasPayload text bytes → Answers version bytes (payload_answer version text)
unfolding payload_answer
payload_sound version [] bytes fits has = absurd (omega (arith, has.size.0))
payload_sound version (code ∷ behind) bytes fits has = kind_sound version code behind bytes fits has (kind_at code) refl

-- the answer where no length is whole yet
next_short : (version : ℕ) (bytes : List ℕ) → length bytes < 4 → next_of version bytes ≡ Part
unfolding next_of
next_short version bytes short = rw (lt-ltb (length bytes) 4 short) refl

-- the answer where the length is not in its limits
next_bad : (version : ℕ) (bytes : List ℕ) → 4 ≤ length bytes → (IsLength (big_number 4 bytes) → ⊥) → next_of version bytes ≡ Bad (BadLength (big_number 4 bytes))
unfolding next_of
next_bad version bytes whole no_length =
    let size = big_number 4 bytes in
    let four : ltb (length bytes) 4 ≡ false = le-ltb (length bytes) 4 whole in
    elim (cases_lt 0 size) [
      | inl some ↦
          let positive : eqb size 0 ≡ false = ne_eqb size 0 (λ e. omega arith) in
          elim (cases_lt 2097152 size) [
            | inl long ↦ rw (four, positive, lt-ltb 2097152 size long) refl
            | inr few ↦ absurd (no_length (some, few))
          ]
      | inr none ↦
          let zero_is : size ≡ 0 = omega arith in
          let test : eqb size 0 ≡ true = ap (λ (n : ℕ). eqb n 0) zero_is in
          rw (four, test) refl
    ]

-- the answer where the length is in its limits and the payload is not whole
next_part : (version : ℕ) (bytes : List ℕ) → 4 ≤ length bytes → IsLength (big_number 4 bytes) → length bytes < 4 + big_number 4 bytes → next_of version bytes ≡ Part
unfolding next_of
next_part version bytes whole (some, few) short =
    let size = big_number 4 bytes in
    let four : ltb (length bytes) 4 ≡ false = le-ltb (length bytes) 4 whole in
    let positive : eqb size 0 ≡ false = ne_eqb size 0 (λ e. omega arith) in
    let small : ltb 2097152 size ≡ false = le-ltb 2097152 size few in
    rw (four, positive, small, lt-ltb (length bytes) (4 + size) short) refl

-- a length is in its limits or not
limits : (size : ℕ) → IsLength size ⊎ (IsLength size → ⊥)
limits size = elim (cases_lt 0 size) [
  | inl some ↦ elim (cases_lt 2097152 size) [
    | inl long ↦ inr (λ h. absurd (omega (arith, h.1)))
    | inr few ↦ inl (some, few)
  ]
  | inr none ↦ inr (λ h. absurd (omega (arith, h.0)))
]

-- the answer where the length is in its limits and the payload is whole
next_at : (version : ℕ) (bytes : List ℕ) → IsLength (big_number 4 bytes) → 4 + big_number 4 bytes ≤ length bytes → next_of version bytes ≡ payload_answer version (take (big_number 4 bytes) (drop 4 bytes))
unfolding next_of
next_at version bytes (some, few) long =
    let size = big_number 4 bytes in
    let four : ltb (length bytes) 4 ≡ false = le-ltb (length bytes) 4 (omega arith) in
    let positive : eqb size 0 ≡ false = ne_eqb size 0 (λ e. omega arith) in
    let small : ltb 2097152 size ≡ false = le-ltb 2097152 size few in
    let whole : ltb (length bytes) (4 + size) ≡ false = le-ltb (length bytes) (4 + size) long in
    rw (four, positive, small, whole) refl

-- a whole payload stands there
payload_stands : (bytes : List ℕ) → IsBytes bytes → IsLength (big_number 4 bytes) → 4 + big_number 4 bytes ≤ length bytes → HasPayload (take (big_number 4 bytes) (drop 4 bytes)) bytes
payload_stands bytes fits size long =
    let n = big_number 4 bytes in
    let text = take n (drop 4 bytes) in
    let len : length text ≡ n = omega (arith, length-take n (drop 4 bytes), length-drop 4 bytes) in
    let front : big_bytes 4 n ≡ take 4 bytes = bytes_of_number 4 bytes fits (omega arith) in
    let rest = drop n (drop 4 bytes) in
    let split : bytes ≡ take 4 bytes ++ (text ++ rest) = sym (take-append-drop 4 bytes) ∙ ap (λ (back : List ℕ). take 4 bytes ++ back) (sym (take-append-drop n (drop 4 bytes))) in
    let parts : bytes ≡ framed text ++ rest = split ∙ ap (λ (head : List ℕ). head ++ (text ++ rest)) (sym front ∙ ap (big_bytes 4) (sym len)) ∙ sym (append_assoc (big_bytes 4 (length text)) text rest) in
    record { size = subst IsLength (sym len) size; rest = rest; parts = parts }

-- the answer that is read stands at the front of the bytes
pub answer_stands : (version : ℕ) (bytes : List ℕ) → IsBytes bytes → Answers version bytes (next_of version bytes)
answer_stands version bytes fits =
    let size = big_number 4 bytes in
    elim (cases_lt (length bytes) 4) [
      | inl short ↦ subst (Answers version bytes) (sym (next_short version bytes short)) (inl short)
      | inr whole ↦ elim (limits size) [
        | inl good ↦ elim (cases_lt (length bytes) (4 + size)) [
          | inl short ↦ subst (Answers version bytes) (sym (next_part version bytes whole good short)) (inr (good, short))
          | inr long ↦ subst (Answers version bytes) (sym (next_at version bytes good long))
              (payload_sound version (take size (drop 4 bytes)) bytes fits (payload_stands bytes fits good long))
        ]
        | inr bad ↦ subst (Answers version bytes) (sym (next_bad version bytes whole bad)) (record { whole = whole; size_is = refl; no_length = bad })
      ]
    ]

-- ---- and no other one does

-- behind its length a payload is read, whatever follows it
next-framed : (version : ℕ) (text bytes : List ℕ) → HasPayload text bytes → next_of version bytes ≡ payload_answer version text
next-framed version text bytes has =
    let n = length text in
    let joined : bytes ≡ big_bytes 4 n ++ (text ++ has.rest) = has.parts ∙ append_assoc (big_bytes 4 n) text has.rest in
    let told : big_number 4 bytes ≡ n = ap (big_number 4) joined ∙ big_number-reads_back 4 n (text ++ has.rest) (omega (arith, has.size.1)) in
    let behind : drop 4 bytes ≡ text ++ has.rest = ap (drop 4) joined ∙ drop_at (big_bytes 4 n) (text ++ has.rest) 4 (length-bytes_high_first 4 n) in
    let long : 4 + n ≤ length bytes = subst (λ all. 4 + n ≤ length all) (sym has.parts) (omega (arith, length-framed text, length-append (framed text) has.rest)) in
    let text_is : take n (drop 4 bytes) ≡ text = ap (take n) behind ∙ take_at text has.rest n refl in
    next_at version bytes (subst IsLength (sym told) has.size) (subst (λ (m : ℕ). 4 + m ≤ length bytes) (sym told) long)
    ∙ ap (λ (m : ℕ). payload_answer version (take m (drop 4 bytes))) told ∙ ap (payload_answer version) text_is

frame_only : (version : ℕ) (frame : Frame) (size : ℕ) (bytes : List ℕ) → HasFrame version frame size bytes → Whole frame size ≡ next_of version bytes
unfolding payload_answer
frame_only version frame size bytes has =
    let text = payload version frame in
    let front = has.front.bytes_are in
    let parts : bytes ≡ framed text ++ drop size bytes = sym (take-append-drop size bytes) ∙ ap (λ (head : List ℕ). head ++ drop size bytes) front in
    let stands : HasPayload text bytes = record { size = (omega arith, has.front.fits); rest = drop size bytes; parts = parts } in
    let size_is : size ≡ length (fields version frame) + 5 = omega (arith, length-take size bytes, has.within, ap (λ (head : List ℕ). length head) front, length-framed text) in
    let read : fields_at version (kind_of frame) (fields version frame) ≡ Some (frame, []) = reads version (kind_of frame) (fields version frame) frame has.front.frame_is refl in
    sym (next-framed version text bytes stands
    ∙ ap (kind_answer version (length (fields version frame) + 5) (code_of (kind_of frame)) (fields version frame)) (kind_at-code (kind_of frame))
    ∙ ap (answer_of (kind_of frame) (length (fields version frame) + 5)) read
    ∙ ap (Whole frame) (sym size_is))

part_only : (version : ℕ) (bytes : List ℕ) → IsPart bytes → Part ≡ next_of version bytes
part_only version bytes (inl short) = sym (next_short version bytes short)
part_only version bytes (inr (good, short)) = elim (cases_lt (length bytes) 4) [
  | inl none ↦ sym (next_short version bytes none)
  | inr whole ↦ sym (next_part version bytes whole good short)
]

length_only : (version size : ℕ) (bytes : List ℕ) → HasBadLength size bytes → Bad (BadLength size) ≡ next_of version bytes
length_only version size bytes has =
    sym (next_bad version bytes has.whole (λ good. has.no_length (subst IsLength (sym has.size_is) good)) ∙ ap (λ (n : ℕ). Bad (BadLength n)) (sym has.size_is))

unknown : (version whole code : ℕ) (behind : List ℕ) (found : Option Kind) → kind_at code ≡ found → ((kind : Kind) → code ≡ code_of kind → ⊥) → kind_answer version whole code behind found ≡ Bad (BadKind code)
unknown version whole code behind None is none = refl
unknown version whole code behind (Some kind) is none = absurd (none kind (kind_known code kind is))

kind_only : (version code : ℕ) (bytes : List ℕ) → HasBadKind code bytes → Bad (BadKind code) ≡ next_of version bytes
unfolding payload_answer
kind_only version code bytes has =
    sym (next-framed version (code ∷ has.behind) bytes has.stands ∙ unknown version (length has.behind + 5) code has.behind (kind_at code) refl has.no_kind)

malformed : (version whole : ℕ) (kind : Kind) (behind : List ℕ) → IsBytes behind → (found : Found Frame) → fields_at version kind behind ≡ found
    → ((frame : Frame) → IsFrame frame → code_of kind ∷ behind ≡ payload version frame → ⊥) → answer_of kind whole found ≡ Bad (BadFields kind)
malformed version whole kind behind fits None is none = refl
malformed version whole kind behind fits (Some (frame, b ∷ rest)) is none = refl
malformed version whole kind behind fits (Some (frame, [])) is none =
    let good = read_payload version kind behind frame fits is in
    absurd (none frame good.0 good.1)

fields_only : (version : ℕ) (kind : Kind) (bytes : List ℕ) → IsBytes bytes → HasBadFields version kind bytes → Bad (BadFields kind) ≡ next_of version bytes
unfolding payload_answer
fields_only version kind bytes fits has =
    sym (next-framed version (code_of kind ∷ has.behind) bytes has.stands
    ∙ ap (kind_answer version (length has.behind + 5) (code_of kind) has.behind) (kind_at-code kind)
    ∙ malformed version (length has.behind + 5) kind has.behind (behind_fits (code_of kind) has.behind bytes fits has.stands) (fields_at version kind has.behind) refl has.no_frame)

-- what stands at the front of the bytes is the answer that is read
pub answer_only : (version : ℕ) (bytes : List ℕ) (next : Next) → IsBytes bytes → Answers version bytes next → next ≡ next_of version bytes
answer_only version bytes (Whole frame size) fits has = frame_only version frame size bytes has
answer_only version bytes Part fits has = part_only version bytes has
answer_only version bytes (Bad (BadLength size)) fits has = length_only version size bytes has
answer_only version bytes (Bad (BadKind code)) fits has = kind_only version code bytes has
answer_only version bytes (Bad (BadFields kind)) fits has = fields_only version kind bytes fits has

-- a result that is the answer that is read stands there
pub is_answer : (version : ℕ) (bytes : List ℕ) (r : Result Next NoMemory) → IsBytes bytes → IfOk r (λ next. next ≡ next_of version bytes) → IfOk r (Answers version bytes)
is_answer version bytes (Ok next) fits is = subst (Answers version bytes) (sym is) (answer_stands version bytes fits)
is_answer version bytes (Err e) fits is = tt

-- and is what stands there
pub is_only : (version : ℕ) (bytes : List ℕ) (r : Result Next NoMemory) → IsBytes bytes → IfOk r (λ next. next ≡ next_of version bytes) → (next : Next) → Answers version bytes next → IfOk r (λ answer. answer ≡ next)
is_only version bytes (Ok answer) fits is next stands = is ∙ sym (answer_only version bytes next fits stands)
is_only version bytes (Err e) fits is next stands = tt

whole_is : (f g : Frame) (m n : ℕ) → Whole f m ≡ Whole g n → f ≡ g
whole_is f g m n e = cc

-- no two frames stand at the front of the same bytes
pub whole_once : (version : ℕ) (f g : Frame) (m n : ℕ) (bytes : List ℕ) → Answers version bytes (Whole f m) → Answers version bytes (Whole g n) → f ≡ g
whole_once version f g m n bytes left right = whole_is f g m n (frame_only version f m bytes left ∙ sym (frame_only version g n bytes right))

-- ---- memory

kind_found : (code : ℕ) (behind bytes : List ℕ) → HasPayload (code ∷ behind) bytes → (found : Option Kind) → kind_at code ≡ found → IsSome found → HasKind bytes
kind_found code behind bytes has None is some = absurd cc
kind_found code behind bytes has (Some kind) is some = record {
  kind = kind;
  behind = behind;
  stands = subst (λ (c : ℕ). HasPayload (c ∷ behind) bytes) (kind_known code kind is) has;
}

kind_stands : (text bytes : List ℕ) → HasPayload text bytes → IsSome (kind_ahead text) → HasKind bytes
kind_stands [] bytes has some = absurd cc
kind_stands (code ∷ behind) bytes has some = kind_found code behind bytes has (kind_at code) refl some

-- where a length is in its limits and its payload whole, and that begins with a kind's byte, one stands there
pub kind_is_ahead : (r : Result Next NoMemory) (bytes : List ℕ) → IsBytes bytes → OnErr r (IsLength (big_number 4 bytes)) → OnErr r (4 + big_number 4 bytes ≤ length bytes)
    → OnErr r (IsSome (kind_ahead (take (big_number 4 bytes) (drop 4 bytes)))) → OnErr r (HasKind bytes)
kind_is_ahead (Ok next) bytes fits size whole some = tt
kind_is_ahead (Err e) bytes fits size whole some = kind_stands (take (big_number 4 bytes) (drop 4 bytes)) bytes (payload_stands bytes fits size whole) some

-- where a payload is whole, the answer is that to it
pub read_whole : (version size : ℕ) (bytes : List ℕ) (r : Result Next NoMemory) → size ≡ big_number 4 bytes → IsLength (big_number 4 bytes) → 4 + big_number 4 bytes ≤ length bytes
    → IfOk r (λ next. next ≡ payload_answer version (take (4 + size - 4) (drop 4 bytes))) → IfOk r (λ next. next ≡ next_of version bytes)
read_whole version size bytes (Ok next) same good whole is =
    let taken : 4 + size - 4 ≡ big_number 4 bytes = omega (arith, same) in
    is ∙ ap (λ (n : ℕ). payload_answer version (take n (drop 4 bytes))) taken ∙ sym (next_at version bytes good whole)
read_whole version size bytes (Err e) same good whole is = tt
