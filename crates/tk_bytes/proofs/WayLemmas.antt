-- What is heard over one way of a connection is what was said.
use Rattle.std.proofs.Common.{◌≡◌, ◌≤◌, ◌<◌, ℕ, ◌+◌, suc, zero, ◌++◌, List, [], ◌∷◌, length, take, drop, Some, refl, ap, ap₂, sym, ◌∙◌, append_assoc, arith, subst, inl, inr, length-append}
use Rattle.std.specs.Prelude.{slice_get}
use Rattle.std.proofs.lemmas.List.{append-nil, append_cancel_left, take-append-drop, take_at, drop_at}
use Rattle.std.proofs.lemmas.Grind.{flat_map-append}
use Rattle.byteorder.specs.Endian.{big_number, big_bytes}
use Rattle.byteorder.specs.Numbers.{big_from-append, big_number-reads_back, length-bytes_high_first}
use Rattle.tk_frames.specs.declared.frame.Frame.{Frame}
use Rattle.tk_frames.specs.declared.answer.Next.TheVariants.{Part, Bad}
use Rattle.tk_frames.specs.declared.answer.BadFrame.{BadFrame}
use Rattle.tk_frames.specs.declared.answer.BadFrame.TheVariants.{BadLength, BadKind, BadFields}
use Rattle.tk_frames.specs.Answer.{Answers, HasPayload}
use Rattle.tk_frames.specs.Spelling.{IsLength, IsSpelling, code_of, framed, payload, spelling}
use Rattle.tk_frames.specs.Frame.{kind_of}
use Rattle.tk_frames.proofs.EncodingLemmas.{one_spelling}
use Rattle.tk_frames.proofs.AnswerLemmas.{length-framed}
use Rattle.tk_wire.specs.Parse.{HaveSpellings, spellings}
use Rattle.tk_wire.proofs.ParseLemmas.{parses_are_fronts}
use Rattle.tk_end.specs.Inbox.{Leaves}
use Rattle.tk_end.specs.Link.{LinkView}
use Rattle.tk_bytes.specs.Way.{IsWay, under_way}

-- ---- lists

one_at : {X : Type 0} (xs : List X) (k : ℕ) (x : X) → slice_get xs k ≡ Some x → drop k xs ≡ x ∷ drop (suc k) xs
one_at [] k x is = absurd (cc)
one_at (y ∷ ys) zero x is = ap (λ z. z ∷ ys) (let e : y ≡ x = cc in e)
one_at (y ∷ ys) (suc k) x is = one_at ys k x is

pub within_at : {X : Type 0} (xs : List X) (k : ℕ) (x : X) → slice_get xs k ≡ Some x → k < length xs
within_at [] k x is = absurd (cc)
within_at (y ∷ ys) zero x is = omega arith
within_at (y ∷ ys) (suc k) x is = let more = within_at ys k x is in omega (arith, more)

spellings-append : (version : ℕ) (fs gs : List Frame) → spellings version (fs ++ gs) ≡ spellings version fs ++ spellings version gs
spellings-append version fs gs = flat_map-append (spelling version) fs gs

spelled_at : (version : ℕ) (fs : List Frame) (k : ℕ) (f : Frame) → HaveSpellings version fs → slice_get fs k ≡ Some f → IsSpelling version f (spelling version f)
spelled_at version [] k f each is = absurd (cc)
spelled_at version (g ∷ gs) zero f each is = subst (λ (x : Frame). IsSpelling version x (spelling version x)) (let e : g ≡ f = cc in e) each.0
spelled_at version (g ∷ gs) (suc k) f each is = spelled_at version gs k f each.1 is

-- ---- the stream

-- all that was said is what was heard, what is not read there, and what is under way
pub stream : {W : Type 0} (said heard : List Frame) (x y : LinkView W) (between : List ℕ) → IsWay said heard x y between
    → spellings x.version heard ++ (y.unread ++ under_way x y between) ≡ spellings x.version said
stream said heard x y between way =
    let v = x.version in
    let came : y.traffic.came ≡ spellings v heard ++ y.unread = way.came.parts ∙ ap (λ n. spellings n heard ++ y.unread) way.version in
    let rest = between ++ (x.traffic.held ++ x.output) in
    let went : x.traffic.went ++ x.output ≡ y.traffic.came ++ (y.traffic.waiting ++ rest) =
    ap (λ (xs : List ℕ). xs ++ x.output) way.joins.bytes
    ∙ append_assoc (y.traffic.came ++ y.traffic.waiting ++ between) x.traffic.held x.output
    ∙ append_assoc (y.traffic.came ++ y.traffic.waiting) between (x.traffic.held ++ x.output)
    ∙ append_assoc y.traffic.came y.traffic.waiting rest in
    sym (append_assoc (spellings v heard) y.unread (y.traffic.waiting ++ rest))
    ∙ ap (λ (xs : List ℕ). xs ++ (y.traffic.waiting ++ rest)) (sym came)
    ∙ sym went ∙ way.gave.parts

-- the next frame that was said and not heard
pub record ComesNext (version : ℕ) (frame : Frame) (bytes : List ℕ) : Type 0 where
  pub spelled : IsSpelling version frame (spelling version frame)
  pub behind : List ℕ
  pub parts : bytes ≡ spelling version frame ++ behind

pub next_said : {W : Type 0} (said heard : List Frame) (x y : LinkView W) (between : List ℕ) (frame : Frame) → IsWay said heard x y between → slice_get said (length heard) ≡ Some frame
    → ComesNext x.version frame (y.unread ++ under_way x y between)
next_said said heard x y between frame way next =
    let v = x.version in
    let bytes = y.unread ++ under_way x y between in
    let n = length heard in
    let each : HaveSpellings v heard = subst (λ k. HaveSpellings k heard) way.version way.came.each in
    let whole = stream said heard x y between way in
    let front : heard ≡ take n said = parses_are_fronts v heard said bytes [] each way.gave.each (whole ∙ sym (append-nil (spellings v said))) (let w = within_at said n frame next in omega (arith, w)) in
    let split : said ≡ heard ++ frame ∷ drop (suc n) said = sym (take-append-drop n said) ∙ ap₂ (λ (a b : List Frame). a ++ b) (sym front) (one_at said n frame next) in
    record {
      spelled = spelled_at v said n frame way.gave.each next;
      behind = spellings v (drop (suc n) said);
      parts = append_cancel_left (spellings v heard) _ _ (whole ∙ ap (spellings v) split ∙ spellings-append v heard (frame ∷ drop (suc n) said));
    }

-- a frame that is read at the front is this one
pub read_is_next : (version : ℕ) (frame other : Frame) (unread more rest : List ℕ) → ComesNext version frame (unread ++ more) → Leaves version other unread rest → other ≡ frame
read_is_next version frame other unread more rest next leaves =
    (one_spelling version other frame (spelling version other) (spelling version frame) (rest ++ more) next.behind leaves.spelled next.spelled
    (sym (append_assoc (spelling version other) rest more) ∙ ap (λ (xs : List ℕ). xs ++ more) (sym leaves.parts) ∙ next.parts)).0

-- ---- neither a part nor anything else stands where a frame does

-- a payload that stands at the front says its length
length_told : (text rest : List ℕ) → length text ≤ 2097152 → big_number 4 (framed text ++ rest) ≡ length text
length_told text rest few =
    ap (big_number 4) (append_assoc (big_bytes 4 (length text)) text rest) ∙ big_number-reads_back 4 (length text) (text ++ rest) (omega (arith, few))

-- two payloads at the front of the same bytes are one
one_payload : (a b x y : List ℕ) → length a ≤ 2097152 → length b ≤ 2097152 → framed a ++ x ≡ framed b ++ y → a ≡ b
one_payload a b x y few less same =
    let n : length a ≡ length b = sym (length_told a x few) ∙ ap (big_number 4) same ∙ length_told b y less in
    let behind : (c z : List ℕ) → drop 4 (framed c ++ z) ≡ c ++ z = λ c z. ap (drop 4) (append_assoc (big_bytes 4 (length c)) c z) ∙ drop_at (big_bytes 4 (length c)) (c ++ z) 4 (length-bytes_high_first 4 (length c)) in
    let tails : a ++ x ≡ b ++ y = sym (behind a x) ∙ ap (drop 4) same ∙ behind b y in
    sym (take_at a x (length a) refl) ∙ ap (take (length a)) tails ∙ take_at b y (length a) (sym n)

long_enough : (version : ℕ) (frame : Frame) (unread : List ℕ) → ComesNext version frame unread → 4 + length (payload version frame) ≤ length unread
long_enough version frame unread next =
    let a = length-append (spelling version frame) next.behind in
    let b = length-framed (payload version frame) in
    subst (λ (xs : List ℕ). 4 + length (payload version frame) ≤ length xs) (sym next.parts) (omega (arith, a, b))

pub whole_is_no_part : (version : ℕ) (frame : Frame) (unread : List ℕ) → ComesNext version frame unread → Answers version unread Part → ⊥
whole_is_no_part version frame unread next (inl short) = let l = long_enough version frame unread next in absurd (omega (arith, l, short))
whole_is_no_part version frame unread next (inr (good, short)) =
    let l = long_enough version frame unread next in
    let told : big_number 4 unread ≡ length (payload version frame) = ap (big_number 4) next.parts ∙ length_told (payload version frame) next.behind next.spelled.fits in
    absurd (omega (arith, l, told, short))

-- the bytes of a payload that stands there are the frame's
payload_is : (version : ℕ) (frame : Frame) (text unread more : List ℕ) → ComesNext version frame (unread ++ more) → HasPayload text unread → text ≡ payload version frame
payload_is version frame text unread more next has =
    one_payload text (payload version frame) (has.rest ++ more) next.behind has.size.1 next.spelled.fits
    (sym (append_assoc (framed text) has.rest more) ∙ ap (λ (xs : List ℕ). xs ++ more) (sym has.parts) ∙ next.parts)

pub frame_is_not_bad : (version : ℕ) (frame : Frame) (unread more : List ℕ) (fault : BadFrame) → ComesNext version frame (unread ++ more) → Answers version unread (Bad fault) → ⊥
frame_is_not_bad version frame unread more (BadLength size) next has =
    let told : size ≡ length (payload version frame) =
    has.size_is ∙ sym (big_from-append 4 unread more has.whole) ∙ ap (big_number 4) next.parts ∙ length_told (payload version frame) next.behind next.spelled.fits in
    has.no_length (subst IsLength (sym told) (omega arith, next.spelled.fits))
frame_is_not_bad version frame unread more (BadKind code) next has =
    let same : code ∷ has.behind ≡ payload version frame = payload_is version frame (code ∷ has.behind) unread more next has.stands in
    has.no_kind (kind_of frame) (let e : code ≡ code_of (kind_of frame) = cc in e)
frame_is_not_bad version frame unread more (BadFields kind) next has =
    has.no_frame frame next.spelled.frame_is (payload_is version frame (code_of kind ∷ has.behind) unread more next has.stands)

-- ---- a frame that was taken

slice_at_end : {X : Type 0} (xs : List X) (g : X) (ys : List X) → slice_get (xs ++ g ∷ ys) (length xs) ≡ Some g
slice_at_end [] g ys = refl
slice_at_end (x ∷ xs) g ys = slice_at_end xs g ys

-- the last frame that was heard is the next that was said
pub last_is_next : {W : Type 0} (said heard : List Frame) (g frame : Frame) (x y : LinkView W) (between : List ℕ) → IsWay said (heard ++ g ∷ []) x y between → slice_get said (length heard) ≡ Some frame → g ≡ frame
last_is_next said heard g frame x y between way next =
    let v = x.version in
    let now = heard ++ g ∷ [] in
    let n = length now in
    let bytes = y.unread ++ under_way x y between in
    let each : HaveSpellings v now = subst (λ k. HaveSpellings k now) way.version way.came.each in
    let front : now ≡ take n said = parses_are_fronts v now said bytes [] each way.gave.each (stream said now x y between way ∙ sym (append-nil (spellings v said)))
    (let w = within_at said (length heard) frame next in let l = length-append heard (g ∷ []) in omega (arith, w, l)) in
    let split : said ≡ heard ++ g ∷ drop n said = sym (take-append-drop n said) ∙ ap (λ (a : List Frame). a ++ drop n said) (sym front) ∙ append_assoc heard (g ∷ []) (drop n said) in
    let there : slice_get said (length heard) ≡ Some g = ap (λ (z : List Frame). slice_get z (length heard)) split ∙ slice_at_end heard g (drop n said) in
    let both : Some g ≡ Some frame = sym there ∙ next in
    (let e : g ≡ frame = cc in e)
