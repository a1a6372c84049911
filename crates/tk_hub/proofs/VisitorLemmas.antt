-- What stands at the front of the bytes that came, and what it says to a run.
use Rattle.std.proofs.Common.{◌≡◌, inl, inr, ℕ, ◌+◌, ◌<◌, ◌≤◌, ◌==◌, Bool, true, false, List, [], ◌∷◌, ◌++◌, length, take, drop, Option, Some, None, Ok, Err, IfSome, refl, sym, ap, subst, ◌∙◌, append_assoc, arith, eq-eqb}
use Rattle.std.specs.Prelude.{if◌then◌else◌}
use Rattle.std.proofs.lemmas.Bool.{cases_lt, eqb-true}
use Rattle.std.proofs.lemmas.List.{take_at, take-append-drop, append-nil, length-append}
use Rattle.std.specs.Int.{bytes_high_first}
use Rattle.tk_base.specs.declared.ids.Mon.{Mon}
use Rattle.tk_frames.specs.Answer.{Answers, HasFrame, HasPayload, IsPart}
use Rattle.tk_frames.specs.Spelling.{IsLength, framed, payload, spelling}
use Rattle.tk_frames.specs.declared.answer.BadFrame.{BadFrame}
use Rattle.tk_frames.specs.declared.answer.Next.{Next}
use Rattle.tk_frames.specs.declared.answer.Next.TheVariants.{Bad, Part, Whole}
use Rattle.tk_frames.specs.declared.frame.Frame.{Frame}
use Rattle.tk_frames.specs.declared.frame.Frame.TheVariants as f
use Rattle.tk_frames.proofs.EncodingLemmas.{one_spelling}
use Rattle.tk_frames.proofs.SizeLemmas.{length-spelling}
use Rattle.tk_wire.proofs.BufferLemmas.{arrives_more}
use Rattle.tk_wire.specs.Buffered.{Pulls, counts_pulled, rest_of}
use Rattle.tk_wire.specs.Meanings.{raised_by}
use Rattle.tk_wire.specs.declared.in_buffer.Pulled.{Pulled}
use Rattle.tk_wire.specs.declared.in_buffer.Pulled.TheVariants as p
use Rattle.tk_end.proofs.LinkLemmas.{arrives_nothing}
use Rattle.tk_end.proofs.OddLemmas.{behind_length}
use Rattle.tk_hub.specs.Visitor.{BeginsWithHello, Gathers, Greets, IsAwaited, IsSteady, IsStrange, IsUnlessMemory, VisitorView, hello_of}
use Rattle.tk_hub.specs.VisitorInside.{HasMore, IsAsLong, Leaves, Reads, Says, bytes_of, judged}
use Rattle.tk_hub.specs.declared.visitor.Greeting.{Greeting}
use Rattle.tk_hub.specs.declared.visitor.Greeting.TheVariants as g
use Rattle.tk_hub.specs.declared.visitor.Guest.{Guest}

-- ---- the length in front

-- if four bytes are there, they say the length of a Hello
abbrev pub SaysHello : List ℕ → Type 0
SaysHello bytes = 4 ≤ length bytes → take 4 bytes ≡ 0 ∷ 0 ∷ 0 ∷ 14 ∷ []

-- what stands behind it
joined : (bytes : List ℕ) → take 4 bytes ≡ 0 ∷ 0 ∷ 0 ∷ 14 ∷ [] → bytes ≡ 0 ∷ 0 ∷ 0 ∷ 14 ∷ drop 4 bytes
joined bytes is = sym (take-append-drop 4 bytes) ∙ ap (λ xs. xs ++ drop 4 bytes) is

-- less than a Hello is a part of a frame of a Hello's length
hello_part : (rest : List ℕ) → length (0 ∷ 0 ∷ 0 ∷ 14 ∷ rest) < 18 → IsPart (0 ∷ 0 ∷ 0 ∷ 14 ∷ rest)
hello_part rest less = let size : IsLength 14 = (omega arith, omega arith) in inr (size, less)

less_is_part : (bytes : List ℕ) → SaysHello bytes → length bytes < 18 → IsPart bytes
less_is_part bytes says less = elim (cases_lt (length bytes) 4) [
  | inl none ↦ inl none
  | inr whole ↦ let is = joined bytes (says whole) in subst IsPart (sym is) (hello_part (drop 4 bytes) (subst (λ xs. length xs < 18) is less))
]

-- ---- the first frame

-- bytes of a Hello's length that are no frame are strange to every run
pub bad_is_strange : (bytes : List ℕ) (fault : BadFrame) → SaysHello bytes → ((next : Next) → Answers 1 bytes next → Bad fault ≡ next) → (run : ℕ) → IsStrange run bytes
bad_is_strange bytes fault says only run = inr (record { whole = whole; no_hello = no_hello }) where
  whole : 18 ≤ length bytes
  whole = elim (cases_lt (length bytes) 18) [
    | inl less ↦ let never : Bad fault ≡ Part = only Part (less_is_part bytes says less) in absurd (cc)
    | inr long ↦ long
  ]

  no_hello : (guest : Guest) → BeginsWithHello run guest bytes → ⊥
  no_hello guest stands = let never : Bad fault ≡ Whole (hello_of run guest) 18 = only (Whole (hello_of run guest) 18) stands in cc

four : (n : ℕ) → length (bytes_high_first 4 n) ≡ 4
four n = refl

length_framed : (text : List ℕ) → length (framed text) ≡ 4 + length text
length_framed text = length-append (bytes_high_first 4 (length text)) text ∙ ap (λ n. n + length text) (four (length text))

-- a payload behind a Hello's length has 14 bytes
fourteen : (text rest : List ℕ) → HasPayload text (0 ∷ 0 ∷ 0 ∷ 14 ∷ rest) → 14 ≡ length text
fourteen text rest stands = (behind_length text (0 ∷ 0 ∷ 0 ∷ 14 ∷ rest) stands).told

-- a whole frame behind a Hello's length leaves the front
pub whole_leaves : (version : ℕ) (frame : Frame) (size : ℕ) (bytes new : List ℕ) (next : Next) → version ≡ 1 → SaysHello bytes → next ≡ Whole frame size
    → Answers version bytes next → new ≡ rest_of (Ok next) bytes → Leaves frame bytes new
whole_leaves version frame size bytes new next first says is answers rest =
    let has : HasFrame 1 frame size bytes = subst (λ v. HasFrame v frame size bytes) first (subst (Answers version bytes) is answers) in
    let left : new ≡ drop size bytes = rest ∙ ap (λ n. rest_of (Ok n) bytes) is in
    let text : List ℕ = payload 1 frame in
    let parts : bytes ≡ framed text ++ drop size bytes = sym (take-append-drop size bytes) ∙ ap (λ xs. xs ++ drop size bytes) has.front.bytes_are in
    let stands : HasPayload text bytes = record { size = (omega arith, has.front.fits); rest = drop size bytes; parts = parts } in
    let within : 4 ≤ length bytes = omega (arith, ap length parts, length-append (framed text) (drop size bytes), length_framed text) in
    let count = fourteen text (drop 4 bytes) (subst (HasPayload text) (joined bytes (says within)) stands) in
    record {
      as_long = record { spelled = record { frame_is = has.front.frame_is; fits = has.front.fits; bytes_are = refl }; size = omega (arith, count, length_framed text) };
      parts = parts ∙ ap (λ xs. spelling 1 frame ++ xs) (sym left);
    }

-- it stands there
stands_there : (frame : Frame) (bytes rest : List ℕ) → IsAsLong frame → bytes ≡ spelling 1 frame ++ rest → HasFrame 1 frame 18 bytes
stands_there frame bytes rest long parts =
    let front : take 18 bytes ≡ spelling 1 frame = ap (take 18) parts ∙ take_at (spelling 1 frame) rest 18 long.size in
    record {
      within = omega (arith, ap length parts, length-append (spelling 1 frame) rest, long.size);
      front = record { frame_is = long.spelled.frame_is; fits = long.spelled.fits; bytes_are = front };
    }

one_stands : (a b : Frame) (bytes : List ℕ) → HasFrame 1 a 18 bytes → HasFrame 1 b 18 bytes → a ≡ b
one_stands a b bytes first second = (one_spelling 1 a b (take 18 bytes) (take 18 bytes) (drop 18 bytes) (drop 18 bytes) first.front second.front refl).0

-- ---- what it says

-- another frame than a Hello to this run is strange to it
other_is_strange : (run : ℕ) (frame : Frame) (bytes : List ℕ) → HasFrame 1 frame 18 bytes → ((guest : Guest) → frame ≡ f.Hello run guest.version guest.mon → ⊥) → IsStrange run bytes
other_is_strange run frame bytes stands other =
    inr (record { whole = stands.within; no_hello = λ guest hello. other guest (one_stands frame (hello_of run guest) bytes stands hello) })

eqb-false : (a b : ℕ) → (a == b) ≡ false → a ≡ b → ⊥
eqb-false a b other same = let met : (a == b) ≡ true = eq-eqb a b same in cc

hello_says : (run told version : ℕ) (mon : Mon) (bytes : List ℕ) (b : Bool) → (told == run) ≡ b
    → HasFrame 1 (f.Hello told version mon) 18 bytes → Says run bytes (Some (f.Hello told version mon)) (if b then g.Hello (record { mon = mon; version = version }) else g.Strange)
hello_says run told version mon bytes true is stands =
    let same : told ≡ run = eqb-true told run is in
    (subst (λ r. HasFrame 1 (f.Hello r version mon) 18 bytes) same stands, ap (λ r. Some (f.Hello r version mon)) same)
hello_says run told version mon bytes false is stands =
    other_is_strange run (f.Hello told version mon) bytes stands (λ guest same. eqb-false told run is (cc))

-- what a first frame says, what came says
says_first : (run : ℕ) (frame : Frame) (bytes : List ℕ) → HasFrame 1 frame 18 bytes → Says run bytes (Some frame) (judged run frame)
says_first run (f.Hello told version mon) bytes stands = hello_says run told version mon bytes (told == run) refl stands
says_first run (f.Report seq border failed values) bytes stands = other_is_strange run (f.Report seq border failed values) bytes stands (λ guest same. cc)
says_first run (f.Collect round objects) bytes stands = other_is_strange run (f.Collect round objects) bytes stands (λ guest same. cc)
says_first run (f.Values round seq border values) bytes stands = other_is_strange run (f.Values round seq border values) bytes stands (λ guest same. cc)
says_first run (f.Assign seq members changes) bytes stands = other_is_strange run (f.Assign seq members changes) bytes stands (λ guest same. cc)
says_first run (f.Settled seq last places) bytes stands = other_is_strange run (f.Settled seq last places) bytes stands (λ guest same. cc)
says_first run f.Stop bytes stands = other_is_strange run f.Stop bytes stands (λ guest same. cc)

pub says_judged : (run : ℕ) (frame : Frame) (greeting : Greeting) (bytes rest : List ℕ) → greeting ≡ judged run frame → IsAsLong frame
    → bytes ≡ spelling 1 frame ++ rest → Says run bytes (Some frame) greeting
says_judged run frame greeting bytes rest is long parts = subst (λ said. Says run bytes (Some frame) said) (sym is) (says_first run frame bytes (stands_there frame bytes rest long parts))

-- what can be no greeting was not read
pub says_unread : (run : ℕ) (bytes : List ℕ) (front : Option Frame) (greeting : Greeting) (old new : List ℕ) → bytes ≡ new → Reads (Err greeting) old new → Says run bytes front greeting
says_unread run bytes front g.Nothing old new is reads = absurd reads
says_unread run bytes front (g.Hello guest) old new is reads = absurd reads
says_unread run bytes front g.Strange old new is reads = subst (IsStrange run) (sym (is ∙ reads.1)) (reads.0 run)
says_unread run bytes front g.NoMemory old new is reads = tt

-- no frame was read before
pub no_front : (front : Option Frame) → ((frame : Frame) → front ≡ Some frame → ⊥) → front ≡ None
no_front None apart = refl
no_front (Some frame) apart = absurd (apart frame refl)

-- where no frame was read the bytes are those before
pub still_there : (front : Option Frame) (greeting : Greeting) (old new : List ℕ) → Reads (Err greeting) old new → bytes_of front ++ old ≡ bytes_of front ++ new
still_there front g.Nothing old new reads = absurd reads
still_there front (g.Hello guest) old new reads = absurd reads
still_there front g.Strange old new reads = ap (λ xs. bytes_of front ++ xs) (sym reads.1)
still_there front g.NoMemory old new reads = ap (λ xs. bytes_of front ++ xs) (sym reads)

-- and where one was read it is in front of the others
pub put_in_front : (front now found : Option Frame) (frame : Frame) (old new : List ℕ) → front ≡ None → now ≡ Some frame → found ≡ Some frame → Reads (Ok found) old new → bytes_of front ++ old ≡ bytes_of now ++ new
put_in_front front now found frame old new none is read reads =
    let leaves : Leaves frame old new = subst (λ o. Reads (Ok o) old new) read reads in
    ap (λ o. bytes_of o ++ old) none ∙ leaves.parts ∙ ap (λ o. bytes_of o ++ new) (sym is)

-- a frame that was read is as long as a Hello
pub read_is_long : (found : Option Frame) (frame : Frame) (old new : List ℕ) → found ≡ Some frame → Reads (Ok found) old new → IsAsLong frame
read_is_long found frame old new is reads = let leaves : Leaves frame old new = subst (λ o. Reads (Ok o) old new) is reads in leaves.as_long

-- ---- one greeting at most

-- a Hello begins with its length
pub hello_first : (run : ℕ) (guest : Guest) (bytes : List ℕ) → BeginsWithHello run guest bytes → take 4 bytes ≡ 0 ∷ 0 ∷ 0 ∷ 14 ∷ []
hello_first run guest bytes stands =
    let text : List ℕ = payload 1 (hello_of run guest) in
    let whole : length (framed text) ≡ 18 = length-spelling (hello_of run guest) in
    let size : length text ≡ 14 = omega (arith, whole, length_framed text) in
    let head : List ℕ = bytes_high_first 4 (length text) in
    let parts : bytes ≡ head ++ (text ++ drop 18 bytes) = sym (take-append-drop 18 bytes) ∙ ap (λ xs. xs ++ drop 18 bytes) stands.front.bytes_are ∙ append_assoc head text (drop 18 bytes) in
    ap (take 4) parts ∙ take_at head (text ++ drop 18 bytes) 4 (four (length text)) ∙ ap (bytes_high_first 4) size

hello_is_not_strange : (run : ℕ) (guest : Guest) (bytes : List ℕ) → BeginsWithHello run guest bytes → IsStrange run bytes → ⊥
hello_is_not_strange run guest bytes stands (inl strange) = strange.other (hello_first run guest bytes stands)
hello_is_not_strange run guest bytes stands (inr strange) = strange.no_hello guest stands

awaited_is_not_strange : (run : ℕ) (bytes : List ℕ) → IsAwaited bytes → IsStrange run bytes → ⊥
awaited_is_not_strange run bytes awaited (inl strange) = awaited.not_strange strange
awaited_is_not_strange run bytes awaited (inr strange) = absurd (omega (arith, awaited.part, strange.whole))

abbrev guest_of : Mon → ℕ → Guest
guest_of mon version = record { mon = mon; version = version }

same_guest : (run : ℕ) (a b : Guest) → f.Hello run a.version a.mon ≡ f.Hello run b.version b.mon → a ≡ b
same_guest run a b same =
    let mons : a.mon ≡ b.mon = cc in
    let versions : a.version ≡ b.version = cc in
    ap (λ m. guest_of m a.version) mons ∙ ap (guest_of b.mon) versions

-- a Hello that came is answered
pub hello_is_answered : {W : Type 0} (run : ℕ) (greeting : Greeting) (old new : VisitorView W) → Greets run greeting old new → (guest : Guest) → BeginsWithHello run guest new.bytes → IsUnlessMemory greeting (g.Hello guest)
hello_is_answered run g.Nothing old new greets guest stands = absurd (omega (arith, greets.0.part, stands.within))
hello_is_answered run (g.Hello other) old new greets guest stands =
    inr (ap g.Hello (same_guest run other guest (one_stands (hello_of run other) (hello_of run guest) new.bytes greets.0 stands)))
hello_is_answered run g.Strange old new (inl (strange, steady)) guest stands = absurd (hello_is_not_strange run guest new.bytes stands strange)
hello_is_answered run g.Strange old new (inr (awaited, lost)) guest stands = absurd (omega (arith, awaited.part, stands.within))
hello_is_answered run g.NoMemory old new greets guest stands = inl refl

-- what came and is strange is answered so
pub strange_is_answered : {W : Type 0} (run : ℕ) (greeting : Greeting) (old new : VisitorView W) → Greets run greeting old new → IsStrange run new.bytes → IsUnlessMemory greeting g.Strange
strange_is_answered run g.Nothing old new greets strange = absurd (awaited_is_not_strange run new.bytes greets.0 strange)
strange_is_answered run (g.Hello guest) old new greets strange = absurd (hello_is_not_strange run guest new.bytes greets.0 strange)
strange_is_answered run g.Strange old new greets strange = inr refl
strange_is_answered run g.NoMemory old new greets strange = inl refl

-- ---- pieces that come

pub gathers_none : {W : Type 0} (x : VisitorView W) → Gathers x x
gathers_none x = record { tells = refl; piece = []; bytes = sym (append-nil x.bytes); arrived = λ _. arrives_nothing x.traffic x.traffic refl; taken = omega arith }

-- nothing came while the front was read
pub gathers_front : {W : Type 0} (x y : VisitorView W) (front : Option Frame) → y ≡ record x { front = front } → Gathers x y
gathers_front x y front is = record {
  tells = ap (λ v. v.tells) is;
  piece = [];
  bytes = ap (λ v. v.bytes) is ∙ sym (append-nil x.bytes);
  arrived = λ _. arrives_nothing x.traffic y.traffic (ap (λ v. v.traffic) is);
  taken = omega (arith, ap (λ v. v.counts.taken) is);
}

pub gathers_more : {W : Type 0} (x y z : VisitorView W) → Gathers x y → Gathers y z → Gathers x z
gathers_more x y z p q = record {
  tells = q.tells ∙ p.tells;
  piece = p.piece ++ q.piece;
  bytes = q.bytes ∙ ap (λ xs. xs ++ q.piece) p.bytes ∙ append_assoc x.bytes p.piece q.piece;
  arrived = λ told. arrives_more p.piece q.piece x.traffic y.traffic z.traffic (p.arrived told) (q.arrived (p.tells ∙ told));
  taken = omega (arith, p.taken, q.taken, length-append p.piece q.piece);
}

-- a pull brought what it says
came_none : {W : Type 0} (x y : VisitorView W) → y.tells ≡ x.tells → y.bytes ≡ x.bytes → (x.tells ≡ true → y.traffic ≡ x.traffic) → y.counts.taken ≡ x.counts.taken → Gathers x y
came_none x y tells bytes traffic taken = record {
  tells = tells;
  piece = [];
  bytes = bytes ∙ sym (append-nil x.bytes);
  arrived = λ told. arrives_nothing x.traffic y.traffic (traffic told);
  taken = omega (arith, taken);
}

pub gathers_pulled : {W : Type 0} (pulled : Pulled) (x y : VisitorView W) → y.tells ≡ x.tells → Pulls pulled x.tells x.bytes y.bytes x.traffic y.traffic → y.counts ≡ counts_pulled pulled x.counts → Gathers x y
gathers_pulled (p.Got n) x y tells pulls counts = record {
  tells = tells;
  piece = pulls.1.piece;
  bytes = pulls.1.appended;
  arrived = pulls.1.arrived;
  taken = omega (arith, pulls.1.size, ap (λ c. c.taken) counts);
}
gathers_pulled p.NotYet x y tells pulls counts = came_none x y tells pulls.0 (λ told. (pulls.1 told).1) (ap (λ c. c.taken) counts)
gathers_pulled p.End x y tells pulls counts = came_none x y tells pulls.0 pulls.1 (ap (λ c. c.taken) counts)
gathers_pulled p.Failed x y tells pulls counts = came_none x y tells pulls.0 pulls.1 (ap (λ c. c.taken) counts)
gathers_pulled p.NoMemory x y tells pulls counts = came_none x y tells pulls.0 pulls.1 (ap (λ c. c.taken) counts)

-- the front was read, and then a pull was made
pub gathers_then_pulled : {W : Type 0} (pulled : Pulled) (x y z : VisitorView W) (front : Option Frame) → y ≡ record x { front = front } → z.tells ≡ y.tells
    → Pulls pulled y.tells y.bytes z.bytes y.traffic z.traffic → z.counts ≡ counts_pulled pulled y.counts → Gathers x z
gathers_then_pulled pulled x y z front is tells pulls counts = gathers_more x y z (gathers_front x y front is) (gathers_pulled pulled y z tells pulls counts)

-- ---- what is answered

-- what came says it
pub greets_said : {W : Type 0} (run : ℕ) (greeting : Greeting) (old new : VisitorView W) → IsSteady old.counts new.counts → Says run new.bytes new.front greeting → Greets run greeting old new
greets_said run g.Nothing old new steady says = absurd says
greets_said run (g.Hello guest) old new steady says = (says.0, steady, says.1)
greets_said run g.Strange old new steady says = inl (says, steady)
greets_said run g.NoMemory old new steady says = steady

-- what a pull that brought nothing says
abbrev pub greeting_of : Pulled → Option Greeting
greeting_of (p.Got n) = None
greeting_of p.NotYet = Some g.Nothing
greeting_of p.End = Some g.Strange
greeting_of p.Failed = Some g.Strange
greeting_of p.NoMemory = Some g.NoMemory

pub greets_pulled : {W : Type 0} (run : ℕ) (pulled : Pulled) (x y z : VisitorView W) (front : Option Frame) → y ≡ record x { front = front } → z.tells ≡ y.tells → IsAwaited y.bytes
    → Pulls pulled y.tells y.bytes z.bytes y.traffic z.traffic → z.counts ≡ counts_pulled pulled y.counts → IfSome (greeting_of pulled) (λ greeting. Greets run greeting x z)
greets_pulled run (p.Got n) x y z front is tells awaited pulls counts = tt
greets_pulled run p.NotYet x y z front is tells awaited pulls counts =
    let same : z.counts ≡ x.counts = counts ∙ ap (λ v. v.counts) is in (
      subst IsAwaited (sym pulls.0) awaited,
      record { faults = ap (λ c. c.faults) same; ends = ap (λ c. c.ends) same },
      λ told. let none = pulls.1 (sym tells ∙ told) in ap (λ t. t.waiting) none.1 ∙ none.0,
    )
greets_pulled run p.End x y z front is tells awaited pulls counts =
    let same : y.counts ≡ x.counts = ap (λ v. v.counts) is in
    inr (subst IsAwaited (sym pulls.0) awaited, inr (ap (λ c. c.faults) counts ∙ ap (λ c. c.faults) same, ap (λ c. c.ends) counts ∙ ap (λ c. raised_by 1 c.ends) same))
greets_pulled run p.Failed x y z front is tells awaited pulls counts =
    let same : y.counts ≡ x.counts = ap (λ v. v.counts) is in
    inr (subst IsAwaited (sym pulls.0) awaited, inl (ap (λ c. c.faults) counts ∙ ap (λ c. raised_by 1 c.faults) same, ap (λ c. c.ends) counts ∙ ap (λ c. c.ends) same))
greets_pulled run p.NoMemory x y z front is tells awaited pulls counts =
    let same : z.counts ≡ x.counts = counts ∙ ap (λ v. v.counts) is in record { faults = ap (λ c. c.faults) same; ends = ap (λ c. c.ends) same }

-- a piece came
pub pulled_more : {W : Type 0} (n : ℕ) (x y z : VisitorView W) (front : Option Frame) → y ≡ record x { front = front } → IsAwaited y.bytes
    → Pulls (p.Got n) y.tells y.bytes z.bytes y.traffic z.traffic → z.counts ≡ counts_pulled (p.Got n) y.counts → HasMore x z
pulled_more n x y z front is awaited pulls counts =
    let same : y.bytes ≡ x.bytes = ap (λ v. v.bytes) is in
    let steady : y.counts ≡ x.counts = ap (λ v. v.counts) is in
    record {
      part = subst (λ xs. length xs < 18) same awaited.part;
      longer = omega (arith, ap length same, ap length pulls.1.appended, length-append y.bytes pulls.1.piece, pulls.1.size, pulls.0.0);
      steady = record { faults = ap (λ c. c.faults) counts ∙ ap (λ c. c.faults) steady; ends = ap (λ c. c.ends) counts ∙ ap (λ c. c.ends) steady };
    }

pub steady_since : {W : Type 0} (a b c : VisitorView W) → IsSteady a.counts b.counts → IsSteady b.counts c.counts → IsSteady a.counts c.counts
steady_since a b c p q = record { faults = q.faults ∙ p.faults; ends = q.ends ∙ p.ends }

-- nothing was lost before
pub greets_since : {W : Type 0} (run : ℕ) (greeting : Greeting) (a b c : VisitorView W) → IsSteady a.counts b.counts → Greets run greeting b c → Greets run greeting a c
greets_since run g.Nothing a b c steady greets = (greets.0, steady_since a b c steady greets.1, greets.2)
greets_since run (g.Hello guest) a b c steady greets = (greets.0, steady_since a b c steady greets.1, greets.2)
greets_since run g.Strange a b c steady (inl (strange, since)) = inl (strange, steady_since a b c steady since)
greets_since run g.Strange a b c steady (inr (awaited, inl (faults, ends))) = inr (awaited, inl (faults ∙ ap (raised_by 1) steady.faults, ends ∙ steady.ends))
greets_since run g.Strange a b c steady (inr (awaited, inr (faults, ends))) = inr (awaited, inr (faults ∙ steady.faults, ends ∙ ap (raised_by 1) steady.ends))
greets_since run g.NoMemory a b c steady greets = steady_since a b c steady greets

-- the wire's counts where only the front was read
pub steady_front : {W : Type 0} (x y : VisitorView W) (front : Option Frame) → y ≡ record x { front = front } → IsSteady x.counts y.counts
steady_front x y front is = record { faults = ap (λ v. v.counts.faults) is; ends = ap (λ v. v.counts.ends) is }
