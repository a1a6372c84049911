-- What one more entry of a journal adds to the counts of a monitor, and how great the counts can be.
use Rattle.std.proofs.Common.{◌≡◌, ℕ, ◌+◌, ◌-◌, ◌^◌, ◌≤◌, ◌<◌, Bool, false, cond, List, [], ◌∷◌, ◌++◌, length, take, drop, get_or, Option, Some, None, refl, ap, sym, ◌∙◌, arith, count_by, map, inl, inr}
use Rattle.std.specs.Prelude.{slice_index_or}
use Rattle.std.specs.List.{cons_option, range_with_len}
use Rattle.std.proofs.lemmas.Bool.{cases_lt}
use Rattle.std.proofs.lemmas.List.{append-nil, take_more, take_all, take-append-le, ext_get_or, get_or_past}
use Rattle.std.proofs.lemmas.List.Elements.{filter_map-append}
use Rattle.std.proofs.lemmas.List.FromFn.{get_or-map-range_with_len, length-map-range_with_len}
use Rattle.std.proofs.lemmas.List.Sums.{count_by-le-length, sum_by_push}
use Rattle.tk_frames.specs.Carried.{is_collect, is_values}
use Rattle.tk_frames.specs.Frame.{kind_of}
use Rattle.tk_frames.specs.declared.frame.Frame.{Frame}
use Rattle.tk_frames.specs.declared.frame.Frame.TheVariants as f
use Rattle.tk_frames.specs.declared.kind.Kind.{Kind}
use Rattle.tk_frames.specs.declared.kind.Kind.TheVariants as k
use Rattle.tk_journal.specs.declared.noted.Noted.{Noted}
use Rattle.tk_ledger.specs.Counting.{HasRoom, count_of, none, with_one, with_passed}
use Rattle.tk_ledger.specs.Ledger.{counts_of, frames_at, is_assign, is_report, is_settled, is_stop, passed_at}
use Rattle.tk_ledger.specs.declared.counts.Counts.{Counts}

-- counts are the same where each is
pub same_counts : (a b : Counts) → a.assign ≡ b.assign → a.report ≡ b.report → a.collect ≡ b.collect → a.values ≡ b.values → a.settled ≡ b.settled → a.stop ≡ b.stop → a ≡ b
same_counts a b assign report collect values settled stop =
    ap (λ (x : ℕ). record a { assign = x }) assign
    ∙ ap (λ (x : ℕ). record a { assign = b.assign; report = x }) report
    ∙ ap (λ (x : ℕ). record a { assign = b.assign; report = b.report; collect = x }) collect
    ∙ ap (λ (x : ℕ). record b { values = x; settled = a.settled; stop = a.stop }) values
    ∙ ap (λ (x : ℕ). record b { settled = x; stop = a.stop }) settled
    ∙ ap (λ (x : ℕ). record b { stop = x }) stop

-- a frame behind others is counted where it is of the kind
counted : (p : Frame → Bool) (frames : List Frame) (frame : Frame) → count_by p (frames ++ frame ∷ []) ≡ count_by p frames + cond (p frame) 1 0
counted p frames frame = sum_by_push (λ x. cond (p x) 1 0) frames frame

left : (p : Frame → Bool) (frames : List Frame) (frame : Frame) → p frame ≡ false → count_by p (frames ++ frame ∷ []) ≡ count_by p frames
left p frames frame other =
    let one : Bool → ℕ = λ b. cond b 1 0 in
    omega (arith, counted p frames frame, ap one other)

-- a frame behind others is counted under its kind
counts-push : (frames : List Frame) (frame : Frame) → counts_of (frames ++ frame ∷ []) ≡ with_one (counts_of frames) (kind_of frame)
counts-push frames (f.Hello run version mon) =
    let x = f.Hello run version mon in
    same_counts _ _ (left is_assign frames x refl) (left is_report frames x refl) (left is_collect frames x refl) (left is_values frames x refl) (left is_settled frames x refl) (left is_stop frames x refl)
counts-push frames (f.Report seq border failed values) =
    let x = f.Report seq border failed values in
    same_counts _ _ (left is_assign frames x refl) (counted is_report frames x) (left is_collect frames x refl) (left is_values frames x refl) (left is_settled frames x refl) (left is_stop frames x refl)
counts-push frames (f.Collect round objects) =
    let x = f.Collect round objects in
    same_counts _ _ (left is_assign frames x refl) (left is_report frames x refl) (counted is_collect frames x) (left is_values frames x refl) (left is_settled frames x refl) (left is_stop frames x refl)
counts-push frames (f.Values round seq border values) =
    let x = f.Values round seq border values in
    same_counts _ _ (left is_assign frames x refl) (left is_report frames x refl) (left is_collect frames x refl) (counted is_values frames x) (left is_settled frames x refl) (left is_stop frames x refl)
counts-push frames (f.Assign seq members changes) =
    let x = f.Assign seq members changes in
    same_counts _ _ (counted is_assign frames x) (left is_report frames x refl) (left is_collect frames x refl) (left is_values frames x refl) (left is_settled frames x refl) (left is_stop frames x refl)
counts-push frames (f.Settled seq last places) =
    let x = f.Settled seq last places in
    same_counts _ _ (left is_assign frames x refl) (left is_report frames x refl) (left is_collect frames x refl) (left is_values frames x refl) (counted is_settled frames x) (left is_stop frames x refl)
counts-push frames f.Stop =
    same_counts _ _ (left is_assign frames f.Stop refl) (left is_report frames f.Stop refl) (left is_collect frames f.Stop refl) (left is_values frames f.Stop refl) (left is_settled frames f.Stop refl) (counted is_stop frames f.Stop)

counts_passed : (frames : List Frame) (passed : Option Frame) → counts_of (frames ++ cons_option passed []) ≡ with_passed (counts_of frames) passed
counts_passed frames None = ap counts_of (append-nil frames)
counts_passed frames (Some frame) = counts-push frames frame

-- one more entry adds the frame that it passes
pub counts_more : (mon : ℕ) (journal : List Noted) (i : ℕ) (entry : Noted) → i < length journal → entry ≡ get_or journal i entry
    → counts_of (frames_at mon (take (i + 1) journal)) ≡ with_passed (counts_of (frames_at mon (take i journal))) (passed_at mon entry)
counts_more mon journal i entry within at =
    let more : take (i + 1) journal ≡ take i journal ++ entry ∷ [] = take_more journal i entry within ∙ ap (λ (e : Noted). take i journal ++ e ∷ []) (sym at) in
    ap (λ (j : List Noted). counts_of (frames_at mon j)) more
    ∙ ap counts_of (filter_map-append (passed_at mon) (take i journal) (entry ∷ []))
    ∙ counts_passed (frames_at mon (take i journal)) (passed_at mon entry)

-- ---- how great

cons_few : (passed : Option Frame) (frames : List Frame) (n : ℕ) → length frames ≤ n → length (cons_option passed frames) ≤ 1 + n
cons_few None frames n few = omega (arith, few)
cons_few (Some frame) frames n few = omega (arith, few)

frames_few : (mon : ℕ) (journal : List Noted) → length (frames_at mon journal) ≤ length journal
frames_few mon [] = omega arith
frames_few mon (e ∷ journal) = let few = cons_few (passed_at mon e) (frames_at mon journal) (length journal) (frames_few mon journal) in omega (arith, few)

count_few : (kind : Kind) (frames : List Frame) → count_of kind (counts_of frames) ≤ length frames
count_few k.Assign frames = count_by-le-length is_assign frames
count_few k.Report frames = count_by-le-length is_report frames
count_few k.Collect frames = count_by-le-length is_collect frames
count_few k.Values frames = count_by-le-length is_values frames
count_few k.Settled frames = count_by-le-length is_settled frames
count_few k.Stop frames = count_by-le-length is_stop frames
count_few k.Hello frames = omega arith

none_few : (kind : Kind) → count_of kind none ≡ 0
none_few k.Assign = refl
none_few k.Report = refl
none_few k.Collect = refl
none_few k.Values = refl
none_few k.Settled = refl
none_few k.Stop = refl
none_few k.Hello = refl

-- the counts of each monitor over the first entries of a journal
abbrev pub AreCounted : List Counts → ℕ → List Noted → Type 0
AreCounted per monitors journal = (i : ℕ) → i < monitors → slice_index_or per i none ≡ counts_of (frames_at (i + 1) journal)

-- over few entries each count can take one more
pub room : (per : List Counts) (monitors : ℕ) (journal : List Noted) → length per ≡ monitors → AreCounted per monitors journal → length journal < 2 ^ 64 - 1
    → (i : ℕ) → HasRoom (slice_index_or per i none)
room per monitors journal size counted few i = elim (cases_lt i monitors) as (λ _. HasRoom (slice_index_or per i none)) [
  | inl within ↦ record { each = λ kind. omega (arith, ap (count_of kind) (counted i within), count_few kind (frames_at (i + 1) journal), frames_few (i + 1) journal, few) }
  | inr past ↦ record { each = λ kind. omega (arith, ap (count_of kind) (get_or_past per i none (omega (arith, size, past))), none_few kind) }
]

-- what is written through a slice of all is all there is
pub written_back : (new old : List Counts) (size : ℕ) → length new ≡ size → length old ≡ size → take size (new ++ drop (length new) old) ≡ new
written_back new old size is was =
    let all : take size new ≡ new = take_all size new (omega (arith, is)) in
    take-append-le size new (drop (length new) old) (omega (arith, is)) ∙ all

-- counts that agree at each monitor are the counts of all
pub counted_all : (per : List Counts) (monitors : ℕ) (journal : List Noted) → length per ≡ monitors → AreCounted per monitors journal
    → per ≡ map (λ mon. counts_of (frames_at mon journal)) (range_with_len 1 monitors)
counted_all per monitors journal size counted =
    let at : ℕ → Counts = λ mon. counts_of (frames_at mon journal) in
    ext_get_or none per (map at (range_with_len 1 monitors)) (size ∙ sym (length-map-range_with_len at 1 monitors)) (λ i within.
    let inside : i < monitors = omega (arith, size, within) in
    counted i inside ∙ sym (get_or-map-range_with_len at 1 monitors i (i + 1) none inside (omega arith)))
