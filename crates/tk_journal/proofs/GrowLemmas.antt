-- How a journal grows in the turn of a taken frame: nothing more, an Assign to one, an Assign to each, or the Collects of a new round.
use Rattle.tk_journal.specs.declared.noted.Noted.TheVariants as n
use Rattle.std.proofs.Common.{◌≡◌, ℕ, suc, zero, ◌+◌, ◌≤◌, ◌<◌, ◌&&◌, ◌==◌, ℤ, true, false, not, List, [], ◌∷◌, ◌++◌, map, drop, Some, None, refl, sym, ap, ◌∙◌, subst, arith, append-nil}
use Rattle.std.specs.Prelude.{filter, is_some, nat_lt, nat_le, if◌then◌else◌}
use Rattle.std.specs.List.{range_with_len}
use Rattle.std.proofs.lemmas.Bool.{true≢false, eq-eqb, eqb-true, and_parts, ltb-true, leb-true}
use Rattle.tk_base.specs.Objects.{objects, is_in}
use Rattle.tk_base.specs.Pairs.{objects_of}
use Rattle.tk_base.specs.Settings.{Setup}
use Rattle.tk_base.specs.declared.ids.Mon.{Mon}
use Rattle.tk_base.proofs.ListLemmas.{any_in_range}
use Rattle.tk_base.proofs.MemberLemmas.{is_in-head}
use Rattle.tk_border.proofs.RisingLemmas.{Rises, is_in-filter, is_in-objects, rises-filter, rises-objects}
use Rattle.tk_frames.specs.declared.frame.Frame.{Frame}
use Rattle.tk_frames.specs.Carried.{is_numbered}
use Rattle.tk_alloc.specs.declared.reported.Reported.{Reported}
use Rattle.tk_alloc.specs.Parts.{monitor, new_factor}
use Rattle.tk_alloc.specs.Resolving.{round_parts}
use Rattle.tk_journal.specs.Laws.{IsMonitor}
use Rattle.tk_journal.specs.Readings.{monitors, assigns_sent, in_force, table_at, members_at, is_open, last_round, asked_of, values_of, waits_for}
use Rattle.tk_journal.specs.Deciding.{Decided, reports_at, short_decides}
use Rattle.tk_journal.specs.Refusal.{refusal_of, is_report}
use Rattle.tk_journal.specs.Turns.{reported, short_at, full_at, wide_at, rounds, collects, wide_collects, assigns, demanded}
use Rattle.tk_journal.specs.declared.noted.Noted.{Noted}
use Rattle.tk_journal.proofs.Pieces.{got_round}
use Rattle.tk_journal.proofs.Batches.{collects_round}
use Rattle.tk_journal.proofs.Counting.{AreCounted}
use Rattle.tk_journal.proofs.Orderly.{IsOrderly, IsEnding, Row, sends, assigns_got, full_nodes, wide_nodes, orderly_got, others_of}
use Rattle.tk_journal.proofs.Sound.{new_asked, new_values}
use Rattle.tk_journal.proofs.SoundLemmas.{waiting}
use Rattle.tk_journal.proofs.Turning.{closed_got, values_ending}
use Rattle.tk_journal.specs.Shapes.{IsFreshReport, IsLastValues, Shape}
use Rattle.tk_journal.specs.Shapes.Shape.{Plain, Short, Wide, Full, LoneEnd, LoneWide, EndFull, EndOver, EndWide}
use Rattle.tk_journal.proofs.ShapeLemmas.{shape}

abbrev pub with_got : List Noted → Mon → Frame → List Noted
with_got before from frame = before ++ n.Got from frame ∷ []

-- why an Assign goes to each: the one monitor has reported, or the last Values came
pub data Cause (s : Setup) (before : List Noted) (from : Mon) (frame : Frame) : Type 0 where
  ByReport : (border : ℤ) (failed : List ℕ) (values : List (ℕ × ℤ)) → s.monitors ≡ 1 → IsFreshReport s before from frame border failed values → Cause s before from frame
  ByValues : IsLastValues s before from frame → Cause s before from frame

pub data Grows (s : Setup) (before : List Noted) (from : Mon) (frame : Frame) (after : List Noted) : Type 0 where
  Nothing : after ≡ with_got before from frame → is_open s (with_got before from frame) ≡ is_open s before
      → (is_numbered (assigns_sent from.0 before) frame ≡ true → is_report (Some frame) ≡ true → is_open s before ≡ true) → Grows s before from frame after
  ToOne : (members : List ℕ) (row : Row) (border : ℤ) (failed : List ℕ) (values : List (ℕ × ℤ)) → IsFreshReport s before from frame border failed values → row.0 ≡ from.0 → is_open s before ≡ false → is_open s (with_got before from frame) ≡ false
      → after ≡ with_got before from frame ++ sends (with_got before from frame) members (row ∷ []) → Grows s before from frame after
  ToAll : (members : List ℕ) (rows : List Row) → Cause s before from frame → map (λ (d : Row). d.0) rows ≡ range_with_len 1 s.monitors → is_open s (with_got before from frame) ≡ false
      → after ≡ with_got before from frame ++ sends (with_got before from frame) members rows → Grows s before from frame after
  Asks : (round : ℕ) (asked : List ℕ) (q : ℕ) (mons : List ℕ) → Rises 0 (q ∷ mons) → is_open s (with_got before from frame) ≡ false → last_round (with_got before from frame) < round
      → after ≡ with_got before from frame ++ collects round asked (q ∷ mons) → is_open s after ≡ true → Grows s before from frame after

-- ---- a round that is asked for is open

pub asks_open : (s : Setup) (j : List Noted) (round : ℕ) (asked : List ℕ) (q : ℕ) (mons : List ℕ) → IsMonitor s q → AreCounted s j → last_round j < round → is_open s (j ++ collects round asked (q ∷ mons)) ≡ true
unfolding is_open waits_for
asks_open s j round asked q mons m c new =
    let after = j ++ collects round asked (q ∷ mons) in
    let last : last_round after ≡ round = collects_round j round asked q mons in
    any_in_range (λ mon. is_some (asked_of (last_round after) mon after) && not (is_some (values_of (last_round after) mon after))) 1 s.monitors q m.from_one (let w = m.within in omega (arith, w))
    (waiting (asked_of (last_round after) q after) (values_of (last_round after) q after) asked
    (ap (λ r. asked_of r q after) last ∙ new_asked s j round asked (q ∷ mons) q c new ∙ ap (λ b. if b then Some asked else None) (is_in-head q mons))
    (ap (λ r. values_of r q after) last ∙ new_values s j round asked (q ∷ mons) q c new))

-- what the catalogue has lies between 1 and its size
pub in_catalogue : (m q : ℕ) → is_in (objects m) q ≡ true → (1 ≤ q) × (q ≤ m)
in_catalogue m q in' = let both = and_parts (nat_lt 0 q) (nat_le q m) (sym (is_in-objects m q) ∙ in') in (ltb-true 0 q both.0, leb-true q m both.1)

-- the first of the others is a monitor
pub other_monitor : (s : Setup) (k mon : ℕ) → s.monitors ≡ suc (suc k) → IsMonitor s (others_of k mon).0
unfolding objects
other_monitor s k mon two =
    let o = others_of k mon in
    let here : is_in (filter (λ m. not (m == mon)) (range_with_len 1 (suc (suc k)))) o.0 ≡ true = ap (λ xs. is_in xs o.0) o.2 ∙ is_in-head o.0 o.1 in
    let both = and_parts (is_in (range_with_len 1 (suc (suc k))) o.0) (not (o.0 == mon)) (sym (is_in-filter (λ m. not (m == mon)) (range_with_len 1 (suc (suc k))) o.0) ∙ here) in
    let range = in_catalogue (suc (suc k)) o.0 both.0 in
    record { from_one = range.0; within = (let w = range.1 in omega (arith, w, two)) }

pub range_rises : (n : ℕ) → Rises 0 (range_with_len 1 n)
unfolding objects
range_rises n = rises-objects n

-- ---- the shapes

short_row : (s : Setup) (before : List Noted) (report : Reported) → (row : Row) × (drop 1 (short_at s before report).dealt ≡ row ∷ []) × (row.0 ≡ report.mon.0)
unfolding short_decides
short_row s before report =
    let parts = round_parts (in_force s before) (table_at s before) (members_at before) (members_at before) (objects_of report.values) (report ∷ []) in
    ((report.mon.0, map (λ o. (o, new_factor (table_at s before) parts 1 (monitor report.border report) o)) (objects_of report.values)), refl, refl)

pub ending_of : (s : Setup) (before : List Noted) (from : Mon) (frame : Frame) → IsMonitor s from.0 → refusal_of s before from.0 frame ≡ None → IsOrderly s before → IsLastValues s before from frame
    → IsEnding s (with_got before from frame) (reports_at s (with_got before from frame))
ending_of s before from frame range none o v =
    subst (λ (g : Frame). refusal_of s before from.0 g ≡ None → is_open s (with_got before from g) ≡ false → IsEnding s (with_got before from g) (reports_at s (with_got before from g))) (sym v.is)
    (λ none' closed'. values_ending s before from v.round (assigns_sent from.0 before) v.border v.values range none' o closed') none v.closed

-- Collects to all
asks_all : (s : Setup) (before : List Noted) (from : Mon) (frame : Frame) (k round : ℕ) (demands : List Noted) → s.monitors ≡ suc k → IsOrderly s (with_got before from frame) → is_open s (with_got before from frame) ≡ false
    → last_round (with_got before from frame) < round → demands ≡ wide_collects s round → Grows s before from frame (with_got before from frame ++ demands)
asks_all s before from frame k round demands some o closed new e =
    let now = with_got before from frame in
    let is : now ++ demands ≡ now ++ collects round (objects s.objects) (1 ∷ range_with_len (1 + 1) k) = ap (λ xs. now ++ xs) (e ∙ ap (λ xs. collects round (objects s.objects) xs) (ap (range_with_len 1) some)) in
    Asks round (objects s.objects) 1 (range_with_len (1 + 1) k) (range_rises (suc k)) closed new is
    (ap (is_open s) is ∙ asks_open s now round (objects s.objects) 1 (range_with_len (1 + 1) k) (record { from_one = omega arith; within = omega (arith, some) }) o.counted new)

-- Assigns to all
sends_all : (s : Setup) (before : List Noted) (from : Mon) (frame : Frame) → Cause s before from frame → (demands : List Noted) (decided : Decided) (reports : List Reported) → demands ≡ assigns (with_got before from frame) decided
    → map (λ (d : Row). d.0) (drop 1 decided.dealt) ≡ map (λ (r : Reported). r.mon.0) reports → map (λ (r : Reported). r.mon.0) reports ≡ range_with_len 1 s.monitors → is_open s (with_got before from frame) ≡ false
    → Grows s before from frame (with_got before from frame ++ demands)
sends_all s before from frame cause demands decided reports e nodes all closed = ToAll decided.members (drop 1 decided.dealt) cause (nodes ∙ all) closed (ap (λ xs. with_got before from frame ++ xs) e)

asks_others : (s : Setup) (before : List Noted) (from : Mon) (frame : Frame) (k round : ℕ) (asked : List ℕ) (demands : List Noted) → s.monitors ≡ suc k → (s.monitors == 1) ≡ false → IsOrderly s (with_got before from frame)
    → is_open s (with_got before from frame) ≡ false → last_round (with_got before from frame) < round → demands ≡ collects round asked (filter (λ mon. not (mon == from.0)) (monitors s)) → Grows s before from frame (with_got before from frame ++ demands)
asks_others s before from frame zero round asked demands some lone o closed new e = absurd (true≢false (sym (eq-eqb s.monitors 1 some) ∙ lone))
asks_others s before from frame (suc k) round asked demands some lone o closed new e =
    let now = with_got before from frame in
    let others = others_of k from.0 in
    let list : filter (λ mon. not (mon == from.0)) (monitors s) ≡ others.0 ∷ others.1 = ap (λ m. filter (λ mon. not (mon == from.0)) (range_with_len 1 m)) some ∙ others.2 in
    let is : now ++ demands ≡ now ++ collects round asked (others.0 ∷ others.1) = ap (λ xs. now ++ xs) (e ∙ ap (λ xs. collects round asked xs) list) in
    Asks round asked others.0 others.1 (subst (λ xs. Rises 0 xs) others.2 (rises-filter (λ m. not (m == from.0)) 0 (range_with_len 1 (suc (suc k))) (range_rises (suc (suc k))))) closed new is (ap (is_open s) is ∙ asks_open s now round asked others.0 others.1 (other_monitor s k from.0 some) o.counted new)

grow_by : (s : Setup) (before : List Noted) (from : Mon) (frame : Frame) (k : ℕ) (demands : List Noted) → s.monitors ≡ suc k → IsMonitor s from.0 → refusal_of s before from.0 frame ≡ None → IsOrderly s before → Shape s before from frame demands
    → Grows s before from frame (with_got before from frame ++ demands)
grow_by s before from frame k demands some range none o (Plain e fails same resting) = Nothing (ap (λ xs. with_got before from frame ++ xs) e ∙ append-nil (with_got before from frame)) same resting
grow_by s before from frame k demands some range none o (Short border failed values r passes within e) =
    let now = with_got before from frame in
    let decided = short_at s before (reported from.0 border values) in
    let row = short_row s before (reported from.0 border values) in
    ToOne decided.members row.0 border failed values r row.2 r.closed (closed_got s before from frame r.closed) (ap (λ xs. now ++ xs) (e ∙ assigns_got before from frame decided ∙ ap (λ (xs : List Row). sends now decided.members xs) row.1))
grow_by s before from frame k demands some range none o (Wide border failed values r e) =
    asks_all s before from frame k (rounds s before + 1) demands some (orderly_got s before from frame none o) (closed_got s before from frame r.closed) (let a = got_round before from frame in let b = o.counted.last in omega (arith, a, b)) e
grow_by s before from frame k demands some range none o (Full border failed values r fails few lone e) =
    asks_others s before from frame k (rounds s before + 1) (objects_of values) demands some lone (orderly_got s before from frame none o) (closed_got s before from frame r.closed) (let a = got_round before from frame in let b = o.counted.last in omega (arith, a, b)) e
grow_by s before from frame k demands some range none o (LoneEnd border failed values r fails few lone within e) =
    let decided = full_at s before (reported from.0 border values ∷ []) in
    let one : s.monitors ≡ 1 = eqb-true s.monitors 1 lone in
    let own : from.0 ≡ 1 = (let a = range.from_one in let b = range.within in omega (arith, a, b, one)) in
    sends_all s before from frame (ByReport border failed values one r) demands decided (reported from.0 border values ∷ []) (e ∙ assigns_got before from frame decided) (full_nodes s before (reported from.0 border values ∷ [])) (ap (λ q. q ∷ []) own ∙ ap (range_with_len 1) (sym one))
    (closed_got s before from frame r.closed)
grow_by s before from frame k demands some range none o (LoneWide border failed values r fails few lone e) =
    asks_all s before from frame k (rounds s before + 1 + 1) demands some (orderly_got s before from frame none o) (closed_got s before from frame r.closed) (let a = got_round before from frame in let b = o.counted.last in omega (arith, a, b)) e
grow_by s before from frame k demands some range none o (EndFull v full within e) =
    let now = with_got before from frame in
    sends_all s before from frame (ByValues v) demands (full_at s now (reports_at s now)) (reports_at s now) e (full_nodes s now (reports_at s now)) (ending_of s before from frame range none o v).all v.closed
grow_by s before from frame k demands some range none o (EndOver v full e) =
    let after = orderly_got s before from frame none o in
    asks_all s before from frame k (rounds s (with_got before from frame) + 1) demands some after v.closed (let b = after.counted.last in omega (arith, b)) e
grow_by s before from frame k demands some range none o (EndWide v wide e) =
    let now = with_got before from frame in
    sends_all s before from frame (ByValues v) demands (wide_at s now (reports_at s now)) (reports_at s now) e (wide_nodes s now (reports_at s now)) (ending_of s before from frame range none o v).all v.closed

pub grows : (s : Setup) (before : List Noted) (from : Mon) (frame : Frame) (k : ℕ) → s.monitors ≡ suc k → IsMonitor s from.0 → refusal_of s before from.0 frame ≡ None → IsOrderly s before
    → Grows s before from frame (with_got before from frame ++ demanded s before from.0 frame)
grows s before from frame k some range none o = grow_by s before from frame k (demanded s before from.0 frame) some range none o (shape s before from frame range none)
