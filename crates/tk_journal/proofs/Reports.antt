-- The reports to a round.
use Rattle.std.proofs.Common.{◌≡◌, ℕ, suc, zero, Bool, true, false, ◌+◌, ◌≤◌, ◌<◌, ◌==◌, List, [], ◌∷◌, map, Option, Some, None, refl, ap, ◌∙◌, subst, arith, inl, inr}
use Rattle.std.specs.Prelude.{fold, is_some, if◌then◌else◌}
use Rattle.std.specs.List.{filter_map, list_any, cons_option, range_with_len}
use Rattle.std.proofs.lemmas.Bool.{cases_eq, or_parts}
use Rattle.tk_base.specs.Settings.{Setup}
use Rattle.tk_frames.specs.declared.frame.Frame.{Frame}
use Rattle.tk_frames.specs.declared.frame.Frame.TheVariants as f
use Rattle.tk_alloc.specs.declared.reported.Reported.{Reported}
use Rattle.tk_journal.specs.Laws.{IsMonitor}
use Rattle.tk_journal.specs.Links.{frames_from}
use Rattle.tk_journal.specs.Readings.{answer_of, last_round, asked_of, values_of, values_for, waits_for, is_open}
use Rattle.tk_journal.specs.Deciding.{report_of, answered_report}
use Rattle.tk_journal.specs.declared.noted.Noted.{Noted}

abbrev pub Gives : {B : Type 0} → (B → Type 0) → Option B → Type 0
Gives {B} P o = (y : B) → o ≡ Some y → P y

-- what holds of everything that a reading finds holds of the last that it finds
last_step : {B : Type 0} (P : B → Type 0) (ys : List B) (o start : Option B) → Gives P start → Gives P o
    → ((first : Option B) → Gives P first → Gives P (fold (λ _ e. Some e) first ys)) → Gives P (fold (λ _ e. Some e) start (cons_option o ys))
last_step P ys None start ok here rest = rest start ok
last_step P ys (Some y) start ok here rest = rest (Some y) here

pub last_gives : {A B : Type 0} (P : B → Type 0) (h : A → Option B) (xs : List A) → ((x : A) → Gives P (h x)) → (start : Option B) → Gives P start
    → Gives P (fold (λ _ e. Some e) start (filter_map h xs))
last_gives P h [] each start ok = ok
last_gives P h (x ∷ xs) each start ok = last_step P (filter_map h xs) (h x) start ok (each x) (last_gives P h xs each)

pub none_gives : {B : Type 0} (P : B → Type 0) → Gives P None
none_gives P y e = cc

pub if_gives : {B : Type 0} (P : B → Type 0) (b : Bool) (x : B) → P x → Gives P (if b then Some x else None)
if_gives P true x p y e = let same : x ≡ y = cc in subst P same p
if_gives P false x p y e = cc

values_named : (round mon : ℕ) (frame : Frame) → Gives (λ r. r.mon.0 ≡ mon) (values_for round mon frame)
values_named round mon (f.Hello run version m) = none_gives (λ r. r.mon.0 ≡ mon)
values_named round mon (f.Report seq border failed values) = none_gives (λ r. r.mon.0 ≡ mon)
values_named round mon (f.Collect r asked) = none_gives (λ r. r.mon.0 ≡ mon)
values_named round mon (f.Values r seq border values) = if_gives (λ r. r.mon.0 ≡ mon) (r == round) (record { mon = record { 0 = mon }; values = values; border = border }) refl
values_named round mon (f.Assign seq members changes) = none_gives (λ r. r.mon.0 ≡ mon)
values_named round mon (f.Settled seq last places) = none_gives (λ r. r.mon.0 ≡ mon)
values_named round mon f.Stop = none_gives (λ r. r.mon.0 ≡ mon)

report_named : (mon : ℕ) (answer : Option Frame) → Gives (λ r. r.mon.0 ≡ mon) (answered_report mon answer)
report_named mon None = none_gives (λ r. r.mon.0 ≡ mon)
report_named mon (Some (f.Hello run version m)) = none_gives (λ r. r.mon.0 ≡ mon)
report_named mon (Some (f.Report seq border failed values)) = if_gives (λ r. r.mon.0 ≡ mon) true (record { mon = record { 0 = mon }; values = values; border = border }) refl
report_named mon (Some (f.Collect r asked)) = none_gives (λ r. r.mon.0 ≡ mon)
report_named mon (Some (f.Values r seq border values)) = none_gives (λ r. r.mon.0 ≡ mon)
report_named mon (Some (f.Assign seq members changes)) = none_gives (λ r. r.mon.0 ≡ mon)
report_named mon (Some (f.Settled seq last places)) = none_gives (λ r. r.mon.0 ≡ mon)
report_named mon (Some f.Stop) = none_gives (λ r. r.mon.0 ≡ mon)

choice_named : {B : Type 0} (P : B → Type 0) (b : Bool) (x y : Option B) → Gives P x → Gives P y → Gives P (if b then x else y)
choice_named P true x y p q = p
choice_named P false x y p q = q

-- a report is of the monitor that it is read for
pub named_report : (mon : ℕ) (j : List Noted) → Gives (λ r. r.mon.0 ≡ mon) (report_of mon j)
unfolding report_of values_of
named_report mon j =
    choice_named (λ r. r.mon.0 ≡ mon) (is_some (asked_of (last_round j) mon j)) (values_of (last_round j) mon j) (answered_report mon (answer_of mon j))
    (last_gives (λ r. r.mon.0 ≡ mon) (values_for (last_round j) mon) (frames_from mon j) (values_named (last_round j) mon) None (none_gives (λ r. r.mon.0 ≡ mon)))
    (report_named mon (answer_of mon j))

-- ---- where each monitor has reported, the reports are of all monitors

abbrev pub IsThere : {B : Type 0} → Option B → Type 0
IsThere {B} o = (y : B) × (o ≡ Some y)

there_more : (reports : List Reported) (o : Option Reported) (y : Reported) (mon : ℕ) (rest : List ℕ) → o ≡ Some y → Gives (λ r. r.mon.0 ≡ mon) o → map (λ r. r.mon.0) reports ≡ rest
    → map (λ r. r.mon.0) (cons_option o reports) ≡ mon ∷ rest
there_more reports o y mon rest is named e = ap (λ x. map (λ (r : Reported). r.mon.0) (cons_option x reports)) is ∙ ap (λ z. z ∷ map (λ (r : Reported). r.mon.0) reports) (named y is) ∙ ap (λ zs. mon ∷ zs) e

pub all_there : (j : List Noted) (a k : ℕ) → ((mon : ℕ) → a ≤ mon → mon < a + k → IsThere (report_of mon j))
    → map (λ r. r.mon.0) (filter_map (λ mon. report_of mon j) (range_with_len a k)) ≡ range_with_len a k
all_there j a zero each = refl
all_there j a (suc k) each =
    let here = each a (omega arith) (omega arith) in
    there_more (filter_map (λ mon. report_of mon j) (range_with_len (a + 1) k)) (report_of a j) here.0 a (range_with_len (a + 1) k) here.1 (named_report a j)
    (all_there j (a + 1) k (λ mon low high. each mon (omega (arith, low)) (omega (arith, high))))

-- ---- an open round

pub in_range_any : (p : ℕ → Bool) (a k mon : ℕ) → a ≤ mon → mon < a + k → list_any p (range_with_len a k) ≡ false → p mon ≡ false
in_range_any p a zero mon low high none = absurd (omega (arith, low, high))
in_range_any p a (suc k) mon low high none =
    let split = or_parts (p a) (list_any p (range_with_len (a + 1) k)) none in
    elim (cases_eq mon a) [
      | inl e ↦ ap p e ∙ split.0
      | inr ne ↦ in_range_any p (a + 1) k mon (omega (arith, low, ne)) (omega (arith, high)) split.1
    ]

-- a round that is not open waits for nobody
pub closed_waits : (s : Setup) (j : List Noted) → is_open s j ≡ false → (mon : ℕ) → IsMonitor s mon → waits_for (last_round j) mon j ≡ false
unfolding is_open
closed_waits s j closed mon r = in_range_any (λ q. waits_for (last_round j) q j) 1 s.monitors mon r.from_one (omega (arith, r.within)) closed
