-- Settlings are short.
use Rattle.std.proofs.Common.{◌≡◌, ℕ, suc, zero, ◌+◌, ◌-◌, ◌*◌, ◌<◌, ◌≤◌, Bool, true, false, List, [], ◌∷◌, ◌++◌, length, map, Option, Some, None, refl, sym, ap, ◌∙◌, subst, arith, le_refl}
use Rattle.std.specs.Prelude.{◌==◌, filter, if◌then◌else◌}
use Rattle.std.specs.List.{list_all, range_with_len, sum}
use Rattle.std.proofs.lemmas.Bool.{and_parts, eqb-true, false≢true}
use Rattle.std.proofs.lemmas.List.Sums.{sum_by-cons}
use Rattle.tk_base.specs.declared.ids.Mon.{Mon}
use Rattle.tk_frames.specs.declared.frame.Frame.{Frame}
use Rattle.tk_journal.specs.Laws.{IsMonitor}
use Rattle.tk_journal.specs.Legal.{start}
use Rattle.tk_journal.specs.Links.{frames_from, frames_to}
use Rattle.tk_journal.specs.Readings.{is_open}
use Rattle.tk_journal.specs.Deciding.{reports_at}
use Rattle.tk_journal.specs.Turns.{demanded, fails_at, full_at, reported, rounds, short_at, wide_at}
use Rattle.tk_trail.specs.Readings.{sent_by, taken_by}
use Rattle.tk_drain.specs.Energy.{Local, energy, local_energy, shared_energy}
use Rattle.tk_drain.specs.Moves.{energy_of_all, all_present, any_strained, rounds_left, shared_of}
use Rattle.tk_journal.specs.Shapes.{Shape}
use Rattle.tk_journal.specs.Shapes.Shape.{Plain, Short, Wide, Full, LoneEnd, LoneWide, EndFull, EndOver, EndWide}
use Rattle.tk_story.proofs.FewLemmas.{few_up, few_down}
use Rattle.tk_journal.proofs.GrowLemmas.{with_got}
use Rattle.tk_drain.proofs.MoveLemmas.{checks_fall, left_most, lessens_by, lowers_by, takes_fall}
use Rattle.tk_journal.proofs.ShapeLemmas.{shape}
use Rattle.tk_input.specs.declared.event.Event.{Event}
use Rattle.tk_world.specs.Events.{after, is_monitor, moved, next_down, next_of, with_trail, check_at, down_at}
use Rattle.tk_input.specs.declared.event.Event.TheVariants.{Raise, Check, Up, Down, Retune}
use Rattle.tk_story.specs.Story.{IsStory, StoryView, setup_of, trail_of}
use Rattle.tk_trail.specs.Frames.{due_at}
use Rattle.tk_trail.specs.Legal.{after_take}
use Rattle.tk_trail.specs.declared.entry.Entry.TheVariants.{Sent}
use Rattle.tk_story.proofs.QuietLemmas.{joined}
use Rattle.tk_world.proofs.StepLemmas.{next_is_story, mapped_some, guarded}
use Rattle.tk_journal.proofs.Counting.{got_count}
use Rattle.tk_drain.specs.Reads.{local_of, readings}
use Rattle.tk_drain.specs.Settling.{CostsEnergy, energy_of, events_of, is_settling, monitor_of}
use Rattle.tk_drain.proofs.ReadLemmas.{local_own}
use Rattle.tk_drain.proofs.TurnReads.{Turning, turned}
use Rattle.tk_drain.proofs.TrailFalls.{check_fits, down_fits}
use Rattle.tk_drain.proofs.AssignFalls.{values_pass}
use Rattle.tk_drain.proofs.ShortFalls.{passes_no_fail}
use Rattle.tk_drain.proofs.RoundLemmas.{assigned_rounds, full_rounds, got_none, is_lone, nothing_rounds, wide_rounds}
use Rattle.tk_drain.proofs.UpFalls.{fits_by, fits_fall, up_step}

plus_none : (n : ℕ) → n ≡ n + 0
plus_none n = omega arith

rounds_by : (s : StoryView) (from : Mon) (frame : Frame) (t : Turning s from frame) (h : Shape s.settings s.journal from frame (demanded s.settings s.journal from.0 frame))
    → rounds s.settings (turned s from frame).journal ≡ rounds s.settings s.journal + (fits_by s from frame t h).opened
unfolding fits_by
rounds_by s from frame t (Plain e fails same resting) = nothing_rounds s from frame e ∙ got_none s from frame t fails ∙ plus_none (rounds s.settings s.journal)
rounds_by s from frame t (Short border failed values r passes within e) =
    assigned_rounds s from frame s.journal (short_at s.settings s.journal (reported from.0 border values)) e
    ∙ got_none s from frame t (ap (λ g. fails_at s.settings s.journal from.0 g) r.is ∙ passes_no_fail s.settings s.journal from.0 _ border failed values passes) ∙ plus_none (rounds s.settings s.journal)
rounds_by s from frame t (Wide border failed values r e) = wide_rounds s from frame t (rounds s.settings s.journal + 1) e
rounds_by s from frame t (Full border failed values r fails few lone e) = full_rounds s from frame t.k (rounds s.settings s.journal + 1) _ t.some lone e
rounds_by s from frame t (LoneEnd border failed values r fails few lone within e) =
    assigned_rounds s from frame s.journal (full_at s.settings s.journal (reported from.0 border values ∷ [])) e
    ∙ got_count s.settings s.journal from frame
    ∙ ap (λ b. if b then rounds s.settings s.journal + 1 else rounds s.settings s.journal) (ap (λ g. Rattle.tk_journal.specs.Turns.is_lone_full s.settings (Rattle.tk_journal.specs.Turns.kind_of s.settings s.journal from.0 g)) r.is ∙ is_lone s.settings s.journal from _ border failed values (ap (λ g. fails_at s.settings s.journal from.0 g) (sym r.is) ∙ fails) few lone)
rounds_by s from frame t (LoneWide border failed values r fails few lone e) = let a = wide_rounds s from frame t (rounds s.settings s.journal + 1 + 1) e in omega (arith, a)
rounds_by s from frame t (EndFull v full within e) = assigned_rounds s from frame (with_got s.journal from frame) (full_at s.settings (with_got s.journal from frame) (reports_at s.settings (with_got s.journal from frame))) e ∙ got_none s from frame t (values_pass s.settings s.journal from frame v) ∙ plus_none (rounds s.settings s.journal)
rounds_by s from frame t (EndOver v full e) = wide_rounds s from frame t (rounds s.settings (with_got s.journal from frame) + 1) e ∙ ap (λ n. n + 1) (got_none s from frame t (values_pass s.settings s.journal from frame v))
rounds_by s from frame t (EndWide v wide e) = assigned_rounds s from frame (with_got s.journal from frame) (wide_at s.settings (with_got s.journal from frame) (reports_at s.settings (with_got s.journal from frame))) e ∙ got_none s from frame t (values_pass s.settings s.journal from frame v) ∙ plus_none (rounds s.settings s.journal)

-- ---- each event

turn_settles : (s : StoryView) (from : Mon) (frame : Frame) → Turning s from frame → CostsEnergy s (turned s from frame) from.0
turn_settles s from frame t =
    let h = shape s.settings s.journal from frame t.monitor t.none in
    let x = fits_by s from frame t h in
    let f = fits_fall s.settings.monitors from.0 x.opened (readings s) (readings (turned s from frame)) x.fits in
    record {
      opened = x.opened;
      settings = refl;
      lowers = lowers_by s.settings.monitors from.0 x.opened (readings s) (readings (turned s from frame)) f;
      lessens = lessens_by s.settings.monitors from.0 x.opened (readings s) (readings (turned s from frame)) f;
      rounds = rounds_by s from frame t h;
    }

check_settles : (s t : StoryView) (mon : ℕ) → IsStory s → next_of s (check_at mon) ≡ Some t → CostsEnergy s t mon
unfolding next_of
check_settles s t mon h is =
    let g = guarded (is_monitor s mon) (moved s (check_at mon)) t is in
    let x = mapped_some (λ frame. with_trail s mon (trail_of s mon ++ Sent frame ∷ [])) (due_at (setup_of s mon) (trail_of s mon)) t g.1 in
    let f = checks_fall s.settings.monitors mon (readings s) (readings t) (check_fits s t mon h is) in
    record {
      opened = 0;
      settings = ap (λ (u : StoryView). u.settings) (sym x.2);
      lowers = lowers_by s.settings.monitors mon 0 (readings s) (readings t) f;
      lessens = lessens_by s.settings.monitors mon 0 (readings s) (readings t) f;
      rounds = ap (λ (u : StoryView). rounds u.settings u.journal) (sym x.2) ∙ plus_none (rounds s.settings s.journal);
    }

down_settles : (s t : StoryView) (mon : ℕ) → IsStory s → next_of s (down_at mon) ≡ Some t → CostsEnergy s t mon
unfolding next_of
down_settles s t mon h is =
    let g = guarded (is_monitor s mon) (moved s (down_at mon)) t is in
    let x = mapped_some (λ frame. with_trail s mon (after_take (setup_of s mon) (trail_of s mon) frame)) (next_down s mon) t g.1 in
    let f = takes_fall s.settings.monitors mon (readings s) (readings t) (down_fits s t mon h is) in
    record {
      opened = 0;
      settings = ap (λ (u : StoryView). u.settings) (sym x.2);
      lowers = lowers_by s.settings.monitors mon 0 (readings s) (readings t) f;
      lessens = lessens_by s.settings.monitors mon 0 (readings s) (readings t) f;
      rounds = ap (λ (u : StoryView). rounds u.settings u.journal) (sym x.2) ∙ plus_none (rounds s.settings s.journal);
    }

pub event_settles : (s t : StoryView) (e : Event) → IsStory s → is_settling e ≡ true → next_of s e ≡ Some t → CostsEnergy s t (monitor_of e)
event_settles s t (Raise mon g) h of is = absurd (false≢true of)
event_settles s t (Check mon) h of is = check_settles s t mon.0 h is
event_settles s t (Down mon) h of is = down_settles s t mon.0 h is
event_settles s t (Up mon) h of is = let u = up_step s t mon.0 h is in subst (λ x. CostsEnergy s x mon.0) u.is (turn_settles s (record { 0 = mon.0 }) u.frame u.turning)
event_settles s t (Retune tuning) h of is = absurd (false≢true of)

-- ---- bounds

shared_most : (waiting stopped : Bool) (n : ℕ) → n + (if waiting then 1 else 0) ≤ 11 → (if waiting then 4 else 0) + (if stopped then 0 else 2) + 6 * n ≤ 68
shared_most true true n h = omega (arith, h)
shared_most true false n h = omega (arith, h)
shared_most false true n h = omega (arith, h)
shared_most false false n h = omega (arith, h)

two_most : (b : Bool) → (if b then 2 else 0) ≤ 2
two_most true = omega arith
two_most false = omega arith

four_most : (b : Bool) → (if b then 0 else 4) ≤ 4
four_most true = omega arith
four_most false = omega arith

local_most : (l : Local) → l.down ≤ 3 → l.up ≤ 5 → local_energy l ≤ 19
local_most l down up = let a = two_most l.due in let b = four_most l.present in let c = two_most l.strained in omega (arith, down, up, a, b, c)

sum_most : (g : ℕ → ℕ) (c a k : ℕ) → c ≡ 87 → ((j : ℕ) → a ≤ j → j < a + k → g j ≤ 87) → sum (map g (range_with_len a k)) ≤ 87 * k
sum_most g c a zero is each = omega arith
sum_most g c a (suc k) is each =
    let here = each a (omega arith) (omega arith) in
    let rest = sum_most g c (a + 1) k is (λ j low high. each j (omega (arith, low)) (omega (arith, high))) in
    let of = sum_by-cons (λ x. x) (g a) (map g (range_with_len (a + 1) k)) in
    omega (arith, here, rest, of)

pub own_most : (s : StoryView) → IsStory s → (mon : ℕ) → IsMonitor s.settings mon → energy_of s.settings.monitors (readings s) mon ≤ 87
own_most s h mon k =
    let m = s.settings.monitors in
    let r = readings s in
    let sh = shared_of m r in
    let left = left_most r.waiting r.wide (all_present m r) (any_strained m r) r.streak in
    let shared : shared_energy sh ≤ 68 = shared_most r.waiting r.stopped (rounds_left m r) left in
    let linked = joined s h mon k in
    let own = local_own s mon k in
    let a : (local_of s mon).down ≡ length (frames_to mon s.journal) - length (taken_by (trail_of s mon)) = ap (λ (l : Local). l.down) own in
    let b : (local_of s mon).up ≡ length (sent_by (trail_of s mon)) - length (frames_from mon s.journal) = ap (λ (l : Local). l.up) own in
    let c = few_down (start s.settings) s.journal mon (setup_of s mon) (trail_of s mon) linked in
    let d = few_up (start s.settings) s.journal mon (setup_of s mon) (trail_of s mon) linked in
    let local : local_energy (local_of s mon) ≤ 19 = local_most (local_of s mon) (omega (arith, a, c)) (omega (arith, b, d)) in
    let both : shared_energy sh + local_energy (local_of s mon) ≤ 87 = omega (arith, shared, local) in
    both

pub energy_most : (s : StoryView) → IsStory s → energy_of_all s.settings.monitors (readings s) ≤ 87 * s.settings.monitors
energy_most s h =
    let m = s.settings.monitors in
    let sh = shared_of m (readings s) in
    sum_most (λ j. energy sh ((readings s).local j)) 87 1 m refl (λ mon low high. own_most s h mon (record { from_one = low; within = omega (arith, high) }))

-- ---- lists of events

more_energy : (count a b c : ℕ) → count + a ≤ b → b < c → suc count + a ≤ c
more_energy count a b c x y = omega (arith, x, y)

more_rounds : (a b c p q r o : ℕ) → a + p ≤ b + q → q + o ≤ r → b ≡ c + o → a + p ≤ c + r
more_rounds a b c p q r o x y z = omega (arith, x, y, z)

none_more : (a : ℕ) → 0 + a ≤ a
none_more a = omega arith

pub short_by : (n a b m : ℕ) → n + a ≤ b → b ≤ 87 * m → n ≤ 87 * m
short_by n a b m x y = omega (arith, x, y)

each_by : (n a b : ℕ) → n + a ≤ b → b ≤ 87 → n ≤ 87
each_by n a b x y = omega (arith, x, y)

few_by : (a p b q w : ℕ) → a + p ≤ b + q → q + w ≤ 11 → a + w ≤ b + 11
few_by a p b q w x y = omega (arith, x, y)

-- ---- lists of events

pub record IsSettled (s t : StoryView) (count : ℕ) : Type 0 where
  pub settings : t.settings ≡ s.settings
  pub energy : count + energy_of_all s.settings.monitors (readings t) ≤ energy_of_all s.settings.monitors (readings s)
  pub left : rounds t.settings t.journal + rounds_left s.settings.monitors (readings t) ≤ rounds s.settings s.journal + rounds_left s.settings.monitors (readings s)

first_then : (s u t : StoryView) (at count : ℕ) → CostsEnergy s u at → IsSettled u t count → IsSettled s t (suc count)
first_then s u t at count a b =
    let same : u.settings.monitors ≡ s.settings.monitors = ap (λ x. x.monitors) a.settings in
    let energy = subst (λ m. count + energy_of_all m (readings t) ≤ energy_of_all m (readings u)) same b.energy in
    let left = subst (λ m. rounds t.settings t.journal + rounds_left m (readings t) ≤ rounds u.settings u.journal + rounds_left m (readings u)) same b.left in
    let e = a.lessens.energy in
    let r = a.lessens.rounds in
    let c = a.rounds in
    record {
      settings = b.settings ∙ a.settings;
      energy = more_energy count (energy_of_all s.settings.monitors (readings t)) (energy_of_all s.settings.monitors (readings u)) (energy_of_all s.settings.monitors (readings s)) energy e;
      left = more_rounds (rounds t.settings t.journal) (rounds u.settings u.journal) (rounds s.settings s.journal) (rounds_left s.settings.monitors (readings t)) (rounds_left s.settings.monitors (readings u)) (rounds_left s.settings.monitors (readings s)) a.opened left r c;
    }

run_from : (s t : StoryView) (e : Event) (events : List Event) (o : Option StoryView) → next_of s e ≡ o → after o events ≡ Some t → ((u : StoryView) → next_of s e ≡ Some u → after (Some u) events ≡ Some t → IsSettled s t (suc (length events))) → IsSettled s t (suc (length events))
run_from s t e events None none is rest = absurd (cc)
run_from s t e events (Some u) some is rest = rest u some is

pub run_settles : (s t : StoryView) (events : List Event) → IsStory s → list_all is_settling events ≡ true → after (Some s) events ≡ Some t → IsSettled s t (length events)
run_settles s t [] h of is =
    let same : s ≡ t = cc in
    subst (λ u. IsSettled s u 0) same (record { settings = refl; energy = none_more (energy_of_all s.settings.monitors (readings s)); left = le_refl (rounds s.settings s.journal + rounds_left s.settings.monitors (readings s)) })
run_settles s t (e ∷ events) h of is =
    let both = and_parts (is_settling e) (list_all is_settling events) of in
    run_from s t e events (next_of s e) refl is (λ u some rest. first_then s u t (monitor_of e) (length events) (event_settles s u e h both.0 some) (run_settles u t events (next_is_story s u e h some) both.1 rest))

pub settling_is_short : (s t : StoryView) (events : List Event) → IsStory s → list_all is_settling events ≡ true → after (Some s) events ≡ Some t → length events ≤ 87 * s.settings.monitors
settling_is_short s t events h of is =
    let x = (run_settles s t events h of is).energy in
    let y = energy_most s h in
    short_by (length events) (energy_of_all s.settings.monitors (readings t)) (energy_of_all s.settings.monitors (readings s)) s.settings.monitors x y

pub few_rounds : (s t : StoryView) (events : List Event) → IsStory s → list_all is_settling events ≡ true → after (Some s) events ≡ Some t → rounds t.settings t.journal + (if is_open s.settings s.journal then 1 else 0) ≤ rounds s.settings s.journal + 11
few_rounds s t events h of is =
    let m = s.settings.monitors in
    let r = readings s in
    let left : rounds_left m r + (if is_open s.settings s.journal then 1 else 0) ≤ 11 = left_most r.waiting r.wide (all_present m r) (any_strained m r) r.streak in
    few_by (rounds t.settings t.journal) (rounds_left m (readings t)) (rounds s.settings s.journal) (rounds_left m r) (if is_open s.settings s.journal then 1 else 0) (run_settles s t events h of is).left left

-- ---- the events of one monitor

count_more : (own : Bool) (e : Event) (events : List Event) (a b c : ℕ) → length events + a ≤ b → b ≤ c → (own ≡ true → b < c) → length (if own then e ∷ events else events) + a ≤ c
count_more true e events a b c x y z = let w = z refl in omega (arith, x, w)
count_more false e events a b c x y z = omega (arith, x, y)

pub lower_from : (s t : StoryView) (e : Event) (events : List Event) (o : Option StoryView) (P : Type 0) → next_of s e ≡ o → after o events ≡ Some t → ((u : StoryView) → next_of s e ≡ Some u → after (Some u) events ≡ Some t → P) → P
lower_from s t e events None P none is rest = absurd (cc)
lower_from s t e events (Some u) P some is rest = rest u some is

pub run_lowers : (s t : StoryView) (events : List Event) (mon : ℕ) → IsStory s → IsMonitor s.settings mon → list_all is_settling events ≡ true → after (Some s) events ≡ Some t
    → events_of mon events + energy_of s.settings.monitors (readings t) mon ≤ energy_of s.settings.monitors (readings s) mon
run_lowers s t [] mon h m of is =
    let same : s ≡ t = cc in
    subst (λ u. 0 + energy_of s.settings.monitors (readings u) mon ≤ energy_of s.settings.monitors (readings s) mon) same (none_more (energy_of s.settings.monitors (readings s) mon))
run_lowers s t (e ∷ events) mon h m of is =
    let both = and_parts (is_settling e) (list_all is_settling events) of in
    lower_from s t e events (next_of s e) (events_of mon (e ∷ events) + energy_of s.settings.monitors (readings t) mon ≤ energy_of s.settings.monitors (readings s) mon) refl is (λ u some rest.
    let x = event_settles s u e h both.0 some in
    let monitors : u.settings.monitors ≡ s.settings.monitors = ap (λ z. z.monitors) x.settings in
    let inner : events_of mon events + energy_of u.settings.monitors (readings t) mon ≤ energy_of u.settings.monitors (readings u) mon = run_lowers u t events mon (next_is_story s u e h some) (subst (λ z. IsMonitor z mon) (sym x.settings) m) both.1 rest in
    let outer : events_of mon events + energy_of s.settings.monitors (readings t) mon ≤ energy_of s.settings.monitors (readings u) mon = subst (λ z. events_of mon events + energy_of z (readings t) mon ≤ energy_of z (readings u) mon) monitors inner in
    count_more (monitor_of e == mon) e (filter (λ g. monitor_of g == mon) events) (energy_of s.settings.monitors (readings t) mon) (energy_of s.settings.monitors (readings u) mon) (energy_of s.settings.monitors (readings s) mon) outer
    (x.lowers.each mon m.from_one m.within)
    (λ own. subst (λ z. energy_of s.settings.monitors (readings u) z < energy_of s.settings.monitors (readings s) z) (eqb-true (monitor_of e) mon own) x.lowers.here))

pub few_of_each : (s t : StoryView) (events : List Event) (mon : ℕ) → IsStory s → IsMonitor s.settings mon → list_all is_settling events ≡ true → after (Some s) events ≡ Some t → events_of mon events ≤ 87
few_of_each s t events mon h m of is = each_by (events_of mon events) (energy_of s.settings.monitors (readings t) mon) (energy_of s.settings.monitors (readings s) mon) (run_lowers s t events mon h m of is) (own_most s h mon m)
