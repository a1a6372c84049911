-- Raises: the place of a part is moved by its own raises alone.
use Rattle.tk_journal.specs.declared.noted.Noted.TheVariants as n
use Rattle.std.proofs.Common.{◌≡◌, ℕ, suc, ℤ, ◌+◌, ◌-◌, ◌<◌, ◌≤◌, ◌&&◌, ◌==◌, Bool, true, false, List, [], ◌∷◌, ◌++◌, length, set, get_or, Option, Some, None, refl, sym, ap, ◌∙◌, subst, arith, inl, inr}
use Rattle.std.specs.Prelude.{nat_le, nat_lt, if◌then◌else◌}
use Rattle.std.specs.List.{list_all, zip}
use Rattle.std.proofs.lemmas.Bool.{and_parts, and_from, cases_eq, eq-eqb, ne_eqb, leb-true, le-leb, ltb-true, ltb-false, and_right}
use Rattle.std.proofs.lemmas.List.{get_or-set_same, get_or-set_other}
use Rattle.std.proofs.lemmas.Option.{same_Some}
use Rattle.tk_base.specs.declared.ids.Feeder.{Feeder}
use Rattle.tk_base.specs.declared.ids.Mon.{Mon}
use Rattle.tk_journal.specs.Laws.{IsMonitor}
use Rattle.tk_input.specs.Logs.{LogSet}
use Rattle.tk_trail.specs.Frames.{due_at}
use Rattle.tk_trail.specs.Legal.{after_take, part_length, place_of}
use Rattle.tk_trail.specs.Readings.{at_ends, places_at}
use Rattle.tk_trail.specs.declared.entry.Entry.{Entry}
use Rattle.tk_trail.specs.declared.entry.Entry.TheVariants.{Raised, Sent}
use Rattle.tk_trail.proofs.LegalLemmas.{legal_places}
use Rattle.tk_trail.proofs.PlacesLemmas.{length-places_at, places_at-raised, places_at-sent}
use Rattle.tk_input.specs.declared.event.Event.{Event}
use Rattle.tk_world.specs.Events.{after, has_next, is_monitor, moved, next_down, next_of, next_up, raise_at, with_trail, with_turn}
use Rattle.tk_input.specs.declared.event.Event.TheVariants.{Raise, Check, Up, Down, Retune}
use Rattle.tk_story.specs.Story.{IsStory, StoryView, setup_of, trail_of}
use Rattle.tk_story.proofs.QuietLemmas.{starts_at}
use Rattle.tk_world.proofs.StepLemmas.{next_is_story, mapped_some, guarded, monitor_is, trail_there}
use Rattle.tk_drain.specs.Settling.{is_settling}
use Rattle.tk_drain.proofs.FinishLemmas.{AtEnds, after_places}
use Rattle.tk_drain.proofs.SettleLemmas.{lower_from}
use Rattle.tk_world.proofs.IdleLemmas.{is_one}

-- ---- how many of some events are raises of one part

abbrev pub is_raise_of : ℕ → ℕ → Event → Bool
is_raise_of mon g (Raise m f) = m.0 == mon && f.0 == g
is_raise_of mon g (Check m) = false
is_raise_of mon g (Up m) = false
is_raise_of mon g (Down m) = false
is_raise_of mon g (Retune tuning) = false

abbrev pub one_if : Bool → ℕ
one_if b = if b then 1 else 0

abbrev pub raised_in : ℕ → ℕ → List Event → ℕ
raised_in mon g [] = 0
raised_in mon g (e ∷ events) = one_if (is_raise_of mon g e) + raised_in mon g events

abbrev pub place : StoryView → ℕ → ℕ → ℕ
place s mon g = place_of (setup_of s mon) (trail_of s mon) g

-- over the same logs from the same places
pub record IsAlike (s t : StoryView) : Type 0 where
  pub settings : t.settings ≡ s.settings
  pub logs : t.logs ≡ s.logs
  pub from : t.from ≡ s.from

pub alike_self : (s : StoryView) → IsAlike s s
alike_self s = record { settings = refl; logs = refl; from = refl }

pub alike_join : (s t u : StoryView) → IsAlike s t → IsAlike t u → IsAlike s u
alike_join s t u a b = record { settings = b.settings ∙ a.settings; logs = b.logs ∙ a.logs; from = b.from ∙ a.from }

pub alike_length : (s t : StoryView) (mon g : ℕ) → IsAlike s t → part_length (setup_of t mon) g ≡ part_length (setup_of s mon) g
alike_length s t mon g a = ap (λ (l : LogSet). length (get_or (get_or l.logs (mon - 1) []) (g - 1) [])) a.logs

-- one event later the part is where it was, but for its own raise
pub record IsMoved (s t : StoryView) (mon g by : ℕ) : Type 0 where
  pub alike : IsAlike s t
  pub place : place t mon g ≡ place s mon g + by

same_place : (n m : ℕ) → n ≡ m → n ≡ m + 0
same_place n m is = omega (arith, is)

other_trail : (s : StoryView) (mon at : ℕ) (trail : List Entry) → IsMonitor s.settings mon → IsMonitor s.settings at → (mon ≡ at → ⊥) → trail_of (with_trail s at trail) mon ≡ trail_of s mon
other_trail s mon at trail m r apart = get_or-set_other s.trails (at - 1) (mon - 1) trail [] (λ same. apart (let a = m.from_one in let b = r.from_one in omega (arith, a, b, same)))

-- a trail whose places are as they were
still_placed : (s : StoryView) (mon g at : ℕ) (trail : List Entry) → IsStory s → IsMonitor s.settings mon → IsMonitor s.settings at → places_at (setup_of s at) trail ≡ places_at (setup_of s at) (trail_of s at) → IsMoved s (with_trail s at trail) mon g 0
still_placed s mon g at trail h m r places = record {
  alike = record { settings = refl; logs = refl; from = refl };
  place = same_place (place (with_trail s at trail) mon g) (place s mon g) (elim (cases_eq mon at) [
    | inl same ↦
        subst (λ (z : ℕ). place (with_trail s at trail) z g ≡ place s z g) (sym same)
        (ap (λ (t : List Entry). place_of (setup_of s at) t g) (trail_there s h at r trail) ∙ ap (λ (ps : List ℕ). get_or ps (g - 1) 0) places)
    | inr apart ↦ ap (λ (t : List Entry). place_of (setup_of s mon) t g) (other_trail s mon at trail m r apart)
  ]);
}

-- whether it is the raise of this part
raise_is : (mon g : ℕ) (m : Mon) (f : Feeder) → mon ≡ m.0 → g ≡ f.0 → is_raise_of mon g (Raise m f) ≡ true
raise_is mon g m f a b = and_from (m.0 == mon) (f.0 == g) (eq-eqb m.0 mon (sym a)) (eq-eqb f.0 g (sym b))

raise_other_mon : (mon g : ℕ) (m : Mon) (f : Feeder) → (mon ≡ m.0 → ⊥) → is_raise_of mon g (Raise m f) ≡ false
raise_other_mon mon g m f apart = ap (λ b. b && f.0 == g) (ne_eqb m.0 mon (λ same. apart (sym same)))

raise_other : (mon g : ℕ) (m : Mon) (f : Feeder) → (g ≡ f.0 → ⊥) → is_raise_of mon g (Raise m f) ≡ false
raise_other mon g m f apart = and_right (m.0 == mon) (f.0 == g) (ne_eqb f.0 g (λ same. apart (sym same)))

one_later : (n m : ℕ) (b : Bool) → b ≡ true → n ≡ suc m → n ≡ m + one_if b
one_later n m true is same = omega (arith, same)
one_later n m false is same = absurd (cc)

none_later : (n m : ℕ) (b : Bool) → b ≡ false → n ≡ m → n ≡ m + one_if b
none_later n m false is same = omega (arith, same)
none_later n m true is same = absurd (cc)

-- the part exists and goes on
pub record GoesOn (s : StoryView) (mon g : ℕ) : Type 0 where
  pub from_one : 1 ≤ g
  pub one_of : g ≤ length (setup_of s mon).parts
  pub less : place s mon g < part_length (setup_of s mon) g

pub goes_on : (s : StoryView) (mon g : ℕ) → has_next s mon g ≡ true → GoesOn s mon g
goes_on s mon g is =
    let a = and_parts (nat_le 1 g && nat_le g (length (setup_of s mon).parts)) (nat_lt (place s mon g) (part_length (setup_of s mon) g)) is in
    let b = and_parts (nat_le 1 g) (nat_le g (length (setup_of s mon).parts)) a.0 in
    record { from_one = leb-true 1 g b.0; one_of = leb-true g (length (setup_of s mon).parts) b.1; less = ltb-true (place s mon g) (part_length (setup_of s mon) g) a.1 }

raised_place : (s : StoryView) (mon g : ℕ) (m : Mon) (f : Feeder) → IsStory s → IsMonitor s.settings mon → 1 ≤ g → IsMonitor s.settings m.0 → GoesOn s m.0 f.0
    → place (with_trail s m.0 (trail_of s m.0 ++ Raised f ∷ [])) mon g ≡ place s mon g + one_if (is_raise_of mon g (Raise m f))
raised_place s mon g m f h k low r goes =
    let trail = trail_of s m.0 ++ Raised f ∷ [] in
    elim (cases_eq mon m.0) [
      | inr apart ↦
          none_later (place (with_trail s m.0 trail) mon g) (place s mon g) (is_raise_of mon g (Raise m f)) (raise_other_mon mon g m f apart)
          (ap (λ (t : List Entry). place_of (setup_of s mon) t g) (other_trail s mon m.0 trail k r apart))
      | inl same ↦
          let own : place (with_trail s m.0 trail) m.0 g ≡ get_or (set (places_at (setup_of s m.0) (trail_of s m.0)) (f.0 - 1) (suc (place s m.0 f.0))) (g - 1) 0 =
          ap (λ (t : List Entry). place_of (setup_of s m.0) t g) (trail_there s h m.0 r trail)
          ∙ ap (λ (ps : List ℕ). get_or ps (g - 1) 0) (places_at-raised (setup_of s m.0) (trail_of s m.0) f goes.from_one) in
          elim (cases_eq g f.0) [
            | inl this ↦
                one_later (place (with_trail s m.0 trail) mon g) (place s mon g) (is_raise_of mon g (Raise m f)) (raise_is mon g m f same this)
                (subst (λ (z : ℕ). place (with_trail s m.0 trail) z g ≡ suc (place s z g)) (sym same)
                (own ∙ subst (λ (z : ℕ). get_or (set (places_at (setup_of s m.0) (trail_of s m.0)) (f.0 - 1) (suc (place s m.0 f.0))) (z - 1) 0 ≡ suc (place s m.0 z)) (sym this)
                (get_or-set_same (places_at (setup_of s m.0) (trail_of s m.0)) (f.0 - 1) (suc (place s m.0 f.0)) 0
                (let a = goes.from_one in let b = goes.one_of in let c = length-places_at (setup_of s m.0) (trail_of s m.0) in let d = (starts_at s h m.0).shape in omega (arith, a, b, c, d)))))
            | inr apart ↦
                none_later (place (with_trail s m.0 trail) mon g) (place s mon g) (is_raise_of mon g (Raise m f)) (raise_other mon g m f apart)
                (subst (λ (z : ℕ). place (with_trail s m.0 trail) z g ≡ place s z g) (sym same)
                (own ∙ get_or-set_other (places_at (setup_of s m.0) (trail_of s m.0)) (f.0 - 1) (g - 1) (suc (place s m.0 f.0)) 0 (λ is. apart (let a = goes.from_one in omega (arith, a, low, is)))))
          ]
    ]

refused_or : {X : Type 0} (b : Bool) (o : Option X) (t : X) → (if b then None else o) ≡ Some t → o ≡ Some t
refused_or true o t is = absurd (cc)
refused_or false o t is = is

pub event_moves : (s t : StoryView) (e : Event) (mon g : ℕ) → IsStory s → next_of s e ≡ Some t → IsMonitor s.settings mon → 1 ≤ g → IsMoved s t mon g (one_if (is_raise_of mon g e))
unfolding next_of
event_moves s t (Raise m f) mon g h is k low =
    let a = guarded (is_monitor s m.0) (moved s (Raise m f)) t is in
    let b = guarded (has_next s m.0 f.0) (Some (with_trail s m.0 (trail_of s m.0 ++ Raised f ∷ []))) t a.1 in
    subst (λ (z : StoryView). IsMoved s z mon g (one_if (is_raise_of mon g (Raise m f)))) (same_Some (with_trail s m.0 (trail_of s m.0 ++ Raised f ∷ [])) t b.1) (record {
      alike = record { settings = refl; logs = refl; from = refl };
      place = raised_place s mon g m f h k low (monitor_is s m.0 a.0) (goes_on s m.0 f.0 b.0);
    })
event_moves s t (Check m) mon g h is k low =
    let a = guarded (is_monitor s m.0) (moved s (Check m)) t is in
    let x = mapped_some (λ frame. with_trail s m.0 (trail_of s m.0 ++ Sent frame ∷ [])) (due_at (setup_of s m.0) (trail_of s m.0)) t a.1 in
    subst (λ (z : StoryView). IsMoved s z mon g 0) x.2 (still_placed s mon g m.0 (trail_of s m.0 ++ Sent x.0 ∷ []) h k (monitor_is s m.0 a.0) (places_at-sent (setup_of s m.0) (trail_of s m.0) x.0))
event_moves s t (Down m) mon g h is k low =
    let a = guarded (is_monitor s m.0) (moved s (Down m)) t is in
    let x = mapped_some (λ frame. with_trail s m.0 (after_take (setup_of s m.0) (trail_of s m.0) frame)) (next_down s m.0) t a.1 in
    subst (λ (z : StoryView). IsMoved s z mon g 0) x.2 (still_placed s mon g m.0 (after_take (setup_of s m.0) (trail_of s m.0) x.0) h k (monitor_is s m.0 a.0) (after_places (setup_of s m.0) (trail_of s m.0) x.0))
event_moves s t (Up m) mon g h is k low =
    let a = guarded (is_monitor s m.0) (moved s (Up m)) t is in
    let x = mapped_some (λ frame. with_turn s (n.Got (record { 0 = m.0 }) frame)) (next_up s m.0) t a.1 in
    subst (λ (z : StoryView). IsMoved s z mon g 0) x.2 (record { alike = record { settings = refl; logs = refl; from = refl }; place = same_place (place s mon g) (place s mon g) refl })
event_moves s t (Retune tuning) mon g h is k low =
    let x = same_Some _ t (refused_or _ _ t is) in
    subst (λ (z : StoryView). IsMoved s z mon g 0) x (record { alike = record { settings = refl; logs = refl; from = refl }; place = same_place (place s mon g) (place s mon g) refl })

-- an event leaves logs and settings as they were
event_alike : (s t : StoryView) (e : Event) → next_of s e ≡ Some t → IsAlike s t
unfolding next_of
event_alike s t (Raise m f) is =
    let a = guarded (is_monitor s m.0) (moved s (Raise m f)) t is in
    let b = guarded (has_next s m.0 f.0) (Some (with_trail s m.0 (trail_of s m.0 ++ Raised f ∷ []))) t a.1 in
    subst (λ (z : StoryView). IsAlike s z) (same_Some (with_trail s m.0 (trail_of s m.0 ++ Raised f ∷ [])) t b.1) (record { settings = refl; logs = refl; from = refl })
event_alike s t (Check m) is =
    let a = guarded (is_monitor s m.0) (moved s (Check m)) t is in
    let x = mapped_some (λ frame. with_trail s m.0 (trail_of s m.0 ++ Sent frame ∷ [])) (due_at (setup_of s m.0) (trail_of s m.0)) t a.1 in
    subst (λ (z : StoryView). IsAlike s z) x.2 (record { settings = refl; logs = refl; from = refl })
event_alike s t (Down m) is =
    let a = guarded (is_monitor s m.0) (moved s (Down m)) t is in
    let x = mapped_some (λ frame. with_trail s m.0 (after_take (setup_of s m.0) (trail_of s m.0) frame)) (next_down s m.0) t a.1 in
    subst (λ (z : StoryView). IsAlike s z) x.2 (record { settings = refl; logs = refl; from = refl })
event_alike s t (Up m) is =
    let a = guarded (is_monitor s m.0) (moved s (Up m)) t is in
    let x = mapped_some (λ frame. with_turn s (n.Got (record { 0 = m.0 }) frame)) (next_up s m.0) t a.1 in
    subst (λ (z : StoryView). IsAlike s z) x.2 (record { settings = refl; logs = refl; from = refl })
event_alike s t (Retune tuning) is =
    let x = same_Some _ t (refused_or _ _ t is) in
    subst (λ (z : StoryView). IsAlike s z) x (record { settings = refl; logs = refl; from = refl })

-- so do some events
pub run_alike : (s t : StoryView) (events : List Event) → after (Some s) events ≡ Some t → IsAlike s t
run_alike s t [] is = subst (λ (z : StoryView). IsAlike s z) (same_Some s t is) (alike_self s)
run_alike s t (e ∷ events) is =
    lower_from s t e events (next_of s e) (IsAlike s t) refl is (λ u some rest. alike_join s u t (event_alike s u e some) (run_alike u t events rest))

plus_two : (a b c p q : ℕ) → b ≡ a + p → c ≡ b + q → c ≡ a + (p + q)
plus_two a b c p q x y = omega (arith, x, y)

-- some events later it is further by its own raises
pub run_moves : (s t : StoryView) (events : List Event) (mon g : ℕ) → IsStory s → after (Some s) events ≡ Some t → IsMonitor s.settings mon → 1 ≤ g → IsMoved s t mon g (raised_in mon g events)
run_moves s t [] mon g h is k low =
    subst (λ (z : StoryView). IsMoved s z mon g 0) (same_Some s t is) (record { alike = alike_self s; place = same_place (place s mon g) (place s mon g) refl })
run_moves s t (e ∷ events) mon g h is k low =
    lower_from s t e events (next_of s e) (IsMoved s t mon g (raised_in mon g (e ∷ events))) refl is (λ u some rest.
    let a = event_moves s u e mon g h some k low in
    let b = run_moves u t events mon g (next_is_story s u e h some) rest (subst (λ z. IsMonitor z mon) (sym a.alike.settings) k) low in
    record {
      alike = alike_join s u t a.alike b.alike;
      place = plus_two (place s mon g) (place u mon g) (place t mon g) (one_if (is_raise_of mon g e)) (raised_in mon g events) a.place b.place;
    })

settling_no_raise : (mon g : ℕ) (e : Event) → is_settling e ≡ true → is_raise_of mon g e ≡ false
settling_no_raise mon g (Raise m f) is = absurd (cc)
settling_no_raise mon g (Check m) is = refl
settling_no_raise mon g (Up m) is = refl
settling_no_raise mon g (Down m) is = refl
settling_no_raise mon g (Retune tuning) is = refl

none_by : (b : Bool) (k : ℕ) → b ≡ false → k ≡ 0 → one_if b + k ≡ 0
none_by false k is none = omega (arith, none)
none_by true k is none = absurd (cc)

pub settling_raises_none : (mon g : ℕ) (events : List Event) → list_all is_settling events ≡ true → raised_in mon g events ≡ 0
settling_raises_none mon g [] all = refl
settling_raises_none mon g (e ∷ events) all =
    let both = and_parts (is_settling e) (list_all is_settling events) all in
    none_by (is_raise_of mon g e) (raised_in mon g events) (settling_no_raise mon g e both.0) (settling_raises_none mon g events both.1)

-- ---- whether a part goes on

pub record IsFeederOf (s : StoryView) (mon g : ℕ) : Type 0 where
  pub monitor : IsMonitor s.settings mon
  pub from_one : 1 ≤ g
  pub one_of : g ≤ length (setup_of s mon).parts

unless : {X : Type 0} (b c : Bool) (x : X) → (if b then (if c then Some x else None) else None) ≡ None → b ≡ true → c ≡ false
unless true true x is there = absurd (cc)
unless true false x is there = refl
unless false c x is there = absurd (cc)

third_false : (a b c : Bool) → (a && b && c) ≡ false → a ≡ true → b ≡ true → c ≡ false
third_false true true c is x y = is
third_false true false c is x y = absurd (cc)
third_false false b c is x y = absurd (cc)

-- a part whose raise is not enabled is at its end
pub idle_ended : (s : StoryView) (mon g : ℕ) → IsFeederOf s mon g → next_of s (raise_at mon g) ≡ None → part_length (setup_of s mon) g ≤ place s mon g
unfolding next_of
idle_ended s mon g f none =
    let no = unless (is_monitor s mon) (has_next s mon g) (with_trail s mon (trail_of s mon ++ Raised (record { 0 = g }) ∷ [])) none (is_one s mon f.monitor) in
    ltb-false (place s mon g) (part_length (setup_of s mon) g)
    (third_false (nat_le 1 g) (nat_le g (length (setup_of s mon).parts)) (nat_lt (place s mon g) (part_length (setup_of s mon) g)) no
    (le-leb 1 g f.from_one) (le-leb g (length (setup_of s mon).parts) f.one_of))

-- ---- all parts at their ends

ends_by_each : (parts : List (List (ℕ × ℤ))) (places : List ℕ) → length places ≡ length parts → ((i : ℕ) → i < length parts → get_or places i 0 ≡ length (get_or parts i [])) → list_all (λ (p : List (ℕ × ℤ) × ℕ). p.1 == length p.0) (zip parts places) ≡ true
ends_by_each [] places same each = refl
ends_by_each (part ∷ parts) [] same each = absurd (omega (arith, same))
ends_by_each (part ∷ parts) (at ∷ places) same each =
    and_from (at == length part) (list_all (λ (p : List (ℕ × ℤ) × ℕ). p.1 == length p.0) (zip parts places)) (eq-eqb at (length part) (each 0 (omega arith)))
    (ends_by_each parts places (omega (arith, same)) (λ i within. each (suc i) (omega (arith, within))))

met : (a b : ℕ) → a ≤ b → b ≤ a → a ≡ b
met a b x y = omega (arith, x, y)

one_back : (i : ℕ) → suc i - 1 ≡ i
one_back i = omega arith

pub all_ended : (s : StoryView) → IsStory s → ((mon g : ℕ) → IsFeederOf s mon g → part_length (setup_of s mon) g ≤ place s mon g) → AtEnds s
unfolding at_ends
all_ended s h each mon m =
    let setup = setup_of s mon in
    let are = legal_places setup (starts_at s h mon) (trail_of s mon) (h.trails_legal mon m).each in
    ends_by_each setup.parts (places_at setup (trail_of s mon)) are.shape (λ i within.
    met (get_or (places_at setup (trail_of s mon)) i 0) (length (get_or setup.parts i [])) (are.within i)
    (subst (λ (z : ℕ). length (get_or setup.parts z []) ≤ get_or (places_at setup (trail_of s mon)) z 0) (one_back i)
    (each mon (suc i) (record { monitor = m; from_one = omega arith; one_of = omega (arith, within) }))))
