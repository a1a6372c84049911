-- The k and epsilon in force over the turns.
use Rattle.std.proofs.Common.{◌≡◌, ℕ, Bool, true, false, not, ◌≤◌, ◌<◌, ◌==◌, ◌||◌, ◌&&◌, ℤ, List, [], ◌∷◌, ◌++◌, Option, Some, None, refl, sym, ap, ◌∙◌, subst, arith, inl, inr}
use Rattle.std.specs.Prelude.{nat_lt, is_some, fold, filter, if◌then◌else◌}
use Rattle.std.specs.List.{list_all}
use Rattle.std.proofs.lemmas.Bool.{lt-ltb, le-ltb, eq-eqb, cases_eq, true≢false}
use Rattle.std.proofs.Math.Bool.{or-true, and-false}
use Rattle.std.proofs.lemmas.List.{append-nil, append_assoc}
use Rattle.std.proofs.lemmas.List.Elements.{filter-append}
use Rattle.tk_base.specs.Settings.{Setup, IsWithinLimits}
use Rattle.tk_base.specs.History.{last_of}
use Rattle.tk_journal.specs.Readings.{Tuning, monitors, round_in, last_round, asked_of, is_open, tunings, first_round, is_over, tuned_to, in_force}
use Rattle.tk_journal.specs.Turns.{is_wide, collects}
use Rattle.tk_journal.specs.declared.noted.Noted.{Noted}
use Rattle.tk_journal.specs.declared.noted.Noted.TheVariants as n
use Rattle.tk_journal.proofs.Same.{filter_same, all_same}

-- ---- which retunes stand

-- a retune whose round was opened: it is not past the last round, and where it is the last that one is wide
pub record IsOpened (s : Setup) (last : ℕ) (wide : Bool) (t : Tuning) : Type 0 where
  pub number : ℕ
  pub is : t.round ≡ Some number
  pub past : number ≤ last
  pub all : number ≡ last → wide ≡ true
  pub limits : IsWithinLimits (tuned_to s (Some t))

abbrev pub EachTuning : (Tuning → Type 0) → List Tuning → Type 0
EachTuning P [] = Unit {0}
EachTuning P (t ∷ ts) = P t × EachTuning P ts

pub each_tuning : (P Q : Tuning → Type 0) → ((t : Tuning) → P t → Q t) → (ts : List Tuning) → EachTuning P ts → EachTuning Q ts
each_tuning P Q step [] each = tt
each_tuning P Q step (t ∷ ts) each = (step t each.0, each_tuning P Q step ts each.1)

abbrev pub AreTuned : Setup → List Noted → Type 0
AreTuned s j = EachTuning (IsOpened s (last_round j) (is_wide s j)) (tunings j)

-- ---- those in force

keep_all : (p : Tuning → Bool) (ts : List Tuning) → EachTuning (λ t. p t ≡ true) ts → filter p ts ≡ ts
keep_all p [] each = refl
keep_all p (t ∷ ts) each = ap (λ b. if b then t ∷ filter p ts else filter p ts) each.0 ∙ ap (λ xs. t ∷ xs) (keep_all p ts each.1)

-- the settings after the last retune, open or not
abbrev pub last_tuned : Setup → List Noted → Setup
last_tuned s j = tuned_to s (last_of (tunings j))

over_by : (s : Setup) (j : List Noted) (round : Option ℕ) (number : ℕ) → round ≡ Some number → number < last_round j → is_over s j round ≡ true
over_by s j round number is past =
    ap (is_over s j) is ∙ ap (λ b. b || (number == last_round j && not (is_open s j))) (lt-ltb number (last_round j) past)

over_closed : (s : Setup) (j : List Noted) (round : Option ℕ) (number : ℕ) → round ≡ Some number → number ≤ last_round j → is_open s j ≡ false → is_over s j round ≡ true
over_closed s j round number is past closed = elim (cases_eq number (last_round j)) [
  | inl e ↦ ap (is_over s j) is
      ∙ ap (λ b. nat_lt number (last_round j) || (b && not (is_open s j))) (eq-eqb number (last_round j) e)
      ∙ ap (λ b. nat_lt number (last_round j) || not b) closed ∙ or-true (nat_lt number (last_round j))
  | inr ne ↦ over_by s j round number is (omega (arith, past, ne))
]

pub force_closed : (s : Setup) (j : List Noted) → is_open s j ≡ false → AreTuned s j → in_force s j ≡ last_tuned s j
unfolding in_force
force_closed s j closed each =
    ap (λ (ts : List Tuning). tuned_to s (last_of ts))
    (keep_all (λ t. is_over s j t.round) (tunings j)
    (each_tuning (IsOpened s (last_round j) (is_wide s j)) (λ t. is_over s j t.round ≡ true) (λ t o. over_closed s j t.round o.number o.is o.past closed) (tunings j) each))

-- where the last round was opened by no retune
pub force_past : (s : Setup) (j : List Noted) (last : ℕ) (wide : Bool) → EachTuning (IsOpened s last wide) (tunings j) → last < last_round j → in_force s j ≡ last_tuned s j
unfolding in_force
force_past s j last wide each new =
    ap (λ (ts : List Tuning). tuned_to s (last_of ts))
    (keep_all (λ t. is_over s j t.round) (tunings j)
    (each_tuning (IsOpened s last wide) (λ t. is_over s j t.round ≡ true) (λ t o. over_by s j t.round o.number o.is (let p = o.past in omega (arith, p, new))) (tunings j) each))

before : (s : Setup) (j : List Noted) (t : Tuning) → is_wide s j ≡ false → (o : IsOpened s (last_round j) (is_wide s j) t) → o.number < last_round j
before s j t full o = elim (cases_eq o.number (last_round j)) [
  | inl e ↦ absurd (true≢false (sym (o.all e) ∙ full))
  | inr ne ↦ let p = o.past in omega (arith, p, ne)
]

pub force_full : (s : Setup) (j : List Noted) → is_wide s j ≡ false → AreTuned s j → in_force s j ≡ last_tuned s j
unfolding in_force
force_full s j full each =
    ap (λ (ts : List Tuning). tuned_to s (last_of ts))
    (keep_all (λ t. is_over s j t.round) (tunings j)
    (each_tuning (IsOpened s (last_round j) (is_wide s j)) (λ t. is_over s j t.round ≡ true)
    (λ t o. over_by s j t.round o.number o.is (before s j t full o)) (tunings j) each))

over_with : (s : Setup) (a b : List Noted) → last_round b ≡ last_round a → is_open s b ≡ is_open s a → (round : Option ℕ) → is_over s b round ≡ is_over s a round
over_with s a b round opened None = refl
over_with s a b round opened (Some number) =
    ap (λ r. nat_lt number r || (number == r && not (is_open s b))) round ∙ ap (λ o. nat_lt number (last_round a) || (number == last_round a && not o)) opened

-- readings of rounds that are the same give the same in force
pub force_by : (s : Setup) (a b : List Noted) → last_round b ≡ last_round a → is_open s b ≡ is_open s a → tunings b ≡ tunings a → in_force s b ≡ in_force s a
unfolding in_force
force_by s a b round opened tuned =
    ap (λ (ts : List Tuning). tuned_to s (last_of (filter (λ t. is_over s b t.round) ts))) tuned
    ∙ ap (λ (ts : List Tuning). tuned_to s (last_of ts)) (filter_same (λ (t : Tuning). is_over s b t.round) (λ t. is_over s a t.round) (tunings a) (λ t. over_with s a b round opened t.round))

-- ---- the settings but k and epsilon stay, within the limits

pub tuned_objects : (s : Setup) (t : Option Tuning) → (tuned_to s t).objects ≡ s.objects
tuned_objects s None = refl
tuned_objects s (Some t) = refl

pub tuned_monitors : (s : Setup) (t : Option Tuning) → (tuned_to s t).monitors ≡ s.monitors
tuned_monitors s None = refl
tuned_monitors s (Some t) = refl

pub force_objects : (s : Setup) (j : List Noted) → (in_force s j).objects ≡ s.objects
unfolding in_force
force_objects s j = tuned_objects s (last_of (filter (λ t. is_over s j t.round) (tunings j)))

pub force_monitors : (s : Setup) (j : List Noted) → (in_force s j).monitors ≡ s.monitors
unfolding in_force
force_monitors s j = tuned_monitors s (last_of (filter (λ t. is_over s j t.round) (tunings j)))

last_choice : (s : Setup) (start : Option Tuning) (p : Tuning → Bool) (t : Tuning) (ts : List Tuning) (b : Bool) → IsWithinLimits (tuned_to s start) → IsWithinLimits (tuned_to s (Some t))
    → ((first : Option Tuning) → IsWithinLimits (tuned_to s first) → IsWithinLimits (tuned_to s (fold (λ _ x. Some x) first (filter p ts))))
    → IsWithinLimits (tuned_to s (fold (λ _ x. Some x) start (if b then t ∷ filter p ts else filter p ts)))
last_choice s start p t ts true ok here rest = rest (Some t) here
last_choice s start p t ts false ok here rest = rest start ok

last_within : (s : Setup) (start : Option Tuning) (p : Tuning → Bool) (ts : List Tuning) → IsWithinLimits (tuned_to s start) → EachTuning (λ t. IsWithinLimits (tuned_to s (Some t))) ts
    → IsWithinLimits (tuned_to s (fold (λ _ t. Some t) start (filter p ts)))
last_within s start p [] ok each = ok
last_within s start p (t ∷ ts) ok each = last_choice s start p t ts (p t) ok each.0 (λ first good. last_within s first p ts good each.1)

pub force_limits : (s : Setup) (j : List Noted) → IsWithinLimits s → AreTuned s j → IsWithinLimits (in_force s j)
unfolding in_force
force_limits s j limits each =
    last_within s None (λ t. is_over s j t.round) (tunings j) limits (each_tuning (IsOpened s (last_round j) (is_wide s j)) (λ t. IsWithinLimits (tuned_to s (Some t))) (λ t o. o.limits) (tunings j) each)

-- ---- over the turns

-- a round is wide where the journals ask the same
pub wide_by : (s : Setup) (a b : List Noted) → last_round b ≡ last_round a → ((r mon : ℕ) → asked_of r mon b ≡ asked_of r mon a) → is_wide s b ≡ is_wide s a
unfolding is_wide
wide_by s a b round asked =
    ap (λ r. list_all (λ mon. is_some (asked_of r mon b)) (monitors s)) round
    ∙ all_same (λ mon. is_some (asked_of (last_round a) mon b)) (λ mon. is_some (asked_of (last_round a) mon a)) (monitors s) (λ mon. ap is_some (asked (last_round a) mon))

pub tuned_by : (s : Setup) (a b : List Noted) → last_round b ≡ last_round a → is_wide s b ≡ is_wide s a → tunings b ≡ tunings a → AreTuned s a → AreTuned s b
tuned_by s a b round wide tuned each =
    subst (λ (ts : List Tuning). EachTuning (IsOpened s (last_round b) (is_wide s b)) ts) (sym tuned)
    (subst (λ (r : ℕ). EachTuning (IsOpened s r (is_wide s b)) (tunings a)) (sym round)
    (subst (λ (w : Bool). EachTuning (IsOpened s (last_round a) w) (tunings a)) (sym wide) each))

-- a later round was opened by no retune so far
later_opened : (s : Setup) (last new : ℕ) (wide other : Bool) (t : Tuning) → last < new → IsOpened s last wide t → IsOpened s new other t
later_opened s last new wide other t past o = record {
  number = o.number;
  is = o.is;
  past = let p = o.past in omega (arith, p, past);
  all = λ e. absurd (let p = o.past in omega (arith, p, past, e));
  limits = o.limits;
}

pub tuned_later : (s : Setup) (a b : List Noted) → last_round a < last_round b → tunings b ≡ tunings a → AreTuned s a → AreTuned s b
tuned_later s a b past tuned each =
    subst (λ (ts : List Tuning). EachTuning (IsOpened s (last_round b) (is_wide s b)) ts) (sym tuned)
    (each_tuning (IsOpened s (last_round a) (is_wide s a)) (IsOpened s (last_round b) (is_wide s b)) (λ t o. later_opened s (last_round a) (last_round b) (is_wide s a) (is_wide s b) t past o) (tunings a) each)

-- ---- a retune

found : (r a b : Option ℕ) → (is_some a ≡ true → b ≡ a) → is_some (if is_some r then r else a) ≡ true → (if is_some r then r else b) ≡ (if is_some r then r else a)
found None a b rest some = rest some
found (Some x) a b rest some = refl

first_found : (a b : List Noted) → is_some (first_round a) ≡ true → first_round (a ++ b) ≡ first_round a
first_found [] b some = cc
first_found (e ∷ a) b some = found (round_in e) (first_round a) (first_round (a ++ b)) (λ h. first_found a b h) some

abbrev HasRound : Tuning → Type 0
HasRound t = is_some t.round ≡ true

pub tunings_tuned : (a : List Noted) (k : ℕ) (epsilon : ℤ) (after : List Noted) → EachTuning HasRound (tunings a)
    → tunings (a ++ n.Tuned k epsilon ∷ after) ≡ tunings a ++ record { k = k; epsilon = epsilon; round = first_round after } ∷ tunings after
tunings_tuned [] k epsilon after each = refl
tunings_tuned (n.Got from frame ∷ a) k epsilon after each = tunings_tuned a k epsilon after each
tunings_tuned (n.Sent to frame ∷ a) k epsilon after each = tunings_tuned a k epsilon after each
tunings_tuned (n.Published publication ∷ a) k epsilon after each = tunings_tuned a k epsilon after each
tunings_tuned (n.Tuned q e ∷ a) k epsilon after each =
    ap (λ (x : Option ℕ). record { k = q; epsilon = e; round = x } ∷ tunings (a ++ n.Tuned k epsilon ∷ after)) (first_found a (n.Tuned k epsilon ∷ after) each.0)
    ∙ ap (λ (ts : List Tuning). record { k = q; epsilon = e; round = first_round a } ∷ ts) (tunings_tuned a k epsilon after each.1)

no_tuning : (round : ℕ) (asked mons : List ℕ) → tunings (collects round asked mons) ≡ []
no_tuning round asked [] = refl
no_tuning round asked (m ∷ mons) = no_tuning round asked mons

each_push : (P : Tuning → Type 0) (ts : List Tuning) (t : Tuning) → EachTuning P ts → P t → EachTuning P (ts ++ t ∷ [])
each_push P [] t each here = (here, tt)
each_push P (x ∷ ts) t each here = (each.0, each_push P ts t each.1 here)

has_round : (s : Setup) (last : ℕ) (wide : Bool) (t : Tuning) → IsOpened s last wide t → HasRound t
has_round s last wide t o = ap is_some o.is

-- the retune that opens a wide round is the last one
pub tuned_list : (s : Setup) (j : List Noted) (k : ℕ) (epsilon : ℤ) (round : ℕ) (asked : List ℕ) (q : ℕ) (mons : List ℕ) → AreTuned s j
    → tunings (j ++ n.Tuned k epsilon ∷ [] ++ collects round asked (q ∷ mons)) ≡ tunings j ++ record { k = k; epsilon = epsilon; round = Some round } ∷ []
tuned_list s j k epsilon round asked q mons each =
    ap tunings (append_assoc j (n.Tuned k epsilon ∷ []) (collects round asked (q ∷ mons)))
    ∙ tunings_tuned j k epsilon (collects round asked (q ∷ mons)) (each_tuning (IsOpened s (last_round j) (is_wide s j)) HasRound (λ t o. has_round s (last_round j) (is_wide s j) t o) (tunings j) each)
    ∙ ap (λ (ts : List Tuning). tunings j ++ record { k = k; epsilon = epsilon; round = Some round } ∷ ts) (no_tuning round asked (q ∷ mons))

pub tuned_tuned : (s : Setup) (j b : List Noted) (k : ℕ) (epsilon : ℤ) (round : ℕ) → tunings b ≡ tunings j ++ record { k = k; epsilon = epsilon; round = Some round } ∷ []
    → last_round b ≡ round → last_round j < round → is_wide s b ≡ true → IsWithinLimits (record s { k = k; epsilon = epsilon }) → AreTuned s j → AreTuned s b
tuned_tuned s j b k epsilon round list last new wide limits each =
    subst (λ (ts : List Tuning). EachTuning (IsOpened s (last_round b) (is_wide s b)) ts) (sym list)
    (each_push (IsOpened s (last_round b) (is_wide s b)) (tunings j) (record { k = k; epsilon = epsilon; round = Some round })
    (each_tuning (IsOpened s (last_round j) (is_wide s j)) (IsOpened s (last_round b) (is_wide s b))
    (λ t o. later_opened s (last_round j) (last_round b) (is_wide s j) (is_wide s b) t (omega (arith, last, new)) o) (tunings j) each)
    (record { number = round; is = refl; past = omega (arith, last); all = λ _. wide; limits = limits }))

-- its k and epsilon are not in force while its round is open
pub force_tuned : (s : Setup) (j b : List Noted) (k : ℕ) (epsilon : ℤ) (round : ℕ) → tunings b ≡ tunings j ++ record { k = k; epsilon = epsilon; round = Some round } ∷ []
    → last_round b ≡ round → last_round j < round → is_open s b ≡ true → AreTuned s j → in_force s b ≡ last_tuned s j
unfolding in_force
force_tuned s j b k epsilon round list last new opened each =
    let over = λ (t : Tuning). is_over s b t.round in
    let tail : filter over (record { k = k; epsilon = epsilon; round = Some round } ∷ []) ≡ [] =
    ap (λ c. if c then record { k = k; epsilon = epsilon; round = Some round } ∷ [] else [])
    (ap (λ r. nat_lt round r || (round == r && not (is_open s b))) last
    ∙ ap (λ c. c || (round == round && not (is_open s b))) (le-ltb round round (omega arith))
    ∙ ap (λ o. round == round && not o) opened ∙ and-false (round == round)) in
    ap (λ (ts : List Tuning). tuned_to s (last_of (filter over ts))) list
    ∙ ap (λ (ts : List Tuning). tuned_to s (last_of ts)) (filter-append over (tunings j) (record { k = k; epsilon = epsilon; round = Some round } ∷ [])
    ∙ ap (λ (ts : List Tuning). filter over (tunings j) ++ ts) tail ∙ append-nil (filter over (tunings j))
    ∙ keep_all over (tunings j) (each_tuning (IsOpened s (last_round j) (is_wide s j)) (λ t. over t ≡ true)
    (λ t o. over_by s b t.round o.number o.is (let p = o.past in omega (arith, p, last, new))) (tunings j) each))

-- Collects alone bring no retune, where every retune before them has its round
more_found : (a b : List Noted) → EachTuning HasRound (tunings a) → tunings b ≡ [] → tunings (a ++ b) ≡ tunings a
more_found [] b each none = none
more_found (n.Got from frame ∷ a) b each none = more_found a b each none
more_found (n.Sent to frame ∷ a) b each none = more_found a b each none
more_found (n.Published publication ∷ a) b each none = more_found a b each none
more_found (n.Tuned q e ∷ a) b each none =
    ap (λ (x : Option ℕ). record { k = q; epsilon = e; round = x } ∷ tunings (a ++ b)) (first_found a b each.0)
    ∙ ap (λ (ts : List Tuning). record { k = q; epsilon = e; round = first_round a } ∷ ts) (more_found a b each.1 none)

pub collects_tunings : (s : Setup) (j : List Noted) (round : ℕ) (asked mons : List ℕ) → AreTuned s j → tunings (j ++ collects round asked mons) ≡ tunings j
collects_tunings s j round asked mons each =
    more_found j (collects round asked mons) (each_tuning (IsOpened s (last_round j) (is_wide s j)) HasRound (λ t o. has_round s (last_round j) (is_wide s j) t o) (tunings j) each) (no_tuning round asked mons)
