-- Every legal journal is sound: what stands after each turn, and what is reported to an open round.
use Rattle.std.proofs.Common.{◌≡◌, ℕ, Bool, true, false, ◌≤◌, ◌<◌, ◌==◌, List, [], ◌∷◌, ◌++◌, Contains, Option, Some, None, refl, sym, ap, ◌∙◌, subst, arith}
use Rattle.std.specs.Prelude.{is_some, if◌then◌else◌}
use Rattle.std.specs.List.{All}
use Rattle.std.proofs.lemmas.Bool.{eqb-true, eq-eqb, true≢false}
use Rattle.tk_base.specs.Objects.{objects, is_in}
use Rattle.tk_base.specs.Ascending.{IsAscending}
use Rattle.tk_base.specs.Settings.{Setup}
use Rattle.tk_base.specs.declared.ids.Mon.{Mon}
use Rattle.tk_rows.specs.Factors.{Grid}
use Rattle.tk_frames.specs.declared.frame.Frame.{Frame}
use Rattle.tk_frames.specs.declared.frame.Frame.TheVariants as f
use Rattle.tk_alloc.specs.declared.reported.Reported.{Reported}
use Rattle.tk_alloc.specs.Resolving.{CanTakePart}
use Rattle.tk_journal.specs.Laws.{IsMonitor}
use Rattle.tk_journal.specs.Readings.{members_at, table_at, answer_of, last_round, asked_of, values_of, values_for, is_open}
use Rattle.tk_journal.specs.Deciding.{report_of, answered_report}
use Rattle.tk_journal.specs.Turns.{reported, collects, is_wide}
use Rattle.tk_journal.specs.Refusal.{refusal_of, shown_by, known_by, waits_at, asked_in}
use Rattle.tk_journal.specs.declared.noted.Noted.{Noted}
use Rattle.tk_journal.specs.declared.noted.Noted.TheVariants as n
use Rattle.tk_journal.proofs.Appends.{later, asked_of-append}
use Rattle.tk_journal.proofs.Pieces.{batch_values, got_assigns, got_members, got_round, got_asked, got_values}
use Rattle.tk_journal.proofs.Batches.{plain_assigns, plain_members, plain_answer, collects_asked, collects_round}
use Rattle.tk_journal.proofs.Same.{AreSame, table_by, open_same, report_same}
use Rattle.tk_journal.proofs.Reports.{Gives, none_gives, if_gives}
use Rattle.tk_journal.proofs.Accepted.{accepted_kind, accepted_values, awaited_waits, report_stays}
use Rattle.tk_journal.proofs.Counting.{AreCounted}
use Rattle.tk_journal.proofs.Rounding.{HasOpeners, collects_unasked}
use Rattle.tk_journal.proofs.Content.{values_take_part}
use Rattle.tk_journal.proofs.Tables.{table_size}
use Rattle.tk_journal.proofs.Tuning.{wide_by}

-- what a round over some objects has been told so far
pub record IsRoundOver (s : Setup) (j : List Noted) (all : List ℕ) : Type 0 where
  pub among : All (Contains all) (members_at j)
  pub within : All (λ o. o ≤ s.objects) all
  pub positive : All (λ o. 0 < o) all
  pub ascends : IsAscending all
  pub asked : (mon : ℕ) → Gives (λ xs. xs ≡ all) (asked_of (last_round j) mon j)
  pub good : (mon : ℕ) → IsMonitor s mon → Gives (CanTakePart (table_at s j) (members_at j) all) (report_of mon j)
  pub wide : is_wide s j ≡ true → all ≡ objects s.objects

abbrev pub HasRound : Setup → List Noted → Type 0
HasRound s j = is_open s j ≡ true → (all : List ℕ) × IsRoundOver s j all

pub no_round : (s : Setup) (j : List Noted) → is_open s j ≡ false → HasRound s j
no_round s j closed is = absurd (true≢false (sym is ∙ closed))

pub round_same : (s : Setup) (a b : List Noted) → AreSame s a b → HasRound s a → HasRound s b
round_same s a b e h is =
    let before = h (sym (open_same s a b e) ∙ is) in
    let r = before.1 in (
      before.0,
      record {
        among = subst (λ ms. All (Contains before.0) ms) (sym e.members) r.among;
        within = r.within;
        positive = r.positive;
        ascends = r.ascends;
        asked = λ mon. subst (λ x. Gives (λ xs. xs ≡ before.0) x) (sym (ap (λ q. asked_of q mon b) e.round ∙ e.asked (last_round a) mon)) (r.asked mon);
        good = λ mon m.
            subst (λ (g : Grid). Gives (CanTakePart g (members_at b) before.0) (report_of mon b)) (sym (table_by s a b e.assigns))
            (subst (λ ms. Gives (CanTakePart (table_at s a) ms before.0) (report_of mon b)) (sym e.members)
            (subst (λ x. Gives (CanTakePart (table_at s a) (members_at a) before.0) x) (sym (report_same s a b e mon)) (r.good mon m)));
        wide = λ w. r.wide (sym (wide_by s a b e.round e.asked) ∙ w);
      },
    )

-- ---- a taken frame

later_gives : {A : Type 0} (P : A → Type 0) (x y : Option A) → Gives P x → Gives P y → Gives P (later x y)
later_gives P x None p q = p
later_gives P x (Some v) p q = q

one_gives : (b : Bool) (P : Reported → Type 0) (x : Option Reported) → (b ≡ true → Gives P x) → Gives P (if b then x else None)
one_gives true P x h = h refl
one_gives false P x h = none_gives P

-- what comes for the round can take part in it
values_good : (s : Setup) (j : List Noted) (all : List ℕ) (mon : ℕ) (frame : Frame) → IsMonitor s mon → refusal_of s j mon frame ≡ None → ((q : ℕ) → Gives (λ xs. xs ≡ all) (asked_of (last_round j) q j))
    → Gives (CanTakePart (table_at s j) (members_at j) all) (values_for (last_round j) mon frame)
values_good s j all mon (f.Hello run version m) range none asked = none_gives (CanTakePart (table_at s j) (members_at j) all)
values_good s j all mon (f.Report seq border failed values) range none asked = none_gives (CanTakePart (table_at s j) (members_at j) all)
values_good s j all mon (f.Collect round objs) range none asked = none_gives (CanTakePart (table_at s j) (members_at j) all)
values_good s j all mon (f.Values round seq border values) range none asked =
    let frame = f.Values round seq border values in
    let awaited = accepted_values (shown_by mon j) (known_by s mon j) round seq border values (accepted_kind s j mon frame none).1 in
    let waits = awaited_waits j mon round awaited.awaited in
    let over : asked_in (waits_at mon j) ≡ all = asked mon (asked_in (waits_at mon j)) waits.asked in
    let takes = values_take_part (known_by s mon j) (asked_in (waits_at mon j)) border values range.from_one (let w = range.within in let t = table_size s j in omega (arith, w, t)) awaited.content in
    subst (λ xs. Gives (CanTakePart (table_at s j) (members_at j) xs) (values_for (last_round j) mon frame)) over
    (if_gives (CanTakePart (table_at s j) (members_at j) (asked_in (waits_at mon j))) (round == last_round j) (reported mon border values) takes)
values_good s j all mon (f.Assign seq members changes) range none asked = none_gives (CanTakePart (table_at s j) (members_at j) all)
values_good s j all mon (f.Settled seq last places) range none asked = none_gives (CanTakePart (table_at s j) (members_at j) all)
values_good s j all mon f.Stop range none asked = none_gives (CanTakePart (table_at s j) (members_at j) all)

either_gives : (P : Reported → Type 0) (b : Bool) (x y : Option Reported) → (b ≡ true → Gives P x) → (b ≡ false → Gives P y) → Gives P (if b then x else y)
either_gives P true x y p q = p refl
either_gives P false x y p q = q refl

was_asked : (P : Reported → Type 0) (b : Bool) (x y : Option Reported) → b ≡ true → Gives P (if b then x else y) → Gives P x
was_asked P true x y is p = p
was_asked P false x y is p = cc

was_not : (P : Reported → Type 0) (b : Bool) (x y : Option Reported) → b ≡ false → Gives P (if b then x else y) → Gives P y
was_not P true x y is p = cc
was_not P false x y is p = p

got_good : (s : Setup) (j : List Noted) (all : List ℕ) (from : Mon) (frame : Frame) → IsMonitor s from.0 → refusal_of s j from.0 frame ≡ None → is_open s j ≡ true → HasOpeners s j → IsRoundOver s j all
    → (mon : ℕ) → IsMonitor s mon → Gives (CanTakePart (table_at s j) (members_at j) all) (report_of mon (j ++ n.Got from frame ∷ []))
unfolding report_of
got_good s j all from frame range none opened openers r mon m =
    let now = j ++ n.Got from frame ∷ [] in
    let P = CanTakePart (table_at s j) (members_at j) all in
    let asked_now = is_some (asked_of (last_round now) mon now) in
    let asked = is_some (asked_of (last_round j) mon j) in
    let same : asked_now ≡ asked = ap (λ q. is_some (asked_of q mon now)) (got_round j from frame) ∙ ap is_some (got_asked (last_round j) mon j from frame) in
    either_gives P asked_now (values_of (last_round now) mon now) (answered_report mon (answer_of mon now))
    (λ is.
    subst (λ q. Gives P (values_of q mon now)) (sym (got_round j from frame))
    (subst (λ x. Gives P x) (sym (got_values (last_round j) mon j from frame))
    (later_gives P (values_of (last_round j) mon j) (if from.0 == mon then values_for (last_round j) mon frame else None)
    (was_asked P asked (values_of (last_round j) mon j) (answered_report mon (answer_of mon j)) (sym same ∙ is) (r.good mon m))
    (one_gives (from.0 == mon) P (values_for (last_round j) mon frame) (λ own.
    let e : from.0 ≡ mon = eqb-true from.0 mon own in
    values_good s j all mon frame m (subst (λ q. refusal_of s j q frame ≡ None) e none) r.asked)))))
    (λ isnt.
    let unasked : asked ≡ false = sym same ∙ isnt in
    subst (λ x. Gives P (answered_report mon x)) (sym (report_stays s j mon from frame none (openers opened mon m unasked)))
    (was_not P asked (values_of (last_round j) mon j) (answered_report mon (answer_of mon j)) unasked (r.good mon m)))

pub round_got : (s : Setup) (j : List Noted) (all : List ℕ) (from : Mon) (frame : Frame) → IsMonitor s from.0 → refusal_of s j from.0 frame ≡ None → is_open s j ≡ true → HasOpeners s j → IsRoundOver s j all
    → IsRoundOver s (j ++ n.Got from frame ∷ []) all
round_got s j all from frame range none opened openers r =
    let now = j ++ n.Got from frame ∷ [] in
    let members = got_members j from frame in
    record {
      among = subst (λ ms. All (Contains all) ms) (sym members) r.among;
      within = r.within;
      positive = r.positive;
      ascends = r.ascends;
      asked = λ mon. subst (λ x. Gives (λ xs. xs ≡ all) x) (sym (ap (λ q. asked_of q mon now) (got_round j from frame) ∙ got_asked (last_round j) mon j from frame)) (r.asked mon);
      good = λ mon m.
          subst (λ (g : Grid). Gives (CanTakePart g (members_at now) all) (report_of mon now)) (sym (table_by s j now (λ q. got_assigns q j from frame)))
          (subst (λ ms. Gives (CanTakePart (table_at s j) ms all) (report_of mon now)) (sym members) (got_good s j all from frame range none opened openers r mon m));
      wide = λ w. r.wide (sym (wide_by s j now (got_round j from frame) (λ q mon. got_asked q mon j from frame)) ∙ w);
    }

-- ---- Collects

-- no Values have come for a new round
pub new_values : (s : Setup) (j : List Noted) (round : ℕ) (asked : List ℕ) (mons : List ℕ) (mon : ℕ) → AreCounted s j → last_round j < round → values_of round mon (j ++ collects round asked mons) ≡ None
new_values s j round asked mons mon c new = batch_values round mon j (λ m. m) (λ _. f.Collect round asked) mons ∙ c.values round mon new

later_of_none : {A : Type 0} (x : Option A) → later None x ≡ x
later_of_none None = refl
later_of_none (Some x) = refl

pub new_asked : (s : Setup) (j : List Noted) (round : ℕ) (asked : List ℕ) (mons : List ℕ) (mon : ℕ) → AreCounted s j → last_round j < round
    → asked_of round mon (j ++ collects round asked mons) ≡ (if is_in mons mon then Some asked else None)
new_asked s j round asked mons mon c new =
    asked_of-append round mon j (collects round asked mons)
    ∙ ap (λ x. later x (asked_of round mon (collects round asked mons))) (c.asked round mon new)
    ∙ later_of_none (asked_of round mon (collects round asked mons))
    ∙ collects_asked round mon asked mons (eq-eqb round round refl)

-- the round that Collects open has been told only what stands with those that were not asked
pub round_collects : (s : Setup) (j : List Noted) (round : ℕ) (all : List ℕ) (q : ℕ) (mons : List ℕ) → AreCounted s j → last_round j < round
    → All (Contains all) (members_at j) → All (λ o. o ≤ s.objects) all → All (λ o. 0 < o) all → IsAscending all
    → ((mon : ℕ) → IsMonitor s mon → is_in (q ∷ mons) mon ≡ false → Gives (CanTakePart (table_at s j) (members_at j) all) (answered_report mon (answer_of mon j)))
    → (is_wide s (j ++ collects round all (q ∷ mons)) ≡ true → all ≡ objects s.objects)
    → IsRoundOver s (j ++ collects round all (q ∷ mons)) all
unfolding report_of
round_collects s j round all q mons c new among within positive up others wide =
    let batch = collects round all (q ∷ mons) in
    let after = j ++ batch in
    let last = collects_round j round all q mons in
    let members : members_at after ≡ members_at j = plain_members j (λ m. m) (λ _. f.Collect round all) (q ∷ mons) (λ _. refl) in
    let table : table_at s after ≡ table_at s j = table_by s j after (λ mon. plain_assigns mon j (λ m. m) (λ _. f.Collect round all) (q ∷ mons) (λ _. refl)) in
    record {
      among = subst (λ ms. All (Contains all) ms) (sym members) among;
      within = within;
      positive = positive;
      ascends = up;
      asked = λ mon. subst (λ x. Gives (λ xs. xs ≡ all) x) (sym (ap (λ r. asked_of r mon after) last ∙ new_asked s j round all (q ∷ mons) mon c new)) (if_gives (λ xs. xs ≡ all) (is_in (q ∷ mons) mon) all refl);
      good = λ mon m.
          let P = CanTakePart (table_at s j) (members_at j) all in
          subst (λ (g : Grid). Gives (CanTakePart g (members_at after) all) (report_of mon after)) (sym table)
          (subst (λ ms. Gives (CanTakePart (table_at s j) ms all) (report_of mon after)) (sym members)
          (either_gives P (is_some (asked_of (last_round after) mon after)) (values_of (last_round after) mon after) (answered_report mon (answer_of mon after))
          (λ _. subst (λ x. Gives P x) (sym (ap (λ r. values_of r mon after) last ∙ new_values s j round all (q ∷ mons) mon c new)) (none_gives P))
          (λ isnt. subst (λ x. Gives P (answered_report mon x)) (sym (plain_answer mon j (λ k. k) (λ _. f.Collect round all) (q ∷ mons) (λ _. refl))) (others mon m (collects_unasked j round mon all q mons isnt)))));
      wide = wide;
    }
