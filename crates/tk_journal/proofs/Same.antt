-- Entries that change no reading of members, factors, answers and rounds: publications and Stops.
use Rattle.std.proofs.Common.{◌≡◌, ℕ, Bool, true, false, not, ◌==◌, ◌||◌, ◌&&◌, List, [], ◌∷◌, ◌++◌, length, map, Option, Some, None, refl, sym, ap, ◌∙◌, subst}
use Rattle.std.specs.Prelude.{ℤ, neg_ℤ, nat_lt, is_some, filter, if◌then◌else◌}
use Rattle.std.specs.List.{filter_map, list_any, list_all, cons_option}
use Rattle.std.proofs.lemmas.List.{append-nil, append_assoc}
use Rattle.tk_base.specs.Objects.{objects}
use Rattle.tk_base.specs.Settings.{Setup}
use Rattle.tk_base.specs.Sum.{int_sum}
use Rattle.tk_frames.specs.Assigns.{Assign, row}
use Rattle.tk_frames.specs.declared.frame.Frame.{Frame}
use Rattle.tk_frames.specs.declared.frame.Frame.TheVariants as f
use Rattle.tk_base.specs.History.{last_of}
use Rattle.tk_journal.specs.Walks.{walk}
use Rattle.tk_journal.specs.Readings.{Tuning, monitors, seqs_to, assigns_to, assigns_sent, members_at, factor, own, table_at, answer_of, progress_of, settled_in, last_round, round_in, asked_of, values_of, waits_for, is_open, is_calm, tunings, first_round, is_over, tuned_to, in_force}
use Rattle.tk_journal.specs.Deciding.{report_of, answered_report}
use Rattle.tk_journal.specs.Turns.{rounds, rounds_after}
use Rattle.tk_journal.specs.Publishing.{closing, is_due, is_last, publication_at, stops}
use Rattle.tk_journal.specs.declared.noted.Noted.{Noted}
use Rattle.tk_journal.specs.declared.noted.Noted.TheVariants as n
use Rattle.tk_journal.specs.declared.publication.Publication.{Publication}
use Rattle.tk_journal.proofs.Appends.{walk-append, seqs_to-append, assigns_to-append, members_at-append, last_round-append, asked_of-append, values_of-append, answer_of-append, progress_of-append}
use Rattle.tk_journal.proofs.Pieces.{batch, batch_values, batch_progress}
use Rattle.tk_journal.proofs.Batches.{plain_assigns, plain_seqs, plain_answer, plain_members, other_round, other_asked}

-- what two journals agree in
pub record AreSame (s : Setup) (a b : List Noted) : Type 0 where
  pub assigns : (mon : ℕ) → assigns_to mon b ≡ assigns_to mon a
  pub seqs : (mon : ℕ) → seqs_to mon b ≡ seqs_to mon a
  pub members : members_at b ≡ members_at a
  pub answer : (mon : ℕ) → answer_of mon b ≡ answer_of mon a
  pub progress : (mon : ℕ) → progress_of mon b ≡ progress_of mon a
  pub round : last_round b ≡ last_round a
  pub asked : (round mon : ℕ) → asked_of round mon b ≡ asked_of round mon a
  pub values : (round mon : ℕ) → values_of round mon b ≡ values_of round mon a
  pub tuned : tunings b ≡ tunings a
  pub count : rounds s b ≡ rounds s a

pub same_refl : (s : Setup) (a : List Noted) → AreSame s a a
same_refl s a = record { assigns = λ _. refl; seqs = λ _. refl; members = refl; answer = λ _. refl; progress = λ _. refl; round = refl; asked = λ _ _. refl; values = λ _ _. refl; tuned = refl; count = refl }

pub same_trans : (s : Setup) (a b c : List Noted) → AreSame s a b → AreSame s b c → AreSame s a c
same_trans s a b c p q = record {
  assigns = λ mon. q.assigns mon ∙ p.assigns mon;
  seqs = λ mon. q.seqs mon ∙ p.seqs mon;
  members = q.members ∙ p.members;
  answer = λ mon. q.answer mon ∙ p.answer mon;
  progress = λ mon. q.progress mon ∙ p.progress mon;
  round = q.round ∙ p.round;
  asked = λ r mon. q.asked r mon ∙ p.asked r mon;
  values = λ r mon. q.values r mon ∙ p.values r mon;
  tuned = q.tuned ∙ p.tuned;
  count = q.count ∙ p.count;
}

-- ---- what follows from it

pub map_same : {X Y : Type 0} (g h : X → Y) (xs : List X) → ((x : X) → g x ≡ h x) → map g xs ≡ map h xs
map_same g h [] e = refl
map_same g h (x ∷ xs) e = ap (λ y. y ∷ map g xs) (e x) ∙ ap (λ ys. h x ∷ ys) (map_same g h xs e)

pub any_same : {X : Type 0} (g h : X → Bool) (xs : List X) → ((x : X) → g x ≡ h x) → list_any g xs ≡ list_any h xs
any_same g h [] e = refl
any_same g h (x ∷ xs) e = ap (λ b. b || list_any g xs) (e x) ∙ ap (λ b. h x || b) (any_same g h xs e)

pub all_same : {X : Type 0} (g h : X → Bool) (xs : List X) → ((x : X) → g x ≡ h x) → list_all g xs ≡ list_all h xs
all_same g h [] e = refl
all_same g h (x ∷ xs) e = ap (λ b. b && list_all g xs) (e x) ∙ ap (λ b. h x && b) (all_same g h xs e)

pub maps_same : {X Y : Type 0} (g h : X → Option Y) (xs : List X) → ((x : X) → g x ≡ h x) → filter_map g xs ≡ filter_map h xs
maps_same g h [] e = refl
maps_same g h (x ∷ xs) e = ap (λ o. cons_option o (filter_map g xs)) (e x) ∙ ap (cons_option (h x)) (maps_same g h xs e)

pub sent_same : (s : Setup) (a b : List Noted) → AreSame s a b → (mon : ℕ) → assigns_sent mon b ≡ assigns_sent mon a
unfolding assigns_sent
sent_same s a b e mon = ap length (e.assigns mon)

pub factor_by : (a b : List Noted) → ((mon : ℕ) → assigns_to mon b ≡ assigns_to mon a) → (mon o : ℕ) → factor mon b o ≡ factor mon a o
unfolding factor
factor_by a b e mon o = ap (λ (xs : List Assign). row xs o) (e mon)

pub own_by : (s : Setup) (a b : List Noted) → ((mon : ℕ) → assigns_to mon b ≡ assigns_to mon a) → (o : ℕ) → own s b o ≡ own s a o
unfolding own
own_by s a b e o = ap (λ xs. neg_ℤ (int_sum xs)) (map_same (λ mon. factor mon b o) (λ mon. factor mon a o) (monitors s) (λ mon. factor_by a b e mon o))

pub table_by : (s : Setup) (a b : List Noted) → ((mon : ℕ) → assigns_to mon b ≡ assigns_to mon a) → table_at s b ≡ table_at s a
unfolding table_at
table_by s a b e =
    ap (λ (rows : List (List ℤ)). record { monitors = s.monitors; rows = rows })
    (map_same (λ o. own s b o ∷ map (λ mon. factor mon b o) (monitors s)) (λ o. own s a o ∷ map (λ mon. factor mon a o) (monitors s)) (objects s.objects) (λ o.
    ap (λ z. z ∷ map (λ mon. factor mon b o) (monitors s)) (own_by s a b e o)
    ∙ ap (λ zs. own s a o ∷ zs) (map_same (λ mon. factor mon b o) (λ mon. factor mon a o) (monitors s) (λ mon. factor_by a b e mon o))))

pub waits_by : (a b : List Noted) → ((round mon : ℕ) → asked_of round mon b ≡ asked_of round mon a) → ((round mon : ℕ) → values_of round mon b ≡ values_of round mon a)
    → (round mon : ℕ) → waits_for round mon b ≡ waits_for round mon a
unfolding waits_for
waits_by a b asked values round mon =
    ap (λ x. is_some x && not (is_some (values_of round mon b))) (asked round mon) ∙ ap (λ y. is_some (asked_of round mon a) && not (is_some y)) (values round mon)

pub open_by : (s : Setup) (a b : List Noted) → last_round b ≡ last_round a → ((round mon : ℕ) → asked_of round mon b ≡ asked_of round mon a)
    → ((round mon : ℕ) → values_of round mon b ≡ values_of round mon a) → is_open s b ≡ is_open s a
unfolding is_open
open_by s a b round asked values =
    ap (λ r. list_any (λ mon. waits_for r mon b) (monitors s)) round
    ∙ any_same (λ mon. waits_for (last_round a) mon b) (λ mon. waits_for (last_round a) mon a) (monitors s) (λ mon. waits_by a b asked values (last_round a) mon)

pub open_same : (s : Setup) (a b : List Noted) → AreSame s a b → is_open s b ≡ is_open s a
open_same s a b e = open_by s a b e.round e.asked e.values

pub report_same : (s : Setup) (a b : List Noted) → AreSame s a b → (mon : ℕ) → report_of mon b ≡ report_of mon a
unfolding report_of
report_same s a b e mon =
    ap (λ r. if is_some (asked_of r mon b) then values_of r mon b else answered_report mon (answer_of mon b)) e.round
    ∙ ap (λ x. if is_some x then values_of (last_round a) mon b else answered_report mon (answer_of mon b)) (e.asked (last_round a) mon)
    ∙ ap (λ y. if is_some (asked_of (last_round a) mon a) then y else answered_report mon (answer_of mon b)) (e.values (last_round a) mon)
    ∙ ap (λ z. if is_some (asked_of (last_round a) mon a) then values_of (last_round a) mon a else answered_report mon z) (e.answer mon)

pub calm_same : (s : Setup) (a b : List Noted) → AreSame s a b → is_calm s b ≡ is_calm s a
unfolding is_calm
calm_same s a b e =
    ap (λ o. not o && list_all (λ mon. is_some (settled_in (answer_of mon b))) (monitors s)) (open_same s a b e)
    ∙ ap (λ x. not (is_open s a) && x) (all_same (λ mon. is_some (settled_in (answer_of mon b))) (λ mon. is_some (settled_in (answer_of mon a))) (monitors s) (λ mon. ap (λ x. is_some (settled_in x)) (e.answer mon)))

over_same : (s : Setup) (a b : List Noted) → AreSame s a b → (round : Option ℕ) → is_over s b round ≡ is_over s a round
over_same s a b e None = refl
over_same s a b e (Some round) =
    ap (λ r. nat_lt round r || (round == r && not (is_open s b))) e.round ∙ ap (λ o. nat_lt round (last_round a) || (round == last_round a && not o)) (open_same s a b e)

pub filter_same : {X : Type 0} (g h : X → Bool) (xs : List X) → ((x : X) → g x ≡ h x) → filter g xs ≡ filter h xs
filter_same g h [] e = refl
filter_same g h (x ∷ xs) e = ap (λ c. if c then x ∷ filter g xs else filter g xs) (e x) ∙ ap (λ (ys : List _). if h x then x ∷ ys else ys) (filter_same g h xs e)

pub force_same : (s : Setup) (a b : List Noted) → AreSame s a b → in_force s b ≡ in_force s a
unfolding in_force
force_same s a b e =
    ap (λ (ts : List Tuning). tuned_to s (last_of (filter (λ t. is_over s b t.round) ts))) e.tuned
    ∙ ap (λ (ts : List Tuning). tuned_to s (last_of ts)) (filter_same (λ (t : Tuning). is_over s b t.round) (λ t. is_over s a t.round) (tunings a) (λ t. over_same s a b e t.round))

-- ---- publications and Stops

first_more : (a b : List Noted) → first_round b ≡ None → first_round (a ++ b) ≡ first_round a
first_more [] b none = none
first_more (e ∷ a) b none = ap (λ x. if is_some (round_in e) then round_in e else x) (first_more a b none)

-- entries with no retune and no Collect add no tuning, and open none
pub tunings-append : (a b : List Noted) → tunings b ≡ [] → first_round b ≡ None → tunings (a ++ b) ≡ tunings a
tunings-append [] b none first = none
tunings-append (n.Got from frame ∷ a) b none first = tunings-append a b none first
tunings-append (n.Sent to frame ∷ a) b none first = tunings-append a b none first
tunings-append (n.Published publication ∷ a) b none first = tunings-append a b none first
tunings-append (n.Tuned k epsilon ∷ a) b none first =
    ap (λ (x : Option ℕ). record { k = k; epsilon = epsilon; round = x } ∷ tunings (a ++ b)) (first_more a b first)
    ∙ ap (λ (ts : List Tuning). record { k = k; epsilon = epsilon; round = first_round a } ∷ ts) (tunings-append a b none first)

pub same_published : (s : Setup) (a : List Noted) (publication : Publication) → AreSame s a (a ++ n.Published publication ∷ [])
unfolding asked_of values_of rounds
same_published s a publication = record {
  assigns = λ mon. assigns_to-append mon a (n.Published publication ∷ []) ∙ append-nil (assigns_to mon a);
  seqs = λ mon. seqs_to-append mon a (n.Published publication ∷ []) ∙ append-nil (seqs_to mon a);
  members = members_at-append a (n.Published publication ∷ []);
  answer = λ mon. answer_of-append mon a (n.Published publication ∷ []);
  progress = λ mon. progress_of-append mon a (n.Published publication ∷ []);
  round = last_round-append a (n.Published publication ∷ []);
  asked = λ r mon. asked_of-append r mon a (n.Published publication ∷ []);
  values = λ r mon. values_of-append r mon a (n.Published publication ∷ []);
  tuned = tunings-append a (n.Published publication ∷ []) refl refl;
  count = walk-append (rounds_after s) [] 0 a (n.Published publication ∷ []);
}

abbrev stop_to : ℕ → Frame
stop_to _ = f.Stop

no_tunings : (mons : List ℕ) → (tunings (batch (λ m. m) stop_to mons) ≡ []) × (first_round (batch (λ m. m) stop_to mons) ≡ None)
no_tunings [] = (refl, refl)
no_tunings (m ∷ mons) = no_tunings mons

no_rounds : (s : Setup) (front : List Noted) (count : ℕ) (mons : List ℕ) → walk (rounds_after s) front count (batch (λ m. m) stop_to mons) ≡ count
no_rounds s front count [] = refl
no_rounds s front count (m ∷ mons) = no_rounds s (front ++ n.Sent (record { 0 = m }) f.Stop ∷ []) count mons

pub same_stops : (s : Setup) (a : List Noted) → AreSame s a (a ++ stops s)
unfolding rounds
same_stops s a = record {
  assigns = λ mon. plain_assigns mon a (λ m. m) stop_to (monitors s) (λ _. refl);
  seqs = λ mon. plain_seqs mon a (λ m. m) stop_to (monitors s) (λ _. refl);
  members = plain_members a (λ m. m) stop_to (monitors s) (λ _. refl);
  answer = λ mon. plain_answer mon a (λ m. m) stop_to (monitors s) (λ _. refl);
  progress = λ mon. batch_progress mon a (λ m. m) stop_to (monitors s);
  round = other_round a (λ m. m) stop_to (monitors s) (λ _. refl);
  asked = λ r mon. other_asked r mon a (λ m. m) stop_to (monitors s) (λ _. refl);
  values = λ r mon. batch_values r mon a (λ m. m) stop_to (monitors s);
  tuned = tunings-append a (stops s) (no_tunings (monitors s)).0 (no_tunings (monitors s)).1;
  count = walk-append (rounds_after s) [] 0 a (stops s) ∙ no_rounds s a (rounds s a) (monitors s);
}

stops_if : (s : Setup) (a : List Noted) (b : Bool) → AreSame s a (a ++ (if b then stops s else []))
stops_if s a true = same_stops s a
stops_if s a false = subst (AreSame s a) (sym (append-nil a)) (same_refl s a)

closing_if : (s : Setup) (a : List Noted) (due last : Bool) (publication : Publication) → AreSame s a (a ++ (if due then n.Published publication ∷ (if last then stops s else []) else []))
closing_if s a true last publication =
    subst (AreSame s a) (append_assoc a (n.Published publication ∷ []) (if last then stops s else []))
    (same_trans s a (a ++ n.Published publication ∷ []) (a ++ n.Published publication ∷ [] ++ (if last then stops s else [])) (same_published s a publication) (stops_if s (a ++ n.Published publication ∷ []) last))
closing_if s a false last publication = subst (AreSame s a) (sym (append-nil a)) (same_refl s a)

-- what ends a turn changes none of these readings
pub same_closing : (s : Setup) (a : List Noted) → AreSame s a (a ++ closing s a)
unfolding closing
same_closing s a = closing_if s a (is_due s a) (is_last s a) (publication_at s a)
