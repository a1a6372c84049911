-- How the readings of a journal go on when entries are appended.
use Rattle.std.proofs.Common.{◌≡◌, ℕ, ◌+◌, ◌||◌, List, [], ◌∷◌, ◌++◌, length, Option, Some, None, refl, sym, ap, ◌∙◌}
use Rattle.std.specs.Prelude.{fold, unwrap_or}
use Rattle.std.specs.List.{filter_map}
use Rattle.std.proofs.lemmas.List.{append_assoc, append-nil, length-append}
use Rattle.std.proofs.lemmas.List.Sums.{fold-append}
use Rattle.std.proofs.lemmas.List.Elements.{filter_map-append}
use Rattle.std.proofs.lemmas.List.Folds.{list_any-append}
use Rattle.tk_frames.specs.Assigns.{assign_in}
use Rattle.tk_base.specs.History.{last_of}
use Rattle.tk_journal.specs.Walks.{walk}
use Rattle.tk_journal.specs.Links.{frames_to, frames_from, link_of, sent_to, got_from, passed_by}
use Rattle.tk_journal.specs.Readings.{seq_in, seqs_to, assigns_to, assigns_sent, members_at, members_in, answer_of, answered, progress_of, told, last_round, round_in, asked_of, asked_by, values_of, values_for, is_stopped, is_stop}
use Rattle.tk_journal.specs.declared.noted.Noted.{Noted}

-- the second of two options where it is there, else the first
abbrev pub later : {A : Type 0} → Option A → Option A → Option A
later x None = x
later x (Some y) = Some y

later_twice : {A : Type 0} (x : Option A) (y : A) (z : Option A) → later (Some y) z ≡ later x (later (Some y) z)
later_twice x y None = refl
later_twice x y (Some z) = refl

fold_last : {A : Type 0} (x : Option A) (ys : List A) → fold (λ _ e. Some e) x ys ≡ later x (last_of ys)
fold_last x [] = refl
fold_last x (y ∷ ys) = fold_last (Some y) ys ∙ later_twice x y (last_of ys) ∙ ap (later x) (sym (fold_last (Some y) ys))

pub last_of-append : {A : Type 0} (xs ys : List A) → last_of (xs ++ ys) ≡ later (last_of xs) (last_of ys)
last_of-append xs ys = fold-append (λ _ e. Some e) None xs ys ∙ fold_last (last_of xs) ys

pub walk-append : {A B : Type 0} (step : List A → B → A → B) (before : List A) (start : B) (xs ys : List A) → walk step before start (xs ++ ys) ≡ walk step (before ++ xs) (walk step before start xs) ys
walk-append step before start [] ys = ap (λ b. walk step b start ys) (sym (append-nil before))
walk-append step before start (x ∷ xs) ys =
    walk-append step (before ++ x ∷ []) (step before start x) xs ys ∙ ap (λ b. walk step b (walk step (before ++ x ∷ []) (step before start x) xs) ys) (append_assoc before (x ∷ []) xs)

-- ---- the readings

pub frames_to-append : (mon : ℕ) (a b : List Noted) → frames_to mon (a ++ b) ≡ frames_to mon a ++ frames_to mon b
frames_to-append mon a b = filter_map-append (sent_to mon) a b

pub frames_from-append : (mon : ℕ) (a b : List Noted) → frames_from mon (a ++ b) ≡ frames_from mon a ++ frames_from mon b
frames_from-append mon a b = filter_map-append (got_from mon) a b

pub link_of-append : (mon : ℕ) (a b : List Noted) → link_of mon (a ++ b) ≡ link_of mon a ++ link_of mon b
link_of-append mon a b = filter_map-append (passed_by mon) a b

pub assigns_to-append : (mon : ℕ) (a b : List Noted) → assigns_to mon (a ++ b) ≡ assigns_to mon a ++ assigns_to mon b
assigns_to-append mon a b = ap (filter_map assign_in) (frames_to-append mon a b) ∙ filter_map-append assign_in (frames_to mon a) (frames_to mon b)

pub assigns_sent-append : (mon : ℕ) (a b : List Noted) → assigns_sent mon (a ++ b) ≡ assigns_sent mon a + assigns_sent mon b
unfolding assigns_sent
assigns_sent-append mon a b = ap length (assigns_to-append mon a b) ∙ length-append (assigns_to mon a) (assigns_to mon b)

pub seqs_to-append : (mon : ℕ) (a b : List Noted) → seqs_to mon (a ++ b) ≡ seqs_to mon a ++ seqs_to mon b
seqs_to-append mon a b = ap (filter_map seq_in) (frames_to-append mon a b) ∙ filter_map-append seq_in (frames_to mon a) (frames_to mon b)

default_later : {A : Type 0} (x y : Option A) (d : A) → unwrap_or (later x y) d ≡ unwrap_or y (unwrap_or x d)
default_later x None d = refl
default_later x (Some y) d = refl

pub members_at-append : (a b : List Noted) → members_at (a ++ b) ≡ unwrap_or (last_of (filter_map members_in b)) (members_at a)
unfolding members_at
members_at-append a b =
    ap (λ xs. unwrap_or (last_of xs) []) (filter_map-append members_in a b)
    ∙ ap (λ x. unwrap_or x []) (last_of-append (filter_map members_in a) (filter_map members_in b))
    ∙ default_later (last_of (filter_map members_in a)) (last_of (filter_map members_in b)) []

pub last_round-append : (a b : List Noted) → last_round (a ++ b) ≡ unwrap_or (last_of (filter_map round_in b)) (last_round a)
unfolding last_round
last_round-append a b =
    ap (λ xs. unwrap_or (last_of xs) 0) (filter_map-append round_in a b)
    ∙ ap (λ x. unwrap_or x 0) (last_of-append (filter_map round_in a) (filter_map round_in b))
    ∙ default_later (last_of (filter_map round_in a)) (last_of (filter_map round_in b)) 0

pub asked_of-append : (round mon : ℕ) (a b : List Noted) → asked_of round mon (a ++ b) ≡ later (asked_of round mon a) (asked_of round mon b)
unfolding asked_of
asked_of-append round mon a b =
    ap (λ xs. last_of (filter_map (asked_by round) xs)) (frames_to-append mon a b)
    ∙ ap last_of (filter_map-append (asked_by round) (frames_to mon a) (frames_to mon b))
    ∙ last_of-append (filter_map (asked_by round) (frames_to mon a)) (filter_map (asked_by round) (frames_to mon b))

pub values_of-append : (round mon : ℕ) (a b : List Noted) → values_of round mon (a ++ b) ≡ later (values_of round mon a) (values_of round mon b)
unfolding values_of
values_of-append round mon a b =
    ap (λ xs. last_of (filter_map (values_for round mon) xs)) (frames_from-append mon a b)
    ∙ ap last_of (filter_map-append (values_for round mon) (frames_from mon a) (frames_from mon b))
    ∙ last_of-append (filter_map (values_for round mon) (frames_from mon a)) (filter_map (values_for round mon) (frames_from mon b))

pub answer_of-append : (mon : ℕ) (a b : List Noted) → answer_of mon (a ++ b) ≡ walk answered (link_of mon a) (answer_of mon a) (link_of mon b)
unfolding answer_of
answer_of-append mon a b = ap (walk answered [] None) (link_of-append mon a b) ∙ walk-append answered [] None (link_of mon a) (link_of mon b)

pub progress_of-append : (mon : ℕ) (a b : List Noted) → progress_of mon (a ++ b) ≡ walk told (link_of mon a) (progress_of mon a) (link_of mon b)
unfolding progress_of
progress_of-append mon a b = ap (walk told [] None) (link_of-append mon a b) ∙ walk-append told [] None (link_of mon a) (link_of mon b)

pub is_stopped-append : (a b : List Noted) → is_stopped (a ++ b) ≡ (is_stopped a || is_stopped b)
unfolding is_stopped
is_stopped-append a b = list_any-append is_stop a b
