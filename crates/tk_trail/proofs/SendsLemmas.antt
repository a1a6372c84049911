-- What a trail sends, how often, and what is due at its end.
use Rattle.tk_frames.specs.declared.frame.Frame.TheVariants as f
use Rattle.std.proofs.Common.{◌≡◌, ℕ, ◌+◌, ◌<◌, ◌≤◌, ◌||◌, ◌==◌, Bool, true, false, not, cond, List, [], ◌∷◌, ◌++◌, length, Option, Some, None, refl, sym, ap, ◌∙◌, arith, inl, inr, append_assoc, append-nil}
use Rattle.std.specs.Prelude.{ℤ, fold, count_by, nat_lt, if◌then◌else◌}
use Rattle.std.specs.List.{list_any}
use Rattle.std.proofs.lemmas.Bool.{cases_Bool, cases_eq, cases_lt, ne_eqb, true≢false, false≢true, or_right as or_true, and_parts, not-true}
use Rattle.std.proofs.lemmas.List.Sums.{fold_push, fold-append, sum_by_push}
use Rattle.std.proofs.lemmas.List.{length-append}
use Rattle.std.proofs.lemmas.List.Folds.{list_any-append}
use Rattle.tk_base.proofs.HistoryLemmas.{each_carries}
use Rattle.tk_frames.specs.Assigns.{Assign}
use Rattle.tk_frames.specs.declared.frame.Frame.{Frame}
use Rattle.tk_trail.specs.Setup.{MonitorSetup}
use Rattle.tk_trail.specs.Readings.{assigns_of, seq_of, places_at, at_ends, is_broken, is_reported, is_end_told, is_report, is_end, since_assign, goes_on, sent_by}
use Rattle.tk_trail.specs.Frames.{answer_at, answer_to, report_at, settled_at, values_at, owed_after, owed_at, due_at, report_is_due, end_is_due, may_report}
use Rattle.tk_trail.specs.Legal.{Allowed, IsLegal, to_send}
use Rattle.tk_trail.specs.declared.entry.Entry.{Entry}
use Rattle.tk_trail.specs.declared.entry.Entry.TheVariants.{Raised, Took, Sent}
use Rattle.std.proofs.Math.Bool.{or-false}
use Rattle.tk_base.proofs.BoolLemmas.{neither_right}
use Rattle.tk_trail.specs.Refusal.{refusal_of}
use Rattle.tk_trail.proofs.LegalLemmas.{IsTold, told_goes, not_refused}
use Rattle.tk_trail.proofs.LawLemmas.{assigns_of-append}
use Rattle.tk_trail.proofs.PlacesLemmas.{places_at-took, places_at-sent}
use Rattle.tk_trail.proofs.ReadingsLemmas.{sent_by-raised, sent_by-took, sent_by-sent, seq_of-raised, seq_of-sent, seq_of-other, seq_of-assign, reported-raised, reported-sent, reported-collect, reported-stop, told-raised, told-sent, told-collect, told-stop}
use Rattle.tk_trail.specs.Still.{Same, is_raise, is_still, answers_under}
use Rattle.tk_frames.specs.Carried.{is_numbered}
use Rattle.tk_trail.proofs.DueLemmas.{report_there, end_there}

-- ---- a frame under the last number speaks of the end of the trail

folded : (front z : List Entry) → assigns_of z ≡ [] → fold goes_on front z ≡ front ++ z
folded front [] none = sym (append-nil front)
folded front (Raised g ∷ z) none = folded (front ++ Raised g ∷ []) z none ∙ append_assoc front (Raised g ∷ []) z
folded front (Sent frame ∷ z) none = folded (front ++ Sent frame ∷ []) z none ∙ append_assoc front (Sent frame ∷ []) z
folded front (Took (f.Assign seq members changes) ∷ z) none = absurd (cc)
folded front (Took (f.Collect round asked) ∷ z) none = folded (front ++ Took (f.Collect round asked) ∷ []) z none ∙ append_assoc front (Took (f.Collect round asked) ∷ []) z
folded front (Took f.Stop ∷ z) none = folded (front ++ Took f.Stop ∷ []) z none ∙ append_assoc front (Took f.Stop ∷ []) z
folded front (Took (f.Hello run version mon) ∷ z) none = folded (front ++ Took (f.Hello run version mon) ∷ []) z none ∙ append_assoc front (Took (f.Hello run version mon) ∷ []) z
folded front (Took (f.Report seq border failed values) ∷ z) none = folded (front ++ Took (f.Report seq border failed values) ∷ []) z none ∙ append_assoc front (Took (f.Report seq border failed values) ∷ []) z
folded front (Took (f.Values round seq border values) ∷ z) none = folded (front ++ Took (f.Values round seq border values) ∷ []) z none ∙ append_assoc front (Took (f.Values round seq border values) ∷ []) z
folded front (Took (f.Settled seq last places) ∷ z) none = folded (front ++ Took (f.Settled seq last places) ∷ []) z none ∙ append_assoc front (Took (f.Settled seq last places) ∷ []) z

pub since-more : (x z : List Entry) → assigns_of z ≡ [] → since_assign (x ++ z) ≡ since_assign x ++ z
since-more x z none = fold-append goes_on [] x z ∙ folded (since_assign x) z none

places_stay : (setup : MonitorSetup) (x z : List Entry) → list_any is_raise z ≡ false → places_at setup (x ++ z) ≡ places_at setup x
places_stay setup x [] none = ap (places_at setup) (append-nil x)
places_stay setup x (Raised g ∷ z) none = absurd (cc)
places_stay setup x (Took frame ∷ z) none = ap (places_at setup) (sym (append_assoc x (Took frame ∷ []) z)) ∙ places_stay setup (x ++ Took frame ∷ []) z none ∙ places_at-took setup x frame
places_stay setup x (Sent frame ∷ z) none = ap (places_at setup) (sym (append_assoc x (Sent frame ∷ []) z)) ∙ places_stay setup (x ++ Sent frame ∷ []) z none ∙ places_at-sent setup x frame

pub nothing : (xs : List Assign) → length xs ≡ 0 → xs ≡ []
nothing [] e = refl
nothing (x ∷ xs) e = absurd (omega (arith, e))

-- where the same number of Assigns was taken in front of it, and nothing was raised since the last of them
pub speaks_now : (setup : MonitorSetup) (x z : List Entry) → seq_of (x ++ z) ≡ seq_of x → is_still (x ++ z) ≡ true → Same setup x (x ++ z)
speaks_now setup x z same still =
    let parts = assigns_of-append x z in
    let none : assigns_of z ≡ [] = nothing (assigns_of z) (let a = ap (λ (xs : List Assign). length xs) parts in let b = length-append (assigns_of x) (assigns_of z) in omega (arith, a, b, same)) in
    let quiet : list_any is_raise z ≡ false =
    neither_right (list_any is_raise (since_assign x)) (list_any is_raise z) (sym (list_any-append is_raise (since_assign x) z) ∙ ap (list_any is_raise) (sym (since-more x z none)) ∙ not-true (list_any is_raise (since_assign (x ++ z))) still) in
    record {
      places = sym (places_stay setup x z quiet);
      assigns = sym (parts ∙ ap (λ (xs : List Assign). assigns_of x ++ xs) none ∙ append-nil (assigns_of x));
    }

-- ---- what is sent

abbrev pub last_entry : List Entry → Option Entry
last_entry trail = fold (λ (_ : Option Entry) (e : Entry). Some e) None trail

pub last-push : (trail : List Entry) (e : Entry) → last_entry (trail ++ e ∷ []) ≡ Some e
last-push trail e = fold_push (λ (_ : Option Entry) (x : Entry). Some x) None trail e

pub data Sends (setup : MonitorSetup) (trail : List Entry) (frame : Frame) : Type 0 where
  Answered : (seq : ℕ) (members : List ℕ) (changes : List (ℕ × ℤ)) → last_entry trail ≡ Some (Took (f.Assign seq members changes)) → frame ≡ answer_at setup trail → Sends setup trail frame
  Gathered : (round : ℕ) (asked : List ℕ) → last_entry trail ≡ Some (Took (f.Collect round asked)) → frame ≡ values_at setup trail round asked → Sends setup trail frame
  Reported : owed_at setup trail ≡ None → is_reported trail ≡ false → is_broken setup trail ≡ true → frame ≡ report_at setup trail → Sends setup trail frame
  Ended : owed_at setup trail ≡ None → is_reported trail ≡ false → is_broken setup trail ≡ false → at_ends setup trail ≡ true → is_end_told trail ≡ false → frame ≡ settled_at setup trail → Sends setup trail frame

took_sends : (setup : MonitorSetup) (trail : List Entry) (frame sent : Frame) → last_entry trail ≡ Some (Took frame) → answer_to setup trail frame ≡ Some sent → Sends setup trail sent
took_sends setup trail (f.Assign seq members changes) sent last is = Answered seq members changes last (cc)
took_sends setup trail (f.Collect round asked) sent last is = Gathered round asked last (cc)
took_sends setup trail (f.Hello run version mon) sent last is = absurd (cc)
took_sends setup trail (f.Report seq border failed values) sent last is = absurd (cc)
took_sends setup trail (f.Values round seq border values) sent last is = absurd (cc)
took_sends setup trail (f.Settled seq last' places) sent last is = absurd (cc)
took_sends setup trail f.Stop sent last is = absurd (cc)

owed_sends : (setup : MonitorSetup) (trail : List Entry) (last : Option Entry) (sent : Frame) → last_entry trail ≡ last → owed_after setup trail last ≡ Some sent → Sends setup trail sent
owed_sends setup trail None sent last is = absurd (cc)
owed_sends setup trail (Some (Raised feeder)) sent last is = absurd (cc)
owed_sends setup trail (Some (Took frame)) sent last is = took_sends setup trail frame sent last is
owed_sends setup trail (Some (Sent frame)) sent last is = absurd (cc)

due_sends : (setup : MonitorSetup) (trail : List Entry) (report end : Bool) (sent : Frame) → owed_at setup trail ≡ None → report_is_due setup trail ≡ report → end_is_due setup trail ≡ end
    → (if report then Some (report_at setup trail) else (if end then Some (settled_at setup trail) else None)) ≡ Some sent → Sends setup trail sent
unfolding report_is_due end_is_due
due_sends setup trail true end sent none r e is =
    let both = and_parts (may_report trail) (is_broken setup trail) r in
    Reported none (not-true (is_reported trail) (and_parts (nat_lt 0 (seq_of trail)) (not (is_reported trail)) both.0).1) both.1 (cc)
due_sends setup trail false true sent none r e is =
    let all = and_parts _ _ e in
    let rest = and_parts _ _ all.0 in
    let calm = and_parts _ _ rest.0 in
    Ended none (not-true (is_reported trail) (and_parts (nat_lt 0 (seq_of trail)) (not (is_reported trail)) calm.0).1) (not-true (is_broken setup trail) calm.1) rest.1 (not-true (is_end_told trail) all.1) (cc)
due_sends setup trail false false sent none r e is = absurd (cc)

sends_as : (setup : MonitorSetup) (trail : List Entry) (owed : Option Frame) (sent : Frame) → owed_at setup trail ≡ owed → to_send setup trail owed ≡ Some sent → Sends setup trail sent
unfolding owed_at due_at
sends_as setup trail None sent none is = due_sends setup trail (report_is_due setup trail) (end_is_due setup trail) sent none refl refl is
sends_as setup trail (Some answer) sent owed is = owed_sends setup trail (last_entry trail) sent refl (owed ∙ is)

pub sends : (setup : MonitorSetup) (trail : List Entry) (sent : Frame) → Allowed setup trail (Sent sent) → Sends setup trail sent
sends setup trail sent allowed = sends_as setup trail (owed_at setup trail) sent refl allowed.1

-- ---- at most two answers under each number

told_or : List Entry → Bool
told_or trail = is_reported trail || is_end_told trail

one : Bool → ℕ
one b = cond b 1 0

record IsFew (t : List Entry) : Type 0 where
  past : (a : ℕ) → a < seq_of t → answers_under a t ≤ 2
  now : answers_under (seq_of t) t ≤ 1 + one (told_or t)
  late : (a : ℕ) → seq_of t < a → answers_under a t ≡ 0
  first : (seq : ℕ) (members : List ℕ) (changes : List (ℕ × ℤ)) → last_entry t ≡ Some (Took (f.Assign seq members changes)) → answers_under (seq_of t) t ≡ 0

one_most : (b : Bool) → one b ≤ 1
unfolding one
one_most true = omega arith
one_most false = omega arith

-- entries that send nothing and take no Assign
few_quiet : (t t' : List Entry) → seq_of t' ≡ seq_of t → sent_by t' ≡ sent_by t → told_or t' ≡ told_or t → ((seq : ℕ) (members : List ℕ) (changes : List (ℕ × ℤ)) → last_entry t' ≡ Some (Took (f.Assign seq members changes)) → ⊥) → IsFew t → IsFew t'
few_quiet t t' seq sent told other h =
    let same : (a : ℕ) → answers_under a t' ≡ answers_under a t = λ a. ap (count_by (is_numbered a)) sent in
    let flag : one (told_or t') ≡ one (told_or t) = ap one told in
    let here : answers_under (seq_of t') t' ≡ answers_under (seq_of t) t = ap (λ a. answers_under a t') seq ∙ same (seq_of t) in
    record {
      past = λ a low. let e = same a in let p = h.past a (omega (arith, low, seq)) in omega (arith, e, p);
      now = let n = h.now in omega (arith, here, n, flag);
      late = λ a high. same a ∙ h.late a (omega (arith, high, seq));
      first = λ s m c last. absurd (other s m c last);
    }

under-sent : (a : ℕ) (t : List Entry) (frame : Frame) → answers_under a (t ++ Sent frame ∷ []) ≡ answers_under a t + one (is_numbered a frame)
unfolding one
under-sent a t frame = ap (count_by (is_numbered a)) (sent_by-sent t frame) ∙ sum_by_push (λ x. cond (is_numbered a x) 1 0) (sent_by t) frame

-- a frame that is numbered by its place alone
few_sent : (t : List Entry) (frame : Frame) → ((a : ℕ) → (a ≡ seq_of t → ⊥) → is_numbered a frame ≡ false) → answers_under (seq_of t) t + one (is_numbered (seq_of t) frame) ≤ 1 + one (told_or (t ++ Sent frame ∷ [])) → IsFew t → IsFew (t ++ Sent frame ∷ [])
unfolding one
few_sent t frame other now h =
    let seq = seq_of-sent t frame in
    let same : (a : ℕ) → (a ≡ seq_of t → ⊥) → answers_under a (t ++ Sent frame ∷ []) ≡ answers_under a t = λ a ne. let p = under-sent a t frame in let z = ap one (other a ne) in omega (arith, p, z) in
    record {
      past = λ a low. let e = same a (λ is. omega (arith, low, seq, is)) in let p = h.past a (omega (arith, low, seq)) in omega (arith, e, p);
      now = let e = ap (λ a. answers_under a (t ++ Sent frame ∷ [])) seq ∙ under-sent (seq_of t) t frame in omega (arith, e, now);
      late = λ a high. same a (λ is. omega (arith, high, seq, is)) ∙ h.late a (omega (arith, high, seq));
      first = λ s m c last. let e = last-push t (Sent frame) in absurd (cc);
    }

few_assign : (t : List Entry) (seq : ℕ) (members : List ℕ) (changes : List (ℕ × ℤ)) → IsFew t → IsFew (t ++ Took (f.Assign seq members changes) ∷ [])
few_assign t seq members changes h =
    let e = seq_of-assign t seq members changes in
    let t' = t ++ Took (f.Assign seq members changes) ∷ [] in
    let same : (a : ℕ) → answers_under a t' ≡ answers_under a t = λ a. ap (count_by (is_numbered a)) (sent_by-took t (f.Assign seq members changes)) in
    let none : answers_under (seq_of t') t' ≡ 0 = same (seq_of t') ∙ h.late (seq_of t') (omega (arith, e)) in
    record {
      past = λ a low. elim (cases_eq a (seq_of t)) [
        | inl is ↦
            let n = h.now in
            let flag = one_most (told_or t) in
            let here : answers_under a t' ≡ answers_under (seq_of t) t = same a ∙ ap (λ q. answers_under q t) is in
            omega (arith, n, flag, here)
        | inr ne ↦ let s = same a in let p = h.past a (omega (arith, low, e, ne)) in omega (arith, s, p)
      ];
      now = omega (arith, none);
      late = λ a high. same a ∙ h.late a (omega (arith, high, e));
      first = λ s m c last. none;
    }

-- each entry keeps it
numbered_report : (setup : MonitorSetup) (t : List Entry) (a : ℕ) → is_numbered a (report_at setup t) ≡ (seq_of t == a)
unfolding report_at
numbered_report setup t a = refl

numbered_settled : (setup : MonitorSetup) (t : List Entry) (a : ℕ) → is_numbered a (settled_at setup t) ≡ (seq_of t == a)
unfolding settled_at
numbered_settled setup t a = refl

numbered_values : (setup : MonitorSetup) (t : List Entry) (round : ℕ) (asked : List ℕ) (a : ℕ) → is_numbered a (values_at setup t round asked) ≡ false
unfolding values_at
numbered_values setup t round asked a = refl

pub numbered_answer : (setup : MonitorSetup) (t : List Entry) (broken : Bool) (a : ℕ) → is_numbered a (if broken then report_at setup t else settled_at setup t) ≡ (seq_of t == a)
numbered_answer setup t true a = numbered_report setup t a
numbered_answer setup t false a = numbered_settled setup t a

-- a frame numbered by its place
own_number : (t : List Entry) (frame : Frame) → ((a : ℕ) → is_numbered a frame ≡ (seq_of t == a)) → (a : ℕ) → (a ≡ seq_of t → ⊥) → is_numbered a frame ≡ false
own_number t frame is a ne = is a ∙ ne_eqb (seq_of t) a (λ e. ne (sym e))

or_one : (a b : Bool) → b ≡ true → one (a || b) ≡ 1
unfolding one
or_one true b e = refl
or_one false b e = ap (λ x. cond x 1 0) e

told_sent : (t : List Entry) (frame : Frame) → told_or (t ++ Sent frame ∷ []) ≡ ((is_reported t || is_report (Sent frame)) || (is_end_told t || is_end (Sent frame)))
unfolding told_or
told_sent t frame = ap (λ b. b || is_end_told (t ++ Sent frame ∷ [])) (reported-sent t frame) ∙ ap (λ b. (is_reported t || is_report (Sent frame)) || b) (told-sent t frame)

or_left_one : (a b : Bool) → a ≡ true → one (a || b) ≡ 1
unfolding one
or_left_one true b e = refl
or_left_one false b e = absurd (false≢true e)

none_told : (a b : Bool) → a ≡ false → b ≡ false → one (a || b) ≡ 0
unfolding one
none_told true b e g = absurd (true≢false e)
none_told false true e g = absurd (true≢false g)
none_told false false e g = refl

values_told : (setup : MonitorSetup) (t : List Entry) (round : ℕ) (asked : List ℕ) → told_or (t ++ Sent (values_at setup t round asked) ∷ []) ≡ told_or t
unfolding told_or values_at
values_told setup t round asked =
    ap (λ b. b || is_end_told (t ++ Sent (values_at setup t round asked) ∷ [])) (reported-sent t (values_at setup t round asked) ∙ or-false (is_reported t))
    ∙ ap (λ b. is_reported t || b) (told-sent t (values_at setup t round asked) ∙ or-false (is_end_told t))

one_false : one false ≡ 0
unfolding one
one_false = refl

at_most_now : (n x p q : ℕ) → n ≤ 1 + p → x ≡ 0 → q ≡ p → n + x ≤ 1 + q
at_most_now n x p q a b c = omega (arith, a, b, c)

few_sends : (setup : MonitorSetup) (t : List Entry) (frame : Frame) → IsTold setup t → IsFew t → Sends setup t frame → IsFew (t ++ Sent frame ∷ [])
unfolding told_or
few_sends setup t frame told h (Answered seq members changes last is) =
    let number : (a : ℕ) → is_numbered a frame ≡ (seq_of t == a) = λ a. ap (is_numbered a) is ∙ numbered_answer setup t (is_broken setup t) a in
    let none = h.first seq members changes last in
    let most = one_most (is_numbered (seq_of t) frame) in
    few_sent t frame (own_number t frame number) (omega (arith, none, most)) h
few_sends setup t frame told h (Gathered round asked last is) =
    let number : (a : ℕ) → is_numbered a frame ≡ false = λ a. ap (is_numbered a) is ∙ numbered_values setup t round asked a in
    let kept : told_or (t ++ Sent frame ∷ []) ≡ told_or t = ap (λ (g : Frame). told_or (t ++ Sent g ∷ [])) is ∙ values_told setup t round asked in
    let flag = ap one kept in
    let zero' = ap one (number (seq_of t)) in
    let n = h.now in
    few_sent t frame (λ a ne. number a) (at_most_now (answers_under (seq_of t) t) (one (is_numbered (seq_of t) frame)) (one (told_or t)) (one (told_or (t ++ Sent frame ∷ []))) n (zero' ∙ one_false) flag) h
few_sends setup t frame told h (Reported unowed free broken is) =
    let number : (a : ℕ) → is_numbered a frame ≡ (seq_of t == a) = λ a. ap (is_numbered a) is ∙ numbered_report setup t a in
    let untold : is_end_told t ≡ false = elim (cases_Bool (is_end_told t)) [ inl is' ↦ absurd (true≢false (sym broken ∙ (told.rest is').calm)) | inr not' ↦ not' ] in
    let before = none_told (is_reported t) (is_end_told t) free untold in
    let after : one (told_or (t ++ Sent frame ∷ [])) ≡ 1 =
    ap one (told_sent t frame) ∙ or_left_one (is_reported t || is_report (Sent frame)) (is_end_told t || is_end (Sent frame)) (or_true (is_reported t) (is_report (Sent frame)) (ap (λ (g : Frame). is_report (Sent g)) is ∙ report_there setup t)) in
    let most = one_most (is_numbered (seq_of t) frame) in
    let n = h.now in
    few_sent t frame (own_number t frame number) (omega (arith, n, before, after, most)) h
few_sends setup t frame told h (Ended unowed free calm ends untold is) =
    let number : (a : ℕ) → is_numbered a frame ≡ (seq_of t == a) = λ a. ap (is_numbered a) is ∙ numbered_settled setup t a in
    let before = none_told (is_reported t) (is_end_told t) free untold in
    let after : one (told_or (t ++ Sent frame ∷ [])) ≡ 1 =
    ap one (told_sent t frame) ∙ or_one (is_reported t || is_report (Sent frame)) (is_end_told t || is_end (Sent frame)) (or_true (is_end_told t) (is_end (Sent frame)) (ap (λ (g : Frame). is_end (Sent g)) is ∙ end_there setup t ∙ ends)) in
    let most = one_most (is_numbered (seq_of t) frame) in
    let n = h.now in
    few_sent t frame (own_number t frame number) (omega (arith, n, before, after, most)) h

few_took : (setup : MonitorSetup) (t : List Entry) (frame : Frame) → refusal_of setup t frame ≡ None → IsFew t → IsFew (t ++ Took frame ∷ [])
unfolding told_or
few_took setup t (f.Assign seq members changes) none h = few_assign t seq members changes h
few_took setup t (f.Collect round asked) none h =
    few_quiet t (t ++ Took (f.Collect round asked) ∷ []) (seq_of-other t (f.Collect round asked) refl) (sent_by-took t (f.Collect round asked)) (ap (λ b. b || is_end_told (t ++ Took (f.Collect round asked) ∷ [])) (reported-collect t round asked) ∙ ap (λ b. is_reported t || b) (told-collect t round asked))
    (λ s m c last. let e = last-push t (Took (f.Collect round asked)) in cc) h
few_took setup t f.Stop none h =
    few_quiet t (t ++ Took f.Stop ∷ []) (seq_of-other t f.Stop refl) (sent_by-took t f.Stop) (ap (λ b. b || is_end_told (t ++ Took f.Stop ∷ [])) (reported-stop t) ∙ ap (λ b. is_reported t || b) (told-stop t))
    (λ s m c last. let e = last-push t (Took f.Stop) in cc) h
few_took setup t (f.Hello run version mon) none h = absurd (let go = (not_refused setup t (f.Hello run version mon) none).1 in cc)
few_took setup t (f.Report seq border failed values) none h = absurd (let go = (not_refused setup t (f.Report seq border failed values) none).1 in cc)
few_took setup t (f.Values round seq border values) none h = absurd (let go = (not_refused setup t (f.Values round seq border values) none).1 in cc)
few_took setup t (f.Settled seq last places) none h = absurd (let go = (not_refused setup t (f.Settled seq last places) none).1 in cc)

few_goes : (setup : MonitorSetup) → length setup.from ≡ length setup.parts → (t : List Entry) (e : Entry) → IsTold setup t × IsFew t → Allowed setup t e → IsTold setup (t ++ e ∷ []) × IsFew (t ++ e ∷ [])
unfolding told_or
few_goes setup shape t (Raised feeder) h allowed = (
  told_goes setup shape t (Raised feeder) h.0 allowed,
  few_quiet t (t ++ Raised feeder ∷ []) (seq_of-raised t feeder) (sent_by-raised t feeder) (ap (λ b. b || is_end_told (t ++ Raised feeder ∷ [])) (reported-raised t feeder) ∙ ap (λ b. is_reported t || b) (told-raised t feeder))
      (λ s m c last. let e = last-push t (Raised feeder) in cc) h.1,
)
few_goes setup shape t (Took frame) h allowed = (told_goes setup shape t (Took frame) h.0 allowed, few_took setup t frame allowed.1 h.1)
few_goes setup shape t (Sent frame) h allowed = (told_goes setup shape t (Sent frame) h.0 allowed, few_sends setup t frame h.0 h.1 (sends setup t frame allowed))

-- at most two Reports or Settled under each number
pub few_answers : (setup : MonitorSetup) → length setup.from ≡ length setup.parts → (t : List Entry) → IsLegal setup t → (a : ℕ) → answers_under a t ≤ 2
few_answers setup shape t legal a =
    let h = (each_carries (Allowed setup) (λ x. IsTold setup x × IsFew x) (λ front e. few_goes setup shape front e) [] t
    (record { rest = λ is. absurd (cc); stop = λ is. absurd (cc) }, record { past = λ q low. omega arith; now = omega arith; late = λ q high. refl; first = λ s m c last. absurd (cc) }) legal.each).1 in
    elim (cases_eq a (seq_of t)) [
      | inl is ↦ let n = h.now in let flag = one_most (told_or t) in let here = ap (λ q. answers_under q t) is in omega (arith, n, flag, here)
      | inr ne ↦ elim (cases_lt a (seq_of t)) [
        | inl low ↦ h.past a low
        | inr high ↦ let z = h.late a (omega (arith, high, ne)) in omega (arith, z)
      ]
    ]
