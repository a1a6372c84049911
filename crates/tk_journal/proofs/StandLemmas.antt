-- What stays: an answer under the last number, a told end; and where all is calm and at the ends, Stop was sent.
use Rattle.tk_frames.specs.declared.frame.Frame.TheVariants as f
use Rattle.tk_journal.specs.declared.noted.Noted.TheVariants as n
use Rattle.std.proofs.Common.{◌≡◌, ℕ, suc, ◌+◌, ◌≤◌, ◌<◌, ◌&&◌, ◌||◌, ◌==◌, ℤ, Bool, true, false, not, List, [], ◌∷◌, ◌++◌, length, Contains, Option, Some, None, refl, sym, ap, ◌∙◌, subst, arith, append_assoc, append-nil, inl, inr}
use Rattle.std.specs.Prelude.{filter, is_some, map, nat_eq, if◌then◌else◌}
use Rattle.std.specs.Ordering.{int_eq}
use Rattle.std.specs.Cmp.Lexicographic.{pointwise}
use Rattle.std.proofs.lemmas.Int.{ints}
use Rattle.std.proofs.lemmas.List.Elements.{filter_map-append}
use Rattle.std.proofs.lemmas.List.Sums.{fold_push}
use Rattle.tk_journal.proofs.ProgressLemmas.{are_same_by, settled_is, progress_goes_on, closing_is}
use Rattle.std.specs.List.{cons_option, enumerate_from, list_all, range_with_len}
use Rattle.std.proofs.lemmas.Bool.{and_from, and_parts, cases_Bool, eq-eqb, eqb-true, false≢true, true≢false, not-true}
use Rattle.std.proofs.Math.Bool.{or-true}
use Rattle.tk_base.specs.Settings.{Setup}
use Rattle.tk_base.specs.declared.ids.Mon.{Mon}
use Rattle.tk_frames.specs.Assigns.{Assign, assign_in}
use Rattle.tk_frames.specs.declared.frame.Frame.{Frame}
use Rattle.tk_base.specs.Objects.{is_in, objects}
use Rattle.tk_border.proofs.RisingLemmas.{is_in-filter}
use Rattle.tk_base.specs.History.{last_of}
use Rattle.tk_base.proofs.MemberLemmas.{contained_is_in, is_in_contained}
use Rattle.tk_journal.specs.Walks.{walk}
use Rattle.tk_journal.specs.Laws.{IsMonitor, IsSetUp}
use Rattle.tk_journal.specs.Legal.{IsAccepted, IsLegal, Opening, opened, turn_of}
use Rattle.tk_journal.specs.Links.{Passed, frames_to, link_of}
use Rattle.tk_journal.specs.Links.Passed.{Up, Down}
use Rattle.tk_journal.specs.Readings.{Progress, answer_of, answered, assigns_sent, in_force, is_calm, is_open, is_stopped, members_at, monitors, progress_of, settled_in, settled_of, told}
use Rattle.tk_journal.specs.Publishing.{closing, differs, is_due, is_last, publication_at, publications, published_in, stops}
use Rattle.tk_journal.specs.Turns.{collects, demanded, rounds, wide_collects}
use Rattle.tk_journal.specs.declared.publication.Publication.{Publication}
use Rattle.tk_journal.specs.Refusal.{is_report, refusal_of, shown_by}
use Rattle.tk_journal.specs.declared.noted.Noted.{Noted}
use Rattle.tk_journal.proofs.Accepted.{accepted_answer, accepted_kind, report_stays}
use Rattle.tk_journal.proofs.Appends.{answer_of-append, assigns_sent-append, frames_to-append}
use Rattle.tk_journal.proofs.LawLemmas.{one_less, orderly}
use Rattle.tk_journal.proofs.LegalLemmas.{orderly_tuned, tuned_round}
use Rattle.tk_journal.proofs.Same.{AreSame, calm_same, force_same, maps_same, same_closing}
use Rattle.tk_frames.specs.Carried.{tally, is_numbered}
use Rattle.tk_frames.proofs.CarriedLemmas.{tally-append}
use Rattle.tk_journal.proofs.GrowLemmas.{asks_open}
use Rattle.tk_journal.proofs.HeardLemmas.{answer_was_got}
use Rattle.tk_journal.proofs.SentLemmas.{is_halt, unstopped}
use Rattle.tk_journal.proofs.Pieces.{assigns_on-sent, batch_from, batch_to, got_answer, got_progress, got_sent}
use Rattle.tk_journal.specs.Sending.{IsAnswered}
use Rattle.tk_journal.proofs.SendLemmas.{calm_settled, monitor_listed}
use Rattle.tk_journal.proofs.WholeLemmas.{by_turns, stands_whole}

some_halts : (xs : List ℕ) → 0 < length xs → 0 < tally is_halt (map (λ _. f.Stop) xs)
some_halts [] some = absurd (omega (arith, some))
some_halts (x ∷ xs) some = omega arith

kept_some : (p : ℕ → Bool) (xs : List ℕ) (x : ℕ) → Contains xs x → p x ≡ true → 0 < length (filter p xs)
kept_some p xs x in' own =
    let there = is_in_contained (filter p xs) x (is_in-filter p xs x ∙ and_from (is_in xs x) (p x) (contained_is_in xs x in') own) in
    let b = there.1 in omega (arith, b)

-- where all is calm no round is open
pub calm_closed : (s : Setup) (j : List Noted) → is_calm s j ≡ true → is_open s j ≡ false
unfolding is_calm
calm_closed s j calm = not-true (is_open s j) (and_parts (not (is_open s j)) (list_all (λ mon. is_some (settled_of mon j)) (monitors s)) calm).0

-- ---- one entry more

kept_if : (own fresh : Bool) (frame f : Frame) (answer : Option Frame) → answer ≡ Some f → (g : Frame) × ((if own then (if fresh then Some frame else answer) else answer) ≡ Some g)
kept_if true true frame f answer is = (frame, refl)
kept_if true false frame f answer is = (f, is)
kept_if false fresh frame f answer is = (f, is)

got_keeps : (s : Setup) (a : List Noted) (from : Mon) (frame : Frame) (mon : ℕ) (report : Bool) → refusal_of s a from.0 frame ≡ None → IsAnswered mon a report → IsAnswered mon (a ++ n.Got from frame ∷ []) report
got_keeps s a from frame mon report none h =
    let kept = kept_if (from.0 == mon) (is_numbered (assigns_sent mon a) frame) frame h.frame (answer_of mon a) h.is in
    let is = got_answer mon a from frame ∙ kept.1 in
    record { frame = kept.0; is = is; report = λ own. ap is_report (sym is) ∙ ap is_report (report_stays s a mon from frame none (ap is_report h.is ∙ h.report own)) ∙ ap is_report h.is ∙ h.report own }

down_if : (own : Bool) (front : List Passed) (answer : Option Frame) (frame : Frame) → (own ≡ true → assign_in frame ≡ None) → walk answered front answer (cons_option (if own then Some (Down frame) else None) []) ≡ answer
down_if true front answer frame none = ap (λ (o : Option Assign). if is_some o then None else answer) (none refl)
down_if false front answer frame none = refl

same_keeps : (mon : ℕ) (a b : List Noted) (report : Bool) → answer_of mon b ≡ answer_of mon a → IsAnswered mon a report → IsAnswered mon b report
same_keeps mon a b report same h = record { frame = h.frame; is = same ∙ h.is; report = h.report }

-- an Assign to the monitor is counted
one_more : (own : Bool) (frame : Frame) (assign : Option Assign) → assign_in frame ≡ assign → own ≡ true → length (Rattle.std.specs.List.filter_map assign_in (cons_option (if own then Some frame else None) [])) ≡ length (cons_option assign [])
one_more true frame assign is own = ap (λ (o : Option Assign). length (cons_option o [])) is
one_more false frame assign is own = absurd (false≢true own)

no_assign : (mon : ℕ) (to : Mon) (frame : Frame) (assign : Option Assign) → assign_in frame ≡ assign → assigns_sent mon (n.Sent to frame ∷ []) ≡ 0 → to.0 == mon ≡ true → assign_in frame ≡ None
unfolding assigns_sent
no_assign mon to frame None is none own = is
no_assign mon to frame (Some x) is none own = absurd (let c = one_more (to.0 == mon) frame (Some x) is own in omega (arith, c, none))

entry_keeps : (o : Opening) (a : List Noted) (e : Noted) (after : List Noted) (mon : ℕ) (report : Bool) → IsLegal o (a ++ e ∷ after) → assigns_sent mon (e ∷ []) ≡ 0 → IsAnswered mon a report → IsAnswered mon (a ++ e ∷ []) report
entry_keeps o a (n.Got from frame) after mon report legal none h = got_keeps o.settings a from frame mon report (stands_whole o a (n.Got from frame) after legal refl).accepted.2 h
entry_keeps o a (n.Sent to frame) after mon report legal none h =
    same_keeps mon a (a ++ n.Sent to frame ∷ []) report (answer_of-append mon a (n.Sent to frame ∷ []) ∙ down_if (to.0 == mon) (link_of mon a) (answer_of mon a) frame (no_assign mon to frame (assign_in frame) refl none)) h
entry_keeps o a (n.Published p) after mon report legal none h = same_keeps mon a (a ++ n.Published p ∷ []) report (answer_of-append mon a (n.Published p ∷ [])) h
entry_keeps o a (n.Tuned k epsilon) after mon report legal none h = same_keeps mon a (a ++ n.Tuned k epsilon ∷ []) report (answer_of-append mon a (n.Tuned k epsilon ∷ [])) h

rest_keeps : (o : Opening) (a b c : List Noted) (mon : ℕ) (report : Bool) → IsLegal o (a ++ b ++ c) → assigns_sent mon b ≡ 0 → IsAnswered mon a report → IsAnswered mon (a ++ b) report
rest_keeps o a [] c mon report legal none h = subst (λ xs. IsAnswered mon xs report) (sym (append-nil a)) h
rest_keeps o a (e ∷ b) c mon report legal none h =
    let parts = assigns_sent-append mon (e ∷ []) b in
    let next : a ++ e ∷ [] ++ b ≡ a ++ e ∷ b = append_assoc a (e ∷ []) b in
    let first = entry_keeps o a e (b ++ c) mon report (subst (IsLegal o) (append_assoc a (e ∷ b) c) legal) (omega (arith, parts, none)) h in
    subst (λ xs. IsAnswered mon xs report) next (rest_keeps o (a ++ e ∷ []) b c mon report (subst (λ xs. IsLegal o (xs ++ c)) (sym next) legal) (omega (arith, parts, none)) first)

-- ---- a frame under the last number stands

fresh_now : (s : Setup) (a : List Noted) (mon : ℕ) (frame : Frame) (number : ℕ) → refusal_of s a mon frame ≡ None → is_numbered number frame ≡ true → number ≤ assigns_sent mon a
fresh_now s a mon (f.Report seq border failed values) number none is =
    let same = eqb-true seq number is in
    elim (accepted_answer (shown_by mon a) seq _ (accepted_kind s a mon (f.Report seq border failed values) none).1) [
      | inl stale ↦ omega (arith, stale, same)
      | inr here ↦ let w = here.now in omega (arith, w, same)
    ]
fresh_now s a mon (f.Settled seq last places) number none is =
    let same = eqb-true seq number is in
    elim (accepted_answer (shown_by mon a) seq _ (accepted_kind s a mon (f.Settled seq last places) none).1) [
      | inl stale ↦ omega (arith, stale, same)
      | inr here ↦ let w = here.now in omega (arith, w, same)
    ]
fresh_now s a mon (f.Hello run version m) number none is = absurd (false≢true is)
fresh_now s a mon (f.Collect round asked) number none is = absurd (false≢true is)
fresh_now s a mon (f.Values round seq border values) number none is = absurd (false≢true is)
fresh_now s a mon (f.Assign seq members changes) number none is = absurd (false≢true is)
fresh_now s a mon f.Stop number none is = absurd (false≢true is)

pub answer_stands : (o : Opening) (a after : List Noted) (from : Mon) (frame : Frame) → IsLegal o (a ++ n.Got from frame ∷ after) → is_numbered (assigns_sent from.0 (a ++ n.Got from frame ∷ after)) frame ≡ true → IsAnswered from.0 (a ++ n.Got from frame ∷ after) (is_report (Some frame))
answer_stands o a after from frame legal is =
    let mon = from.0 in
    let s = o.settings in
    let got = n.Got from frame ∷ [] in
    let now = a ++ got in
    let whole = stands_whole o a (n.Got from frame) after legal refl in
    let none = whole.accepted.2 in
    let next : now ++ after ≡ a ++ n.Got from frame ∷ after = append_assoc a got after in
    let all : assigns_sent mon (a ++ n.Got from frame ∷ after) ≡ assigns_sent mon now + assigns_sent mon after = ap (assigns_sent mon) (sym next) ∙ assigns_sent-append mon now after in
    let here = got_sent mon a from frame in
    let most = fresh_now s a mon frame (assigns_sent mon (a ++ n.Got from frame ∷ after)) none is in
    let fresh : is_numbered (assigns_sent mon a) frame ≡ true = subst (λ q. is_numbered q frame ≡ true) (omega (arith, all, here, most)) is in
    let answer : answer_of mon now ≡ Some frame = got_answer mon a from frame ∙ ap (λ b. if b then (if is_numbered (assigns_sent mon a) frame then Some frame else answer_of mon a) else answer_of mon a) (eq-eqb mon mon refl) ∙ ap (λ b. if b then Some frame else answer_of mon a) fresh in
    let first : IsAnswered mon now (is_report (Some frame)) = record { frame = frame; is = answer; report = λ own. own } in
    subst (λ xs. IsAnswered mon xs (is_report (Some frame))) next
    (rest_keeps o now after [] mon (is_report (Some frame)) (subst (IsLegal o) (sym (append-nil (now ++ after))) (subst (IsLegal o) (sym next) legal)) (omega (arith, all, here, most)) first)

-- ---- a told end stays told

got_told : (s : Setup) (a : List Noted) (from : Mon) (seq : ℕ) (places : List ℕ) → refusal_of s a from.0 (f.Settled seq true places) ≡ None → seq ≡ assigns_sent from.0 a
    → progress_of from.0 (a ++ n.Got from (f.Settled seq true places) ∷ []) ≡ Some (record { places = places; last = true })
got_told s a from seq places none same =
    got_progress from.0 a from (f.Settled seq true places)
    ∙ ap (λ b. if b then told (link_of from.0 a) (progress_of from.0 a) (Up (f.Settled seq true places)) else progress_of from.0 a) (eq-eqb from.0 from.0 refl)
    ∙ ap (λ q. if seq == q then Some (record { places = places; last = true }) else progress_of from.0 a) (assigns_on-sent from.0 a)
    ∙ ap (λ b. if b then Some (record { places = places; last = true }) else progress_of from.0 a) (eq-eqb seq (assigns_sent from.0 a) same)

pub end_stays_told : (o : Opening) (a after : List Noted) (from : Mon) (seq : ℕ) (places : List ℕ) → IsLegal o (a ++ n.Got from (f.Settled seq true places) ∷ after) → seq ≡ assigns_sent from.0 (a ++ n.Got from (f.Settled seq true places) ∷ after)
    → (p : Progress) × (progress_of from.0 (a ++ n.Got from (f.Settled seq true places) ∷ after) ≡ Some p) × (p.last ≡ true)
end_stays_told o a after from seq places legal same =
    let mon = from.0 in
    let frame = f.Settled seq true places in
    let got = n.Got from frame ∷ [] in
    let now = a ++ got in
    let none = (stands_whole o a (n.Got from frame) after legal refl).accepted.2 in
    let next : now ++ after ≡ a ++ n.Got from frame ∷ after = append_assoc a got after in
    let all : assigns_sent mon (a ++ n.Got from frame ∷ after) ≡ assigns_sent mon now + assigns_sent mon after = ap (assigns_sent mon) (sym next) ∙ assigns_sent-append mon now after in
    let here = got_sent mon a from frame in
    let most = fresh_now o.settings a mon frame seq none (eq-eqb seq seq refl) in
    let first = got_told o.settings a from seq places none (omega (arith, all, here, most, same)) in
    let on = progress_goes_on o now after [] mon (subst (IsLegal o) (sym (append-nil (now ++ after))) (subst (IsLegal o) (sym next) legal)) (record { places = places; last = true }) first in
    (on.0, ap (progress_of mon) (sym next) ∙ on.1, on.3 refl)

-- ---- where all is calm and at the ends, Stop was sent

stopped_by : (s : Setup) (j : List Noted) (p : Publication) → IsMonitor s 1 → is_stopped (j ++ n.Published p ∷ stops s) ≡ true
stopped_by s j p m = elim (cases_Bool (is_stopped (j ++ n.Published p ∷ stops s))) [
  | inl yes' ↦ yes'
  | inr no' ↦
      let none = unstopped 1 (j ++ n.Published p ∷ stops s) no' in
      let frames : frames_to 1 (j ++ n.Published p ∷ stops s) ≡ frames_to 1 j ++ map (λ _. f.Stop) (filter (λ d. d == 1) (monitors s)) =
      frames_to-append 1 j (n.Published p ∷ stops s) ∙ ap (λ xs. frames_to 1 j ++ xs) (batch_to 1 (λ (x : ℕ). x) (λ _. f.Stop) (monitors s)) in
      let all = ap (tally is_halt) frames ∙ tally-append is_halt (frames_to 1 j) (map (λ _. f.Stop) (filter (λ d. d == 1) (monitors s))) in
      let some = some_halts (filter (λ d. d == 1) (monitors s)) (kept_some (λ d. d == 1) (monitors s) 1 (monitor_listed s 1 m) refl) in
      absurd (omega (arith, none, all, some))
]

calm_last_stops : (s : Setup) (j : List Noted) → IsMonitor s 1 → is_calm s j ≡ true → is_last s j ≡ true → is_stopped (j ++ closing s j) ≡ true
calm_last_stops s j m calm last =
    let due : is_due s j ≡ true = and_from (is_calm s j) (differs (in_force s j) (members_at j) (last_of (publications j)) || is_last s j) calm (ap (λ b. differs (in_force s j) (members_at j) (last_of (publications j)) || b) last ∙ or-true (differs (in_force s j) (members_at j) (last_of (publications j)))) in
    ap is_stopped (ap (λ xs. j ++ xs) (closing_is s j due last)) ∙ stopped_by s j (publication_at s j) m

abbrev Ended : Setup → List Noted → Type 0
Ended s j = is_calm s j ≡ true → is_last s j ≡ true → is_stopped j ≡ true

-- of two journals that stand alike, both are at their last set or none is
pub last_same : (s : Setup) (a b : List Noted) → AreSame s a b → is_last s b ≡ is_last s a
last_same s a b e = ap (λ ps. list_all (λ (p : Progress). p.last) ps) (maps_same (λ mon. settled_of mon b) (λ mon. settled_of mon a) (monitors s) (λ mon. ap settled_in (e.answer mon)))

turn_ended : (o : Opening) (k : ℕ) → o.settings.monitors ≡ suc k → IsSetUp o → (before : List Noted) (input : Noted) → IsAccepted o.settings before input → IsLegal o before → Ended o.settings before → Ended o.settings (before ++ turn_of o.settings before input)
unfolding turn_of
turn_ended o k some set before (n.Got from frame) accepted legal h calm last =
    let s = o.settings in
    let turn = n.Got from frame ∷ demanded s before from.0 frame in
    let now = before ++ turn in
    let next : now ++ closing s now ≡ before ++ (turn ++ closing s now) = append_assoc before turn (closing s now) in
    let e = same_closing s now in
    let calm' : is_calm s now ≡ true = sym (calm_same s now (now ++ closing s now) e) ∙ ap (is_calm s) next ∙ calm in
    let last' : is_last s now ≡ true = sym (last_same s now (now ++ closing s now) e) ∙ ap (is_last s) next ∙ last in
    ap is_stopped (sym next) ∙ calm_last_stops s now (record { from_one = omega arith; within = omega (arith, some) }) calm' last'
turn_ended o k some set before (n.Tuned q epsilon) accepted legal h calm last =
    let s = o.settings in
    let mid = before ++ n.Tuned q epsilon ∷ [] in
    let order = orderly o before set legal in
    let counted = (orderly_tuned s before q epsilon order).counted in
    let list : before ++ n.Tuned q epsilon ∷ wide_collects s (rounds s before + 1) ≡ mid ++ collects (rounds s before + 1) (objects s.objects) (1 ∷ range_with_len (1 + 1) k) =
    sym (append_assoc before (n.Tuned q epsilon ∷ []) (wide_collects s (rounds s before + 1))) ∙ ap (λ xs. mid ++ collects (rounds s before + 1) (objects s.objects) xs) (ap (range_with_len 1) some) in
    let opened' = asks_open s mid (rounds s before + 1) (objects s.objects) 1 (range_with_len (1 + 1) k) (record { from_one = omega arith; within = omega (arith, some) }) counted (let t = tuned_round before q epsilon in let l = order.counted.last in omega (arith, t, l)) in
    absurd (true≢false (sym opened' ∙ ap (is_open s) (sym list) ∙ calm_closed s (before ++ n.Tuned q epsilon ∷ wide_collects s (rounds s before + 1)) calm))
turn_ended o k some set before (n.Sent to frame) accepted legal h calm last = absurd accepted
turn_ended o k some set before (n.Published p) accepted legal h calm last = absurd accepted

nothing_got : (o : Opening) → IsMonitor o.settings 1 → Ended o.settings (opened o)
nothing_got o m calm last =
    let p = calm_settled o.settings (opened o) 1 calm m in
    let at = settled_is (answer_of 1 (opened o)) p.0 p.1 in
    let in' = answer_was_got 1 (opened o) (f.Settled at.0 p.0.last p.0.places) at.1 in
    let none : Contains [] (f.Settled at.0 p.0.last p.0.places) =
    subst (λ xs. Contains xs (f.Settled at.0 p.0.last p.0.places)) (batch_from 1 (λ (q : ℕ × List (ℕ × ℤ)). q.0) (λ q. f.Assign 1 o.members q.1) (enumerate_from 1 o.factors)) in' in
    absurd (let b = none.1 in omega (arith, b))

pub calm_and_last_is_stopped : (o : Opening) (j : List Noted) → IsSetUp o → IsLegal o j → is_calm o.settings j ≡ true → is_last o.settings j ≡ true → is_stopped j ≡ true
calm_and_last_is_stopped o j set legal =
    let k = one_less o.settings.monitors set.limits.some_monitor in
    by_turns o (Ended o.settings) (λ before input accepted legal' h. turn_ended o k.0 k.1 set before input accepted legal' h) (nothing_got o (record { from_one = omega arith; within = set.limits.some_monitor })) j legal

-- ---- nothing stays due

-- where nothing is due nothing is closed
pub closing_none : (s : Setup) (j : List Noted) → is_due s j ≡ false → closing s j ≡ []
unfolding closing
closing_none s j due = ap (λ b. if b then n.Published (publication_at s j) ∷ (if is_last s j then stops s else []) else []) due

closing_one : (s : Setup) (j : List Noted) → is_due s j ≡ true → is_last s j ≡ false → closing s j ≡ n.Published (publication_at s j) ∷ []
unfolding closing
closing_one s j due last =
    ap (λ b. if b then n.Published (publication_at s j) ∷ (if is_last s j then stops s else []) else []) due ∙ ap (λ b. n.Published (publication_at s j) ∷ (if b then stops s else [])) last

int_self : (z : ℤ) → int_eq z z ≡ true
int_self z = grind (arith, ints)

-- the last of the sets after one more
pub last_push : (xs : List Publication) (p : Publication) → last_of (xs ++ p ∷ []) ≡ Some p
last_push xs p = fold_push (λ (_ : Option Publication) (q : Publication). Some q) None xs p

no_difference : (s : Setup) (members : List ℕ) (p : Publication) → p.members ≡ members → p.k ≡ s.k → p.epsilon ≡ s.epsilon → differs s members (Some p) ≡ false
no_difference s members p m k e =
    ap not (and_from (pointwise nat_eq p.members members && p.k == s.k) (int_eq p.epsilon s.epsilon)
    (and_from (pointwise nat_eq p.members members) (p.k == s.k) (are_same_by p.members members m) (eq-eqb p.k s.k k))
    (ap (λ z. int_eq p.epsilon z) (sym e) ∙ int_self p.epsilon))

never_due : (c d l : Bool) → d ≡ false → l ≡ false → (c && (d || l)) ≡ false
never_due true true l d e = d
never_due true false l d e = e
never_due false d l x y = refl

not_due_after : (s : Setup) (now : List Noted) (due last : Bool) → IsMonitor s 1 → is_due s now ≡ due → is_last s now ≡ last → is_stopped (now ++ closing s now) ≡ false → is_due s (now ++ closing s now) ≡ false
not_due_after s now false last m is l running =
    subst (λ xs. is_due s xs ≡ false) (sym (ap (λ xs. now ++ xs) (closing_none s now is) ∙ append-nil now)) is
not_due_after s now true true m is l running =
    absurd (true≢false (sym (ap is_stopped (ap (λ xs. now ++ xs) (closing_is s now is l)) ∙ stopped_by s now (publication_at s now) m) ∙ running))
not_due_after s now true false m is l running =
    let after = now ++ closing s now in
    let e = same_closing s now in
    let p = publication_at s now in
    let list : last_of (publications after) ≡ Some p =
    ap (λ xs. last_of (publications (now ++ xs))) (closing_one s now is l) ∙ ap (λ (xs : List Publication). last_of xs) (filter_map-append published_in now (n.Published p ∷ [])) ∙ last_push (publications now) p in
    let force = force_same s now after e in
    let same : differs (in_force s after) (members_at after) (last_of (publications after)) ≡ false =
    ap (λ o. differs (in_force s after) (members_at after) o) list ∙ no_difference (in_force s after) (members_at after) p (sym e.members) (ap (λ (q : Setup). q.k) (sym force)) (ap (λ (q : Setup). q.epsilon) (sym force)) in
    never_due (is_calm s after) (differs (in_force s after) (members_at after) (last_of (publications after))) (is_last s after) same (last_same s now after e ∙ l)

-- where nothing is calm nothing is due
pub not_calm_due : (s : Setup) (j : List Noted) → is_calm s j ≡ false → is_due s j ≡ false
not_calm_due s j no' = ap (λ b. b && (differs (in_force s j) (members_at j) (last_of (publications j)) || is_last s j)) no'

-- while a round is open nothing is calm
pub open_not_calm : (s : Setup) (j : List Noted) → is_open s j ≡ true → is_calm s j ≡ false
unfolding is_calm
open_not_calm s j opened' = ap (λ b. not b && list_all (λ mon. is_some (settled_of mon j)) (monitors s)) opened'

abbrev Rests : Setup → List Noted → Type 0
Rests s j = is_stopped j ≡ false → is_due s j ≡ false

turn_rests : (o : Opening) (k : ℕ) → o.settings.monitors ≡ suc k → IsSetUp o → (before : List Noted) (input : Noted) → IsAccepted o.settings before input → IsLegal o before → Rests o.settings before → Rests o.settings (before ++ turn_of o.settings before input)
unfolding turn_of
turn_rests o k some set before (n.Got from frame) accepted legal h running =
    let s = o.settings in
    let turn = n.Got from frame ∷ demanded s before from.0 frame in
    let now = before ++ turn in
    let next : now ++ closing s now ≡ before ++ (turn ++ closing s now) = append_assoc before turn (closing s now) in
    ap (is_due s) (sym next) ∙ not_due_after s now (is_due s now) (is_last s now) (record { from_one = omega arith; within = omega (arith, some) }) refl refl (ap is_stopped next ∙ running)
turn_rests o k some set before (n.Tuned q epsilon) accepted legal h running =
    let s = o.settings in
    let mid = before ++ n.Tuned q epsilon ∷ [] in
    let order = orderly o before set legal in
    let counted = (orderly_tuned s before q epsilon order).counted in
    let list : before ++ n.Tuned q epsilon ∷ wide_collects s (rounds s before + 1) ≡ mid ++ collects (rounds s before + 1) (objects s.objects) (1 ∷ range_with_len (1 + 1) k) =
    sym (append_assoc before (n.Tuned q epsilon ∷ []) (wide_collects s (rounds s before + 1))) ∙ ap (λ xs. mid ++ collects (rounds s before + 1) (objects s.objects) xs) (ap (range_with_len 1) some) in
    let opened' = asks_open s mid (rounds s before + 1) (objects s.objects) 1 (range_with_len (1 + 1) k) (record { from_one = omega arith; within = omega (arith, some) }) counted (let t = tuned_round before q epsilon in let l = order.counted.last in omega (arith, t, l)) in
    not_calm_due s (before ++ n.Tuned q epsilon ∷ wide_collects s (rounds s before + 1)) (open_not_calm s (before ++ n.Tuned q epsilon ∷ wide_collects s (rounds s before + 1)) (ap (is_open s) list ∙ opened'))
turn_rests o k some set before (n.Sent to frame) accepted legal h running = absurd accepted
turn_rests o k some set before (n.Published p) accepted legal h running = absurd accepted

opened_rests : (o : Opening) → IsMonitor o.settings 1 → Rests o.settings (opened o)
opened_rests o m running = elim (cases_Bool (is_calm o.settings (opened o))) [
  | inr no' ↦ not_calm_due o.settings (opened o) no'
  | inl calm ↦
      let p = calm_settled o.settings (opened o) 1 calm m in
      let at = settled_is (answer_of 1 (opened o)) p.0 p.1 in
      let in' = answer_was_got 1 (opened o) (f.Settled at.0 p.0.last p.0.places) at.1 in
      let none : Contains [] (f.Settled at.0 p.0.last p.0.places) =
      subst (λ xs. Contains xs (f.Settled at.0 p.0.last p.0.places)) (batch_from 1 (λ (q : ℕ × List (ℕ × ℤ)). q.0) (λ q. f.Assign 1 o.members q.1) (enumerate_from 1 o.factors)) in' in
      absurd (let b = none.1 in omega (arith, b))
]

pub nothing_stays_due : (o : Opening) (j : List Noted) → IsSetUp o → IsLegal o j → is_stopped j ≡ false → is_due o.settings j ≡ false
nothing_stays_due o j set legal =
    let k = one_less o.settings.monitors set.limits.some_monitor in
    by_turns o (Rests o.settings) (λ before input accepted legal' h. turn_rests o k.0 k.1 set before input accepted legal' h) (opened_rests o (record { from_one = omega arith; within = set.limits.some_monitor })) j legal
