-- Where no frame is under way and nothing is due the story is quiet; at the ends it is over.
use Rattle.tk_frames.specs.declared.frame.Frame.TheVariants as f
use Rattle.tk_journal.specs.declared.noted.Noted.TheVariants as n
use Rattle.std.proofs.Common.{◌≡◌, ℕ, suc, zero, ◌+◌, ◌≤◌, ◌<◌, ◌&&◌, ◌||◌, ◌==◌, ℤ, Bool, true, false, not, List, [], ◌∷◌, ◌++◌, length, Contains, Option, Some, None, refl, sym, ap, ◌∙◌, subst, arith, append_assoc, append-nil, inl, inr}
use Rattle.std.specs.Prelude.{count_by, filter_map, fold, is_some, nat_lt, if◌then◌else◌}
use Rattle.std.specs.List.{cons_option, list_all, list_any}
use Rattle.std.proofs.lemmas.Bool.{and_from, cases_Bool, eqb-true, false≢true, lt-ltb, true≢false}
use Rattle.std.proofs.lemmas.List.{length-append}
use Rattle.std.proofs.lemmas.List.Elements.{filter_map-append}
use Rattle.std.proofs.lemmas.List.Sums.{sum_by-cons}
use Rattle.tk_base.specs.declared.ids.Mon.{Mon}
use Rattle.tk_base.proofs.BoolLemmas.{right_fails}
use Rattle.tk_frames.specs.Assigns.{Assign, assign_in}
use Rattle.tk_frames.specs.declared.frame.Frame.{Frame}
use Rattle.tk_journal.specs.Laws.{IsMonitor}
use Rattle.tk_journal.specs.Legal.{IsLegal, Opening, start}
use Rattle.tk_journal.specs.Links.{frames_from}
use Rattle.tk_journal.specs.Readings.{Progress, answer_of, assigns_sent, is_calm, is_open, is_stopped, monitors, progress_of, settled_in, settled_of}
use Rattle.tk_journal.specs.Refusal.{is_report}
use Rattle.tk_journal.specs.declared.noted.Noted.{Noted}
use Rattle.tk_journal.proofs.Answering.{answer_fresh}
use Rattle.tk_frames.specs.Carried.{is_numbered}
use Rattle.tk_trail.proofs.AnsweredLemmas.{is_answered}
use Rattle.tk_journal.proofs.GatheredLemmas.{in_back}
use Rattle.tk_journal.proofs.RestLemmas.{no_report_stands}
use Rattle.tk_trail.specs.Setup.{MonitorSetup}
use Rattle.tk_trail.specs.Frames.{due_at, end_is_due, may_report, report_at, report_is_due, settled_at as settled_frame}
use Rattle.tk_trail.specs.Legal.{IsLegal as IsLegalTrail}
use Rattle.tk_trail.specs.Readings.{assigns_of, at_ends, goes_on, is_broken, is_end, is_end_told, is_report as is_report_entry, is_reported, sent_by, sent_in, seq_of, since_assign}
use Rattle.tk_trail.specs.declared.entry.Entry.{Entry}
use Rattle.tk_trail.specs.declared.entry.Entry.TheVariants.{Raised, Took, Sent}
use Rattle.tk_trail.proofs.LawLemmas.{assigns_of-append, frames_carry}
use Rattle.tk_journal.specs.Sending.{IsAnswered}
use Rattle.tk_story.specs.Story.{IsStory, StoryView, setup_of, trail_of}
use Rattle.tk_story.specs.Moments.{IsQuiet, IsStill}
use Rattle.tk_journal.proofs.ProgressLemmas.{settled_progress}
use Rattle.tk_story.proofs.QuietLemmas.{empty_links_close, start_is_set_up}
use Rattle.tk_journal.proofs.SendLemmas.{listed_monitor}
use Rattle.tk_journal.proofs.SendTurns.{legal_well}
use Rattle.tk_journal.proofs.StartLemmas.{start_set_up}
use Rattle.tk_journal.proofs.StandLemmas.{answer_stands, calm_and_last_is_stopped, end_stays_told}
use Rattle.tk_story.proofs.ContentLemmas.{all_true}

-- ---- what stands behind the last Assign

record SinceIs (acc z : List Entry) : Type 0 where
  a : List Entry
  is : acc ++ z ≡ a ++ fold goes_on acc z
  none : assigns_of (fold goes_on acc z) ≡ []

plain_more : (acc : List Entry) (e : Entry) → assigns_of acc ≡ [] → assigns_of (e ∷ []) ≡ [] → assigns_of (acc ++ e ∷ []) ≡ []
plain_more acc e none one = assigns_of-append acc (e ∷ []) ∙ ap (λ (xs : List Assign). xs ++ assigns_of (e ∷ [])) none ∙ one

since_is : (acc z : List Entry) → assigns_of acc ≡ [] → SinceIs acc z
since_is acc [] none = record { a = []; is = append-nil acc; none = none }
since_is acc (Raised g ∷ z) none = let r = since_is (acc ++ Raised g ∷ []) z (plain_more acc (Raised g) none refl) in record { a = r.a; is = sym (append_assoc acc (Raised g ∷ []) z) ∙ r.is; none = r.none }
since_is acc (Sent q ∷ z) none = let r = since_is (acc ++ Sent q ∷ []) z (plain_more acc (Sent q) none refl) in record { a = r.a; is = sym (append_assoc acc (Sent q ∷ []) z) ∙ r.is; none = r.none }
since_is acc (Took (f.Assign seq members changes) ∷ z) none =
    let e = Took (f.Assign seq members changes) in
    let r = since_is [] z refl in
    record { a = acc ++ e ∷ [] ++ r.a; is = sym (append_assoc acc (e ∷ []) z) ∙ ap (λ xs. acc ++ e ∷ [] ++ xs) r.is ∙ sym (append_assoc (acc ++ e ∷ []) r.a (fold goes_on [] z)); none = r.none }
since_is acc (Took (f.Hello run version mon) ∷ z) none = let r = since_is (acc ++ Took (f.Hello run version mon) ∷ []) z (plain_more acc (Took (f.Hello run version mon)) none refl) in record { a = r.a; is = sym (append_assoc acc (Took (f.Hello run version mon) ∷ []) z) ∙ r.is; none = r.none }
since_is acc (Took (f.Report seq border failed values) ∷ z) none = let r = since_is (acc ++ Took (f.Report seq border failed values) ∷ []) z (plain_more acc (Took (f.Report seq border failed values)) none refl) in record { a = r.a; is = sym (append_assoc acc (Took (f.Report seq border failed values) ∷ []) z) ∙ r.is; none = r.none }
since_is acc (Took (f.Collect round asked) ∷ z) none = let r = since_is (acc ++ Took (f.Collect round asked) ∷ []) z (plain_more acc (Took (f.Collect round asked)) none refl) in record { a = r.a; is = sym (append_assoc acc (Took (f.Collect round asked) ∷ []) z) ∙ r.is; none = r.none }
since_is acc (Took (f.Values round seq border values) ∷ z) none = let r = since_is (acc ++ Took (f.Values round seq border values) ∷ []) z (plain_more acc (Took (f.Values round seq border values)) none refl) in record { a = r.a; is = sym (append_assoc acc (Took (f.Values round seq border values) ∷ []) z) ∙ r.is; none = r.none }
since_is acc (Took (f.Settled seq last places) ∷ z) none = let r = since_is (acc ++ Took (f.Settled seq last places) ∷ []) z (plain_more acc (Took (f.Settled seq last places)) none refl) in record { a = r.a; is = sym (append_assoc acc (Took (f.Settled seq last places) ∷ []) z) ∙ r.is; none = r.none }
since_is acc (Took f.Stop ∷ z) none = let r = since_is (acc ++ Took f.Stop ∷ []) z (plain_more acc (Took f.Stop) none refl) in record { a = r.a; is = sym (append_assoc acc (Took f.Stop ∷ []) z) ∙ r.is; none = r.none }

-- an entry that passes a test
record Found (p : Entry → Bool) (xs : List Entry) : Type 0 where
  u : List Entry
  e : Entry
  v : List Entry
  is : xs ≡ u ++ e ∷ v
  own : p e ≡ true

later_found : (p : Entry → Bool) (x : Entry) (xs : List Entry) → Found p xs → Found p (x ∷ xs)
later_found p x xs h = record { u = x ∷ h.u; e = h.e; v = h.v; is = ap (λ ys. x ∷ ys) h.is; own = h.own }

found_or : (p : Entry → Bool) (x : Entry) (xs : List Entry) (b : Bool) → p x ≡ b → (b || list_any p xs) ≡ true → (list_any p xs ≡ true → Found p xs) → Found p (x ∷ xs)
found_or p x xs true is any rest = record { u = []; e = x; v = xs; is = refl; own = is }
found_or p x xs false is any rest = later_found p x xs (rest any)

found : (p : Entry → Bool) (xs : List Entry) → list_any p xs ≡ true → Found p xs
found p [] any = absurd (false≢true any)
found p (x ∷ xs) any = found_or p x xs (p x) refl any (found p xs)

nothing_of : (a b : List Assign) → a ++ b ≡ [] → b ≡ []
nothing_of [] b e = e
nothing_of (x ∷ a) b e = absurd (cc)

-- an entry since the last Assign, with as many Assigns before it as there are
record Since (trail : List Entry) (p : Entry → Bool) : Type 0 where
  x : List Entry
  e : Entry
  v : List Entry
  is : trail ≡ x ++ e ∷ v
  own : p e ≡ true
  seq : seq_of trail ≡ seq_of x + length (assigns_of (e ∷ []))

since_found : (trail : List Entry) (p : Entry → Bool) → list_any p (since_assign trail) ≡ true → Since trail p
since_found trail p any =
    let s = since_is [] trail refl in
    let h = found p (since_assign trail) any in
    let whole : trail ≡ (s.a ++ h.u) ++ h.e ∷ h.v = s.is ∙ ap (λ xs. s.a ++ xs) h.is ∙ sym (append_assoc s.a h.u (h.e ∷ h.v)) in
    let gone : assigns_of (h.e ∷ h.v) ≡ [] = nothing_of (assigns_of h.u) (assigns_of (h.e ∷ h.v)) (sym (ap assigns_of h.is ∙ assigns_of-append h.u (h.e ∷ h.v)) ∙ s.none) in
    let one : assigns_of (h.e ∷ []) ++ assigns_of h.v ≡ [] = sym (assigns_of-append (h.e ∷ []) h.v) ∙ gone in
    let parts = ap (λ (xs : List Assign). length xs) (ap assigns_of whole ∙ assigns_of-append (s.a ++ h.u) (h.e ∷ h.v)) in
    let long = length-append (assigns_of (s.a ++ h.u)) (assigns_of (h.e ∷ h.v)) in
    let zero' = ap (λ (xs : List Assign). length xs) gone in
    let none = ap (λ (xs : List Assign). length xs) one in
    let both = length-append (assigns_of (h.e ∷ [])) (assigns_of h.v) in
    record { x = s.a ++ h.u; e = h.e; v = h.v; is = whole; own = h.own; seq = omega (arith, parts, long, zero', none, both) }

sent_in_trail : (trail x v : List Entry) (g : Frame) → trail ≡ x ++ Sent g ∷ v → Contains (sent_by trail) g
sent_in_trail trail x v g is =
    subst (λ xs. Contains xs g) (sym (ap sent_by is ∙ filter_map-append sent_in x (Sent g ∷ v))) (in_back Frame g (sent_by x) (g ∷ sent_by v) (zero, omega arith, refl))

record ReportSent (trail : List Entry) : Type 0 where
  border : ℤ
  failed : List ℕ
  values : List (ℕ × ℤ)
  sent : Contains (sent_by trail) (f.Report (seq_of trail) border failed values)

report_of : (setup : MonitorSetup) (trail x v : List Entry) (e : Entry) → IsLegalTrail setup trail → trail ≡ x ++ e ∷ v → is_report_entry e ≡ true → seq_of trail ≡ seq_of x + length (assigns_of (e ∷ [])) → ReportSent trail
report_of setup trail x v (Sent (f.Report seq border failed values)) legal is own count =
    let carried : seq ≡ seq_of x = frames_carry setup x v (f.Report seq border failed values) (subst (IsLegalTrail setup) is legal) in
    let same : seq ≡ seq_of trail = omega (arith, carried, count) in
    record { border = border; failed = failed; values = values; sent = subst (λ q. Contains (sent_by trail) (f.Report q border failed values)) same (sent_in_trail trail x v (f.Report seq border failed values) is) }
report_of setup trail x v (Raised g) legal is own count = absurd (false≢true own)
report_of setup trail x v (Took q) legal is own count = absurd (false≢true own)
report_of setup trail x v (Sent (f.Settled seq last places)) legal is own count = absurd (false≢true own)
report_of setup trail x v (Sent (f.Values round seq border values)) legal is own count = absurd (false≢true own)
report_of setup trail x v (Sent (f.Hello run version mon)) legal is own count = absurd (false≢true own)
report_of setup trail x v (Sent (f.Collect round asked)) legal is own count = absurd (false≢true own)
report_of setup trail x v (Sent (f.Assign seq members changes)) legal is own count = absurd (false≢true own)
report_of setup trail x v (Sent f.Stop) legal is own count = absurd (false≢true own)

reported_sent : (setup : MonitorSetup) (trail : List Entry) → IsLegalTrail setup trail → is_reported trail ≡ true → ReportSent trail
reported_sent setup trail legal is = let s = since_found trail is_report_entry is in report_of setup trail s.x s.v s.e legal s.is s.own s.seq

record EndSent (trail : List Entry) : Type 0 where
  places : List ℕ
  sent : Contains (sent_by trail) (f.Settled (seq_of trail) true places)

end_of : (setup : MonitorSetup) (trail x v : List Entry) (e : Entry) → IsLegalTrail setup trail → trail ≡ x ++ e ∷ v → is_end e ≡ true → seq_of trail ≡ seq_of x + length (assigns_of (e ∷ [])) → EndSent trail
end_of setup trail x v (Sent (f.Settled seq last places)) legal is own count =
    let carried : seq ≡ seq_of x = frames_carry setup x v (f.Settled seq last places) (subst (IsLegalTrail setup) is legal) in
    let same : seq ≡ seq_of trail = omega (arith, carried, count) in
    record { places = places; sent = subst (λ b. Contains (sent_by trail) (f.Settled (seq_of trail) b places)) own (subst (λ q. Contains (sent_by trail) (f.Settled q last places)) same (sent_in_trail trail x v (f.Settled seq last places) is)) }
end_of setup trail x v (Raised g) legal is own count = absurd (false≢true own)
end_of setup trail x v (Took q) legal is own count = absurd (false≢true own)
end_of setup trail x v (Sent (f.Report seq border failed values)) legal is own count = absurd (false≢true own)
end_of setup trail x v (Sent (f.Values round seq border values)) legal is own count = absurd (false≢true own)
end_of setup trail x v (Sent (f.Hello run version mon)) legal is own count = absurd (false≢true own)
end_of setup trail x v (Sent (f.Collect round asked)) legal is own count = absurd (false≢true own)
end_of setup trail x v (Sent (f.Assign seq members changes)) legal is own count = absurd (false≢true own)
end_of setup trail x v (Sent f.Stop) legal is own count = absurd (false≢true own)

told_sent : (setup : MonitorSetup) (trail : List Entry) → IsLegalTrail setup trail → is_end_told trail ≡ true → EndSent trail
told_sent setup trail legal is = let s = since_found trail is_end is in end_of setup trail s.x s.v s.e legal s.is s.own s.seq

-- ---- where a frame was got

pub record GotAt (mon : ℕ) (j : List Noted) (g : Frame) : Type 0 where
  pub a : List Noted
  pub from : Mon
  pub after : List Noted
  pub is : j ≡ a ++ n.Got from g ∷ after
  pub own : from.0 ≡ mon

later_got : (mon : ℕ) (e : Noted) (j : List Noted) (g : Frame) → GotAt mon j g → GotAt mon (e ∷ j) g
later_got mon e j g h = record { a = e ∷ h.a; from = h.from; after = h.after; is = ap (λ xs. e ∷ xs) h.is; own = h.own }

got_or : (mon : ℕ) (from : Mon) (frame : Frame) (j : List Noted) (g : Frame) (own : Bool) → from.0 == mon ≡ own → Contains (cons_option (if own then Some frame else None) (frames_from mon j)) g → (Contains (frames_from mon j) g → GotAt mon j g) → GotAt mon (n.Got from frame ∷ j) g
got_or mon from frame j g true is (zero, below, e) rest = record { a = []; from = from; after = j; is = ap (λ q. n.Got from q ∷ j) e; own = eqb-true from.0 mon is }
got_or mon from frame j g true is (suc k, below, e) rest = later_got mon (n.Got from frame) j g (rest (k, omega (arith, below), e))
got_or mon from frame j g false is in' rest = later_got mon (n.Got from frame) j g (rest in')

pub got_at : (mon : ℕ) (j : List Noted) (g : Frame) → Contains (frames_from mon j) g → GotAt mon j g
got_at mon [] g (k, below, is) = absurd (omega (arith, below))
got_at mon (n.Got from frame ∷ j) g in' = got_or mon from frame j g (from.0 == mon) refl in' (got_at mon j g)
got_at mon (n.Sent to frame ∷ j) g in' = later_got mon (n.Sent to frame) j g (got_at mon j g in')
got_at mon (n.Published p ∷ j) g in' = later_got mon (n.Published p) j g (got_at mon j g in')
got_at mon (n.Tuned k epsilon ∷ j) g in' = later_got mon (n.Tuned k epsilon) j g (got_at mon j g in')

stands_by : (o : Opening) (j : List Noted) (mon : ℕ) (g : Frame) → IsLegal o j → Contains (frames_from mon j) g → is_numbered (assigns_sent mon j) g ≡ true → IsAnswered mon j (is_report (Some g))
stands_by o j mon g legal in' is =
    let at = got_at mon j g in' in
    subst (λ (m : ℕ). IsAnswered m j (is_report (Some g))) at.own
    (subst (λ xs. IsAnswered at.from.0 xs (is_report (Some g))) (sym at.is)
    (answer_stands o at.a at.after at.from g (subst (IsLegal o) at.is legal) (subst (λ xs. is_numbered (assigns_sent at.from.0 xs) g ≡ true) at.is (subst (λ (m : ℕ). is_numbered (assigns_sent m j) g ≡ true) (sym at.own) is))))

-- ---- one monitor of a still story

counted_or : (p : Frame → Bool) (x : Frame) (xs : List Frame) (b : Bool) → p x ≡ b → 1 ≤ (if b then 1 else 0) + count_by p xs → (1 ≤ count_by p xs → (g : Frame) × Contains xs g × (p g ≡ true)) → (g : Frame) × Contains (x ∷ xs) g × (p g ≡ true)
counted_or p x xs true is some rest = (x, (zero, omega arith, refl), is)
counted_or p x xs false is some rest = let r = rest (omega (arith, some)) in (r.0, (suc r.1.0, (let b = r.1.1 in omega (arith, b)), r.1.2), r.2)

counted_has : (p : Frame → Bool) (xs : List Frame) → 1 ≤ count_by p xs → (g : Frame) × Contains xs g × (p g ≡ true)
counted_has p [] some = absurd (omega (arith, some))
counted_has p (x ∷ xs) some = let c = sum_by-cons (λ q. if p q then 1 else 0) x xs in counted_or p x xs (p x) refl (omega (arith, some, c)) (counted_has p xs)

numbered_is : (q : ℕ) (g : Frame) → is_numbered q g ≡ true → is_numbered q g ≡ true
numbered_is q (f.Report seq border failed values) is = is
numbered_is q (f.Settled seq last places) is = is
numbered_is q (f.Hello run version mon) is = absurd (false≢true is)
numbered_is q (f.Collect round asked) is = absurd (false≢true is)
numbered_is q (f.Values round seq border values) is = absurd (false≢true is)
numbered_is q (f.Assign seq members changes) is = absurd (false≢true is)
numbered_is q f.Stop is = absurd (false≢true is)

count_same : (s : StoryView) → IsStill s → (mon : ℕ) → IsMonitor s.settings mon → seq_of (trail_of s mon) ≡ assigns_sent mon s.journal
unfolding assigns_sent
count_same s still mon m = ap (λ xs. length (filter_map assign_in xs)) (still.down mon m)

begun : (s : StoryView) → IsStory s → IsStill s → (mon : ℕ) → IsMonitor s.settings mon → 0 < seq_of (trail_of s mon)
begun s h still mon m = let b = (legal_well (start s.settings) s.journal (start_set_up s.settings h.limits) h.journal_legal).begun mon m in let c = count_same s still mon m in omega (arith, b, c)

still_closed : (s : StoryView) → IsStory s → IsStill s → is_open s.settings s.journal ≡ false
still_closed s h still = empty_links_close s h still.down still.up

-- a frame under the last number that the trail sent was got, so it stands
sent_stands : (s : StoryView) → IsStory s → IsStill s → (mon : ℕ) → IsMonitor s.settings mon → (g : Frame) → Contains (sent_by (trail_of s mon)) g → is_numbered (seq_of (trail_of s mon)) g ≡ true → IsAnswered mon s.journal (is_report (Some g))
sent_stands s h still mon m g in' is =
    stands_by (start s.settings) s.journal mon g h.journal_legal (subst (λ xs. Contains xs g) (sym (still.up mon m)) in') (subst (λ (q : ℕ). is_numbered q g ≡ true) (count_same s still mon m) is)

has_answer : (s : StoryView) → IsStory s → IsStill s → (mon : ℕ) → IsMonitor s.settings mon → (g : Frame) × (answer_of mon s.journal ≡ Some g)
has_answer s h still mon m =
    let trail = trail_of s mon in
    let some = is_answered (setup_of s mon) trail (h.trails_legal mon m) (let b = begun s h still mon m in omega (arith, b)) in
    let g = counted_has (is_numbered (seq_of trail)) (sent_by trail) some in
    let a = sent_stands s h still mon m g.0 g.1 (numbered_is (seq_of trail) g.0 g.2) in
    (a.frame, a.is)

not_reported : (s : StoryView) → IsStory s → IsStill s → (mon : ℕ) → IsMonitor s.settings mon → is_reported (trail_of s mon) ≡ false
not_reported s h still mon m = elim (cases_Bool (is_reported (trail_of s mon))) [
  | inr no' ↦ no'
  | inl yes' ↦
      let trail = trail_of s mon in
      let r = reported_sent (setup_of s mon) trail (h.trails_legal mon m) yes' in
      let a = sent_stands s h still mon m (f.Report (seq_of trail) r.border r.failed r.values) r.sent (Rattle.std.proofs.lemmas.Bool.eq-eqb (seq_of trail) (seq_of trail) refl) in
      let none = no_report_stands (start s.settings) s.journal mon (start_is_set_up s h) h.journal_legal m (still_closed s h still) in
      absurd (true≢false (sym (ap is_report a.is ∙ a.report refl) ∙ none))
]

may : (s : StoryView) → IsStory s → IsStill s → (mon : ℕ) → IsMonitor s.settings mon → may_report (trail_of s mon) ≡ true
may s h still mon m =
    and_from (nat_lt 0 (seq_of (trail_of s mon))) (not (is_reported (trail_of s mon))) (lt-ltb 0 (seq_of (trail_of s mon)) (begun s h still mon m)) (ap not (not_reported s h still mon m))

none_due : (report end : Bool) (x y : Frame) → (if report then Some x else (if end then Some y else None)) ≡ None → (report ≡ false) × (end ≡ false)
none_due true end x y e = absurd (cc)
none_due false true x y e = absurd (cc)
none_due false false x y e = (refl, refl)

nothing_due : (setup : MonitorSetup) (trail : List Entry) → due_at setup trail ≡ None → (report_is_due setup trail ≡ false) × (end_is_due setup trail ≡ false)
unfolding due_at
nothing_due setup trail none = none_due (report_is_due setup trail) (end_is_due setup trail) (report_at setup trail) (settled_frame setup trail) none

still_sound : (s : StoryView) → IsStory s → IsStill s → (mon : ℕ) → IsMonitor s.settings mon → is_broken (setup_of s mon) (trail_of s mon) ≡ false
unfolding report_is_due
still_sound s h still mon m = right_fails (may_report (trail_of s mon)) (is_broken (setup_of s mon) (trail_of s mon)) (may s h still mon m) (nothing_due (setup_of s mon) (trail_of s mon) (still.idle mon m)).0

pub still_is_quiet : (s : StoryView) → IsStory s → IsStill s → IsQuiet s
still_is_quiet s h still = record { down = still.down; up = still.up; closed = still_closed s h still; sound = λ mon m. still_sound s h still mon m }

-- ---- at the ends

told_by : (may broken ends told : Bool) → may ≡ true → broken ≡ false → ends ≡ true → (may && not broken && ends && not told) ≡ false → told ≡ true
told_by true false true true a b c e = refl
told_by true false true false a b c e = absurd (true≢false e)
told_by false broken ends told a b c e = absurd (false≢true a)
told_by true true ends told a b c e = absurd (true≢false b)
told_by true false false told a b c e = absurd (false≢true c)

still_told : (s : StoryView) → IsStory s → IsStill s → (mon : ℕ) → IsMonitor s.settings mon → at_ends (setup_of s mon) (trail_of s mon) ≡ true → is_end_told (trail_of s mon) ≡ true
unfolding end_is_due
still_told s h still mon m ends =
    let setup = setup_of s mon in
    let trail = trail_of s mon in
    told_by (may_report trail) (is_broken setup trail) (at_ends setup trail) (is_end_told trail) (may s h still mon m) (still_sound s h still mon m) ends (nothing_due setup trail (still.idle mon m)).1

-- a current answer that is no Report is a Settled
settled_by : (q : ℕ) (g : Frame) → is_numbered q g ≡ true → is_report (Some g) ≡ false → is_some (settled_in (Some g)) ≡ true
settled_by q (f.Settled seq last places) is no' = refl
settled_by q (f.Report seq border failed values) is no' = absurd (true≢false no')
settled_by q (f.Hello run version mon) is no' = absurd (false≢true is)
settled_by q (f.Collect round asked) is no' = absurd (false≢true is)
settled_by q (f.Values round seq border values) is no' = absurd (false≢true is)
settled_by q (f.Assign seq members changes) is no' = absurd (false≢true is)
settled_by q f.Stop is no' = absurd (false≢true is)

pub still_settled : (s : StoryView) → IsStory s → IsStill s → (mon : ℕ) → IsMonitor s.settings mon → is_some (settled_of mon s.journal) ≡ true
still_settled s h still mon m =
    let a = has_answer s h still mon m in
    let none = no_report_stands (start s.settings) s.journal mon (start_is_set_up s h) h.journal_legal m (still_closed s h still) in
    ap (λ o. is_some (settled_in o)) a.1 ∙ settled_by (assigns_sent mon s.journal) a.0 (answer_fresh mon s.journal a.0 a.1) (ap is_report (sym a.1) ∙ none)

kept_or : (h : ℕ → Option Progress) (o : Option Progress) (xs : List ℕ) (q : Progress → Bool) → ((p : Progress) → o ≡ Some p → q p ≡ true) → list_all q (filter_map h xs) ≡ true → list_all q (cons_option o (filter_map h xs)) ≡ true
kept_or h None xs q here rest = rest
kept_or h (Some p) xs q here rest = and_from (q p) (list_all q (filter_map h xs)) (here p refl) rest

kept_all : (h : ℕ → Option Progress) (xs : List ℕ) (q : Progress → Bool) → ((x : ℕ) → Contains xs x → (p : Progress) → h x ≡ Some p → q p ≡ true) → list_all q (filter_map h xs) ≡ true
kept_all h [] q each = refl
kept_all h (x ∷ xs) q each = kept_or h (h x) xs q (each x (zero, omega arith, refl)) (kept_all h xs q (λ y in'. each y (suc in'.0, (let b = in'.1 in omega (arith, b)), in'.2)))

pub still_calm : (s : StoryView) → IsStory s → IsStill s → is_calm s.settings s.journal ≡ true
unfolding is_calm
still_calm s h still =
    and_from (not (is_open s.settings s.journal)) (list_all (λ mon. is_some (settled_of mon s.journal)) (monitors s.settings)) (ap not (still_closed s h still))
    (all_true (λ mon. is_some (settled_of mon s.journal)) (monitors s.settings) (λ mon in'. still_settled s h still mon (listed_monitor s.settings mon in')))

-- what a told end says stays: the current Settled has `last`
last_here : (s : StoryView) → IsStory s → IsStill s → (mon : ℕ) → IsMonitor s.settings mon → at_ends (setup_of s mon) (trail_of s mon) ≡ true → (p : Progress) → settled_of mon s.journal ≡ Some p → p.last ≡ true
last_here s h still mon m ends p is =
    let trail = trail_of s mon in
    let e = told_sent (setup_of s mon) trail (h.trails_legal mon m) (still_told s h still mon m ends) in
    let g = f.Settled (seq_of trail) true e.places in
    let at = got_at mon s.journal g (subst (λ xs. Contains xs g) (sym (still.up mon m)) e.sent) in
    let count = count_same s still mon m in
    let told = end_stays_told (start s.settings) at.a at.after at.from (seq_of trail) e.places (subst (IsLegal (start s.settings)) at.is h.journal_legal)
    (count ∙ ap (λ (q : ℕ). assigns_sent q s.journal) (sym at.own) ∙ ap (assigns_sent at.from.0) at.is) in
    let said : progress_of mon s.journal ≡ Some told.0 = ap (λ (q : ℕ). progress_of q s.journal) (sym at.own) ∙ ap (progress_of at.from.0) at.is ∙ told.1 in
    let same : Some told.0 ≡ Some p = sym said ∙ settled_progress mon s.journal p is in
    let agree : told.0 ≡ p = cc in
    ap (λ (q : Progress). q.last) (sym agree) ∙ told.2

pub ended_is_stopped : (s : StoryView) → IsStory s → IsStill s → ((mon : ℕ) → IsMonitor s.settings mon → at_ends (setup_of s mon) (trail_of s mon) ≡ true) → is_stopped s.journal ≡ true
ended_is_stopped s h still ends =
    calm_and_last_is_stopped (start s.settings) s.journal (start_is_set_up s h) h.journal_legal (still_calm s h still)
    (kept_all (λ mon. settled_of mon s.journal) (monitors s.settings) (λ p. p.last) (λ mon in' p is. let m = listed_monitor s.settings mon in' in last_here s h still mon m (ends mon m) p is))
