-- Cuts never go back.
use Rattle.tk_frames.specs.declared.frame.Frame.TheVariants as f
use Rattle.tk_journal.specs.declared.noted.Noted.TheVariants as n
use Rattle.std.proofs.Common.{◌≡◌, ℕ, suc, zero, ◌+◌, ◌≤◌, ◌<◌, ◌&&◌, ◌==◌, ℤ, Bool, true, false, List, [], ◌∷◌, ◌++◌, length, get_or, Option, Some, None, refl, sym, ap, ◌∙◌, subst, arith, append_assoc, append-nil, inl, inr, ◌-◌, not, map}
use Rattle.std.specs.Prelude.{nat_le, is_some, if◌then◌else◌, filter_map, nat_eq}
use Rattle.std.specs.List.{cons_option, list_all, zip, range_with_len}
use Rattle.std.proofs.lemmas.Bool.{and_parts, eqb-true, false≢true, leb-true, eq-eqb, and_from}
use Rattle.tk_base.proofs.HistoryLemmas.{each_at}
use Rattle.tk_base.specs.Settings.{Setup}
use Rattle.tk_base.specs.declared.ids.Mon.{Mon}
use Rattle.tk_frames.specs.Assigns.{assign_in}
use Rattle.tk_frames.specs.declared.frame.Frame.{Frame}
use Rattle.tk_input.specs.Logs.{places_of}
use Rattle.tk_journal.specs.Walks.{walk}
use Rattle.tk_journal.specs.Laws.{IsMonitor, SaysWhatIsDue}
use Rattle.tk_journal.specs.Legal.{IsLegal, Opening}
use Rattle.tk_journal.specs.Links.{Passed, link_of}
use Rattle.tk_journal.specs.Links.Passed.{Up, Down}
use Rattle.tk_journal.specs.Publishing.{publication_at, closing, is_due, is_last, stops, settled_at}
use Rattle.tk_journal.specs.Readings.{Progress, answer_of, answered, assigns_on, assigns_sent, is_calm, progress_of, settled_in, settled_of, told, is_open, monitors}
use Rattle.tk_journal.specs.Refusal.{are_places, are_same, go_on, refusal_of, refusal_of_cut, shown_by}
use Rattle.tk_journal.specs.declared.noted.Noted.{Noted}
use Rattle.tk_journal.specs.declared.publication.Publication.{Publication}
use Rattle.tk_journal.specs.declared.refusal.CoordRefusal.TheVariants.{BadCut}
use Rattle.tk_journal.proofs.Accepted.{accepted_answer, accepted_kind}
use Rattle.tk_journal.proofs.Appends.{progress_of-append}
use Rattle.tk_journal.proofs.Content.{same_list}
use Rattle.tk_journal.proofs.Pieces.{assigns_on-sent, got_progress}
use Rattle.tk_journal.proofs.Published.{legal_say}
use Rattle.tk_journal.proofs.SendLemmas.{calm_settled, due_calm}
use Rattle.tk_journal.proofs.WholeLemmas.{stands_whole}
use Rattle.std.specs.Cmp.Lexicographic.{pointwise}
use Rattle.tk_border.specs.Levels.{border}

pub mapped_at : {X : Type 0} (g : ℕ → X) (a k i : ℕ) (d : X) → i < k → get_or (map g (range_with_len a k)) i d ≡ g (a + i)
mapped_at g a zero i d within = absurd (omega (arith, within))
mapped_at g a (suc k) zero d within = ap g (omega arith)
mapped_at g a (suc k) (suc i) d within = mapped_at g (a + 1) k i d (omega (arith, within)) ∙ ap g (omega arith)

pub said_places : Option Progress → List ℕ
said_places None = []
said_places (Some p) = p.places

kept_places : (h : ℕ → Option Progress) (o : Option Progress) (xs : List ℕ) → is_some o ≡ true → map (λ (p : Progress). p.places) (cons_option o (filter_map h xs)) ≡ said_places o ∷ map (λ (p : Progress). p.places) (filter_map h xs)
unfolding said_places
kept_places h None xs is = absurd (false≢true is)
kept_places h (Some p) xs is = refl

pub all_places : (h : ℕ → Option Progress) (xs : List ℕ) → list_all (λ x. is_some (h x)) xs ≡ true → map (λ (p : Progress). p.places) (filter_map h xs) ≡ map (λ x. said_places (h x)) xs
all_places h [] all = refl
all_places h (x ∷ xs) all =
    let both = and_parts (is_some (h x)) (list_all (λ y. is_some (h y)) xs) all in
    kept_places h (h x) xs both.0 ∙ ap (λ zs. said_places (h x) ∷ zs) (all_places h xs both.1)

-- a cut made of the places of each monitor
abbrev pub cut_by : ℕ → (ℕ → List ℕ) → List (List ℕ)
cut_by m places = map places (range_with_len 1 m)

pub places_by : (m : ℕ) (places : ℕ → List ℕ) (mon : ℕ) → 1 ≤ mon → mon ≤ m → places_of (cut_by m places) mon ≡ places mon
places_by m places mon low high = mapped_at places 1 m (mon - 1) [] (omega (arith, low, high)) ∙ ap places (omega (arith, low))

pub settled_is : (answer : Option Frame) (p : Progress) → settled_in answer ≡ Some p → (seq : ℕ) × (answer ≡ Some (f.Settled seq p.last p.places))
settled_is None p is = absurd (cc)
settled_is (Some (f.Settled seq last places)) p is = (seq, (let same : record { places = places; last = last } ≡ p = cc in ap (λ (q : Progress). Some (f.Settled seq q.last q.places)) same))
settled_is (Some (f.Hello run version mon)) p is = absurd (cc)
settled_is (Some (f.Report s border failed values)) p is = absurd (cc)
settled_is (Some (f.Collect round asked)) p is = absurd (cc)
settled_is (Some (f.Values round s border values)) p is = absurd (cc)
settled_is (Some (f.Assign s members changes)) p is = absurd (cc)
settled_is (Some f.Stop) p is = absurd (cc)

same_self : (xs : List ℕ) → pointwise nat_eq xs xs ≡ true
same_self [] = refl
same_self (x ∷ xs) = and_from (nat_eq x x) (pointwise nat_eq xs xs) (eq-eqb x x refl) (same_self xs)

pub are_same_by : (xs ys : List ℕ) → xs ≡ ys → are_same xs ys ≡ true
are_same_by xs ys is = ap (λ zs. pointwise nat_eq zs ys) is ∙ same_self ys

pub closing_is : (s : Setup) (j : List Noted) → is_due s j ≡ true → is_last s j ≡ true → closing s j ≡ n.Published (publication_at s j) ∷ stops s
unfolding closing
closing_is s j due last =
    ap (λ b. if b then n.Published (publication_at s j) ∷ (if is_last s j then stops s else []) else []) due ∙ ap (λ b. n.Published (publication_at s j) ∷ (if b then stops s else [])) last

pub said_by : ℕ → List Noted → List ℕ
said_by mon a = said_places (settled_of mon a)

pub said_is : (mon : ℕ) (a : List Noted) (p : Progress) → settled_of mon a ≡ Some p → said_by mon a ≡ p.places
unfolding said_by said_places
said_is mon a p is = ap said_places is

pub cut_said : (s : Setup) (a : List Noted) → is_calm s a ≡ true → map (λ (p : Progress). p.places) (settled_at s a) ≡ cut_by s.monitors (λ mon. said_by mon a)
unfolding is_calm said_by
cut_said s a calm = all_places (λ mon. settled_of mon a) (monitors s) (and_parts (not (is_open s a)) (list_all (λ mon. is_some (settled_of mon a)) (monitors s)) calm).1

-- ---- a current Settled is what was accepted last

abbrev Agrees : Option Frame → Option Progress → Type 0
Agrees answer progress = (x : Progress) → settled_in answer ≡ Some x → progress ≡ Some x

both_if : (b : Bool) (seq : ℕ) (last : Bool) (places : List ℕ) (answer : Option Frame) (progress : Option Progress) → Agrees answer progress → Agrees (if b then Some (f.Settled seq last places) else answer) (if b then Some (record { places = places; last = last }) else progress)
both_if true seq last places answer progress h x is = is
both_if false seq last places answer progress h x is = h x is

report_if : (b : Bool) (seq : ℕ) (border : ℤ) (failed : List ℕ) (values : List (ℕ × ℤ)) (answer : Option Frame) (progress : Option Progress) → Agrees answer progress → Agrees (if b then Some (f.Report seq border failed values) else answer) progress
report_if true seq border failed values answer progress h x is = absurd (cc)
report_if false seq border failed values answer progress h x is = h x is

cleared_if : (b : Bool) (answer : Option Frame) (progress : Option Progress) → Agrees answer progress → Agrees (if b then None else answer) progress
cleared_if true answer progress h x is = absurd (cc)
cleared_if false answer progress h x is = h x is

agreed : (front : List Passed) (answer : Option Frame) (progress : Option Progress) (link : List Passed) → Agrees answer progress → Agrees (walk answered front answer link) (walk told front progress link)
agreed front answer progress [] h = h
agreed front answer progress (Up (f.Settled seq last places) ∷ link) h =
    agreed (front ++ Up (f.Settled seq last places) ∷ []) (answered front answer (Up (f.Settled seq last places))) (told front progress (Up (f.Settled seq last places))) link (both_if (seq == assigns_on front) seq last places answer progress h)
agreed front answer progress (Up (f.Report seq border failed values) ∷ link) h =
    agreed (front ++ Up (f.Report seq border failed values) ∷ []) (answered front answer (Up (f.Report seq border failed values))) progress link (report_if (seq == assigns_on front) seq border failed values answer progress h)
agreed front answer progress (Up (f.Hello run version mon) ∷ link) h = agreed (front ++ Up (f.Hello run version mon) ∷ []) answer progress link h
agreed front answer progress (Up (f.Collect round asked) ∷ link) h = agreed (front ++ Up (f.Collect round asked) ∷ []) answer progress link h
agreed front answer progress (Up (f.Values round seq border values) ∷ link) h = agreed (front ++ Up (f.Values round seq border values) ∷ []) answer progress link h
agreed front answer progress (Up (f.Assign seq members changes) ∷ link) h = agreed (front ++ Up (f.Assign seq members changes) ∷ []) answer progress link h
agreed front answer progress (Up f.Stop ∷ link) h = agreed (front ++ Up f.Stop ∷ []) answer progress link h
agreed front answer progress (Down frame ∷ link) h = agreed (front ++ Down frame ∷ []) (answered front answer (Down frame)) progress link (cleared_if (is_some (assign_in frame)) answer progress h)

pub settled_progress : (mon : ℕ) (j : List Noted) (x : Progress) → settled_of mon j ≡ Some x → progress_of mon j ≡ Some x
unfolding answer_of progress_of
settled_progress mon j x is = agreed [] None None (link_of mon j) (λ y none. absurd (cc)) x is

-- ---- one accepted Settled after another

abbrev pub GoOn : Option Progress → Option Progress → Type 0
GoOn p q = (x : Progress) → p ≡ Some x → (y : Progress) × (q ≡ Some y) × ((i : ℕ) → get_or x.places i 0 ≤ get_or y.places i 0) × (x.last ≡ true → y.last ≡ true)

on_self : (p q : Option Progress) → q ≡ p → GoOn p q
on_self p q same x is = (x, same ∙ is, λ i. omega arith, λ l. l)

on_trans : (p q r : Option Progress) → GoOn p q → GoOn q r → GoOn p r
on_trans p q r a b x is =
    let y = a x is in
    let z = b y.0 y.1 in
    (z.0, z.1, λ i. let l = y.2 i in let m = z.2 i in omega (arith, l, m), λ l. z.3 (y.3 l))

zip_at : (xs ys : List ℕ) → length ys ≡ length xs → list_all (λ (p : ℕ × ℕ). nat_le p.0 p.1) (zip xs ys) ≡ true → (i : ℕ) → get_or xs i 0 ≤ get_or ys i 0
zip_at [] ys long all i = omega arith
zip_at (x ∷ xs) [] long all i = absurd (omega (arith, long))
zip_at (x ∷ xs) (y ∷ ys) long all zero = leb-true x y (and_parts (nat_le x y) (list_all (λ (p : ℕ × ℕ). nat_le p.0 p.1) (zip xs ys)) all).0
zip_at (x ∷ xs) (y ∷ ys) long all (suc i) = zip_at xs ys (omega (arith, long)) (and_parts (nat_le x y) (list_all (λ (p : ℕ × ℕ). nat_le p.0 p.1) (zip xs ys)) all).1 i

on_by : (x : Progress) (last before : Bool) (places : List ℕ) → (if before then last && are_same places x.places else length places == length x.places && list_all (λ (p : ℕ × ℕ). nat_le p.0 p.1) (zip x.places places)) ≡ true → (i : ℕ) → get_or x.places i 0 ≤ get_or places i 0
on_by x last true places on i =
    let same = same_list places x.places (and_parts last (are_same places x.places) on).1 in
    let e : get_or places i 0 ≡ get_or x.places i 0 = ap (λ xs. get_or xs i 0) same in
    omega (arith, e)
on_by x last false places on i =
    let both = and_parts (length places == length x.places) (list_all (λ (p : ℕ × ℕ). nat_le p.0 p.1) (zip x.places places)) on in
    zip_at x.places places (eqb-true (length places) (length x.places) both.0) both.1 i

last_by : (x : Progress) (last before : Bool) (places : List ℕ) → before ≡ true → (if before then last && are_same places x.places else length places == length x.places && list_all (λ (p : ℕ × ℕ). nat_le p.0 p.1) (zip x.places places)) ≡ true → last ≡ true
last_by x last true places l on = (and_parts last (are_same places x.places) on).0
last_by x last false places l on = absurd (false≢true l)

none_cut : (b : Bool) → (if b then None else Some BadCut) ≡ None → b ≡ true
none_cut true is = refl
none_cut false is = absurd (cc)

on_accepted : (progress : Option Progress) (last : Bool) (places : List ℕ) → refusal_of_cut progress last places ≡ None → GoOn progress (Some (record { places = places; last = last }))
on_accepted None last places none x is = absurd (cc)
on_accepted (Some p) last places none x is =
    let on = (and_parts (are_places places) (go_on (Some p) last places) (none_cut (are_places places && go_on (Some p) last places) none)).1 in
    let same : p ≡ x = cc in
    let on_x = subst (λ (q : Progress). go_on (Some q) last places ≡ true) same on in
    (record { places = places; last = last }, refl, on_by x last x.last places on_x, λ l. last_by x last x.last places l on_x)

-- ---- entry by entry

fresh_if : (b : Bool) (progress : Option Progress) (last : Bool) (places : List ℕ) → (b ≡ true → refusal_of_cut progress last places ≡ None) → GoOn progress (if b then Some (record { places = places; last = last }) else progress)
fresh_if true progress last places none = on_accepted progress last places (none refl)
fresh_if false progress last places none = on_self progress progress refl

settled_goes : (s : Setup) (a : List Noted) (mon seq : ℕ) (last : Bool) (places : List ℕ) → refusal_of s a mon (f.Settled seq last places) ≡ None → seq == assigns_sent mon a ≡ true → refusal_of_cut (progress_of mon a) last places ≡ None
settled_goes s a mon seq last places none fresh =
    elim (accepted_answer (shown_by mon a) seq (refusal_of_cut (progress_of mon a) last places) (accepted_kind s a mon (f.Settled seq last places) none).1) [
      | inl stale ↦ absurd (let e = eqb-true seq (assigns_sent mon a) fresh in omega (arith, stale, e))
      | inr here ↦ here.passes
    ]

own_goes : (s : Setup) (a : List Noted) (mon : ℕ) (frame : Frame) → refusal_of s a mon frame ≡ None → GoOn (progress_of mon a) (told (link_of mon a) (progress_of mon a) (Up frame))
own_goes s a mon (f.Settled seq last places) none =
    fresh_if (seq == assigns_on (link_of mon a)) (progress_of mon a) last places (λ fresh. settled_goes s a mon seq last places none (ap (λ q. seq == q) (sym (assigns_on-sent mon a)) ∙ fresh))
own_goes s a mon (f.Hello run version m) none = on_self (progress_of mon a) (progress_of mon a) refl
own_goes s a mon (f.Report seq border failed values) none = on_self (progress_of mon a) (progress_of mon a) refl
own_goes s a mon (f.Collect round asked) none = on_self (progress_of mon a) (progress_of mon a) refl
own_goes s a mon (f.Values round seq border values) none = on_self (progress_of mon a) (progress_of mon a) refl
own_goes s a mon (f.Assign seq members changes) none = on_self (progress_of mon a) (progress_of mon a) refl
own_goes s a mon f.Stop none = on_self (progress_of mon a) (progress_of mon a) refl

got_if : (s : Setup) (a : List Noted) (mon : ℕ) (from : Mon) (frame : Frame) (own : Bool) → from.0 == mon ≡ own → refusal_of s a from.0 frame ≡ None → GoOn (progress_of mon a) (if own then told (link_of mon a) (progress_of mon a) (Up frame) else progress_of mon a)
got_if s a mon from frame true is none = own_goes s a mon frame (subst (λ q. refusal_of s a q frame ≡ None) (eqb-true from.0 mon is) none)
got_if s a mon from frame false is none = on_self (progress_of mon a) (progress_of mon a) refl

down_if : (b : Bool) (front : List Passed) (progress : Option Progress) (frame : Frame) → walk told front progress (cons_option (if b then Some (Down frame) else None) []) ≡ progress
down_if true front progress frame = refl
down_if false front progress frame = refl

one_entry : (o : Opening) (a : List Noted) (e : Noted) (after : List Noted) (mon : ℕ) → IsLegal o (a ++ e ∷ after) → GoOn (progress_of mon a) (progress_of mon (a ++ e ∷ []))
one_entry o a (n.Got from frame) after mon legal =
    let whole = stands_whole o a (n.Got from frame) after legal refl in
    subst (λ (q : Option Progress). GoOn (progress_of mon a) q) (sym (got_progress mon a from frame)) (got_if o.settings a mon from frame (from.0 == mon) refl whole.accepted.2)
one_entry o a (n.Sent to frame) after mon legal = on_self (progress_of mon a) (progress_of mon (a ++ n.Sent to frame ∷ [])) (progress_of-append mon a (n.Sent to frame ∷ []) ∙ down_if (to.0 == mon) (link_of mon a) (progress_of mon a) frame)
one_entry o a (n.Published p) after mon legal = on_self (progress_of mon a) (progress_of mon (a ++ n.Published p ∷ [])) (progress_of-append mon a (n.Published p ∷ []))
one_entry o a (n.Tuned k epsilon) after mon legal = on_self (progress_of mon a) (progress_of mon (a ++ n.Tuned k epsilon ∷ [])) (progress_of-append mon a (n.Tuned k epsilon ∷ []))

pub progress_goes_on : (o : Opening) (a b c : List Noted) (mon : ℕ) → IsLegal o (a ++ b ++ c) → GoOn (progress_of mon a) (progress_of mon (a ++ b))
progress_goes_on o a [] c mon legal = on_self (progress_of mon a) (progress_of mon (a ++ [])) (ap (progress_of mon) (append-nil a))
progress_goes_on o a (e ∷ b) c mon legal =
    let next : a ++ e ∷ [] ++ b ≡ a ++ e ∷ b = append_assoc a (e ∷ []) b in
    let first = one_entry o a e (b ++ c) mon (subst (IsLegal o) (append_assoc a (e ∷ b) c) legal) in
    let rest = progress_goes_on o (a ++ e ∷ []) b c mon (subst (λ xs. IsLegal o (xs ++ c)) (sym next) legal) in
    on_trans (progress_of mon a) (progress_of mon (a ++ e ∷ [])) (progress_of mon (a ++ e ∷ b)) first (subst (λ xs. GoOn (progress_of mon (a ++ e ∷ [])) (progress_of mon xs)) next rest)

-- ---- publications

published_says : (o : Opening) (a : List Noted) (p : Publication) (after : List Noted) → IsLegal o (a ++ n.Published p ∷ after) → SaysWhatIsDue o.settings a (n.Published p)
published_says o a p after legal = each_at (SaysWhatIsDue o.settings) [] a (n.Published p) after (legal_say o (a ++ n.Published p ∷ after) legal)

cut_place : (s : Setup) (a : List Noted) (p : Publication) (mon : ℕ) → IsMonitor s mon → SaysWhatIsDue s a (n.Published p) → (x : Progress) × (settled_of mon a ≡ Some x) × (places_of p.cut mon ≡ x.places)
cut_place s a p mon m says =
    let calm = due_calm s a says.0 in
    let x = calm_settled s a mon calm m in
    (x.0, x.1, ap (λ (q : Publication). places_of q.cut mon) says.1 ∙ ap (λ c. places_of c mon) (cut_said s a calm) ∙ places_by s.monitors (λ q. said_by q a) mon m.from_one m.within ∙ said_is mon a x.0 x.1)

pub cuts_go_on : (o : Opening) (a b c : List Noted) (p q : Publication) (mon i : ℕ) → IsLegal o (a ++ n.Published p ∷ b ++ n.Published q ∷ c) → IsMonitor o.settings mon → get_or (places_of p.cut mon) i 0 ≤ get_or (places_of q.cut mon) i 0
cuts_go_on o a b c p q mon i legal m =
    let s = o.settings in
    let now = a ++ n.Published p ∷ b in
    let x = cut_place s a p mon m (published_says o a p (b ++ n.Published q ∷ c) (subst (IsLegal o) (append_assoc a (n.Published p ∷ b) (n.Published q ∷ c)) legal)) in
    let y = cut_place s now q mon m (published_says o now q c legal) in
    let on = progress_goes_on o a (n.Published p ∷ b) (n.Published q ∷ c) mon legal x.0 (settled_progress mon a x.0 x.1) in
    let same : Some on.0 ≡ Some y.0 = sym on.1 ∙ settled_progress mon now y.0 y.1 in
    let is : on.0 ≡ y.0 = cc in
    let l = on.2 i in
    let e = ap (λ xs. get_or xs i 0) x.2 in
    let f = ap (λ xs. get_or xs i 0) y.2 in
    let g = ap (λ (z : Progress). get_or z.places i 0) is in
    omega (arith, l, e, f, g)
