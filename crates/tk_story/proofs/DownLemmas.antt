-- The next frame of a down link is taken.
use Rattle.tk_frames.specs.declared.frame.Frame.TheVariants as f
use Rattle.tk_journal.specs.declared.noted.Noted.TheVariants as n
use Rattle.std.proofs.Common.{◌≡◌, ℕ, suc, zero, ◌+◌, ◌^◌, ◌≤◌, ◌<◌, ◌&&◌, ◌||◌, ◌==◌, ℤ, Bool, true, false, not, List, [], ◌∷◌, ◌++◌, length, map, Contains, Option, Some, None, refl, sym, ap, ◌∙◌, subst, arith, inl, inr}
use Rattle.std.specs.Prelude.{filter, filter_map, find, fold, nat_lt, nat_le, unsigned_abs, cond, if◌then◌else◌}
use Rattle.std.specs.List.{All, list_all, list_any, range_with_len}
use Rattle.std.specs.Option.{option_map}
use Rattle.std.proofs.lemmas.Bool.{and_from, cases_Bool, eq-eqb, false≢true, le-leb, le-ltb, lt-ltb, or_from}
use Rattle.std.proofs.lemmas.List.Elements.{All-contains, filter_map-append}
use Rattle.std.proofs.lemmas.List.Folds.{list_any-append}
use Rattle.std.proofs.Math.Bool.{or-true}
use Rattle.tk_base.specs.Objects.{is_in}
use Rattle.tk_base.proofs.HistoryLemmas.{each_at}
use Rattle.tk_frames.specs.Assigns.{Assign, assign_in, members_of}
use Rattle.tk_frames.specs.declared.frame.Frame.{Frame}
use Rattle.tk_base.specs.History.{last_of, IsFront}
use Rattle.tk_base.specs.Ascending.{IsAscending, ascends}
use Rattle.tk_base.proofs.MemberLemmas.{contained_is_in}
use Rattle.tk_journal.specs.Laws.{IsMonitor, IsSetUp}
use Rattle.tk_journal.specs.Legal.{IsLegal, Opening}
use Rattle.tk_journal.specs.Links.{frames_from, frames_to}
use Rattle.tk_journal.specs.Publishing.{stops}
use Rattle.tk_journal.specs.Readings.{answer_of, assigns_sent, is_stopped as is_stopped_journal, members_at as members_at_journal, monitors, seqs_to, seq_in as seq_of_assign}
use Rattle.tk_journal.specs.declared.noted.Noted.{Noted}
use Rattle.tk_journal.proofs.Answering.{answer_fresh}
use Rattle.tk_journal.proofs.Appends.{frames_from-append, frames_to-append, last_of-append, later}
use Rattle.tk_journal.proofs.Ended.{legal_ends}
use Rattle.tk_journal.proofs.LawLemmas.{one_less, orderly}
use Rattle.tk_journal.proofs.Pieces.{batch_to}
use Rattle.tk_story.specs.Links.{IsJoined}
use Rattle.tk_frames.specs.Carried.{tally, is_numbered}
use Rattle.tk_frames.proofs.CarriedLemmas.{tally-append}
use Rattle.tk_border.proofs.AscendsLemmas.{ascending_passes}
use Rattle.tk_journal.proofs.GatheredLemmas.{in_front}
use Rattle.tk_journal.proofs.HeardLemmas.{answer_was_got}
use Rattle.tk_story.proofs.JoinLemmas.{SentAt, carried_seq, front_has, sent_at}
use Rattle.tk_journal.proofs.SentLemmas.{flag, is_halt, one_stop, unstopped}
use Rattle.tk_trail.proofs.SendsLemmas.{since-more}
use Rattle.tk_trail.specs.Setup.{MonitorSetup}
use Rattle.tk_trail.specs.Legal.{IsLegal as IsLegalTrail}
use Rattle.tk_trail.specs.Readings.{assigns_of, is_end, is_end_told, is_stopped, members_at, seq_of, sent_by, since_assign, taken_by}
use Rattle.tk_trail.specs.Refusal.{Shown, are_members, are_some_of, is_bad_change, refusal_of, refusal_of_assign, refusal_of_kind, shown_by}
use Rattle.tk_trail.specs.declared.entry.Entry.{Entry}
use Rattle.tk_trail.specs.declared.entry.Entry.TheVariants.{Raised, Took, Sent}
use Rattle.tk_trail.specs.declared.refusal.MonitorRefusal.TheVariants.{AfterStop, WrongSequence, BadMembers, BadChange, BadCollect, EarlyStop}
use Rattle.tk_trail.proofs.SaysLemmas.{same_count}
use Rattle.tk_journal.specs.Sending.{CanBeTaken, IsSaidWell}
use Rattle.tk_journal.proofs.LastLemmas.{last_back, last_const}
use Rattle.tk_story.proofs.PlaceLemmas.{sent_place}
use Rattle.tk_journal.proofs.SendLemmas.{monitor_listed}
use Rattle.tk_journal.proofs.SendTurns.{legal_well}
use Rattle.tk_journal.proofs.ProgressLemmas.{settled_is}
use Rattle.tk_story.proofs.ContentLemmas.{all_true}

-- ---- Stop is the last frame

later_last : (x y : Option Frame) (c : Frame) → y ≡ Some c → later x y ≡ Some c
later_last x y c is = ap (later x) is

last_behind : (xs ys : List Frame) (c : Frame) → last_of ys ≡ Some c → last_of (xs ++ ys) ≡ Some c
last_behind xs ys c is = last_of-append xs ys ∙ later_last (last_of xs) (last_of ys) c is

pub halts : (trail : List Entry) → is_stopped trail ≡ true → 0 < tally is_halt (taken_by trail)
halts [] is = absurd (false≢true is)
halts (Raised g ∷ trail) is = halts trail is
halts (Sent frame ∷ trail) is = halts trail is
halts (Took f.Stop ∷ trail) is = omega arith
halts (Took (f.Hello run version mon) ∷ trail) is = let h = halts trail is in omega (arith, h)
halts (Took (f.Report seq border failed values) ∷ trail) is = let h = halts trail is in omega (arith, h)
halts (Took (f.Collect round asked) ∷ trail) is = let h = halts trail is in omega (arith, h)
halts (Took (f.Values round seq border values) ∷ trail) is = let h = halts trail is in omega (arith, h)
halts (Took (f.Assign seq members changes) ∷ trail) is = let h = halts trail is in omega (arith, h)
halts (Took (f.Settled seq last places) ∷ trail) is = let h = halts trail is in omega (arith, h)

pub last_tally : (p : Frame → Bool) (x : Frame) (xs : List Frame) (c : Frame) → fold (λ (_ : Option Frame) (e : Frame). Some e) (Some x) xs ≡ Some c → p c ≡ true → 0 < tally p (x ∷ xs)
last_tally p x [] c is own = let same : x ≡ c = cc in let e = ap flag (ap p same ∙ own) in omega (arith, e)
last_tally p x (y ∷ xs) c is own = let h = last_tally p y xs c is own in omega (arith, h)

is_listed : (xs : List ℕ) (o : ℕ) → Contains xs o → list_any (λ d. d == o) xs ≡ true
is_listed xs o in' = contained_is_in xs o in'

-- where the journal is stopped, the last frame to each monitor is Stop
pub stop_last : (o : Opening) (j : List Noted) (mon : ℕ) → IsSetUp o → IsLegal o j → IsMonitor o.settings mon → is_stopped_journal j ≡ true → last_of (frames_to mon j) ≡ Some f.Stop
stop_last o j mon set legal m stopped =
    let s = o.settings in
    let k = one_less s.monitors set.limits.some_monitor in
    let e = (legal_ends o k.0 k.1 j legal).ended stopped in
    let back = last_const f.Stop (λ d. d == mon) (monitors s) (is_listed (monitors s) mon (monitor_listed s mon m)) in
    let frames : frames_to mon j ≡ frames_to mon e.front ++ map (λ _. f.Stop) (filter (λ d. d == mon) (monitors s)) =
    ap (frames_to mon) e.is ∙ frames_to-append mon e.front (n.Published e.final ∷ stops s) ∙ ap (λ xs. frames_to mon e.front ++ xs) (batch_to mon (λ (x : ℕ). x) (λ _. f.Stop) (monitors s)) in
    ap (λ (xs : List Frame). last_of xs) frames ∙ last_behind (frames_to mon e.front) (map (λ _. f.Stop) (filter (λ d. d == mon) (monitors s))) f.Stop back

halted_first : (stopped : Bool) (mon : ℕ) (j : List Noted) → is_stopped_journal j ≡ stopped → 0 < tally is_halt (frames_to mon j) → stopped ≡ true
halted_first true mon j is some = refl
halted_first false mon j is some = absurd (let z = unstopped mon j is in omega (arith, z, some))

not_stopped : (o : Opening) (j : List Noted) (mon : ℕ) (trail : List Entry) (g : Frame) (rest : List Frame) → IsSetUp o → IsLegal o j → IsMonitor o.settings mon → frames_to mon j ≡ taken_by trail ++ g ∷ rest → is_stopped trail ≡ false
not_stopped o j mon trail g rest set legal m is = elim (cases_Bool (is_stopped trail)) [
  | inr no' ↦ no'
  | inl yes' ↦
      let taken = halts trail yes' in
      let all = ap (tally is_halt) is ∙ tally-append is_halt (taken_by trail) (g ∷ rest) in
      let one = one_stop o j mon set legal in
      let stopped = halted_first (is_stopped_journal j) mon j refl (omega (arith, taken, all)) in
      let last = sym (last_back (taken_by trail) g rest) ∙ ap (λ (xs : List Frame). last_of xs) (sym is) ∙ stop_last o j mon set legal m stopped in
      let more = last_tally is_halt g rest f.Stop last refl in
      absurd (omega (arith, taken, all, one, more))
]

-- ---- an Assign is the next one

seqs_count : (xs : List Frame) → length (filter_map seq_of_assign xs) ≡ length (filter_map assign_in xs)
seqs_count [] = refl
seqs_count (f.Assign seq members changes ∷ xs) = ap suc (seqs_count xs)
seqs_count (f.Hello run version mon ∷ xs) = seqs_count xs
seqs_count (f.Report seq border failed values ∷ xs) = seqs_count xs
seqs_count (f.Collect round asked ∷ xs) = seqs_count xs
seqs_count (f.Values round seq border values ∷ xs) = seqs_count xs
seqs_count (f.Settled seq last places ∷ xs) = seqs_count xs
seqs_count (f.Stop ∷ xs) = seqs_count xs

ranged : (xs ys : List ℕ) (x a k : ℕ) → xs ++ x ∷ ys ≡ range_with_len a k → x ≡ a + length xs
ranged [] ys x a zero is = absurd (cc)
ranged [] ys x a (suc k) is = let same : x ≡ a = cc in omega (arith, same)
ranged (z ∷ xs) ys x a zero is = absurd (cc)
ranged (z ∷ xs) ys x a (suc k) is = let rest : xs ++ x ∷ ys ≡ range_with_len (a + 1) k = cc in let h = ranged xs ys x (a + 1) k rest in omega (arith, h)

next_seq : (o : Opening) (j : List Noted) (mon : ℕ) (trail : List Entry) (seq : ℕ) (members : List ℕ) (changes : List (ℕ × ℤ)) (rest : List Frame) → IsSetUp o → IsLegal o j → IsMonitor o.settings mon
    → frames_to mon j ≡ taken_by trail ++ f.Assign seq members changes ∷ rest → seq ≡ seq_of trail + 1
next_seq o j mon trail seq members changes rest set legal m is =
    let numbered : seqs_to mon j ≡ range_with_len 1 (assigns_sent mon j) = (orderly o j set legal).numbered mon m in
    let parts : seqs_to mon j ≡ filter_map seq_of_assign (taken_by trail) ++ seq ∷ filter_map seq_of_assign rest = ap (filter_map seq_of_assign) is ∙ filter_map-append seq_of_assign (taken_by trail) (f.Assign seq members changes ∷ rest) in
    let at = ranged (filter_map seq_of_assign (taken_by trail)) (filter_map seq_of_assign rest) seq 1 (assigns_sent mon j) (sym parts ∙ numbered) in
    let count = seqs_count (taken_by trail) in
    omega (arith, at, count)

-- ---- tests that pass

none_found : (p : ℕ × ℤ → Bool) (xs : List (ℕ × ℤ)) → ((x : ℕ × ℤ) → Contains xs x → p x ≡ false) → find p xs ≡ None
none_found p [] each = refl
none_found p (x ∷ xs) each = ap (λ b. cond b (Some x) (find p xs)) (each x (zero, omega arith, refl)) ∙ none_found p xs (λ y in'. each y (suc in'.0, (let b = in'.1 in omega (arith, b)), in'.2))

some_objects : (n : ℕ) (list : List ℕ) → 0 < length list → IsAscending list → All (λ o. o ≤ n) list → are_some_of n list ≡ true
some_objects n list some up within = and_from (nat_lt 0 (length list) && ascends list) (list_all (λ o. nat_le o n) list) (and_from (nat_lt 0 (length list)) (ascends list) (lt-ltb 0 (length list) some) (ascending_passes list up)) (all_true (λ o. nat_le o n) list (λ q in'. le-leb q n (All-contains (λ o. o ≤ n) list q within in')))

accepts_assign : (shown : Shown) (seq : ℕ) (members : List ℕ) (changes : List (ℕ × ℤ)) → seq ≡ shown.seq + 1 → are_members shown.objects members ≡ true → find (is_bad_change shown.objects) changes ≡ None → refusal_of_assign shown seq members changes ≡ None
accepts_assign shown seq members changes next members' none =
    ap (λ b. if not b then Some (WrongSequence shown.seq seq) else (if not (are_members shown.objects members) then Some BadMembers else option_map (λ change. BadChange (record { 0 = change.0 })) (find (is_bad_change shown.objects) changes))) (eq-eqb seq (shown.seq + 1) next)
    ∙ ap (λ b. if not b then Some BadMembers else option_map (λ change. BadChange (record { 0 = change.0 })) (find (is_bad_change shown.objects) changes)) members'
    ∙ ap (option_map (λ change. BadChange (record { 0 = change.0 }))) none

-- ---- the end was told

told_since : (x y : List Entry) (g : Frame) → assigns_of y ≡ [] → is_end (Sent g) ≡ true → is_end_told (x ++ Sent g ∷ y) ≡ true
told_since x y g none is =
    ap (λ es. list_any is_end es) (since-more x (Sent g ∷ y) none) ∙ list_any-append is_end (since_assign x) (Sent g ∷ y) ∙ ap (λ b. list_any is_end (since_assign x) || (b || list_any is_end y)) is ∙ or-true (list_any is_end (since_assign x))

pub settled_seq : (seq number : ℕ) (last : Bool) (places : List ℕ) → is_numbered number (f.Settled seq last places) ≡ true → seq ≡ number
settled_seq seq number last places is = Rattle.std.proofs.lemmas.Bool.eqb-true seq number is

-- a frame that a front of the journal had got stands in the trail
pub got_there : (o : Opening) (a b : List Noted) (mon : ℕ) (setup : MonitorSetup) (trail : List Entry) (g : Frame) → IsFront (frames_from mon (a ++ b)) (sent_by trail) → Contains (frames_from mon a) g → SentAt trail g
got_there o a b mon setup trail g up in' =
    sent_at trail g (front_has g (frames_from mon (a ++ b)) (sent_by trail) up (subst (λ xs. Contains xs g) (sym (frames_from-append mon a b)) (in_front Frame g (frames_from mon a) (frames_from mon b) in')))

-- ---- each kind

-- what is known of the frame at its place
record IsNext (o : Opening) (mon : ℕ) (setup : MonitorSetup) (trail : List Entry) (g : Frame) : Type 0 where
  before : List Noted
  after : List Noted
  up : IsFront (frames_from mon (before ++ after)) (sent_by trail)
  sent : frames_to mon before ≡ taken_by trail
  can : CanBeTaken o.settings before mon g
  legal : IsLegalTrail setup trail
  objects : setup.objects ≡ o.settings.objects

count_is : (o : Opening) (mon : ℕ) (setup : MonitorSetup) (trail : List Entry) (g : Frame) (h : IsNext o mon setup trail g) → seq_of trail ≡ assigns_sent mon h.before
unfolding assigns_sent
count_is o mon setup trail g h = ap (λ (xs : List Assign). length xs) (ap (filter_map assign_in) (sym h.sent))

takes_assign : (o : Opening) (mon : ℕ) (setup : MonitorSetup) (trail : List Entry) (seq : ℕ) (members : List ℕ) (changes : List (ℕ × ℤ)) → IsNext o mon setup trail (f.Assign seq members changes) → seq ≡ seq_of trail + 1
    → refusal_of_kind (shown_by setup trail) (f.Assign seq members changes) ≡ None
takes_assign o mon setup trail seq members changes h next =
    let n = setup.objects in
    let can = h.can in
    let same = h.objects in
    accepts_assign (shown_by setup trail) seq members changes next
    (and_from (are_some_of n members) (nat_le (length members) 1024) (some_objects n members can.some can.ascends (subst (λ q. All (λ o. o ≤ q) members) (sym same) can.within)) (le-leb (length members) 1024 can.few))
    (none_found (is_bad_change n) changes (λ c in'.
    let of = can.each c in' in
    or_from (nat_lt n c.0) (nat_lt (2 ^ 112) (unsigned_abs c.1)) (le-ltb n c.0 (let w = of.0 in omega (arith, w, same))) (le-ltb (2 ^ 112) (unsigned_abs c.1) of.1)))

takes_collect : (o : Opening) (mon : ℕ) (setup : MonitorSetup) (trail : List Entry) (round : ℕ) (asked : List ℕ) → IsNext o mon setup trail (f.Collect round asked) → refusal_of_kind (shown_by setup trail) (f.Collect round asked) ≡ None
takes_collect o mon setup trail round asked h =
    let n = setup.objects in
    let can = h.can in
    let members : members_at trail ≡ members_at_journal h.before = ap members_of (ap (filter_map assign_in) (sym h.sent)) ∙ can.named in
    let among : list_all (is_in asked) (members_at trail) ≡ true =
    ap (list_all (is_in asked)) members ∙ all_true (is_in asked) (members_at_journal h.before) (λ t in'. contained_is_in asked t (All-contains (Contains asked) (members_at_journal h.before) t can.among in')) in
    let begun : nat_lt 0 (seq_of trail) ≡ true = lt-ltb 0 (seq_of trail) (let c = count_is o mon setup trail (f.Collect round asked) h in let b = can.begun in omega (arith, c, b)) in
    ap (λ b. if b then None else Some BadCollect)
    (and_from (nat_lt 0 (seq_of trail) && are_some_of n asked) (list_all (is_in asked) (members_at trail))
    (and_from (nat_lt 0 (seq_of trail)) (are_some_of n asked) begun (some_objects n asked can.some can.ascends (subst (λ q. All (λ o. o ≤ q) asked) (sym h.objects) can.within))) among)

takes_stop : (o : Opening) (mon : ℕ) (setup : MonitorSetup) (trail : List Entry) → IsNext o mon setup trail f.Stop → refusal_of_kind (shown_by setup trail) f.Stop ≡ None
takes_stop o mon setup trail h =
    let p = h.can.0 in
    let at = settled_is (answer_of mon h.before) p h.can.1 in
    let g = f.Settled at.0 p.last p.places in
    let number = settled_seq at.0 (assigns_sent mon h.before) p.last p.places (answer_fresh mon h.before g at.1) in
    let s = got_there o h.before h.after mon setup trail g h.up (answer_was_got mon h.before g at.1) in
    let carried = carried_seq setup trail g at.0 h.legal s refl in
    let count = count_is o mon setup trail f.Stop h in
    let whole : seq_of (s.before ++ Sent g ∷ s.after) ≡ seq_of s.before = ap seq_of (sym s.is) ∙ count ∙ sym number ∙ carried in
    let told : is_end_told trail ≡ true = ap is_end_told s.is ∙ told_since s.before s.after g (same_count s.before (Sent g ∷ s.after) whole) h.can.2 in
    ap (λ b. if b then None else Some EarlyStop) told

takes_kind : (o : Opening) (mon : ℕ) (setup : MonitorSetup) (trail : List Entry) (g : Frame) → IsNext o mon setup trail g → ((seq : ℕ) (members : List ℕ) (changes : List (ℕ × ℤ)) → g ≡ f.Assign seq members changes → seq ≡ seq_of trail + 1)
    → refusal_of_kind (shown_by setup trail) g ≡ None
takes_kind o mon setup trail (f.Assign seq members changes) h next = takes_assign o mon setup trail seq members changes h (next seq members changes refl)
takes_kind o mon setup trail (f.Collect round asked) h next = takes_collect o mon setup trail round asked h
takes_kind o mon setup trail f.Stop h next = takes_stop o mon setup trail h
takes_kind o mon setup trail (f.Hello run version m) h next = absurd h.can
takes_kind o mon setup trail (f.Report seq border failed values) h next = absurd h.can
takes_kind o mon setup trail (f.Values round seq border values) h next = absurd h.can
takes_kind o mon setup trail (f.Settled seq last places) h next = absurd h.can

pub down_is_taken : (o : Opening) (j : List Noted) (mon : ℕ) (setup : MonitorSetup) (trail : List Entry) (g : Frame) (rest : List Frame) → IsJoined o j mon setup trail → setup.objects ≡ o.settings.objects
    → frames_to mon j ≡ taken_by trail ++ g ∷ rest → refusal_of setup trail g ≡ None
unfolding refusal_of
down_is_taken o j mon setup trail g rest h same is =
    let w = h.set in
    let place = sent_place mon j (taken_by trail) g rest is in
    let well = legal_well o j w h.journal in
    let can = each_at (IsSaidWell o.settings) [] place.before (n.Sent place.to g) place.after (subst (λ xs. Rattle.tk_base.specs.History.EachFrom (IsSaidWell o.settings) [] xs) place.is well.each) in
    let stopped = not_stopped o j mon trail g rest w h.journal h.monitor is in
    ap (λ b. if b then Some AfterStop else refusal_of_kind (shown_by setup trail) g) stopped
    ∙ takes_kind o mon setup trail g (record {
      before = place.before;
      after = n.Sent place.to g ∷ place.after;
      up = subst (λ xs. IsFront (frames_from mon xs) (sent_by trail)) place.is h.up;
      sent = place.sent;
      can = subst (λ q. CanBeTaken o.settings place.before q g) place.own can;
      legal = h.ways;
      objects = same;
    }) (λ seq members changes e. next_seq o j mon trail seq members changes rest w h.journal h.monitor (is ∙ ap (λ q. taken_by trail ++ q ∷ rest) e))
