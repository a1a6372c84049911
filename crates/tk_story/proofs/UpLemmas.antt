-- The next frame of an up link is taken.
use Rattle.tk_frames.specs.declared.frame.Frame.TheVariants as f
use Rattle.tk_journal.specs.declared.noted.Noted.TheVariants as n
use Rattle.std.proofs.Common.{◌≡◌, ℕ, ◌+◌, ◌≤◌, ◌<◌, ℤ, Bool, true, false, not, List, [], ◌∷◌, ◌++◌, length, Contains, Option, Some, None, refl, sym, ap, ◌∙◌, subst, arith, append_assoc, append-nil, inl, inr}
use Rattle.std.specs.Prelude.{filter_map, nat_lt, if◌then◌else◌}
use Rattle.std.specs.List.{All}
use Rattle.std.specs.Option.{option_map}
use Rattle.std.proofs.lemmas.Bool.{cases_Bool, cases_lt, eq-eqb, false≢true, le-ltb, lt-ltb, true≢false}
use Rattle.std.proofs.lemmas.List.Elements.{filter_map-append}
use Rattle.tk_base.specs.History.{EachFrom, last_of}
use Rattle.tk_base.proofs.HistoryLemmas.{each_at}
use Rattle.tk_frames.specs.Assigns.{Assign, assign_in}
use Rattle.tk_frames.specs.declared.frame.Frame.{Frame}
use Rattle.tk_journal.specs.Laws.{IsMonitor, IsSetUp, SaysWhatIsDue}
use Rattle.tk_journal.specs.Legal.{IsLegal, Opening}
use Rattle.tk_journal.specs.Links.{frames_from, frames_to}
use Rattle.tk_journal.specs.Publishing.{closing, is_last, stops}
use Rattle.tk_journal.specs.Readings.{answer_of, asked_of, assigns_sent, assigns_to, is_stopped, last_round, members_at as members_at_journal, progress_of, waits_for}
use Rattle.tk_journal.specs.Refusal.{Known, Shown, asked_in, is_awaited, is_report, known_by, refusal_of, refusal_of_answer, refusal_of_awaited, refusal_of_cut, refusal_of_kind, refusal_of_report, refusal_of_values, shown_by, waits_at}
use Rattle.tk_journal.specs.declared.noted.Noted.{Noted}
use Rattle.tk_journal.specs.declared.publication.Publication.{Publication}
use Rattle.tk_journal.specs.declared.refusal.CoordRefusal.{CoordRefusal}
use Rattle.tk_journal.specs.declared.refusal.CoordRefusal.TheVariants.{AfterStop, AheadOfSequence, NotAsked, BehindSequence, AfterReport}
use Rattle.tk_journal.proofs.Answering.{answer_fresh}
use Rattle.tk_journal.proofs.Appends.{frames_from-append}
use Rattle.tk_journal.proofs.Ended.{legal_ends}
use Rattle.tk_journal.proofs.LawLemmas.{one_less, orderly}
use Rattle.tk_journal.proofs.Published.{legal_say}
use Rattle.tk_journal.proofs.Same.{same_closing}
use Rattle.tk_journal.proofs.SoundLemmas.{legal_firm}
use Rattle.tk_story.specs.Links.{IsJoined}
use Rattle.tk_journal.specs.Tally.{collects_to, values_from}
use Rattle.tk_frames.specs.Carried.{tally, is_collect, is_values, seq_in}
use Rattle.tk_journal.proofs.AskedLemmas.{each_collect_is_answered}
use Rattle.tk_frames.proofs.CarriedLemmas.{tally-append}
use Rattle.tk_journal.proofs.GatheredLemmas.{quiet_closing}
use Rattle.tk_journal.proofs.HeardLemmas.{answer_was_got}
use Rattle.tk_story.proofs.JoinLemmas.{Rest, carried_seq, rest_of, sent_at, seq_at_most, seq_from, nothing_left}
use Rattle.tk_journal.proofs.SentLemmas.{flag}
use Rattle.tk_trail.proofs.PairLemmas.{values_answer_collects}
use Rattle.tk_trail.proofs.SendsLemmas.{Sends, last_entry}
use Rattle.tk_trail.specs.Setup.{IsSetup, MonitorSetup}
use Rattle.tk_trail.specs.Legal.{Allowed, IsLegal as IsLegalTrail}
use Rattle.tk_trail.specs.Readings.{assigns_of, at_ends, is_end_told, is_reported, seq_of, sent_by, taken_by, taken_in}
use Rattle.tk_trail.specs.declared.entry.Entry.{Entry}
use Rattle.tk_trail.specs.declared.entry.Entry.TheVariants.{Took, Sent}
use Rattle.tk_trail.proofs.LawLemmas.{allowed_at, front_legal, seq_grows}
use Rattle.tk_trail.proofs.ReadingsLemmas.{sent_by-took, taken_by-took}
use Rattle.tk_story.proofs.ContentLemmas.{IsSpeaking, report_accepted, values_accepted}
use Rattle.tk_story.proofs.CutLemmas.{cut_accepted, progress_was_got}
use Rattle.tk_story.proofs.DownLemmas.{last_tally, settled_seq, stop_last}
use Rattle.tk_journal.proofs.ProgressLemmas.{settled_is, closing_is}
use Rattle.tk_journal.proofs.LastLemmas.{last_asked, last_back, waits_open}
use Rattle.tk_story.proofs.PlaceLemmas.{trail_place}
use Rattle.tk_story.proofs.QuietLemmas.{members_by}
use Rattle.tk_trail.proofs.SaysLemmas.{ends_in, free_before, front_each, is_upward, report_says, reported_since, sent_where, settled_says, told_since, upward, values_say}
use Rattle.tk_journal.proofs.SendLemmas.{calm_settled, due_calm, last_settled}

-- ---- the next frame up, at its place

pub record IsUp (o : Opening) (j : List Noted) (mon : ℕ) (setup : MonitorSetup) (trail : List Entry) (g : Frame) : Type 0 where
  pub joined : IsJoined o j mon setup trail
  pub limits : IsSetup setup
  pub objects : setup.objects ≡ o.settings.objects
  pub x : List Entry
  pub y : List Entry
  pub is : trail ≡ x ++ Sent g ∷ y
  pub sent : sent_by x ≡ frames_from mon j

each_x : (o : Opening) (j : List Noted) (mon : ℕ) (setup : MonitorSetup) (trail : List Entry) (g : Frame) (u : IsUp o j mon setup trail g) → EachFrom (Allowed setup) [] u.x
each_x o j mon setup trail g u = front_each setup trail u.x (Sent g ∷ u.y) u.joined.ways u.is

sends_x : (o : Opening) (j : List Noted) (mon : ℕ) (setup : MonitorSetup) (trail : List Entry) (g : Frame) (u : IsUp o j mon setup trail g) → Sends setup u.x g
sends_x o j mon setup trail g u = sent_where setup trail u.x u.y g u.joined.ways u.is

most_x : (o : Opening) (j : List Noted) (mon : ℕ) (setup : MonitorSetup) (trail : List Entry) (g : Frame) (u : IsUp o j mon setup trail g) → seq_of u.x ≤ assigns_sent mon j
most_x o j mon setup trail g u =
    let a = seq_from trail g (record { before = u.x; after = u.y; is = u.is }) in
    let b = seq_at_most o j mon setup trail u.joined in
    omega (arith, a, b)

-- what was taken is a front of what was sent
taken_x : (o : Opening) (j : List Noted) (mon : ℕ) (setup : MonitorSetup) (trail : List Entry) (g : Frame) (u : IsUp o j mon setup trail g) → Rest (taken_by u.x) (frames_to mon j)
taken_x o j mon setup trail g u =
    let r = rest_of (taken_by trail) (frames_to mon j) u.joined.down in
    let parts : taken_by trail ≡ taken_by u.x ++ taken_by (Sent g ∷ u.y) = ap taken_by u.is ∙ filter_map-append taken_in u.x (Sent g ∷ u.y) in
    record { rest = taken_by (Sent g ∷ u.y) ++ r.rest; is = r.is ∙ ap (λ xs. xs ++ r.rest) parts ∙ append_assoc (taken_by u.x) (taken_by (Sent g ∷ u.y)) r.rest }

pub front_same : (xs ys rest : List Assign) → ys ≡ xs ++ rest → length ys ≡ length xs → xs ≡ ys
front_same xs ys rest is same =
    let none = nothing_left xs rest (ap (λ (zs : List Assign). length zs) (sym is) ∙ same) in
    sym (is ∙ ap (λ zs. xs ++ zs) none ∙ append-nil xs)

speaks : (o : Opening) (j : List Noted) (mon : ℕ) (setup : MonitorSetup) (trail : List Entry) (g : Frame) (u : IsUp o j mon setup trail g) → seq_of u.x ≡ assigns_sent mon j → IsSpeaking o.settings j mon setup u.x
unfolding assigns_sent
speaks o j mon setup trail g u same =
    let r = taken_x o j mon setup trail g u in
    let h = u.joined in
    let assigns : assigns_of u.x ≡ assigns_to mon j =
    front_same (assigns_of u.x) (assigns_to mon j) (filter_map assign_in r.rest) (ap (filter_map assign_in) r.is ∙ filter_map-append assign_in (taken_by u.x) r.rest) (sym same) in
    record {
      m = h.monitor;
      objects = u.objects;
      limits = u.limits;
      assigns = assigns;
      members = members_by o.settings u.x j mon assigns ((orderly o j h.set h.journal).named mon h.monitor);
      standing = (legal_firm o j h.set h.journal).standing;
    }

-- ---- an earlier frame, which was got

record Earlier (setup : MonitorSetup) (trail x : List Entry) (g : Frame) : Type 0 where
  a : List Entry
  b : List Entry
  is : x ≡ a ++ Sent g ∷ b
  sends : Sends setup a g
  number : (q : ℕ) → seq_in g ≡ Some q → q ≡ seq_of a

earlier : (o : Opening) (j : List Noted) (mon : ℕ) (setup : MonitorSetup) (trail : List Entry) (g g0 : Frame) (u : IsUp o j mon setup trail g) → Contains (frames_from mon j) g0 → Earlier setup trail u.x g0
earlier o j mon setup trail g g0 u in' =
    let s = sent_at u.x g0 (subst (λ xs. Contains xs g0) (sym u.sent) in') in
    let whole : trail ≡ s.before ++ Sent g0 ∷ (s.after ++ Sent g ∷ u.y) = u.is ∙ ap (λ t. t ++ Sent g ∷ u.y) s.is ∙ append_assoc s.before (Sent g0 ∷ s.after) (Sent g ∷ u.y) in
    record {
      a = s.before;
      b = s.after;
      is = s.is;
      sends = sent_where setup trail s.before (s.after ++ Sent g ∷ u.y) g0 u.joined.ways whole;
      number = λ q e. carried_seq setup trail g0 q u.joined.ways (record { before = s.before; after = s.after ++ Sent g ∷ u.y; is = whole }) e;
    }

-- ---- Values answer the last Collect

record Counted (o : Opening) (j : List Noted) (mon : ℕ) (x : List Entry) (r : ℕ) (asked : List ℕ) : Type 0 where
  waits : waits_for (last_round j) mon j ≡ true
  front : List Entry
  is : x ≡ front ++ Took (f.Collect r asked) ∷ []
  all : frames_to mon j ≡ taken_by x

flag_true : (b : Bool) → 0 < flag b → b ≡ true
flag_true true some = refl
flag_true false some = absurd (omega (arith, some))

none_after : (frames taken more : List Frame) (c : Frame) → frames ≡ taken ++ more → last_of frames ≡ Some c → is_collect c ≡ true → tally is_collect more ≡ 0 → more ≡ []
none_after frames taken [] c is last own none = refl
none_after frames taken (m ∷ more) c is last own none =
    let h = last_tally is_collect m more c (sym (last_back taken m more) ∙ ap (λ (xs : List Frame). last_of xs) (sym is) ∙ last) own in absurd (omega (arith, h, none))

values_counted : (o : Opening) (j : List Noted) (mon : ℕ) (setup : MonitorSetup) (trail : List Entry) (round seq : ℕ) (border : ℤ) (values : List (ℕ × ℤ)) (u : IsUp o j mon setup trail (f.Values round seq border values)) (asked : List ℕ)
    → last_entry u.x ≡ Some (Took (f.Collect round asked)) → Counted o j mon u.x round asked
values_counted o j mon setup trail round seq border values u asked last =
    let g = f.Values round seq border values in
    let c = f.Collect round asked in
    let h = u.joined in
    let e = ends_in u.x (Took c) last in
    let place : trail ≡ e.front ++ Took c ∷ (Sent g ∷ u.y) = u.is ∙ ap (λ t. t ++ Sent g ∷ u.y) e.is ∙ append_assoc e.front (Took c ∷ []) (Sent g ∷ u.y) in
    let legal : IsLegalTrail setup (e.front ++ Took c ∷ (Sent g ∷ u.y)) = subst (IsLegalTrail setup) place h.ways in
    let front = front_legal setup e.front (Took c ∷ (Sent g ∷ u.y)) legal (allowed_at setup e.front (Sent g ∷ u.y) (Took c) legal).0 in
    let pairs = values_answer_collects setup e.front front in
    let taken : tally is_collect (taken_by u.x) ≡ tally is_collect (taken_by e.front) + 1 = ap (λ t. tally is_collect (taken_by t)) e.is ∙ ap (tally is_collect) (taken_by-took e.front c) ∙ tally-append is_collect (taken_by e.front) (c ∷ []) in
    let sent : tally is_values (sent_by e.front) ≡ values_from mon j = ap (tally is_values) (sym (sent_by-took e.front c) ∙ ap sent_by (sym e.is) ∙ u.sent) in
    let r = taken_x o j mon setup trail g u in
    let all = ap (tally is_collect) r.is ∙ tally-append is_collect (taken_by u.x) r.rest in
    let count : collects_to mon j ≡ values_from mon j + flag (waits_for (last_round j) mon j) = each_collect_is_answered o j mon h.set h.journal h.monitor in
    let waits = flag_true (waits_for (last_round j) mon j) (omega (arith, pairs, taken, sent, all, count)) in
    let one = ap flag waits in
    let none : tally is_collect r.rest ≡ 0 = omega (arith, pairs, taken, sent, all, count, one) in
    let asked_last = last_asked o j h.set h.journal mon h.monitor waits in
    let gone = none_after (frames_to mon j) (taken_by u.x) r.rest (f.Collect (last_round j) asked_last.asked) r.is asked_last.last refl none in
    record { waits = waits; front = e.front; is = e.is; all = r.is ∙ ap (λ xs. taken_by u.x ++ xs) gone ∙ append-nil (taken_by u.x) }

-- ---- the journal goes on

-- what a stopped journal knows of a monitor: it got a Settled with `last` under the last number
pub record HasLast (mon : ℕ) (j : List Noted) : Type 0 where
  pub seq : ℕ
  pub places : List ℕ
  pub got : Contains (frames_from mon j) (f.Settled seq true places)
  pub number : seq ≡ assigns_sent mon j

pub stopped_last : (o : Opening) (j : List Noted) (mon : ℕ) → IsSetUp o → IsLegal o j → IsMonitor o.settings mon → is_stopped j ≡ true → HasLast mon j
unfolding assigns_sent
stopped_last o j mon set legal m stopped =
    let s = o.settings in
    let k = one_less s.monitors set.limits.some_monitor in
    let e = (legal_ends o k.0 k.1 j legal).ended stopped in
    let says = each_at (SaysWhatIsDue s) [] e.front (n.Published e.final) (stops s) (subst (λ xs. EachFrom (SaysWhatIsDue s) [] xs) e.is (legal_say o j legal)) in
    let due = says.0 in
    let last : is_last s e.front ≡ true = sym (ap (λ (p : Publication). p.last) says.1) ∙ e.last in
    let p = calm_settled s e.front mon (due_calm s e.front due) m in
    let ends = last_settled s e.front mon p.0 last m p.1 in
    let at = settled_is (answer_of mon e.front) p.0 p.1 in
    let got = answer_was_got mon e.front (f.Settled at.0 p.0.last p.0.places) at.1 in
    let number = settled_seq at.0 (assigns_sent mon e.front) p.0.last p.0.places (answer_fresh mon e.front (f.Settled at.0 p.0.last p.0.places) at.1) in
    let whole : j ≡ e.front ++ closing s e.front = e.is ∙ ap (λ (q : Publication). e.front ++ n.Published q ∷ stops s) says.1 ∙ ap (λ xs. e.front ++ xs) (sym (closing_is s e.front due last)) in
    let frames : frames_from mon j ≡ frames_from mon e.front = ap (frames_from mon) whole ∙ frames_from-append mon e.front (closing s e.front) ∙ ap (λ xs. frames_from mon e.front ++ xs) (quiet_closing s e.front mon) ∙ append-nil (frames_from mon e.front) in
    record {
      seq = at.0;
      places = p.0.places;
      got = subst (λ xs. Contains xs (f.Settled at.0 true p.0.places)) (sym frames) (subst (λ b. Contains (frames_from mon e.front) (f.Settled at.0 b p.0.places)) ends got);
      number = number ∙ ap (λ (xs : List Assign). length xs) (sym (ap (assigns_to mon) whole ∙ (same_closing s e.front).assigns mon));
    }

told_x : (o : Opening) (j : List Noted) (mon : ℕ) (setup : MonitorSetup) (trail : List Entry) (g : Frame) (u : IsUp o j mon setup trail g) → HasLast mon j → is_end_told u.x ≡ true
told_x o j mon setup trail g u l =
    let e = earlier o j mon setup trail g (f.Settled l.seq true l.places) u l.got in
    let number = e.number l.seq refl in
    let most = most_x o j mon setup trail g u in
    let grows : seq_of e.a ≤ seq_of u.x = subst (λ t. seq_of e.a ≤ seq_of t) (sym e.is) (seq_grows e.a (Sent (f.Settled l.seq true l.places) ∷ e.b)) in
    let here = l.number in
    let same : seq_of u.x ≡ seq_of e.a = omega (arith, number, most, grows, here) in
    ap is_end_told e.is ∙ told_since e.a e.b (f.Settled l.seq true l.places) (ap seq_of (sym e.is) ∙ same) refl

stop_is_no_collect : (round : ℕ) (asked : List ℕ) → Some f.Stop ≡ Some (f.Collect round asked) → ⊥
stop_is_no_collect round asked e = cc

stop_or_collect : (o : Opening) (j : List Noted) (mon : ℕ) → IsSetUp o → IsLegal o j → IsMonitor o.settings mon → is_stopped j ≡ true → waits_for (last_round j) mon j ≡ true → ⊥
stop_or_collect o j mon set legal m stopped waits =
    let a = (last_asked o j set legal mon m waits).last in
    let b = stop_last o j mon set legal m stopped in
    stop_is_no_collect (last_round j) _ (sym b ∙ a)

-- a frame that is no Values is not sent behind a told end
no_more : (o : Opening) (j : List Noted) (mon : ℕ) (setup : MonitorSetup) (trail : List Entry) (g : Frame) (u : IsUp o j mon setup trail g) → is_stopped j ≡ true → ((round seq : ℕ) (border : ℤ) (values : List (ℕ × ℤ)) → g ≡ f.Values round seq border values → ⊥) → ⊥
no_more o j mon setup trail g u stopped no_values =
    let h = u.joined in
    let told = told_x o j mon setup trail g u (stopped_last o j mon h.set h.journal h.monitor stopped) in
    let free = free_before setup u.x g h.shape (each_x o j mon setup trail g u) (sends_x o j mon setup trail g u) no_values in
    true≢false (sym told ∙ free.told)

goes_by : (o : Opening) (j : List Noted) (mon : ℕ) (setup : MonitorSetup) (trail : List Entry) (g : Frame) (u : IsUp o j mon setup trail g) → is_upward g ≡ true → is_stopped j ≡ true → ⊥
goes_by o j mon setup trail (f.Report seq border failed values) u own stopped = no_more o j mon setup trail (f.Report seq border failed values) u stopped (λ r q b v e. (cc))
goes_by o j mon setup trail (f.Settled seq last places) u own stopped = no_more o j mon setup trail (f.Settled seq last places) u stopped (λ r q b v e. (cc))
goes_by o j mon setup trail (f.Values round seq border values) u own stopped =
    let h = u.joined in
    let said = values_say setup u.x round seq border values (sends_x o j mon setup trail (f.Values round seq border values) u) in
    stop_or_collect o j mon h.set h.journal h.monitor stopped (values_counted o j mon setup trail round seq border values u said.asked said.last).waits
goes_by o j mon setup trail (f.Hello run version m) u own stopped = false≢true own
goes_by o j mon setup trail (f.Collect round asked) u own stopped = false≢true own
goes_by o j mon setup trail (f.Assign seq members changes) u own stopped = false≢true own
goes_by o j mon setup trail f.Stop u own stopped = false≢true own

still_goes : (o : Opening) (j : List Noted) (mon : ℕ) (setup : MonitorSetup) (trail : List Entry) (g : Frame) → IsUp o j mon setup trail g → is_stopped j ≡ false
still_goes o j mon setup trail g u = elim (cases_Bool (is_stopped j)) [
  | inr no' ↦ no'
  | inl yes' ↦ absurd (goes_by o j mon setup trail g u (upward setup u.x g (sends_x o j mon setup trail g u)) yes')
]

-- ---- an answer

answer_passes : (shown : Shown) (seq : ℕ) (content : Option CoordRefusal) → seq ≤ shown.at → (seq ≡ shown.at → shown.reported ≡ false) → (seq ≡ shown.at → content ≡ None) → refusal_of_answer shown seq content ≡ None
answer_passes shown seq content most free passes =
    ap (λ b. if b then Some (AheadOfSequence shown.at seq) else (if nat_lt seq shown.at then None else (if shown.reported then Some (AfterReport seq) else content))) (le-ltb shown.at seq most)
    ∙ elim (cases_lt seq shown.at) [
      | inl stale ↦ ap (λ b. if b then None else (if shown.reported then Some (AfterReport seq) else content)) (lt-ltb seq shown.at stale)
      | inr late ↦
          let same : seq ≡ shown.at = omega (arith, most, late) in
          ap (λ b. if b then None else (if shown.reported then Some (AfterReport seq) else content)) (le-ltb seq shown.at late)
          ∙ ap (λ b. if b then Some (AfterReport seq) else content) (free same)
          ∙ passes same
    ]

-- no Report stands where the monitor sends an answer under the last number
report_stands : (o : Opening) (j : List Noted) (mon : ℕ) (setup : MonitorSetup) (trail : List Entry) (g : Frame) (u : IsUp o j mon setup trail g) → seq_of u.x ≡ assigns_sent mon j → ((round seq : ℕ) (border : ℤ) (values : List (ℕ × ℤ)) → g ≡ f.Values round seq border values → ⊥)
    → (answer : Option Frame) → answer_of mon j ≡ answer → is_report answer ≡ false
report_stands o j mon setup trail g u same no_values None is = refl
report_stands o j mon setup trail g u same no_values (Some (f.Report seq border failed values)) is =
    let h = u.joined in
    let g0 = f.Report seq border failed values in
    let e = earlier o j mon setup trail g g0 u (answer_was_got mon j g0 is) in
    let number = e.number seq refl in
    let fresh : seq ≡ assigns_sent mon j = Rattle.std.proofs.lemmas.Bool.eqb-true seq (assigns_sent mon j) (answer_fresh mon j g0 is) in
    let here : seq_of u.x ≡ seq_of e.a = same ∙ sym fresh ∙ number in
    let reported : is_reported u.x ≡ true = ap is_reported e.is ∙ reported_since e.a e.b g0 (ap seq_of (sym e.is) ∙ here) refl in
    let free = free_before setup u.x g h.shape (each_x o j mon setup trail g u) (sends_x o j mon setup trail g u) no_values in
    absurd (true≢false (sym reported ∙ free.reported))
report_stands o j mon setup trail g u same no_values (Some (f.Settled seq last places)) is = refl
report_stands o j mon setup trail g u same no_values (Some (f.Hello run version m)) is = refl
report_stands o j mon setup trail g u same no_values (Some (f.Collect round asked)) is = refl
report_stands o j mon setup trail g u same no_values (Some (f.Values round seq border values)) is = refl
report_stands o j mon setup trail g u same no_values (Some (f.Assign seq members changes)) is = refl
report_stands o j mon setup trail g u same no_values (Some f.Stop) is = refl

up_report : (o : Opening) (j : List Noted) (mon : ℕ) (setup : MonitorSetup) (trail : List Entry) (seq : ℕ) (border : ℤ) (failed : List ℕ) (values : List (ℕ × ℤ)) → IsUp o j mon setup trail (f.Report seq border failed values)
    → refusal_of_kind (shown_by mon j) (known_by o.settings mon j) (f.Report seq border failed values) ≡ None
up_report o j mon setup trail seq border failed values u =
    let g = f.Report seq border failed values in
    let said = report_says setup u.x seq border failed values (sends_x o j mon setup trail g u) in
    let number = said.seq_is in
    answer_passes (shown_by mon j) seq (refusal_of_report (known_by o.settings mon j) border failed values) (let m = most_x o j mon setup trail g u in omega (arith, m, number))
    (λ same. report_stands o j mon setup trail g u (sym number ∙ same) (λ r q b v e. (cc)) (answer_of mon j) refl)
    (λ same. report_accepted o.settings j mon setup u.x seq border failed values (speaks o j mon setup trail g u (sym number ∙ same)) said)

up_settled : (o : Opening) (j : List Noted) (mon : ℕ) (setup : MonitorSetup) (trail : List Entry) (seq : ℕ) (last : Bool) (places : List ℕ) → IsUp o j mon setup trail (f.Settled seq last places)
    → refusal_of_kind (shown_by mon j) (known_by o.settings mon j) (f.Settled seq last places) ≡ None
up_settled o j mon setup trail seq last places u =
    let g = f.Settled seq last places in
    let said = settled_says setup u.x seq last places (sends_x o j mon setup trail g u) in
    let number = said.seq_is in
    answer_passes (shown_by mon j) seq (refusal_of_cut (progress_of mon j) last places) (let m = most_x o j mon setup trail g u in omega (arith, m, number))
    (λ same. report_stands o j mon setup trail g u (sym number ∙ same) (λ r q b v e. (cc)) (answer_of mon j) refl)
    (λ same.
    ap (λ b. refusal_of_cut (progress_of mon j) b places) said.last_is
    ∙ ap (λ ps. refusal_of_cut (progress_of mon j) (at_ends setup u.x) ps) said.places_is
    ∙ cut_accepted setup u.x (progress_of mon j) u.limits (each_x o j mon setup trail g u) (λ p is.
    let got = progress_was_got mon j p is in
    let e = earlier o j mon setup trail g (f.Settled got.seq p.last p.places) u got.got in
    let spoke = settled_says setup e.a got.seq p.last p.places e.sends in
    record { before = e.a; more = Sent (f.Settled got.seq p.last p.places) ∷ e.b; is = e.is; places = spoke.places_is; last = spoke.last_is }))

-- ---- Values

awaited_passes : (shown : Shown) (known : Known) (round seq : ℕ) (border : ℤ) (values : List (ℕ × ℤ)) (asked : List ℕ) → seq ≡ shown.at → shown.waits ≡ Some (round, asked) → refusal_of_values known asked border values ≡ None
    → refusal_of_awaited shown known round seq border values ≡ None
awaited_passes shown known round seq border values asked same waits passes =
    ap (λ b. if b then Some (AheadOfSequence shown.at seq) else (if not (is_awaited shown.waits round) then Some (NotAsked round) else (if nat_lt seq shown.at then Some (BehindSequence shown.at seq) else refusal_of_values known (asked_in shown.waits) border values))) (le-ltb shown.at seq (omega (arith, same)))
    ∙ ap (λ w. if not (is_awaited w round) then Some (NotAsked round) else (if nat_lt seq shown.at then Some (BehindSequence shown.at seq) else refusal_of_values known (asked_in w) border values)) waits
    ∙ ap (λ b. if not b then Some (NotAsked round) else (if nat_lt seq shown.at then Some (BehindSequence shown.at seq) else refusal_of_values known asked border values)) (eq-eqb round round refl)
    ∙ ap (λ b. if b then Some (BehindSequence shown.at seq) else refusal_of_values known asked border values) (le-ltb seq shown.at (omega (arith, same)))
    ∙ passes

waits_is : (mon : ℕ) (j : List Noted) (asked : List ℕ) → waits_for (last_round j) mon j ≡ true → asked_of (last_round j) mon j ≡ Some asked → waits_at mon j ≡ Some (last_round j, asked)
waits_is mon j asked waits is =
    ap (λ b. if b then option_map (λ xs. (last_round j, xs)) (asked_of (last_round j) mon j) else None) waits ∙ ap (option_map (λ xs. (last_round j, xs))) is

collect_agrees : (r q : ℕ) (a b : List ℕ) → Some (f.Collect r a) ≡ Some (f.Collect q b) → (r ≡ q) × (a ≡ b)
collect_agrees r q a b e = (cc, cc)

up_values : (o : Opening) (j : List Noted) (mon : ℕ) (setup : MonitorSetup) (trail : List Entry) (round seq : ℕ) (border : ℤ) (values : List (ℕ × ℤ)) → IsUp o j mon setup trail (f.Values round seq border values)
    → refusal_of_kind (shown_by mon j) (known_by o.settings mon j) (f.Values round seq border values) ≡ None
unfolding assigns_sent
up_values o j mon setup trail round seq border values u =
    let s = o.settings in
    let h = u.joined in
    let g = f.Values round seq border values in
    let said = values_say setup u.x round seq border values (sends_x o j mon setup trail g u) in
    let c = values_counted o j mon setup trail round seq border values u said.asked said.last in
    let asked_last = last_asked o j h.set h.journal mon h.monitor c.waits in
    let last : last_of (frames_to mon j) ≡ Some (f.Collect round said.asked) =
    ap (λ (xs : List Frame). last_of xs) (c.all ∙ ap taken_by c.is ∙ taken_by-took c.front (f.Collect round said.asked)) ∙ last_back (taken_by c.front) (f.Collect round said.asked) [] in
    let agree = collect_agrees round (last_round j) said.asked asked_last.asked (sym last ∙ asked_last.last) in
    let waits : waits_at mon j ≡ Some (round, said.asked) = waits_is mon j asked_last.asked c.waits asked_last.is ∙ ap (λ q. Some (q, asked_last.asked)) (sym agree.0) ∙ ap (λ xs. Some (round, xs)) (sym agree.1) in
    let same : seq_of u.x ≡ length (assigns_to mon j) = ap (λ xs. length (filter_map assign_in xs)) (sym c.all) in
    let firm = legal_firm o j h.set h.journal in
    let over = firm.round (waits_open s j mon h.monitor c.waits) in
    let all_is : said.asked ≡ over.0 = agree.1 ∙ over.1.asked mon asked_last.asked asked_last.is in
    let among : All (Contains said.asked) (members_at_journal j) = subst (λ xs. All (Contains xs) (members_at_journal j)) (sym all_is) over.1.among in
    awaited_passes (shown_by mon j) (known_by s mon j) round seq border values said.asked (said.seq_is ∙ same) waits
    (values_accepted s j mon setup u.x round seq border values (speaks o j mon setup trail g u same) said among)

-- ---- every frame

up_kind : (o : Opening) (j : List Noted) (mon : ℕ) (setup : MonitorSetup) (trail : List Entry) (g : Frame) → IsUp o j mon setup trail g → is_upward g ≡ true → refusal_of_kind (shown_by mon j) (known_by o.settings mon j) g ≡ None
up_kind o j mon setup trail (f.Report seq border failed values) u own = up_report o j mon setup trail seq border failed values u
up_kind o j mon setup trail (f.Settled seq last places) u own = up_settled o j mon setup trail seq last places u
up_kind o j mon setup trail (f.Values round seq border values) u own = up_values o j mon setup trail round seq border values u
up_kind o j mon setup trail (f.Hello run version m) u own = absurd (false≢true own)
up_kind o j mon setup trail (f.Collect round asked) u own = absurd (false≢true own)
up_kind o j mon setup trail (f.Assign seq members changes) u own = absurd (false≢true own)
up_kind o j mon setup trail f.Stop u own = absurd (false≢true own)

pub up_is_taken : (o : Opening) (j : List Noted) (mon : ℕ) (setup : MonitorSetup) (trail : List Entry) (g : Frame) (rest : List Frame) → IsJoined o j mon setup trail → IsSetup setup → setup.objects ≡ o.settings.objects
    → sent_by trail ≡ frames_from mon j ++ g ∷ rest → refusal_of o.settings j mon g ≡ None
unfolding refusal_of
up_is_taken o j mon setup trail g rest h limits same is =
    let place = trail_place trail (frames_from mon j) g rest is in
    let u : IsUp o j mon setup trail g = record { joined = h; limits = limits; objects = same; x = place.before; y = place.after; is = place.is; sent = place.sent } in
    ap (λ b. if b then Some AfterStop else refusal_of_kind (shown_by mon j) (known_by o.settings mon j) g) (still_goes o j mon setup trail g u)
    ∙ up_kind o j mon setup trail g u (upward setup place.before g (sends_x o j mon setup trail g u))
