-- What every turn of a taken frame changes of what is read.
use Rattle.tk_frames.specs.declared.frame.Frame.TheVariants as f
use Rattle.tk_journal.specs.declared.noted.Noted.TheVariants as n
use Rattle.std.proofs.Common.{◌≡◌, ℕ, suc, ◌+◌, ◌-◌, ◌*◌, ◌≤◌, ◌&&◌, ◌||◌, ◌==◌, ◌+ℤ◌, Bool, true, false, not, List, [], ◌∷◌, ◌++◌, length, map, Some, None, refl, sym, ap, ◌∙◌, subst, arith, append_assoc, append-nil, inl, inr}
use Rattle.std.specs.Prelude.{nat_lt, is_some, if◌then◌else◌, ◌⊎◌}
use Rattle.std.specs.List.{cons_option, list_all, list_any, range_with_len}
use Rattle.std.proofs.lemmas.Bool.{and_parts, cases_Bool, eq-eqb, ne_eqb, false≢true, true≢false, lt-ltb, ltb-true, or_left, or_right}
use Rattle.std.proofs.lemmas.List.{length-append, map-id}
use Rattle.std.proofs.lemmas.List.Folds.{list_any-append}
use Rattle.tk_base.specs.Objects.{objects, is_in}
use Rattle.tk_base.specs.Settings.{Setup}
use Rattle.tk_base.specs.declared.ids.Mon.{Mon}
use Rattle.tk_base.proofs.ListLemmas.{none_in_range}
use Rattle.tk_border.proofs.RisingLemmas.{Rises}
use Rattle.tk_frames.specs.Assigns.{Assign, row}
use Rattle.tk_frames.specs.declared.frame.Frame.{Frame}
use Rattle.tk_journal.specs.Laws.{IsMonitor}
use Rattle.tk_journal.specs.Legal.{IsAccepted, start, turn_of}
use Rattle.tk_journal.specs.Links.{frames_from, frames_to, got_from}
use Rattle.tk_journal.specs.Publishing.{closing, is_due, is_last, publication_at, stops}
use Rattle.tk_journal.specs.Readings.{Progress, answer_of, assigns_sent, assigns_to, factor, is_calm, is_open, is_stop, is_stopped, members_at, monitors, settled_in}
use Rattle.tk_journal.specs.Refusal.{refusal_of}
use Rattle.tk_journal.specs.Turns.{demanded, fails_at, is_wide, streak}
use Rattle.tk_journal.specs.declared.noted.Noted.{Noted}
use Rattle.tk_journal.specs.declared.publication.Publication.{Publication}
use Rattle.tk_journal.proofs.Accepted.{accepted_kind}
use Rattle.tk_journal.proofs.Appends.{assigns_to-append, frames_from-append, frames_to-append}
use Rattle.tk_journal.proofs.Orderly.{IsOrderly}
use Rattle.tk_journal.proofs.Pieces.{batch, got_asked, got_round}
use Rattle.tk_journal.proofs.Same.{AreSame, same_closing}
use Rattle.tk_trail.specs.Setup.{MonitorSetup}
use Rattle.tk_trail.specs.Readings.{sent_by, taken_by, value_of_object, seq_of}
use Rattle.tk_trail.specs.declared.entry.Entry.{Entry}
use Rattle.tk_drain.specs.Energy.{Local}
use Rattle.tk_drain.specs.Moves.{Goes, Turns, all_present, any_strained}
use Rattle.tk_alloc.specs.Strain.{is_strained}
use Rattle.tk_trail.specs.Still.{is_present, is_still}
use Rattle.tk_journal.proofs.AskedLemmas.{named_once, named_times}
use Rattle.tk_journal.proofs.GrowLemmas.{range_rises, with_got}
use Rattle.tk_journal.proofs.SentLemmas.{flag, flag_most}
use Rattle.tk_drain.proofs.StrainedLemmas.{calm_is_not_strained}
use Rattle.tk_journal.proofs.StreakLemmas.{streak_got}
use Rattle.tk_world.specs.Events.{is_monitor, with_turn}
use Rattle.tk_story.specs.Story.{IsStory, StoryView, setup_of, trail_of}
use Rattle.tk_story.proofs.QuietLemmas.{joined}
use Rattle.tk_world.proofs.StepLemmas.{NextIs, monitor_is}
use Rattle.tk_journal.proofs.WholeLemmas.{turn_is}
use Rattle.tk_journal.proofs.HeardLemmas.{no_input}
use Rattle.tk_journal.proofs.StandLemmas.{calm_closed}
use Rattle.tk_journal.proofs.Tuning.{wide_by}
use Rattle.tk_drain.specs.Reads.{levels_then, local_of, nobody, reading, readings}
use Rattle.tk_drain.proofs.ReadLemmas.{local_own}
use Rattle.tk_world.proofs.EnabledLemmas.{there_is}
use Rattle.tk_drain.proofs.MoveLemmas.{all_at}

-- a turn of a story
pub record Turning (s : StoryView) (from : Mon) (frame : Frame) : Type 0 where
  pub story : IsStory s
  pub monitor : IsMonitor s.settings from.0
  pub none : refusal_of s.settings s.journal from.0 frame ≡ None
  pub next : NextIs (frames_from from.0 s.journal) (sent_by (trail_of s from.0)) frame
  pub after : IsStory (with_turn s (n.Got from frame))
  pub k : ℕ
  pub some : s.settings.monitors ≡ suc k
  pub order : IsOrderly s.settings s.journal

abbrev pub turned : StoryView → Mon → Frame → StoryView
turned s from frame = with_turn s (n.Got from frame)

-- the journal before what ends the turn
abbrev pub mid : StoryView → Mon → Frame → List Noted
mid s from frame = with_got s.journal from frame ++ demanded s.settings s.journal from.0 frame

pub mid_is : (s : StoryView) (from : Mon) (frame : Frame) → (turned s from frame).journal ≡ mid s from frame ++ closing s.settings (mid s from frame)
unfolding turn_of
mid_is s from frame =
    let j = s.journal in
    let d = demanded s.settings j from.0 frame in
    let turn = n.Got from frame ∷ d in
    let whole : mid s from frame ≡ j ++ turn = append_assoc j (n.Got from frame ∷ []) d in
    sym (append_assoc j turn (closing s.settings (j ++ turn))) ∙ sym (ap (λ xs. xs ++ closing s.settings xs) whole)

pub same_mid : (s : StoryView) (from : Mon) (frame : Frame) → AreSame s.settings (mid s from frame) (turned s from frame).journal
same_mid s from frame = subst (AreSame s.settings (mid s from frame)) (sym (mid_is s from frame)) (same_closing s.settings (mid s from frame))

-- ---- local readings of any number

pub field_by : {X : Type 0} (b : Bool) (x y : Local) (g : Local → X) → (b ≡ true → g y ≡ g x) → g (if b then y else nobody) ≡ g (if b then x else nobody)
field_by true x y g same = same refl
field_by false x y g same = refl

pub down_either : (b : Bool) (x y : Local) (more : ℕ) → (b ≡ true → y.down ≤ x.down + more) → (if b then y else nobody).down ≤ (if b then x else nobody).down + more
down_either true x y more each = each refl
down_either false x y more each = omega arith

pub present_either : (b : Bool) (x y : Local) → (b ≡ true → x.present ≡ true → y.present ≡ true) → (if b then x else nobody).present ≡ true → (if b then y else nobody).present ≡ true
present_either true x y each is = each refl is
present_either false x y each is = refl

-- ---- how many frames are sent to each

abbrev one : Bool → ℕ
one b = if b then 1 else 0

one_length : (b : Bool) (frame : Frame) (frames : List Frame) → length (cons_option (if b then Some frame else None) frames) ≡ one b + length frames
one_length true frame frames = omega arith
one_length false frame frames = omega arith

pub batch_length : {A : Type 0} (mon : ℕ) (to : A → ℕ) (frame : A → Frame) (rows : List A) → length (frames_to mon (batch to frame rows)) ≡ named_times (map to rows) mon
batch_length mon to frame [] = refl
batch_length mon to frame (d ∷ rows) = let a = one_length (to d == mon) (frame d) (frames_to mon (batch to frame rows)) in let b = batch_length mon to frame rows in omega (arith, a, b)

pub once_most : {A : Type 0} (mon : ℕ) (to : A → ℕ) (frame : A → Frame) (rows : List A) (mons : List ℕ) → map to rows ≡ mons → Rises 0 mons → length (frames_to mon (batch to frame rows)) ≤ 1
once_most mon to frame rows mons are up =
    let a = batch_length mon to frame rows in
    let b = ap (λ xs. named_times xs mon) are in
    let c = named_once 0 mon mons up in
    let d = flag_most (is_in mons mon) in
    omega (arith, a, b, c, d)

-- ---- what ends a turn

pub stops_count : Setup → List Noted → ℕ
stops_count s j = flag (is_due s j && is_last s j)

stop_first : (s : Setup) (k : ℕ) → s.monitors ≡ suc k → list_any is_stop (stops s) ≡ true
stop_first s k some = ap (λ m. list_any is_stop (map (λ mon. n.Sent (record { 0 = mon }) f.Stop) (range_with_len 1 m))) some

record Closes (mon : ℕ) (xs : List Noted) (count : ℕ) : Type 0 where
  few : length (frames_to mon xs) ≤ count
  one : count ≡ 0 ⊎ (count ≡ 1 × (list_any is_stop xs ≡ true))

closes_by : (s : Setup) (k mon : ℕ) → s.monitors ≡ suc k → (due last : Bool) (p : Publication) → Closes mon (if due then n.Published p ∷ (if last then stops s else []) else []) (flag (due && last))
closes_by s k mon some true true p = record { few = once_most mon (λ (m : ℕ). m) (λ _. f.Stop) (monitors s) (monitors s) (map-id (monitors s)) (range_rises s.monitors); one = inr (refl, stop_first s k some) }
closes_by s k mon some true false p = record { few = omega arith; one = inl refl }
closes_by s k mon some false last p = record { few = omega arith; one = inl refl }

closes : (s : Setup) (k mon : ℕ) → s.monitors ≡ suc k → (j : List Noted) → Closes mon (closing s j) (stops_count s j)
unfolding closing stops_count
closes s k mon some j = closes_by s k mon some (is_due s j) (is_last s j) (publication_at s j)

paid_by : (b b' : Bool) (count : ℕ) → b ≡ false → count ≡ 0 ⊎ (count ≡ 1 × (b' ≡ true)) → (if b' then 0 else 2) + 2 * count ≤ (if b then 0 else 2)
paid_by true b' count live c = absurd (true≢false live)
paid_by false true count live (inl z) = omega (arith, z)
paid_by false false count live (inl z) = omega (arith, z)
paid_by false true count live (inr (o, is)) = omega (arith, o)
paid_by false false count live (inr (o, is)) = absurd (false≢true is)

stopped_more : (a b : List Noted) → list_any is_stop b ≡ true → is_stopped (a ++ b) ≡ true
unfolding is_stopped
stopped_more a b is = list_any-append is_stop a b ∙ or_right (list_any is_stop a) (list_any is_stop b) is

stop_now : (s : StoryView) (from : Mon) (frame : Frame) (count : ℕ) → count ≡ 0 ⊎ (count ≡ 1 × (list_any is_stop (closing s.settings (mid s from frame)) ≡ true)) → count ≡ 0 ⊎ (count ≡ 1 × (is_stopped (turned s from frame).journal ≡ true))
stop_now s from frame count (inl z) = inl z
stop_now s from frame count (inr (o, is)) = inr (o, ap is_stopped (mid_is s from frame) ∙ stopped_more (mid s from frame) (closing s.settings (mid s from frame)) is)

-- ---- frames from

accepted_of : (s : StoryView) (from : Mon) (frame : Frame) → Turning s from frame → IsAccepted s.settings s.journal (n.Got from frame)
accepted_of s from frame t = (t.monitor.from_one, t.monitor.within, t.none)

pub got_more : (s : StoryView) (from : Mon) (frame : Frame) → Turning s from frame → (mon : ℕ) → frames_from mon (turned s from frame).journal ≡ frames_from mon s.journal ++ cons_option (if from.0 == mon then Some frame else None) []
got_more s from frame t mon =
    let i = turn_is s.settings s.journal (n.Got from frame) (accepted_of s from frame t) in
    frames_from-append mon s.journal (turn_of s.settings s.journal (n.Got from frame))
    ∙ ap (λ xs. frames_from mon s.journal ++ frames_from mon xs) i.is
    ∙ ap (λ xs. frames_from mon s.journal ++ cons_option (got_from mon (n.Got from frame)) xs) (no_input mon i.rest i.none)

-- ---- the record of every turn

more_sent : (mon : ℕ) (a b : List Noted) → assigns_sent mon a ≤ assigns_sent mon (a ++ b)
unfolding assigns_sent
more_sent mon a b = let e = ap (λ (xs : List Assign). length xs) (assigns_to-append mon a b) in let l = length-append (assigns_to mon a) (assigns_to mon b) in omega (arith, e, l)

present_more : (sent sent' : ℕ) (trail : List Entry) → sent ≤ sent' → is_present sent trail ≡ true → is_present sent' trail ≡ true
present_more sent sent' trail more is = elim (cases_Bool (nat_lt (seq_of trail) sent)) [
  | inl less ↦ or_left (nat_lt (seq_of trail) sent') (is_still trail) (lt-ltb (seq_of trail) sent' (let l = ltb-true (seq_of trail) sent less in omega (arith, l, more)))
  | inr no' ↦ or_right (nat_lt (seq_of trail) sent') (is_still trail) (sym (ap (λ b. b || is_still trail) no') ∙ is)
]

pub turns_by : (s : StoryView) (from : Mon) (frame : Frame) → Turning s from frame → (sent : ℕ → ℕ) → ((j : ℕ) → IsMonitor s.settings j → length (frames_to j (demanded s.settings s.journal from.0 frame)) ≤ sent j)
    → Turns s.settings.monitors from.0 (readings s) (readings (turned s from frame)) sent (stops_count s.settings (mid s from frame))
turns_by s from frame t sent few =
    let j = s.journal in
    let s' = turned s from frame in
    let j' = s'.journal in
    let d = demanded s.settings j from.0 frame in
    let close = closing s.settings (mid s from frame) in
    let count = stops_count s.settings (mid s from frame) in
    let own = closes s.settings t.k from.0 t.some (mid s from frame) in
    record {
      from_one = t.monitor.from_one;
      within = t.monitor.within;
      due = λ q. field_by (is_monitor s q) (reading (setup_of s q) (trail_of s q) q j) (reading (setup_of s q) (trail_of s q) q j') (λ l. l.due) (λ _. refl);
      here =
          let mon = from.0 in
          let was = local_own s mon t.monitor in
          let now = local_own s' mon t.monitor in
          let a : (local_of s mon).up ≡ length (sent_by (trail_of s mon)) - length (frames_from mon j) = ap (λ (l : Local). l.up) was in
          let b : (local_of s' mon).up ≡ length (sent_by (trail_of s mon)) - length (frames_from mon j') = ap (λ (l : Local). l.up) now in
          let c = ap (λ (xs : List Frame). length xs) t.next.is in
          let e = length-append (frames_from mon j) (frame ∷ t.next.rest) in
          let g = ap (λ (xs : List Frame). length xs) (got_more s from frame t mon ∙ ap (λ b'. frames_from mon j ++ cons_option (if b' then Some frame else None) []) (eq-eqb mon mon refl)) in
          let l = length-append (frames_from mon j) (frame ∷ []) in
          let goal : (local_of s mon).up ≡ (local_of s' mon).up + 1 = omega (arith, a, b, c, e, g, l) in
          goal;
      up = λ q apart. field_by (is_monitor s q) (reading (setup_of s q) (trail_of s q) q j) (reading (setup_of s q) (trail_of s q) q j') (λ l. l.up) (λ _.
          ap (λ (xs : List Frame). length (sent_by (trail_of s q)) - length xs) (got_more s from frame t q ∙ ap (λ b'. frames_from q j ++ cons_option (if b' then Some frame else None) []) (ne_eqb from.0 q (λ same. apart (sym same))) ∙ append-nil (frames_from q j)));
      down = λ q.
          let x = reading (setup_of s q) (trail_of s q) q j in
          let y = reading (setup_of s q) (trail_of s q) q j' in
          let goal : (local_of s' q).down ≤ (local_of s q).down + (sent q + count) = down_either (is_monitor s q) x y (sent q + count) (λ is.
          let close_few = closes s.settings t.k q t.some (mid s from frame) in
          let a = few q (monitor_is s q is) in
          let b = close_few.few in
          let c = ap (λ xs. length (frames_to q xs)) (mid_is s from frame) in
          let e = ap (λ (xs : List Frame). length xs) (frames_to-append q (mid s from frame) close) in
          let g = length-append (frames_to q (mid s from frame)) (frames_to q close) in
          let u = ap (λ (xs : List Frame). length xs) (frames_to-append q (with_got j from frame) d) in
          let v = length-append (frames_to q (with_got j from frame)) (frames_to q d) in
          let w = ap (λ (xs : List Frame). length xs) (frames_to-append q j (n.Got from frame ∷ []) ∙ append-nil (frames_to q j)) in
          let inner : length (frames_to q j') - length (taken_by (trail_of s q)) ≤ length (frames_to q j) - length (taken_by (trail_of s q)) + (sent q + count) = omega (arith, a, b, c, e, g, u, v, w) in
          inner) in
          let flat : (local_of s' q).down ≤ (local_of s q).down + sent q + count = omega (arith, goal) in
          flat;
      present = λ q. present_either (is_monitor s q) (reading (setup_of s q) (trail_of s q) q j) (reading (setup_of s q) (trail_of s q) q j') (λ _. present_more (assigns_sent q j) (assigns_sent q j') (trail_of s q) (more_sent q j (turn_of s.settings j (n.Got from frame))));
      paid = paid_by (is_stopped j) (is_stopped j') count (accepted_kind s.settings j from.0 frame t.none).0 (stop_now s from frame count own.one);
    }

-- ---- the streak, and calm turns

pub calm_settled : (s : Setup) (j : List Noted) (mon : ℕ) → IsMonitor s mon → is_calm s j ≡ true → (p : Progress) × (settled_in (answer_of mon j) ≡ Some p)
unfolding is_calm
calm_settled s j mon m is =
    let each = (and_parts (not (is_open s j)) (list_all (λ q. is_some (settled_in (answer_of q j))) (monitors s)) is).1 in
    there_is (settled_in (answer_of mon j)) (all_at (λ q. is_some (settled_in (answer_of q j))) 1 s.monitors mon m.from_one (let w = m.within in omega (arith, w)) each)

-- where a story's journal is calm and all are present nobody is strained
pub calm_sound : (s : StoryView) → IsStory s → is_calm s.settings s.journal ≡ true → all_present s.settings.monitors (readings s) ≡ true → any_strained s.settings.monitors (readings s) ≡ false
calm_sound s h calm all =
    none_in_range (λ q. (local_of s q).strained) 1 s.settings.monitors (λ mon low high.
    let m : IsMonitor s.settings mon = record { from_one = low; within = omega (arith, high) } in
    let own = local_own s mon m in
    let p = calm_settled s.settings s.journal mon m calm in
    let here : is_present (assigns_sent mon s.journal) (trail_of s mon) ≡ true = sym (ap (λ (l : Local). l.present) own) ∙ all_at (λ q. (local_of s q).present) 1 s.settings.monitors mon low high all in
    ap (λ (l : Local). l.strained) own ∙ calm_is_not_strained (start s.settings) s.journal mon (setup_of s mon) (trail_of s mon) p.0 (joined s h mon m) p.1 here)

pub streak_turned : (s : StoryView) (from : Mon) (frame : Frame) → Turning s from frame → streak s.settings (turned s from frame).journal ≡ (if is_calm s.settings (turned s from frame).journal then 0 else streak s.settings s.journal + (if fails_at s.settings s.journal from.0 frame then 1 else 0))
streak_turned s from frame t =
    let i = turn_is s.settings s.journal (n.Got from frame) (accepted_of s from frame t) in
    subst (λ xs. streak s.settings (s.journal ++ xs) ≡ (if is_calm s.settings (s.journal ++ xs) then 0 else streak s.settings s.journal + (if fails_at s.settings s.journal from.0 frame then 1 else 0))) (sym i.is)
    (streak_got s.settings s.journal from frame i.rest i.none)

pub goes_by : (s : StoryView) (from : Mon) (frame : Frame) → Turning s from frame → (fails : Bool) → fails_at s.settings s.journal from.0 frame ≡ fails → Goes s.settings.monitors (if fails then 1 else 0) (readings s) (readings (turned s from frame))
goes_by s from frame t fails is =
    let s' = turned s from frame in
    record {
      calm = is_calm s.settings s'.journal;
      streak = streak_turned s from frame t ∙ ap (λ b. if is_calm s.settings s'.journal then 0 else streak s.settings s.journal + (if b then 1 else 0)) is;
      closed = calm_closed s.settings s'.journal;
      sound = calm_sound s' t.after;
    }

-- ---- readings that a turn keeps where it sends no Assign

pub record KeepsAssigns (s : StoryView) (j' : List Noted) : Type 0 where
  pub assigns : (mon : ℕ) → assigns_to mon j' ≡ assigns_to mon s.journal
  pub members : members_at j' ≡ members_at s.journal

pub strained_by : (setup : MonitorSetup) (trail : List Entry) (mon : ℕ) (j j' : List Noted) → assigns_to mon j' ≡ assigns_to mon j → members_at j' ≡ members_at j
    → is_strained (levels_then setup trail mon j') (members_at j') ≡ is_strained (levels_then setup trail mon j) (members_at j)
unfolding factor
strained_by setup trail mon j j' assigns members =
    ap (λ (xs : List Assign). is_strained (map (λ o. value_of_object setup trail o +ℤ row xs o) (objects setup.objects)) (members_at j')) assigns
    ∙ ap (λ ms. is_strained (map (λ o. value_of_object setup trail o +ℤ row (assigns_to mon j) o) (objects setup.objects)) ms) members

pub strained_kept : (s : StoryView) (from : Mon) (frame : Frame) → KeepsAssigns s (turned s from frame).journal → (q : ℕ) → (local_of (turned s from frame) q).strained ≡ (local_of s q).strained
strained_kept s from frame keeps q =
    let j' = (turned s from frame).journal in
    field_by (is_monitor s q) (reading (setup_of s q) (trail_of s q) q s.journal) (reading (setup_of s q) (trail_of s q) q j') (λ l. l.strained) (λ _. strained_by (setup_of s q) (trail_of s q) q s.journal j' (keeps.assigns q) keeps.members)

sent_by_assigns : (mon : ℕ) (j j' : List Noted) → assigns_to mon j' ≡ assigns_to mon j → assigns_sent mon j' ≡ assigns_sent mon j
unfolding assigns_sent
sent_by_assigns mon j j' e = ap (λ (xs : List Assign). length xs) e

pub present_kept : (s : StoryView) (from : Mon) (frame : Frame) → KeepsAssigns s (turned s from frame).journal → (q : ℕ) → (local_of (turned s from frame) q).present ≡ (local_of s q).present
present_kept s from frame keeps q =
    let j' = (turned s from frame).journal in
    field_by (is_monitor s q) (reading (setup_of s q) (trail_of s q) q s.journal) (reading (setup_of s q) (trail_of s q) q j') (λ l. l.present) (λ _. ap (λ c. is_present c (trail_of s q)) (sent_by_assigns q s.journal j' (keeps.assigns q)))

-- ---- wide

pub wide_same : (s : Setup) (a b : List Noted) → AreSame s a b → is_wide s b ≡ is_wide s a
wide_same s a b e = wide_by s a b e.round e.asked

pub wide_got : (s : Setup) (j : List Noted) (from : Mon) (frame : Frame) → is_wide s (with_got j from frame) ≡ is_wide s j
wide_got s j from frame = wide_by s j (with_got j from frame) (got_round j from frame) (λ r mon. got_asked r mon j from frame)
