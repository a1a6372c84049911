-- A short round fits its record: where its Report speaks of the present levels nothing is strained at its reporter behind it.
use Rattle.tk_frames.specs.declared.frame.Frame.TheVariants as f
use Rattle.std.proofs.Common.{◌≡◌, ℕ, ◌+◌, ◌≤◌, ◌&&◌, ◌==◌, ℤ, pos, ◌+ℤ◌, true, false, not, List, [], ◌∷◌, ◌++◌, length, map, Contains, Option, None, refl, sym, ap, ◌∙◌, subst, arith, append-nil, inl, inr}
use Rattle.std.specs.Prelude.{filter, unwrap_or, if◌then◌else◌}
use Rattle.std.proofs.lemmas.Bool.{and_right, cases_eq, eq-eqb, ne_eqb, le-ltb}
use Rattle.tk_base.specs.Pairs.{objects_of}
use Rattle.tk_base.specs.Settings.{Setup}
use Rattle.tk_base.specs.declared.ids.Mon.{Mon}
use Rattle.tk_base.proofs.PairsLemmas.{objects_paired}
use Rattle.tk_frames.specs.Assigns.{Assign}
use Rattle.tk_frames.specs.declared.frame.Frame.{Frame}
use Rattle.tk_alloc.specs.Parts.{value_of}
use Rattle.tk_alloc.proofs.LeewayLemmas.{value_put}
use Rattle.tk_journal.specs.Laws.{IsMonitor}
use Rattle.tk_journal.specs.Legal.{Opening, start}
use Rattle.tk_journal.specs.Links.{frames_to}
use Rattle.tk_journal.specs.Readings.{assigns_sent, assigns_to, in_force, is_open, members_at, table_at}
use Rattle.tk_journal.specs.Refusal.{known_by, refusal_of}
use Rattle.tk_journal.specs.Turns.{assigns, demanded, fails_at, is_wide, passes_at, reported, short_at}
use Rattle.tk_journal.specs.declared.noted.Noted.{Noted}
use Rattle.tk_journal.proofs.Batches.{named, named_assigns, named_members}
use Rattle.tk_journal.proofs.Content.{report_takes_part}
use Rattle.tk_journal.proofs.Counting.{named_asked, named_round}
use Rattle.tk_journal.proofs.Firm.{ready_over}
use Rattle.tk_journal.proofs.FirmTurns.{fresh_content, report_objects}
use Rattle.tk_journal.proofs.Orderly.{Row, open_named, sends}
use Rattle.tk_journal.proofs.Pieces.{got_assigns}
use Rattle.tk_journal.proofs.Same.{open_same}
use Rattle.tk_journal.proofs.SoundLemmas.{legal_firm}
use Rattle.tk_journal.proofs.Standing.{object_of}
use Rattle.tk_journal.proofs.Tables.{rows_count, table_size}
use Rattle.tk_journal.proofs.Tuning.{force_limits, wide_by}
use Rattle.tk_journal.proofs.Turning.{closed_got}
use Rattle.tk_trail.specs.Setup.{MonitorSetup}
use Rattle.tk_trail.specs.Frames.{resolution_at}
use Rattle.tk_trail.specs.Legal.{IsLegal as IsLegalTrail}
use Rattle.tk_trail.specs.Readings.{sent_by, value_of_object}
use Rattle.tk_trail.specs.declared.entry.Entry.{Entry}
use Rattle.tk_trail.proofs.LevelsLemmas.{value-same}
use Rattle.tk_drain.specs.Energy.{Local}
use Rattle.tk_story.specs.Links.{IsJoined}
use Rattle.tk_drain.specs.Moves.{Short}
use Rattle.tk_journal.specs.Shapes.{IsFreshReport}
use Rattle.tk_alloc.specs.Strain.{IsShortNow, is_strained}
use Rattle.tk_trail.specs.Still.{is_present}
use Rattle.tk_journal.proofs.AskedLemmas.{named_times}
use Rattle.tk_journal.proofs.GrowLemmas.{with_got}
use Rattle.tk_journal.proofs.SentLemmas.{flag}
use Rattle.tk_story.proofs.JoinLemmas.{under_the_last}
use Rattle.tk_journal.proofs.LevelledLemmas.{short_levelled, short_sent, count_levels}
use Rattle.tk_alloc.proofs.MendLemmas.{short_mends}
use Rattle.tk_drain.proofs.PresentLemmas.{speaks_of_present}
use Rattle.tk_story.specs.Story.{IsStory, StoryView, setup_of, trail_of}
use Rattle.tk_trail.proofs.SaysLemmas.{law_report}
use Rattle.tk_story.proofs.QuietLemmas.{joined}
use Rattle.tk_world.specs.Events.{is_monitor}
use Rattle.tk_drain.specs.Reads.{levels_then, reading, readings}
use Rattle.tk_drain.proofs.ReadLemmas.{local_own}
use Rattle.tk_drain.proofs.TurnReads.{Turning, batch_length, field_by, goes_by, mid, same_mid, stops_count, strained_by, turned, turns_by, wide_got, wide_same}
use Rattle.tk_drain.proofs.TurnFalls.{next_sent, report_strains}
use Rattle.tk_drain.proofs.AssignFalls.{assigned_once, renewed_by}
use Rattle.tk_journal.proofs.Ending.{passed}
use Rattle.tk_journal.proofs.LeftLemmas.{short_is}

-- ---- the values of a Report under the last number are the present ones

report_values : (o : Opening) (j : List Noted) (mon : ℕ) (setup : MonitorSetup) (trail : List Entry) (border : ℤ) (failed : List ℕ) (values : List (ℕ × ℤ)) → IsJoined o j mon setup trail
    → Contains (sent_by trail) (f.Report (assigns_sent mon j) border failed values) → is_present (assigns_sent mon j) trail ≡ true
    → (q : ℕ) → Contains (objects_of values) q → value_of_object setup trail q ≡ value_of values q
report_values o j mon setup trail border failed values h in' present q of =
    let frame = f.Report (assigns_sent mon j) border failed values in
    let s = under_the_last o j mon setup trail frame h in' refl in
    let x = s.before in
    let now = s.now present in
    let said = law_report setup x s.after (assigns_sent mon j) border failed values (subst (IsLegalTrail setup) s.is h.ways) in
    let asked : Contains (resolution_at setup x) q = subst (λ xs. Contains xs q) (ap objects_of said.values_is ∙ objects_paired (value_of_object setup x) (resolution_at setup x)) of in
    let read : value_of values q ≡ value_of_object setup x q = ap (λ vs. value_of vs q) said.values_is ∙ ap (λ (v : Option ℤ). unwrap_or v (pos 0)) (value_put (value_of_object setup x) (resolution_at setup x) q asked) in
    sym (value-same setup x trail (record { places = now.places; assigns = now.assigns }) q) ∙ sym read

-- ---- mended

abbrev after_short : StoryView → Mon → ℤ → List (ℕ × ℤ) → List Noted
after_short s from border values = s.journal ++ sends s.journal (members_at s.journal) (short_sent s.settings s.journal (reported from.0 border values) ∷ [])

short_now : (s : StoryView) (from : Mon) (border : ℤ) (failed : List ℕ) (values : List (ℕ × ℤ)) → IsStory s → IsMonitor s.settings from.0 → refusal_of s.settings s.journal from.0 (f.Report (assigns_sent from.0 s.journal) border failed values) ≡ None
    → Contains (sent_by (trail_of s from.0)) (f.Report (assigns_sent from.0 s.journal) border failed values) → passes_at s.settings s.journal (reported from.0 border values) ≡ true → is_present (assigns_sent from.0 s.journal) (trail_of s from.0) ≡ true
    → IsShortNow (in_force s.settings s.journal) (table_at s.settings s.journal) (members_at s.journal) (reported from.0 border values) (levels_then (setup_of s from.0) (trail_of s from.0) from.0 s.journal) (levels_then (setup_of s from.0) (trail_of s from.0) from.0 (after_short s from border values))
short_now s from border failed values h m none in' test present =
    let st = s.settings in
    let j = s.journal in
    let mon = from.0 in
    let setup = setup_of s mon in
    let trail = trail_of s mon in
    let number = assigns_sent mon j in
    let report = reported mon border values in
    let linked = joined s h mon m in
    let firm = legal_firm (start st) j linked.set h.journal_legal in
    let limits = force_limits st j h.limits firm.tuned in
    let over = report_takes_part (known_by st mon j) border failed values m.from_one (let w = m.within in let z = table_size st j in omega (arith, w, z)) (fresh_content st j from number border failed values none (le-ltb number number (omega arith))) in
    let objs = report_objects st j failed (objects_of values) firm.standing over.objects in
    record {
      ready = ready_over st j (objects_of values) firm.standing objs.among objs.within;
      takes = over.takes;
      test = passed (in_force st j) (table_at st j) (members_at j) report test;
      some = (let a = firm.standing.chosen.count in let b = limits.some_member in omega (arith, a, b));
      count = count_levels st.objects (λ o. value_of_object setup trail o +ℤ Rattle.tk_journal.specs.Readings.factor mon j o) ∙ sym (rows_count st j);
      positive = λ t found. (object_of st (members_at j) (members_at j) t firm.standing.chosen.ascends firm.standing.chosen.within found).from_one;
      now = speaks_of_present (start st) j mon setup trail number border failed values linked in' refl present;
      levelled = short_levelled st j report st.objects (λ o. value_of_object setup trail o) (report_values (start st) j mon setup trail border failed values linked in' present);
    }

-- ---- what it changes

-- how many Assigns each is sent
abbrev pub to_one : ℕ → ℕ → ℕ
to_one mon q = flag (q == mon)

times_one : (mon q : ℕ) → named_times (mon ∷ []) q ≤ to_one mon q
times_one mon q = elim (cases_eq mon q) [
  | inl same ↦ (let a = ap flag (eq-eqb mon q same) in let b = ap flag (eq-eqb q mon (sym same)) in omega (arith, a, b))
  | inr apart ↦ (let a = ap flag (ne_eqb mon q apart) in omega (arith, a))
]

record ShortTurn (s : StoryView) (from : Mon) (frame : Frame) (border : ℤ) (values : List (ℕ × ℤ)) : Type 0 where
  few : (q : ℕ) → length (frames_to q (demanded s.settings s.journal from.0 frame)) ≤ to_one from.0 q
  waiting : is_open s.settings (turned s from frame).journal ≡ is_open s.settings (with_got s.journal from frame)
  wide : is_wide s.settings (turned s from frame).journal ≡ is_wide s.settings s.journal
  members : members_at (turned s from frame).journal ≡ members_at s.journal
  assigns : (q : ℕ) → assigns_to q (turned s from frame).journal ≡ assigns_to q (after_short s from border values)
  other : (q : ℕ) → (q ≡ from.0 → ⊥) → assigns_to q (turned s from frame).journal ≡ assigns_to q s.journal
  own : assigns_sent from.0 (turned s from frame).journal ≡ assigns_sent from.0 s.journal + 1

short_turn : (s : StoryView) (from : Mon) (frame : Frame) → Turning s from frame → (border : ℤ) (values : List (ℕ × ℤ))
    → demanded s.settings s.journal from.0 frame ≡ assigns s.journal (short_at s.settings s.journal (reported from.0 border values)) → ShortTurn s from frame border values
short_turn s from frame t border values e =
    let st = s.settings in
    let j = s.journal in
    let now = with_got j from frame in
    let j' = (turned s from frame).journal in
    let row = short_sent st j (reported from.0 border values) in
    let ms = members_at j in
    let seq : Row → ℕ = λ d. assigns_sent d.0 j + 1 in
    let same = same_mid s from frame in
    let e' : demanded st j from.0 frame ≡ sends j ms (row ∷ []) = e ∙ short_is st j (reported from.0 border values) in
    let is : mid s from frame ≡ now ++ sends j ms (row ∷ []) = ap (λ xs. now ++ xs) e' in
    let to : (q : ℕ) → assigns_to q j' ≡ assigns_to q j ++ map (λ (d : Row). record { members = ms; changes = d.1 }) (filter (λ d. d.0 == q) (row ∷ [])) = λ q.
    same.assigns q ∙ ap (assigns_to q) is ∙ named_assigns q now (λ (d : Row). d.0) seq ms (λ d. d.1) (row ∷ [])
    ∙ ap (λ (xs : List Assign). xs ++ map (λ (d : Row). record { members = ms; changes = d.1 }) (filter (λ d. d.0 == q) (row ∷ []))) (got_assigns q j from frame) in
    record {
      few = λ q. let z = ap (λ xs. length (frames_to q xs)) e' in let w = batch_length q (λ (d : Row). d.0) (named seq ms (λ d. d.1)) (row ∷ []) in let u = times_one from.0 q in omega (arith, z, w, u);
      waiting = open_same st (mid s from frame) j' same ∙ ap (is_open st) is ∙ open_named st now (λ (d : Row). d.0) seq ms (λ d. d.1) (row ∷ []);
      wide = wide_same st (mid s from frame) j' same ∙ ap (is_wide st) is
          ∙ wide_by st now (now ++ sends j ms (row ∷ [])) (named_round now (λ (d : Row). d.0) seq ms (λ d. d.1) (row ∷ [])) (λ r q. named_asked r q now (λ (d : Row). d.0) seq ms (λ d. d.1) (row ∷ []))
          ∙ wide_got st j from frame;
      members = same.members ∙ ap members_at is ∙ named_members now (λ (d : Row). d.0) seq ms (λ d. d.1) row [];
      assigns = λ q. to q ∙ sym (named_assigns q j (λ (d : Row). d.0) seq ms (λ d. d.1) (row ∷ []));
      other = λ q apart. to q ∙ ap (λ b. assigns_to q j ++ map (λ (d : Row). record { members = ms; changes = d.1 }) (if b then row ∷ [] else [])) (ne_eqb from.0 q (λ same'. apart (sym same'))) ∙ append-nil (assigns_to q j);
      own = assigned_once from.0 j' j (λ (d : Row). record { members = ms; changes = d.1 }) (filter (λ d. d.0 == from.0) (row ∷ [])) row (to from.0) (ap (λ b. if b then row ∷ [] else []) (eq-eqb from.0 from.0 refl));
    }

pub passes_no_fail : (s : Setup) (j : List Noted) (mon seq : ℕ) (border : ℤ) (failed : List ℕ) (values : List (ℕ × ℤ)) → passes_at s j (reported mon border values) ≡ true → fails_at s j mon (f.Report seq border failed values) ≡ false
passes_no_fail s j mon seq border failed values test =
    ap (λ b. (seq == assigns_sent mon j) && not (is_open s j) && not b) test ∙ and_right ((seq == assigns_sent mon j) && not (is_open s j)) false refl

pub short_fits : (s : StoryView) (from : Mon) (frame : Frame) → Turning s from frame → (border : ℤ) (failed : List ℕ) (values : List (ℕ × ℤ)) → IsFreshReport s.settings s.journal from frame border failed values
    → passes_at s.settings s.journal (reported from.0 border values) ≡ true
    → demanded s.settings s.journal from.0 frame ≡ assigns s.journal (short_at s.settings s.journal (reported from.0 border values))
    → Short s.settings.monitors from.0 (stops_count s.settings (mid s from frame)) (readings s) (readings (turned s from frame)) (to_one from.0)
short_fits s from frame t border failed values r test e =
    let st = s.settings in
    let j = s.journal in
    let mon = from.0 in
    let s' = turned s from frame in
    let j' = s'.journal in
    let setup = setup_of s mon in
    let trail = trail_of s mon in
    let row = short_sent st j (reported mon border values) in
    let a = short_turn s from frame t border values e in
    let was = local_own s mon t.monitor in
    let now = local_own s' mon t.monitor in
    let behind = after_short s from border values in
    let same_members : members_at behind ≡ members_at j = named_members j (λ (d : Row). d.0) (λ d. assigns_sent d.0 j + 1) (members_at j) (λ d. d.1) row [] in
    record {
      turn = turns_by s from frame t (to_one mon) (λ q _. a.few q);
      one = ap flag (eq-eqb mon mon refl);
      none = λ q apart. ap flag (ne_eqb q mon apart);
      goes = goes_by s from frame t false (ap (λ g. fails_at st j mon g) r.is ∙ passes_no_fail st j mon (assigns_sent mon j) border failed values test);
      closed = r.closed;
      waiting = a.waiting ∙ closed_got st j from frame r.closed ∙ sym r.closed;
      wide = a.wide;
      strained = λ q apart. field_by (is_monitor s q) (reading (setup_of s q) (trail_of s q) q j) (reading (setup_of s q) (trail_of s q) q j') (λ l. l.strained) (λ _. strained_by (setup_of s q) (trail_of s q) q j j' (a.other q apart) a.members);
      renewed = ap (λ (l : Local). l.present) now ∙ renewed_by s from frame t mon t.monitor a.own;
      report = report_strains s from frame t border failed values r;
      mended = λ here.
          let present : is_present (assigns_sent mon j) trail ≡ true = sym (ap (λ (l : Local). l.present) was) ∙ here in
          let in' : Contains (sent_by trail) (f.Report (assigns_sent mon j) border failed values) = subst (λ x. Contains (sent_by trail) x) r.is (next_sent s from frame t) in
          let short = short_now s from border failed values t.story t.monitor (subst (λ g. refusal_of st j mon g ≡ None) r.is t.none) in' test present in
          ap (λ (l : Local). l.strained) now
          ∙ strained_by setup trail mon behind j' (a.assigns mon) (a.members ∙ sym same_members)
          ∙ ap (λ ms. is_strained (levels_then setup trail mon behind) ms) same_members
          ∙ short_mends (in_force st j) (table_at st j) (members_at j) (reported mon border values) (levels_then setup trail mon j) (levels_then setup trail mon behind) short;
    }
