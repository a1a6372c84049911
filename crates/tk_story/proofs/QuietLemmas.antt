-- A quiet story's members hold at the ends of its trails.
use Rattle.std.proofs.Common.{◌≡◌, ℕ, ◌+◌, ◌-◌, ◌≤◌, ℤ, ◌+ℤ◌, Bool, true, false, List, [], length, get_or, Contains, refl, sym, ap, ◌∙◌, subst, arith, inl, inr}
use Rattle.std.specs.Prelude.{filter_map}
use Rattle.std.specs.List.{range_with_len}
use Rattle.std.proofs.lemmas.Bool.{cases_lt}
use Rattle.std.proofs.lemmas.Int.{ints}
use Rattle.std.proofs.lemmas.List.{get_or_past, length-map}
use Rattle.std.proofs.lemmas.List.FromFn.{length-range_with_len}
use Rattle.tk_frames.specs.Assigns.{Assign, assign_in, members_of, row}
use Rattle.tk_base.specs.Settings.{Setup}
use Rattle.tk_base.proofs.ListLemmas.{none_in_range}
use Rattle.tk_input.specs.Logs.{AreParts, ArePlaces, IsCut, parts_of, value, value_of}
use Rattle.tk_journal.specs.Laws.{IsMonitor, IsSetUp}
use Rattle.tk_journal.specs.Legal.{start}
use Rattle.tk_journal.specs.Readings.{assigns_to, factor, is_open, last_round, members_at, waits_for}
use Rattle.tk_journal.specs.declared.noted.Noted.{Noted}
use Rattle.tk_journal.proofs.LawLemmas.{orderly}
use Rattle.tk_journal.proofs.SoundLemmas.{legal_firm}
use Rattle.tk_journal.proofs.StartLemmas.{start_set_up}
use Rattle.tk_journal.specs.Links.{frames_from, frames_to}
use Rattle.tk_journal.specs.Tally.{collects_to, values_from}
use Rattle.tk_frames.specs.Carried.{tally, is_collect, is_values}
use Rattle.tk_journal.proofs.AskedLemmas.{each_collect_is_answered}
use Rattle.tk_journal.proofs.SentLemmas.{flag}
use Rattle.tk_trail.proofs.PairLemmas.{values_answer_collects}
use Rattle.tk_story.specs.Links.{IsJoined}
use Rattle.tk_trail.specs.Readings.{assigns_of, level_of, members_at as members_of_trail, places_at, sent_by, taken_by, value_of_object}
use Rattle.tk_trail.specs.Setup.{IsSetup, MonitorSetup}
use Rattle.tk_trail.specs.declared.entry.Entry.{Entry}
use Rattle.tk_trail.proofs.LegalLemmas.{legal_places}
use Rattle.tk_story.specs.Story.{IsStory, StoryView, setup_of, trail_of}
use Rattle.tk_story.specs.Moments.{AreMembersValid, IsQuiet, cut_of}
use Rattle.tk_trail.proofs.OrderLemmas.{in_order}
use Rattle.tk_journal.proofs.SendLemmas.{stands}
use Rattle.tk_story.proofs.TotalLemmas.{holds_by}
use Rattle.tk_journal.proofs.ProgressLemmas.{cut_by, places_by}

pub start_is_set_up : (s : StoryView) → IsStory s → IsSetUp (start s.settings)
start_is_set_up s h = start_set_up s.settings h.limits

-- what stands where the places of the monitors' setups are
pub starts_at : (s : StoryView) → IsStory s → (mon : ℕ) → ArePlaces (setup_of s mon).parts (setup_of s mon).from
starts_at s h mon = h.starts.each (mon - 1)

pub joined : (s : StoryView) → IsStory s → (mon : ℕ) → IsMonitor s.settings mon → IsJoined (start s.settings) s.journal mon (setup_of s mon) (trail_of s mon)
joined s h mon m = record {
  set = start_is_set_up s h;
  journal = h.journal_legal;
  monitor = m;
  shape = (starts_at s h mon).shape;
  ways = h.trails_legal mon m;
  down = (h.links mon m).down;
  up = (h.links mon m).up;
}

-- the factors and the members of a trail that took what the journal sent
pub level_by : (setup : MonitorSetup) (trail : List Entry) (j : List Noted) (mon o : ℕ) → assigns_of trail ≡ assigns_to mon j → level_of setup trail o ≡ (value_of_object setup trail o +ℤ factor mon j o)
unfolding level_of factor
level_by setup trail j mon o same = ap (λ (xs : List Assign). value_of_object setup trail o +ℤ row xs o) same

pub members_by : (s : Setup) (trail : List Entry) (j : List Noted) (mon : ℕ) → assigns_of trail ≡ assigns_to mon j → members_of (assigns_to mon j) ≡ members_at j → members_of_trail trail ≡ members_at j
members_by s trail j mon same named = ap members_of same ∙ named

none_there : ArePlaces [] []
none_there = record { shape = refl; within = λ i. omega arith }

pub cut_is : (logs : List (List (List (ℕ × ℤ)))) (m : ℕ) (places : ℕ → List ℕ) → length logs ≡ m → ((mon : ℕ) → 1 ≤ mon → mon ≤ m → ArePlaces (parts_of logs mon) (places mon)) → IsCut logs (cut_by m places)
cut_is logs m places count each =
    let long : length (cut_by m places) ≡ m = length-map (range_with_len 1 m) places ∙ length-range_with_len 1 m in
    record {
      shape = long ∙ sym count;
      each = λ i. elim (cases_lt i m) [
        | inl within ↦
            let mon = i + 1 in
            let back : mon - 1 ≡ i = omega arith in
            subst (λ (q : ℕ). ArePlaces (get_or logs q []) (get_or (cut_by m places) q [])) back
            (subst (λ (xs : List ℕ). ArePlaces (parts_of logs mon) xs) (sym (places_by m places mon (omega arith) (omega (arith, within)))) (each mon (omega arith) (omega (arith, within))))
        | inr past ↦
            subst (λ (ys : List ℕ). ArePlaces (get_or logs i []) ys) (sym (get_or_past (cut_by m places) i [] (omega (arith, past, long))))
            (subst (λ (xs : List (List (ℕ × ℤ))). ArePlaces xs []) (sym (get_or_past logs i [] (omega (arith, past, count)))) none_there)
      ];
    }

pub quiet_holds : (s : StoryView) → IsStory s → IsQuiet s → AreMembersValid s
unfolding cut_of value_of_object
quiet_holds s h quiet =
    let set = start_is_set_up s h in
    let firm = legal_firm (start s.settings) s.journal set h.journal_legal in
    let order = orderly (start s.settings) s.journal set h.journal_legal in
    let places : ℕ → List ℕ = λ mon. places_at (setup_of s mon) (trail_of s mon) in
    let m = s.settings.monitors in
    let is = cut_is s.logs.logs m places h.monitors (λ mon low high. legal_places (setup_of s mon) (starts_at s h mon) (trail_of s mon) (h.trails_legal mon (record { from_one = low; within = high })).each) in
    holds_by s.settings s.logs.logs s.journal (cut_by m places) h.monitors is (stands s.settings s.journal order firm)
    (λ t o mon in' out t_of o_of r.
    let setup = setup_of s mon in
    let trail = trail_of s mon in
    let same : assigns_of trail ≡ assigns_to mon s.journal = ap (filter_map assign_in) (quiet.down mon r) in
    let named = members_by s.settings trail s.journal mon same (order.named mon r) in
    let levels = in_order setup trail t o (quiet.sound mon r) (subst (λ ms. Contains ms t) (sym named) in') (λ found. out (subst (λ ms. Contains ms o) named found)) t_of.from_one t_of.within o_of.from_one o_of.within in
    let a = level_by setup trail s.journal mon t same in
    let b = level_by setup trail s.journal mon o same in
    let there = places_by m places mon r.from_one r.within in
    let c : value s.logs.logs mon t (cut_by m places) ≡ value_of_object setup trail t = ap (λ ps. value_of setup.parts ps t) there in
    let d : value s.logs.logs mon o (cut_by m places) ≡ value_of_object setup trail o = ap (λ ps. value_of setup.parts ps o) there in
    omega (arith, ints, levels, a, b, c, d))

-- the setup of each monitor of a story is within the limits
pub setup_is : (s : StoryView) → IsStory s → (mon : ℕ) → IsMonitor s.settings mon → IsSetup (setup_of s mon)
setup_is s h mon m = record {
  some_object = (let l = h.limits.some_object in omega (arith, l));
  objects = h.limits.objects;
  parts = subst (λ (q : ℕ). AreParts q (parts_of s.logs.logs mon)) h.objects (h.logs.each (mon - 1) [] (let a = m.from_one in let b = m.within in let c = h.monitors in omega (arith, a, b, c)));
  from = starts_at s h mon;
}

-- ---- where all links are empty no round is open

flag_false : (b : Bool) → flag b ≡ 0 → b ≡ false
flag_false true e = absurd (omega (arith, e))
flag_false false e = refl

pub empty_links_close : (s : StoryView) → IsStory s → ((mon : ℕ) → IsMonitor s.settings mon → taken_by (trail_of s mon) ≡ frames_to mon s.journal) → ((mon : ℕ) → IsMonitor s.settings mon → frames_from mon s.journal ≡ sent_by (trail_of s mon)) → is_open s.settings s.journal ≡ false
unfolding is_open
empty_links_close s h down up =
    none_in_range (λ mon. waits_for (last_round s.journal) mon s.journal) 1 s.settings.monitors (λ mon low high.
    let m : IsMonitor s.settings mon = record { from_one = low; within = omega (arith, high) } in
    let count : collects_to mon s.journal ≡ values_from mon s.journal + flag (waits_for (last_round s.journal) mon s.journal) = each_collect_is_answered (start s.settings) s.journal mon (start_is_set_up s h) h.journal_legal m in
    let pairs = values_answer_collects (setup_of s mon) (trail_of s mon) (h.trails_legal mon m) in
    let a = ap (tally is_collect) (down mon m) in
    let b = ap (tally is_values) (up mon m) in
    flag_false (waits_for (last_round s.journal) mon s.journal) (omega (arith, count, pairs, a, b)))
