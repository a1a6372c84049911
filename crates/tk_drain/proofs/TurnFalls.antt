-- Turns that send no Assign fit their records.
use Rattle.tk_frames.specs.declared.frame.Frame.TheVariants as f
use Rattle.std.proofs.Common.{◌≡◌, ℕ, suc, zero, ◌+◌, ◌≤◌, ◌<◌, ◌==◌, ℤ, true, false, not, List, [], ◌∷◌, ◌++◌, length, Contains, refl, sym, ap, ◌∙◌, subst, arith, append-nil, inl, inr}
use Rattle.std.specs.Prelude.{filter, if◌then◌else◌}
use Rattle.std.specs.List.{range_with_len}
use Rattle.std.proofs.lemmas.Bool.{eq-eqb, true≢false, false_from_ne_true}
use Rattle.std.proofs.lemmas.List.{map-id}
use Rattle.tk_base.specs.Objects.{objects}
use Rattle.tk_base.specs.Pairs.{objects_of}
use Rattle.tk_base.specs.declared.ids.Mon.{Mon}
use Rattle.tk_border.proofs.RisingLemmas.{Rises, rises-filter}
use Rattle.tk_frames.specs.declared.frame.Frame.{Frame}
use Rattle.tk_journal.specs.Laws.{IsMonitor}
use Rattle.tk_journal.specs.Legal.{start}
use Rattle.tk_journal.specs.Links.{frames_from, frames_to}
use Rattle.tk_journal.specs.Readings.{assigns_sent, assigns_to, is_calm, is_open, last_round, members_at, monitors}
use Rattle.tk_journal.specs.Turns.{collects, demanded, fails_at, is_wide, rounds, streak, wide_collects}
use Rattle.tk_journal.proofs.Batches.{plain_assigns, plain_members}
use Rattle.tk_journal.proofs.Orderly.{orderly_got, others_of}
use Rattle.tk_journal.proofs.Pieces.{got_assigns, got_members, got_round}
use Rattle.tk_journal.proofs.Same.{open_same}
use Rattle.tk_journal.proofs.SoundLemmas.{collects_wide}
use Rattle.tk_trail.specs.Readings.{sent_by}
use Rattle.tk_drain.specs.Energy.{Local}
use Rattle.tk_drain.specs.Moves.{Plain, Opens, OpensNext, LoneOpens}
use Rattle.tk_journal.specs.Shapes.{IsFreshReport, IsLastValues}
use Rattle.tk_trail.specs.Still.{is_present}
use Rattle.tk_journal.proofs.GatheredLemmas.{in_back}
use Rattle.tk_journal.proofs.GrowLemmas.{asks_open, range_rises, with_got, other_monitor}
use Rattle.tk_journal.proofs.StandLemmas.{calm_closed}
use Rattle.tk_drain.proofs.StrainedLemmas.{reported_is_strained}
use Rattle.tk_story.specs.Story.{StoryView, setup_of, trail_of}
use Rattle.tk_story.proofs.QuietLemmas.{joined}
use Rattle.tk_drain.specs.Reads.{local_of, readings}
use Rattle.tk_drain.proofs.ReadLemmas.{local_own}
use Rattle.tk_drain.proofs.TurnReads.{KeepsAssigns, Turning, goes_by, mid, once_most, present_kept, same_mid, stops_count, strained_kept, streak_turned, turned, turns_by, wide_got, wide_same}

-- ---- a fresh Report of a monitor that is present

first_in : (x : Frame) (rest : List Frame) → Contains (x ∷ rest) x
first_in x rest = (zero, omega arith, refl)

pub next_sent : (s : StoryView) (from : Mon) (frame : Frame) → Turning s from frame → Contains (sent_by (trail_of s from.0)) frame
next_sent s from frame t = subst (λ xs. Contains xs frame) (sym t.next.is) (in_back Frame frame (frames_from from.0 s.journal) (frame ∷ t.next.rest) (first_in frame t.next.rest))

pub report_strains : (s : StoryView) (from : Mon) (frame : Frame) → Turning s from frame → (border : ℤ) (failed : List ℕ) (values : List (ℕ × ℤ)) → IsFreshReport s.settings s.journal from frame border failed values
    → (local_of s from.0).present ≡ true → (local_of s from.0).strained ≡ true
report_strains s from frame t border failed values r here =
    let mon = from.0 in
    let own = local_own s mon t.monitor in
    let g = f.Report (assigns_sent mon s.journal) border failed values in
    let now : is_present (assigns_sent mon s.journal) (trail_of s mon) ≡ true = sym (ap (λ (l : Local). l.present) own) ∙ here in
    ap (λ (l : Local). l.strained) own
    ∙ reported_is_strained (start s.settings) s.journal mon (setup_of s mon) (trail_of s mon) g (joined s t.story mon t.monitor) (subst (λ x. Contains (sent_by (trail_of s mon)) x) r.is (next_sent s from frame t)) refl now refl

-- ---- nothing more

pub nothing_mid : (s : StoryView) (from : Mon) (frame : Frame) → demanded s.settings s.journal from.0 frame ≡ [] → mid s from frame ≡ with_got s.journal from frame
nothing_mid s from frame e = ap (λ xs. with_got s.journal from frame ++ xs) e ∙ append-nil (with_got s.journal from frame)

nothing_keeps : (s : StoryView) (from : Mon) (frame : Frame) → demanded s.settings s.journal from.0 frame ≡ [] → KeepsAssigns s (turned s from frame).journal
nothing_keeps s from frame e =
    let same = same_mid s from frame in
    let is = nothing_mid s from frame e in
    record {
      assigns = λ mon. same.assigns mon ∙ ap (assigns_to mon) is ∙ got_assigns mon s.journal from frame;
      members = same.members ∙ ap members_at is ∙ got_members s.journal from frame;
    }

pub plain_fits : (s : StoryView) (from : Mon) (frame : Frame) → Turning s from frame → demanded s.settings s.journal from.0 frame ≡ [] → fails_at s.settings s.journal from.0 frame ≡ false
    → is_open s.settings (with_got s.journal from frame) ≡ is_open s.settings s.journal → Plain s.settings.monitors from.0 (stops_count s.settings (mid s from frame)) (readings s) (readings (turned s from frame))
plain_fits s from frame t e fails same =
    let is = nothing_mid s from frame e in
    let agree = same_mid s from frame in
    let j' = (turned s from frame).journal in
    record {
      turn = turns_by s from frame t (λ _. 0) (λ q m. let z = ap (λ xs. length (frames_to q xs)) e in omega (arith, z));
      goes = goes_by s from frame t false fails;
      waiting = open_same s.settings (mid s from frame) j' agree ∙ ap (is_open s.settings) is ∙ same;
      wide = wide_same s.settings (mid s from frame) j' agree ∙ ap (is_wide s.settings) is ∙ wide_got s.settings s.journal from frame;
      strained = strained_kept s from frame (nothing_keeps s from frame e);
    }

-- ---- Collects

pub record Asked (s : StoryView) (from : Mon) (frame : Frame) : Type 0 where
  pub few : (q : ℕ) → IsMonitor s.settings q → length (frames_to q (demanded s.settings s.journal from.0 frame)) ≤ 1
  pub keeps : KeepsAssigns s (turned s from frame).journal
  pub opened : is_open s.settings (turned s from frame).journal ≡ true

asked_by : (s : StoryView) (from : Mon) (frame : Frame) → Turning s from frame → (round : ℕ) (asked : List ℕ) (q : ℕ) (mons : List ℕ) → IsMonitor s.settings q → Rises 0 (q ∷ mons) → last_round (with_got s.journal from frame) < round
    → demanded s.settings s.journal from.0 frame ≡ collects round asked (q ∷ mons) → Asked s from frame
asked_by s from frame t round asked q mons m up new e =
    let now = with_got s.journal from frame in
    let same = same_mid s from frame in
    let is : mid s from frame ≡ now ++ collects round asked (q ∷ mons) = ap (λ xs. now ++ xs) e in
    let all = q ∷ mons in
    record {
      few = λ p _. let z = ap (λ xs. length (frames_to p xs)) e in let w = once_most p (λ (x : ℕ). x) (λ _. f.Collect round asked) all all (map-id all) up in omega (arith, z, w);
      keeps = record {
        assigns = λ mon. same.assigns mon ∙ ap (assigns_to mon) is ∙ plain_assigns mon now (λ (x : ℕ). x) (λ _. f.Collect round asked) all (λ _. refl) ∙ got_assigns mon s.journal from frame;
        members = same.members ∙ ap members_at is ∙ plain_members now (λ (x : ℕ). x) (λ _. f.Collect round asked) all (λ _. refl) ∙ got_members s.journal from frame;
      };
      opened = open_same s.settings (mid s from frame) (turned s from frame).journal same ∙ ap (is_open s.settings) is ∙ asks_open s.settings now round asked q mons m (orderly_got s.settings s.journal from frame t.none t.order).counted new;
    }

all_asked : (s : StoryView) (from : Mon) (frame : Frame) → Turning s from frame → (round : ℕ) → last_round (with_got s.journal from frame) < round → demanded s.settings s.journal from.0 frame ≡ wide_collects s.settings round → Asked s from frame
all_asked s from frame t round new e =
    asked_by s from frame t round (objects s.settings.objects) 1 (range_with_len (1 + 1) t.k) (record { from_one = omega arith; within = (let z = t.some in omega (arith, z)) }) (range_rises (suc t.k)) new
    (e ∙ ap (λ xs. collects round (objects s.settings.objects) xs) (ap (range_with_len 1) t.some))

all_wide : (s : StoryView) (from : Mon) (frame : Frame) → Turning s from frame → (round : ℕ) → last_round (with_got s.journal from frame) < round → demanded s.settings s.journal from.0 frame ≡ wide_collects s.settings round
    → is_wide s.settings (turned s from frame).journal ≡ true
all_wide s from frame t round new e =
    let now = with_got s.journal from frame in
    wide_same s.settings (mid s from frame) (turned s from frame).journal (same_mid s from frame) ∙ ap (is_wide s.settings) (ap (λ xs. now ++ xs) e)
    ∙ collects_wide s.settings now round t.k t.some (orderly_got s.settings s.journal from frame t.none t.order).counted new

pub new_round : (s : StoryView) (from : Mon) (frame : Frame) → Turning s from frame → (more : ℕ) → last_round (with_got s.journal from frame) < rounds s.settings s.journal + 1 + more
new_round s from frame t more = let a = got_round s.journal from frame in let b = t.order.counted.last in omega (arith, a, b)

pub wide_fits : (s : StoryView) (from : Mon) (frame : Frame) → Turning s from frame → (border : ℤ) (failed : List ℕ) (values : List (ℕ × ℤ)) → IsFreshReport s.settings s.journal from frame border failed values
    → demanded s.settings s.journal from.0 frame ≡ wide_collects s.settings (rounds s.settings s.journal + 1) → Opens s.settings.monitors from.0 (stops_count s.settings (mid s from frame)) (readings s) (readings (turned s from frame)) (λ _. 1)
wide_fits s from frame t border failed values r e =
    let new : last_round (with_got s.journal from frame) < rounds s.settings s.journal + 1 = (let z = new_round s from frame t 0 in omega (arith, z)) in
    let a = all_asked s from frame t (rounds s.settings s.journal + 1) new e in
    record {
      turn = turns_by s from frame t (λ _. 1) a.few;
      most = λ q. omega arith;
      closed = r.closed;
      opened = a.opened;
      kind = inl (all_wide s from frame t (rounds s.settings s.journal + 1) new e);
      same = present_kept s from frame a.keeps;
      strained = strained_kept s from frame a.keeps;
      report = report_strains s from frame t border failed values r;
    }

pub lone_wide_fits : (s : StoryView) (from : Mon) (frame : Frame) → Turning s from frame → (border : ℤ) (failed : List ℕ) (values : List (ℕ × ℤ)) → IsFreshReport s.settings s.journal from frame border failed values → streak s.settings s.journal < 8
    → demanded s.settings s.journal from.0 frame ≡ wide_collects s.settings (rounds s.settings s.journal + 1 + 1) → LoneOpens s.settings.monitors from.0 (stops_count s.settings (mid s from frame)) (readings s) (readings (turned s from frame)) (λ _. 1)
lone_wide_fits s from frame t border failed values r few e =
    let new = new_round s from frame t 1 in
    let a = all_asked s from frame t (rounds s.settings s.journal + 1 + 1) new e in
    record {
      turn = turns_by s from frame t (λ _. 1) a.few;
      most = λ q. omega arith;
      closed = r.closed;
      few = few;
      opened = a.opened;
      wide = all_wide s from frame t (rounds s.settings s.journal + 1 + 1) new e;
      same = present_kept s from frame a.keeps;
      strained = strained_kept s from frame a.keeps;
      report = report_strains s from frame t border failed values r;
    }

pub end_over_fits : (s : StoryView) (from : Mon) (frame : Frame) → Turning s from frame → IsLastValues s.settings s.journal from frame → is_wide s.settings (with_got s.journal from frame) ≡ false
    → demanded s.settings s.journal from.0 frame ≡ wide_collects s.settings (rounds s.settings (with_got s.journal from frame) + 1) → OpensNext s.settings.monitors from.0 (stops_count s.settings (mid s from frame)) (readings s) (readings (turned s from frame)) (λ _. 1)
end_over_fits s from frame t v full e =
    let next = rounds s.settings (with_got s.journal from frame) + 1 in
    let new : last_round (with_got s.journal from frame) < next = (let b = (orderly_got s.settings s.journal from frame t.none t.order).counted.last in omega (arith, b)) in
    let a = all_asked s from frame t next new e in
    record {
      turn = turns_by s from frame t (λ _. 1) a.few;
      most = λ q. omega arith;
      was = v.opened;
      full = sym (wide_got s.settings s.journal from frame) ∙ full;
      opened = a.opened;
      wide = all_wide s from frame t next new e;
      same = present_kept s from frame a.keeps;
      strained = strained_kept s from frame a.keeps;
    }

-- ---- a full round

others_asked : (s : StoryView) (from : Mon) (frame : Frame) → Turning s from frame → (k round : ℕ) (asked : List ℕ) → s.settings.monitors ≡ suc k → (s.settings.monitors == 1) ≡ false → last_round (with_got s.journal from frame) < round
    → demanded s.settings s.journal from.0 frame ≡ collects round asked (filter (λ mon. not (mon == from.0)) (monitors s.settings)) → Asked s from frame
others_asked s from frame t zero round asked some lone new e = absurd (true≢false (sym (eq-eqb s.settings.monitors 1 some) ∙ lone))
others_asked s from frame t (suc k) round asked some lone new e =
    let others = others_of k from.0 in
    let list : filter (λ mon. not (mon == from.0)) (monitors s.settings) ≡ others.0 ∷ others.1 = ap (λ m. filter (λ mon. not (mon == from.0)) (range_with_len 1 m)) some ∙ others.2 in
    asked_by s from frame t round asked others.0 others.1 (other_monitor s.settings k from.0 some) (subst (λ xs. Rises 0 xs) others.2 (rises-filter (λ m. not (m == from.0)) 0 (range_with_len 1 (suc (suc k))) (range_rises (suc (suc k))))) new
    (e ∙ ap (λ xs. collects round asked xs) list)

pub full_fits : (s : StoryView) (from : Mon) (frame : Frame) → Turning s from frame → (border : ℤ) (failed : List ℕ) (values : List (ℕ × ℤ)) → IsFreshReport s.settings s.journal from frame border failed values
    → fails_at s.settings s.journal from.0 frame ≡ true → streak s.settings s.journal < 8 → (s.settings.monitors == 1) ≡ false
    → demanded s.settings s.journal from.0 frame ≡ collects (rounds s.settings s.journal + 1) (objects_of values) (filter (λ mon. not (mon == from.0)) (monitors s.settings))
    → Opens s.settings.monitors from.0 (stops_count s.settings (mid s from frame)) (readings s) (readings (turned s from frame)) (λ _. 1)
full_fits s from frame t border failed values r fails few lone e =
    let new : last_round (with_got s.journal from frame) < rounds s.settings s.journal + 1 = (let z = new_round s from frame t 0 in omega (arith, z)) in
    let a = others_asked s from frame t t.k (rounds s.settings s.journal + 1) (objects_of values) t.some lone new e in
    let j' = (turned s from frame).journal in
    let uncalm : is_calm s.settings j' ≡ false = false_from_ne_true (is_calm s.settings j') (λ calm. true≢false (sym a.opened ∙ calm_closed s.settings j' calm)) in
    record {
      turn = turns_by s from frame t (λ _. 1) a.few;
      most = λ q. omega arith;
      closed = r.closed;
      opened = a.opened;
      kind = inr (few, streak_turned s from frame t ∙ ap (λ b. if b then 0 else streak s.settings s.journal + (if fails_at s.settings s.journal from.0 frame then 1 else 0)) uncalm ∙ ap (λ b. streak s.settings s.journal + (if b then 1 else 0)) fails);
      same = present_kept s from frame a.keeps;
      strained = strained_kept s from frame a.keeps;
      report = report_strains s from frame t border failed values r;
    }
