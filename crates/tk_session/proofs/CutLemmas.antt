-- A story ends at a cut of its logs, and no place is below that from which it began.
use Rattle.std.proofs.Common.{◌≡◌, ℕ, ◌+◌, ◌-◌, ◌<◌, ◌≤◌, List, [], ◌++◌, length, get_or, refl, sym, ap, ◌∙◌, subst, arith, inl, inr}
use Rattle.std.specs.Prelude.{slice_index}
use Rattle.std.proofs.lemmas.Bool.{cases_lt}
use Rattle.std.proofs.lemmas.List.{get_or_past}
use Rattle.std.proofs.lemmas.List.FromFn.{get_or-map-range_with_len, length-map-range_with_len}
use Rattle.tk_base.specs.Settings.{Setup}
use Rattle.tk_input.specs.Logs.{ArePlaces, IsCut, LogSet}
use Rattle.tk_journal.specs.Laws.{IsMonitor}
use Rattle.tk_trail.specs.Legal.{IsLegal}
use Rattle.tk_trail.specs.Readings.{places_at}
use Rattle.tk_trail.specs.Setup.{MonitorSetup}
use Rattle.tk_trail.specs.declared.entry.Entry.{Entry}
use Rattle.tk_story.specs.Moments.{cut_of}
use Rattle.tk_story.specs.Story.{IsStory, StoryView, setup_of, trail_of}
use Rattle.tk_world.specs.World.{CanRun}
use Rattle.tk_session.specs.Chain.{NoPlaceFalls}
use Rattle.tk_trail.proofs.PlacesLemmas.{places_at-start}

-- ---- the laws of trails that are used

abbrev pub PlacesStayWithin : Type 0
PlacesStayWithin = (setup : MonitorSetup) (trail : List Entry) → ArePlaces setup.parts setup.from → IsLegal setup trail → ArePlaces setup.parts (places_at setup trail)

abbrev pub PlacesNeverFall : Type 0
PlacesNeverFall = (setup : MonitorSetup) (before after : List Entry) (i : ℕ) → slice_index (places_at setup before) i ≤ slice_index (places_at setup (before ++ after)) i

-- ---- the places of a monitor in a cut

places : StoryView → ℕ → List ℕ
places s mon = places_at (setup_of s mon) (trail_of s mon)

long : (s : StoryView) → length (cut_of s) ≡ s.settings.monitors
unfolding cut_of
long s = length-map-range_with_len (λ mon. places_at (setup_of s mon) (trail_of s mon)) 1 s.settings.monitors

here : (s : StoryView) (j : ℕ) → j < s.settings.monitors → get_or (cut_of s) j [] ≡ places s (j + 1)
unfolding cut_of places
here s j within = get_or-map-range_with_len (λ mon. places_at (setup_of s mon) (trail_of s mon)) 1 s.settings.monitors j (j + 1) [] within (omega arith)

is_monitor : (s : StoryView) (j : ℕ) → j < s.settings.monitors → IsMonitor s.settings (j + 1)
is_monitor s j within = record { from_one = omega arith; within = omega (arith, within) }

-- ---- a cut

none_there : ArePlaces [] []
none_there = record { shape = refl; within = λ f. omega arith }

place_here : PlacesStayWithin → (s : StoryView) → IsStory s → (j : ℕ) → j < s.settings.monitors → ArePlaces (get_or s.logs.logs j []) (places s (j + 1))
unfolding places
place_here stay s h j within =
    let back : (j + 1) - 1 ≡ j = omega arith in
    subst (λ (i : ℕ). ArePlaces (get_or s.logs.logs i []) (places_at (setup_of s (j + 1)) (trail_of s (j + 1)))) back
    (stay (setup_of s (j + 1)) (trail_of s (j + 1)) (h.starts.each ((j + 1) - 1)) (h.trails_legal (j + 1) (is_monitor s j within)))

pub story_ends_at_a_cut : PlacesStayWithin → (s : StoryView) → IsStory s → IsCut s.logs.logs (cut_of s)
story_ends_at_a_cut stay s h = record {
  shape = long s ∙ sym h.monitors;
  each = λ j. elim (cases_lt j s.settings.monitors) [
    | inl within ↦ subst (λ (ps : List ℕ). ArePlaces (get_or s.logs.logs j []) ps) (sym (here s j within)) (place_here stay s h j within)
    | inr past ↦
        let cut_past = get_or_past (cut_of s) j [] (let l = long s in omega (arith, l, past)) in
        let logs_past = get_or_past s.logs.logs j [] (let l = h.monitors in omega (arith, l, past)) in
        subst (λ ps. ArePlaces (get_or s.logs.logs j []) ps) (sym cut_past) (subst (λ parts. ArePlaces parts []) (sym logs_past) none_there)
  ];
}

-- ---- no place falls

place_rises : PlacesNeverFall → (s : StoryView) (mon f : ℕ) → get_or (setup_of s mon).from f 0 ≤ get_or (places s mon) f 0
unfolding places
place_rises rise s mon f = subst (λ ps. get_or ps f 0 ≤ get_or (places_at (setup_of s mon) (trail_of s mon)) f 0) (places_at-start (setup_of s mon)) (rise (setup_of s mon) [] (trail_of s mon) f)

pub no_place_falls_within : PlacesNeverFall → (s : StoryView) → IsStory s → NoPlaceFalls s.from (cut_of s)
no_place_falls_within rise s h j f = elim (cases_lt j s.settings.monitors) [
  | inl within ↦
      let back : (j + 1) - 1 ≡ j = omega arith in
      subst (λ (ps : List ℕ). get_or (get_or s.from j []) f 0 ≤ get_or ps f 0) (sym (here s j within))
      (subst (λ (i : ℕ). get_or (get_or s.from i []) f 0 ≤ get_or (places s (j + 1)) f 0) back (place_rises rise s (j + 1) f))
  | inr past ↦
      let from_past : get_or s.from j [] ≡ [] = get_or_past s.from j [] (let l = h.starts.shape in let m = h.monitors in omega (arith, l, m, past)) in
      subst (λ (ps : List ℕ). get_or ps f 0 ≤ get_or (get_or (cut_of s) j []) f 0) (sym from_past) (omega arith)
]

-- ---- where a story ends another world can begin

pub can_run : (s : StoryView) (settings : Setup) (logs : LogSet) (from : List (List ℕ)) → settings ≡ s.settings → logs ≡ s.logs → from ≡ cut_of s → IsStory s → IsCut s.logs.logs (cut_of s) → CanRun settings logs from
can_run s settings logs from a b at h cut = record {
  objects = ap (λ (l : LogSet). l.objects) b ∙ h.objects ∙ sym (ap (λ (z : Setup). z.objects) a);
  monitors = ap (λ (l : LogSet). length l.logs) b ∙ h.monitors ∙ sym (ap (λ (z : Setup). z.monitors) a);
  starts = subst (λ (l : LogSet). IsCut l.logs from) (sym b) (subst (λ (f : List (List ℕ)). IsCut s.logs.logs f) (sym at) cut);
}
