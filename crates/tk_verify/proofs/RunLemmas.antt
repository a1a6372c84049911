-- Nodes that were driven over a record, and what they join to.
use Rattle.std.proofs.Common.{◌≡◌, ◌⊎◌, ℕ, suc, ◌+◌, ◌-◌, ◌≤◌, ◌<◌, List, [], ◌∷◌, ◌++◌, length, map, take, Option, Some, None, refl, sym, ap, ◌∙◌, subst, arith, inl, inr}
use Rattle.std.specs.Prelude.{slice_get, slice_index_or}
use Rattle.std.specs.Global.{Vec}
use Rattle.std.specs.List.{range_with_len}
use Rattle.std.specs.Option.{option_map}
use Rattle.std.proofs.lemmas.Option.{slice_get-map}
use Rattle.std.proofs.lemmas.Bool.{cases_lt}
use Rattle.std.proofs.lemmas.List.{length-append, length-map, map-append}
use Rattle.std.proofs.lemmas.Simd.{map-map}
use Rattle.std.proofs.lemmas.List.FromFn.{length-range_with_len}
use Rattle.tk_base.specs.Settings.{IsWithinLimits, Setup}
use Rattle.tk_base.proofs.ListLemmas.{take_next}
use Rattle.tk_coord.specs.Coordinator.{CoordinatorView}
use Rattle.tk_input.specs.Logs.{AreLogs, LogSet}
use Rattle.tk_border.proofs.RisingLemmas.{counted_more}
use Rattle.tk_journal.specs.Legal.{IsLegal, start}
use Rattle.tk_journal.specs.Readings.{monitors}
use Rattle.tk_journal.specs.declared.noted.Noted.{Noted}
use Rattle.tk_monitor.specs.Monitored.{MonitorView}
use Rattle.tk_trail.specs.Legal.{IsLegal as IsLegalTrail}
use Rattle.tk_trail.specs.declared.entry.Entry.{Entry}
use Rattle.tk_story.specs.Ends.{AreOfOneRun, KeptEnds, TellsDifference, as_made, joined, kept_by, made_for}
use Rattle.tk_story.specs.Story.{AreHistories, StoryView, setup_of, trail_of}
use Rattle.tk_story.specs.declared.ends.coord_end.CoordEnd.{CoordEnd}
use Rattle.tk_story.specs.declared.ends.join_fault.JoinFault.{JoinFault}
use Rattle.tk_story.specs.declared.ends.join_fault.JoinFault.TheVariants as j
use Rattle.tk_story.specs.declared.ends.mon_end.MonEnd.{MonEnd}
use Rattle.tk_story.specs.declared.ends.received.Received.{Received}
use Rattle.tk_story.proofs.JoiningLemmas.{at_map, opens_it}
use Rattle.tk_verify.specs.Driving.{Halts}
use Rattle.tk_verify.specs.Recorded.{Finds, links_of, recorded_from, trails_in}
use Rattle.tk_verify.specs.Verifying.{AreDriven, AreLegalTrails, is_found, is_unjoined}
use Rattle.tk_verify.specs.declared.finding.Finding.TheVariants as f
use Rattle.tk_verify.specs.declared.halt.Halt.{Halt}
use Rattle.tk_verify.specs.declared.halt.Halt.TheVariants as h

-- ---- the monitors, one after the other

pub one_longer : {X : Type 0} (xs : List X) (x : X) (all : List X) → all ≡ xs ++ x ∷ [] → length all ≡ length xs + 1
one_longer xs x all is = ap length is ∙ length-append xs (x ∷ [])

-- the end of one monitor more
pub ends_more : (done : List MonitorView) (ends : List MonEnd) (node : MonitorView) (end : MonEnd) (all : List MonEnd) → all ≡ ends ++ end ∷ [] → map (λ e. e.monitor) ends ≡ done → end.monitor ≡ node → map (λ e. e.monitor) all ≡ done ++ node ∷ []
ends_more done ends node end all is before here = ap (map (λ (e : MonEnd). e.monitor)) is ∙ map-append (λ (e : MonEnd). e.monitor) ends (end ∷ []) ∙ (λ i. before i ++ here i ∷ [])

pub odds_more : (done : List MonitorView) (ends : List MonEnd) (node : MonitorView) (end : MonEnd) (all : List MonEnd) → all ≡ ends ++ end ∷ [] → map (λ e. e.odd) ends ≡ map (λ m. None) done → end.odd ≡ None → map (λ e. e.odd) all ≡ map (λ m. None) (done ++ node ∷ [])
odds_more done ends node end all is before none =
    let no_odd : MonitorView → Option Received = λ m. None in
    ap (map (λ (e : MonEnd). e.odd)) is ∙ map-append (λ (e : MonEnd). e.odd) ends (end ∷ []) ∙ (λ i. before i ++ none i ∷ []) ∙ sym (map-append no_odd done (node ∷ []))

-- one monitor more
pub made_more : (settings : Setup) (logs : LogSet) (from : List (List ℕ)) (j : ℕ) (nodes : List MonitorView) (node : MonitorView) (all : List MonitorView) → all ≡ nodes ++ node ∷ [] → map as_made nodes ≡ map (made_for settings logs from) (range_with_len 1 j)
    → as_made node ≡ made_for settings logs from (j + 1) → map as_made all ≡ map (made_for settings logs from) (range_with_len 1 (j + 1))
made_more settings logs from j nodes node all is before here =
    ap (map as_made) is ∙ map-append as_made nodes (node ∷ []) ∙ (λ i. before i ++ here i ∷ []) ∙ sym (counted_more (made_for settings logs from) j)

pub trails_more : (trails : List (Vec Entry)) (j : ℕ) (trail : Vec Entry) (nodes : List MonitorView) (node : MonitorView) (all : List MonitorView) → all ≡ nodes ++ node ∷ [] → map (λ m. m.trail) nodes ≡ take j (trails_in trails)
    → slice_get trails j ≡ Some trail → node.trail ≡ trail.items → map (λ m. m.trail) all ≡ take (j + 1) (trails_in trails)
trails_more trails j trail nodes node all is before at here =
    let one : j + 1 ≡ suc j = omega arith in
    let there : slice_get (trails_in trails) j ≡ Some trail.items = slice_get-map (λ (t : Vec Entry). t.items) trails j ∙ ap (option_map (λ (t : Vec Entry). t.items)) at in
    ap (map (λ (m : MonitorView). m.trail)) is ∙ map-append (λ (m : MonitorView). m.trail) nodes (node ∷ []) ∙ (λ i. before i ++ here i ∷ []) ∙ sym (ap (λ k. take k (trails_in trails)) one ∙ take_next (trails_in trails) j trail.items there)

-- the trail of a monitor as it is recorded
pub trail_is : (trails : List (Vec Entry)) (j : ℕ) (trail : Vec Entry) → slice_get trails j ≡ Some trail → slice_index_or (trails_in trails) (j + 1 - 1) [] ≡ trail.items
trail_is trails j trail at = at_map (λ (t : Vec Entry). t.items) trails (j + 1 - 1) trail [] (ap (slice_get trails) (let e : j + 1 - 1 ≡ j = omega arith in e) ∙ at)

-- the trails of the first monitors are legal
abbrev pub AreLegalTo : ℕ → StoryView → Type 0
AreLegalTo n s = (mon : ℕ) → 1 ≤ mon → mon ≤ n → IsLegalTrail (setup_of s mon) (trail_of s mon)

pub legal_more : (s : StoryView) (n : ℕ) → AreLegalTo n s → IsLegalTrail (setup_of s (n + 1)) (trail_of s (n + 1)) → AreLegalTo (n + 1) s
legal_more s n before here = λ mon low high. elim (cases_lt mon (n + 1)) [
  | inl less ↦ before mon low (omega (arith, less))
  | inr not' ↦ let same : n + 1 ≡ mon = omega (arith, not', high) in subst (λ k. IsLegalTrail (setup_of s k) (trail_of s k)) same here
]

pub legal_all : (s : StoryView) (n : ℕ) → s.settings.monitors ≤ n → AreLegalTo n s → AreLegalTrails s
legal_all s n all before = λ mon m. let high = m.within in before mon m.from_one (omega (arith, high, all))

-- what is found where the driving over a trail halts
pub halts_trail : (s : StoryView) (n : ℕ) (halt : Halt) → n < s.settings.monitors → AreLegalTo n s → Halts (IsLegalTrail (setup_of s (n + 1))) (trail_of s (n + 1)) halt
    → (is_found (n + 1) halt ≡ f.NoMemory) ⊎ Finds s (is_found (n + 1) halt)
halts_trail s n (h.NotLegal place) less before fault = inr (record {
  from_one = omega arith;
  within = omega (arith, less);
  before = λ mon m earlier. before mon m.from_one (omega (arith, earlier));
  trail = λ _. fault;
  journal = λ is. absurd (omega (arith, is, less));
})
halts_trail s n h.NoMemory less before fault = inl refl

-- what is found where the driving over the journal halts
pub halts_journal : (s : StoryView) (halt : Halt) → AreLegalTrails s → Halts (IsLegal (start s.settings)) s.journal halt
    → (is_found (s.settings.monitors + 1) halt ≡ f.NoMemory) ⊎ Finds s (is_found (s.settings.monitors + 1) halt)
halts_journal s (h.NotLegal place) trails fault = inr (record {
  from_one = omega arith;
  within = omega arith;
  before = λ mon m earlier. trails mon m;
  trail = λ high. absurd (omega (arith, high));
  journal = λ _. fault;
})
halts_journal s h.NoMemory trails fault = inl refl

-- ---- the ends

made_of : (settings : Setup) (logs : LogSet) (from : List (List ℕ)) (nodes : List MonitorView) (ends : List MonEnd) → map (λ end. end.monitor) ends ≡ nodes
    → map as_made nodes ≡ map (made_for settings logs from) (monitors settings) → map (λ end. as_made end.monitor) ends ≡ map (made_for settings logs from) (monitors settings)
made_of settings logs from nodes ends same made = sym (map-map as_made (λ (end : MonEnd). end.monitor) ends) ∙ ap (map as_made) same ∙ made

trails_of : (nodes : List MonitorView) (ends : List MonEnd) → map (λ end. end.monitor) ends ≡ nodes → map (λ end. end.monitor.trail) ends ≡ map (λ m. m.trail) nodes
trails_of nodes ends same = sym (map-map (λ (m : MonitorView). m.trail) (λ (end : MonEnd). end.monitor) ends) ∙ ap (map (λ (m : MonitorView). m.trail)) same

pub one_run : (settings : Setup) (logs : LogSet) (from : List (List ℕ)) (coordinator : CoordinatorView) (nodes : List MonitorView) (end : CoordEnd) (ends : List MonEnd) → AreDriven settings logs from coordinator nodes
    → end.coordinator ≡ coordinator → map (λ end. end.monitor) ends ≡ nodes → AreOfOneRun end ends logs settings from
one_run settings logs from coordinator nodes end ends d same all = record {
  made = ap (λ (c : CoordinatorView). c.settings) same ∙ d.settings_is;
  begins = opens_it (start settings) end.coordinator.journal (subst (λ (c : CoordinatorView). IsLegal (start settings) c.journal) (sym same) d.legal);
  objects = d.agreed.objects;
  logged = d.agreed.monitors;
  starts = d.cut;
  monitors = made_of settings logs from nodes ends all d.made;
}

pub histories : (settings : Setup) (logs : LogSet) (from : List (List ℕ)) (coordinator : CoordinatorView) (nodes : List MonitorView) → AreDriven settings logs from coordinator nodes → IsWithinLimits settings → AreLogs logs
    → AreHistories (recorded_from from settings logs coordinator.journal (map (λ m. m.trail) nodes))
histories settings logs from coordinator nodes d limits are = record {
  limits = limits;
  logs = are;
  objects = d.agreed.objects;
  monitors = d.agreed.monitors;
  starts = d.cut;
  count =
      length-map nodes (λ (m : MonitorView). m.trail) ∙ sym (length-map nodes as_made) ∙ ap length d.made ∙ length-map (monitors settings) (made_for settings logs from)
      ∙ length-range_with_len 1 settings.monitors;
  journal_legal = d.legal;
  trails_legal = d.trails;
}

-- the ends that were kept are those of the record
pub kept_is : (settings : Setup) (logs : LogSet) (from : List (List ℕ)) (coordinator : CoordinatorView) (nodes : List MonitorView) (end : CoordEnd) (ends : List MonEnd) → coordinator.settings ≡ settings
    → end.coordinator ≡ coordinator → end.odd ≡ None → map (λ end. end.monitor) ends ≡ nodes → map (λ end. end.odd) ends ≡ map (λ m. None) nodes
    → kept_by end ends ≡ links_of (recorded_from from settings logs coordinator.journal (map (λ m. m.trail) nodes))
kept_is settings logs from coordinator nodes end ends made same none all odds =
    let own = ap (λ (c : CoordinatorView). c.settings) same ∙ made in
    let journal = ap (λ (c : CoordinatorView). c.journal) same in
    let trails = trails_of nodes ends all in
    let none_there : List Entry → Option Received = λ trail. None in
    let odd = odds ∙ sym (map-map none_there (λ (m : MonitorView). m.trail) nodes) in
    λ i. record { settings = own i; journal = journal i; odd = none i; trails = trails i; odds = odd i }

pub joined_is : (settings : Setup) (logs : LogSet) (from : List (List ℕ)) (coordinator : CoordinatorView) (nodes : List MonitorView) (ends : KeptEnds)
    → ends ≡ links_of (recorded_from from settings logs coordinator.journal (map (λ m. m.trail) nodes)) → joined ends logs from ≡ recorded_from from settings logs coordinator.journal (map (λ m. m.trail) nodes)
joined_is settings logs from coordinator nodes ends is = ap (λ (k : KeptEnds). joined k logs from) is

pub unordered : (s : StoryView) (fault : JoinFault) → AreHistories s → TellsDifference (links_of s) fault → (is_unjoined fault ≡ f.NoMemory) ⊎ Finds s (is_unjoined fault)
unordered s (j.Differs difference) are first = inr (record { histories = are; sent = difference.sent; received = difference.received; first = first })
unordered s j.NoMemory are first = inl refl

-- ---- what was driven is what was recorded

pub recorded_same : (from : List (List ℕ)) (settings : Setup) (logs : LogSet) (a b : List Noted) (x y : List (List Entry)) → a ≡ b → x ≡ y → recorded_from from settings logs a x ≡ recorded_from from settings logs b y
recorded_same from settings logs a b x y journal trails = λ i. recorded_from from settings logs (journal i) (trails i)
