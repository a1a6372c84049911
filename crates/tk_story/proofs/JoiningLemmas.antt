-- Ends joined to a story: looking at all links, and what makes the lists of ends a story.
use Rattle.std.proofs.Common.{◌≡◌, ℕ, zero, suc, ◌+◌, ◌-◌, ◌≤◌, ◌<◌, List, [], ◌∷◌, ◌++◌, length, take, map, Option, Some, None, refl, sym, ap, ◌∙◌, subst, arith, inl, inr}
use Rattle.std.specs.Prelude.{Err, filter_map, slice_get, slice_index_or}
use Rattle.std.specs.List.{enumerate_from, range_with_len}
use Rattle.std.specs.Option.{option_map}
use Rattle.std.proofs.lemmas.Bool.{cases_lt}
use Rattle.std.proofs.lemmas.List.{length-append, length-map, length-replicate, take-map, append-nil, append_assoc}
use Rattle.std.proofs.lemmas.List.FromFn.{get_or-range_with_len, length-enumerate_from, length-range_with_len}
use Rattle.std.proofs.lemmas.Option.{get_or_from_slice_get, slice_get-get_or, slice_get-map, same_Some}
use Rattle.std.proofs.Math.Seq.{take-append_seam}
use Rattle.tk_base.specs.History.{IsFront}
use Rattle.tk_base.specs.Settings.{IsWithinLimits, Setup}
use Rattle.tk_base.specs.declared.ids.Mon.{Mon}
use Rattle.tk_coord.specs.Coordinator.{IsJournal}
use Rattle.tk_frames.specs.declared.frame.Frame.{Frame}
use Rattle.tk_input.specs.Logs.{AreLogs, LogSet}
use Rattle.tk_journal.specs.Laws.{IsMonitor}
use Rattle.tk_journal.specs.Legal.{AreAccepted, IsLegal, Opening, inputs_of, opened, played_from, start, turn_of}
use Rattle.tk_journal.specs.Readings.{monitors}
use Rattle.tk_journal.specs.declared.noted.Noted.{Noted}
use Rattle.tk_journal.proofs.WholeLemmas.{by_turns}
use Rattle.tk_monitor.specs.Monitored.{MonitorView}
use Rattle.tk_trail.specs.Legal.{IsLegal as IsLegalTrail}
use Rattle.tk_journal.specs.Links.{frames_from, frames_to}
use Rattle.tk_trail.specs.Readings.{sent_by, taken_by}
use Rattle.tk_trail.specs.declared.entry.Entry.{Entry}
use Rattle.tk_story.specs.Comparing.{AreTrailsLegal, Finds}
use Rattle.tk_story.specs.Ends.{AreOfOneRun, AreOrdered, IsBefore, IsFirstOfAll, IsOrdered, KeptEnds, TellsDifference, as_made, down_link, joined, kept_by, link_at, made_for, odd_at, odd_from, trail_at, up_link, with_odd}
use Rattle.tk_story.specs.Story.{AreHistories, IsStory, setup_of, trail_of}
use Rattle.tk_story.specs.declared.ends.coord_end.CoordEnd.{CoordEnd}
use Rattle.tk_story.specs.declared.ends.difference.Direction.{Direction}
use Rattle.tk_story.specs.declared.ends.difference.Direction.TheVariants.{UpLink, DownLink}
use Rattle.tk_story.specs.declared.ends.join_fault.JoinFault.{JoinFault}
use Rattle.tk_story.specs.declared.ends.join_fault.JoinFault.TheVariants.{Differs, NoMemory}
use Rattle.tk_story.specs.declared.ends.mon_end.MonEnd.{MonEnd}
use Rattle.tk_story.specs.declared.ends.received.Received.{Received}
use Rattle.tk_story.specs.declared.ends.received.Received.TheVariants as r
use Rattle.tk_story.proofs.JoinLemmas.{Rest}

-- ---- looking at the links of one monitor after the other

-- the links of the first j monitors are ordered
abbrev pub AreBefore : KeptEnds → ℕ → Type 0
AreBefore ends j = (m : ℕ) (d : Direction) → 1 ≤ m → m ≤ j → IsOrdered (link_at ends m d)

pub none_before : (ends : KeptEnds) → AreBefore ends 0
none_before ends = λ m d low high. absurd (omega (arith, low, high))

pub before_more : (ends : KeptEnds) (j : ℕ) → IsOrdered (link_at ends (j + 1) UpLink) → IsOrdered (link_at ends (j + 1) DownLink) → AreBefore ends j → AreBefore ends (j + 1)
before_more ends j up down before = λ m d low high. elim (cases_lt m (j + 1)) [
  | inl less ↦ before m d low (omega (arith, less))
  | inr not' ↦ let same : j + 1 ≡ m = omega (arith, not', high) in subst (λ k. IsOrdered (link_at ends k d)) same (both d)
] where
  both : (d : Direction) → IsOrdered (link_at ends (j + 1) d)
  both UpLink = up
  both DownLink = down

pub all_ordered : (ends : KeptEnds) (j : ℕ) → ends.settings.monitors ≤ j → AreBefore ends j → AreOrdered ends
all_ordered ends j many before = λ mon d is. let high = is.within in before mon d is.from_one (omega (arith, high, many))

pub less_before_up : (m j : ℕ) (d : Direction) → IsBefore m d (j + 1) UpLink → m ≤ j
less_before_up m j UpLink less = omega (arith, less)
less_before_up m j DownLink less = omega (arith, less)

pub ordered_before_down : (ends : KeptEnds) (j m : ℕ) (d : Direction) → IsOrdered (link_at ends (j + 1) UpLink) → AreBefore ends j → 1 ≤ m → IsBefore m d (j + 1) DownLink → IsOrdered (link_at ends m d)
ordered_before_down ends j m DownLink up before low less = before m DownLink low (omega (arith, less))
ordered_before_down ends j m UpLink up before low less = elim (cases_lt m (j + 1)) [
  | inl lower ↦ before m UpLink low (omega (arith, lower))
  | inr not' ↦ let same : j + 1 ≡ m = omega (arith, not', less) in subst (λ k. IsOrdered (link_at ends k UpLink)) same up
]

pub tells_up : (ends : KeptEnds) (j : ℕ) (mon : Mon) (fault : JoinFault) → mon.0 ≡ j + 1 → j < ends.settings.monitors → AreBefore ends j → Finds mon UpLink (link_at ends (j + 1) UpLink) (Err fault) → TellsDifference ends fault
tells_up ends j mon NoMemory is few before finds = tt
tells_up ends j mon (Differs found) is few before finds =
    let number : found.mon.0 ≡ j + 1 = ap (λ (x : Mon). x.0) finds.0 ∙ is in
    subst (λ k. IsFirstOfAll ends k found.direction found.place found.sent found.received) (sym number) (subst (λ x. IsFirstOfAll ends (j + 1) x found.place found.sent found.received) (sym finds.1) (record {
      monitor = record { from_one = omega arith; within = omega (arith, few) };
      here = finds.2;
      before = λ k x one less. before k x one.from_one (less_before_up k j x less);
    }))

pub tells_down : (ends : KeptEnds) (j : ℕ) (mon : Mon) (fault : JoinFault) → mon.0 ≡ j + 1 → j < ends.settings.monitors → IsOrdered (link_at ends (j + 1) UpLink) → AreBefore ends j
    → Finds mon DownLink (link_at ends (j + 1) DownLink) (Err fault) → TellsDifference ends fault
tells_down ends j mon NoMemory is few up before finds = tt
tells_down ends j mon (Differs found) is few up before finds =
    let number : found.mon.0 ≡ j + 1 = ap (λ (x : Mon). x.0) finds.0 ∙ is in
    subst (λ k. IsFirstOfAll ends k found.direction found.place found.sent found.received) (sym number) (subst (λ x. IsFirstOfAll ends (j + 1) x found.place found.sent found.received) (sym finds.1) (record {
      monitor = record { from_one = omega arith; within = omega (arith, few) };
      here = finds.2;
      before = λ k x one less. ordered_before_down ends j k x up before one.from_one less;
    }))

-- ---- the lists of ends, at one monitor

pub at_map : {A B : Type 0} (f : A → B) (xs : List A) (k : ℕ) (x : A) (d : B) → slice_get xs k ≡ Some x → slice_index_or (map f xs) k d ≡ f x
at_map f xs k x d e = get_or_from_slice_get (map f xs) k (f x) d (slice_get-map f xs k ∙ ap (option_map f) e)

below_one : {A : Type 0} (xs : List A) (j : ℕ) (x : A) → slice_get xs j ≡ Some x → slice_get xs (j + 1 - 1) ≡ Some x
below_one xs j x at = ap (slice_get xs) (let e : j + 1 - 1 ≡ j = omega arith in e) ∙ at

pub up_of : (coordinator : CoordEnd) (ends : List MonEnd) (j : ℕ) (end : MonEnd) → slice_get ends j ≡ Some end
    → up_link (j + 1) coordinator.coordinator.journal coordinator.odd end.monitor.trail ≡ link_at (kept_by coordinator ends) (j + 1) UpLink
up_of coordinator ends j end at =
    ap (up_link (j + 1) coordinator.coordinator.journal coordinator.odd) (sym (at_map (λ (e : MonEnd). e.monitor.trail) ends (j + 1 - 1) end [] (below_one ends j end at)))

pub down_of : (coordinator : CoordEnd) (ends : List MonEnd) (j : ℕ) (end : MonEnd) → slice_get ends j ≡ Some end
    → down_link (j + 1) coordinator.coordinator.journal end.monitor.trail end.odd ≡ link_at (kept_by coordinator ends) (j + 1) DownLink
down_of coordinator ends j end at =
    let trail = sym (at_map (λ (e : MonEnd). e.monitor.trail) ends (j + 1 - 1) end [] (below_one ends j end at)) in
    let odd = sym (at_map (λ (e : MonEnd). e.odd) ends (j + 1 - 1) end None (below_one ends j end at)) in
    λ i. down_link (j + 1) coordinator.coordinator.journal (trail i) (odd i)

-- ---- fronts of what was received

pub take-all : {A : Type 0} (xs : List A) → take (length xs) xs ≡ xs
take-all [] = refl
take-all (x ∷ xs) = ap (λ ys. x ∷ ys) (take-all xs)

pub take_less : {A : Type 0} (k n : ℕ) (xs : List A) → k ≤ n → take k (take n xs) ≡ take k xs
take_less zero n xs less = refl
take_less (suc k) zero xs less = absurd (omega (arith, less))
take_less (suc k) (suc n) [] less = refl
take_less (suc k) (suc n) (x ∷ xs) less = ap (λ ys. x ∷ ys) (take_less k n xs (omega (arith, less)))

read_frame : Received → Option Frame
read_frame (r.Frame frame) = Some frame
read_frame (r.Bytes bytes) = None

read_back : (xs : List Frame) → filter_map read_frame (map r.Frame xs) ≡ xs
unfolding read_frame
read_back [] = refl
read_back (x ∷ xs) = ap (λ ys. x ∷ ys) (read_back xs)

pub frames_same : (xs ys : List Frame) → map r.Frame xs ≡ map r.Frame ys → xs ≡ ys
frames_same xs ys e = sym (read_back xs) ∙ ap (filter_map read_frame) e ∙ read_back ys

-- what was taken is a front of what was sent, where what is odd with it is
pub front_of_ordered : (frames sent : List Frame) (odd : Option Received) → IsFront (with_odd frames odd) (map r.Frame sent) → IsFront frames sent
front_of_ordered frames sent odd h = record { is = frames_same frames (take (length frames) sent) (taken frames odd h.is ∙ take-map r.Frame (length frames) sent) } where
  first : (frames : List Frame) (odd : Option Received) → take (length frames) (with_odd frames odd) ≡ map r.Frame frames
  first frames None = ap (λ k. take k (map r.Frame frames)) (sym (length-map frames r.Frame)) ∙ take-all (map r.Frame frames)
  first frames (Some odd) = ap (λ k. take k (map r.Frame frames ++ odd ∷ [])) (sym (length-map frames r.Frame)) ∙ take-append_seam (map r.Frame frames) (odd ∷ [])

  longer : (frames : List Frame) (odd : Option Received) → length frames ≤ length (with_odd frames odd)
  longer frames None = (let l = length-map frames r.Frame in omega (arith, l))
  longer frames (Some odd) = (let l = length-map frames r.Frame in let a = length-append (map r.Frame frames) (odd ∷ []) in omega (arith, l, a))

  taken : (frames : List Frame) (odd : Option Received) → with_odd frames odd ≡ take (length (with_odd frames odd)) (map r.Frame sent) → map r.Frame frames ≡ take (length frames) (map r.Frame sent)
  taken frames odd is = sym (first frames odd) ∙ ap (take (length frames)) is ∙ take_less (length frames) (length (with_odd frames odd)) (map r.Frame sent) (longer frames odd)

-- ---- the opening

opens : (o : Opening) (j : List Noted) → IsLegal o j → Rest (opened o) j
opens o j legal =
    by_turns o (Rest (opened o)) (λ before input accepted fine h. record { rest = h.rest ++ turn_of o.settings before input; is = ap (λ xs. xs ++ turn_of o.settings before input) h.is ∙ append_assoc (opened o) h.rest (turn_of o.settings before input) })
    (record { rest = []; is = sym (append-nil (opened o)) }) j legal

pub opens_it : (o : Opening) (j : List Noted) → IsLegal o j → IsFront (opened o) j
opens_it o j legal = let whole = opens o j legal in record { is = sym (ap (take (length (opened o))) whole.is ∙ take-append_seam (opened o) whole.rest) }

opened_length : (o : Opening) → length (opened o) ≡ length o.factors
opened_length o = length-map (enumerate_from 1 o.factors) _ ∙ length-enumerate_from 1 o.factors

-- a journal from some opening with these settings that begins with the start is legal from the start
pub from_the_start : (s : Setup) (j : List Noted) → IsJournal s j → IsFront (opened (start s)) j → IsLegal (start s) j
from_the_start s j kept front =
    let o = kept.opening in
    let size : length (opened o) ≡ length (opened (start s)) =
    opened_length o ∙ kept.set_up.factors ∙ ap (λ (x : Setup). x.monitors) kept.settings ∙ sym (length-replicate s.monitors []) ∙ sym (opened_length (start s)) in
    let whole = opens o j kept.legal in
    let same : opened o ≡ opened (start s) =
    sym (take-append_seam (opened o) whole.rest) ∙ ap (take (length (opened o))) (sym whole.is) ∙ ap (λ k. take k j) size ∙ sym front.is in
    let played : j ≡ played_from s (opened (start s)) (inputs_of j) = kept.legal.played ∙ (λ i. played_from (kept.settings i) (same i) (inputs_of j)) in
    record { played = played; accepted = subst (λ xs. AreAccepted s xs (inputs_of j)) same (subst (λ x. AreAccepted x (opened o) (inputs_of j)) kept.settings kept.legal.accepted) }

-- ---- the lists of ends are those of a story

pub record There {A : Type 0} (xs : List A) (k : ℕ) : Type 0 where
  pub it : A
  pub is : slice_get xs k ≡ Some it

pub there : {A : Type 0} (xs : List A) (k : ℕ) → k < length xs → There xs k
there [] k less = absurd (omega (arith, less))
there (x ∷ xs) zero less = record { it = x; is = refl }
there (x ∷ xs) (suc k) less = let h = there xs k (omega (arith, less)) in record { it = h.it; is = h.is }

number_at : (m k : ℕ) → k < m → slice_get (range_with_len 1 m) k ≡ Some (1 + k)
number_at m k less = slice_get-get_or (range_with_len 1 m) k 0 (let l = length-range_with_len 1 m in omega (arith, l, less)) ∙ ap Some (get_or-range_with_len 1 m k 0 less)

made_at : (ends : List MonEnd) (logs : LogSet) (settings : Setup) (from : List (List ℕ)) (k : ℕ) (end : MonEnd) → map (λ e. as_made e.monitor) ends ≡ map (made_for settings logs from) (monitors settings)
    → k < settings.monitors → slice_get ends k ≡ Some end → as_made end.monitor ≡ made_for settings logs from (1 + k)
made_at ends logs settings from k end is few at =
    same_Some (as_made end.monitor) (made_for settings logs from (1 + k)) (
    sym (slice_get-map (λ (e : MonEnd). as_made e.monitor) ends k ∙ ap (option_map (λ (e : MonEnd). as_made e.monitor)) at)
    ∙ ap (λ xs. slice_get xs k) is
    ∙ slice_get-map (made_for settings logs from) (monitors settings) k ∙ ap (option_map (made_for settings logs from)) (number_at settings.monitors k few))

pub record EndOf (coordinator : CoordEnd) (ends : List MonEnd) (logs : LogSet) (from : List (List ℕ)) (mon : ℕ) : Type 0 where
  pub at : There ends (mon - 1)
  pub setup : at.it.monitor.setup ≡ setup_of (joined (kept_by coordinator ends) logs from) mon
  pub trail : at.it.monitor.trail ≡ trail_of (joined (kept_by coordinator ends) logs from) mon

pub ends_count : (ends : List MonEnd) (logs : LogSet) (settings : Setup) (from : List (List ℕ)) → map (λ e. as_made e.monitor) ends ≡ map (made_for settings logs from) (monitors settings) → length ends ≡ settings.monitors
ends_count ends logs settings from is =
    sym (length-map ends (λ (e : MonEnd). as_made e.monitor)) ∙ ap length is ∙ length-map (monitors settings) (made_for settings logs from) ∙ length-range_with_len 1 settings.monitors

pub end_of : (coordinator : CoordEnd) (ends : List MonEnd) (logs : LogSet) (from : List (List ℕ)) (mon : ℕ) → map (λ e. as_made e.monitor) ends ≡ map (made_for coordinator.coordinator.settings logs from) (monitors coordinator.coordinator.settings)
    → IsMonitor coordinator.coordinator.settings mon → EndOf coordinator ends logs from mon
end_of coordinator ends logs from mon is m =
    let settings = coordinator.coordinator.settings in
    let low = m.from_one in
    let high = m.within in
    let few : mon - 1 < settings.monitors = omega (arith, low, high) in
    let at = there ends (mon - 1) (let l = ends_count ends logs settings from is in omega (arith, l, few)) in
    let number : 1 + (mon - 1) ≡ mon = omega (arith, low) in
    record {
      at = at;
      setup = ap (λ (v : MonitorView). v.setup) (made_at ends logs settings from (mon - 1) at.it is few at.is) ∙ ap (λ k. (made_for settings logs from k).setup) number;
      trail = sym (at_map (λ (e : MonEnd). e.monitor.trail) ends (mon - 1) at.it [] at.is);
    }

pub are_histories : (coordinator : CoordEnd) (ends : List MonEnd) (logs : LogSet) (settings : Setup) (from : List (List ℕ)) → AreOfOneRun coordinator ends logs settings from → IsWithinLimits settings → AreLogs logs
    → IsJournal coordinator.coordinator.settings coordinator.coordinator.journal → AreTrailsLegal ends → AreHistories (joined (kept_by coordinator ends) logs from)
are_histories coordinator ends logs settings from given limits are journal legal =
    let h = subst (λ x. AreOfOneRun coordinator ends logs x from) (sym given.made) given in
    record {
      limits = subst IsWithinLimits (sym given.made) limits;
      logs = are;
      objects = h.objects;
      monitors = h.logged;
      starts = h.starts;
      count = length-map ends (λ (e : MonEnd). e.monitor.trail) ∙ ends_count ends logs coordinator.coordinator.settings from h.monitors;
      journal_legal = from_the_start coordinator.coordinator.settings coordinator.coordinator.journal journal h.begins;
      trails_legal = λ mon m.
          let e = end_of coordinator ends logs from mon h.monitors m in
          subst (λ t. IsLegalTrail (setup_of (joined (kept_by coordinator ends) logs from) mon) t) e.trail (subst (λ u. IsLegalTrail u e.at.it.monitor.trail) e.setup (legal (mon - 1) e.at.it e.at.is));
    }

pub ordered_is_story : (ends : KeptEnds) (logs : LogSet) (from : List (List ℕ)) → AreHistories (joined ends logs from) → AreOrdered ends → IsStory (joined ends logs from)
ordered_is_story ends logs from h ordered = record {
  limits = h.limits;
  logs = h.logs;
  objects = h.objects;
  monitors = h.monitors;
  starts = h.starts;
  count = h.count;
  journal_legal = h.journal_legal;
  trails_legal = h.trails_legal;
  links = λ mon m. record {
    down = front_of_ordered (taken_by (trail_at ends mon)) (frames_to mon ends.journal) (odd_at ends mon) (ordered mon DownLink m);
    up = front_of_ordered (frames_from mon ends.journal) (sent_by (trail_at ends mon)) (odd_from mon ends.odd) (ordered mon UpLink m);
  };
}

pub as_story : (settings : Setup) (coordinator : CoordEnd) (ends : List MonEnd) (logs : LogSet) (from : List (List ℕ)) (trails : List (List Entry)) → coordinator.coordinator.settings ≡ settings
    → trails ≡ map (λ e. e.monitor.trail) ends → IsStory (joined (kept_by coordinator ends) logs from)
    → IsStory (record { settings = settings; logs = logs; from = from; journal = coordinator.coordinator.journal; trails = trails })
as_story settings coordinator ends logs from trails made same story =
    let is : joined (kept_by coordinator ends) logs from ≡ record { settings = settings; logs = logs; from = from; journal = coordinator.coordinator.journal; trails = trails } =
    λ i. record { settings = made i; logs = logs; from = from; journal = coordinator.coordinator.journal; trails = sym same i } in
    subst IsStory is story
