-- Histories of processes are a story, whether or not they have ended.
use Rattle.std.proofs.Common.{◌≡◌, ℕ, suc, zero, ◌+◌, ◌-◌, ◌≤◌, ℤ, List, [], ◌∷◌, ◌++◌, length, map, take, get_or, inl, inr, refl, sym, ap, ◌∙◌, subst, arith}
use Rattle.std.proofs.lemmas.Bool.{cases_lt}
use Rattle.std.proofs.lemmas.List.{get_or_past}
use Rattle.tk_base.specs.History.{IsFront}
use Rattle.tk_frames.specs.declared.frame.Frame.{Frame}
use Rattle.tk_frames.specs.declared.frame.Frame.TheVariants as f
use Rattle.tk_input.specs.Logs.{IsValid, places_of}
use Rattle.tk_journal.specs.Laws.{IsMonitor}
use Rattle.tk_journal.specs.Links.{frames_from, frames_to}
use Rattle.tk_journal.specs.declared.noted.Noted.{Noted}
use Rattle.tk_journal.specs.declared.noted.Noted.TheVariants as n
use Rattle.tk_journal.specs.declared.publication.Publication.{Publication}
use Rattle.tk_journal.proofs.ProgressLemmas.{cut_by, cut_said, places_by, said_by, said_is}
use Rattle.tk_journal.proofs.SendLemmas.{calm_settled, due_calm}
use Rattle.tk_trail.specs.Readings.{places_at, sent_by, taken_by}
use Rattle.tk_trail.specs.declared.entry.Entry.{Entry}
use Rattle.tk_trail.proofs.PlacesLemmas.{places_at-start}
use Rattle.tk_trail.proofs.SlackLemmas.{places_rise}
use Rattle.tk_story.specs.Links.{IsOrderedLink}
use Rattle.tk_story.specs.Moments.{IsPublishedValid}
use Rattle.tk_story.specs.Story.{IsStory, StoryView, setup_of, trail_of}
use Rattle.tk_story.proofs.PublishedLemmas.{IsPublished, published_holds, said_well, spoken}
use Rattle.tk_compact.specs.Standing.{StandForLogs, all_behind, cut_moved, ends_of}
use Rattle.tk_compact.proofs.StandingLemmas.{valid_moves}
use Rattle.tk_apart.specs.Connected.{AreConnected, IsConnected, IsConnection}
use Rattle.tk_apart.proofs.CarriedLemmas.{carried_front, front_behind, front_of_front}

-- a connection is an ordered link
connection_ordered : (run : ℕ) (journal : List Noted) (mon : ℕ) (trail : List Entry) → IsConnection run journal mon trail → IsOrderedLink journal mon trail
connection_ordered run journal mon trail c =
    let hello : Frame = f.Hello run c.version (record { 0 = mon }) in
    let up = carried_front c.version (hello ∷ take c.written_up (sent_by trail)) (hello ∷ frames_from mon journal) c.up in
    let down = carried_front c.version (take c.written_down (frames_to mon journal)) (taken_by trail) c.down in
    record {
      down = front_of_front c.written_down (taken_by trail) (frames_to mon journal) down;
      up = front_of_front c.written_up (frames_from mon journal) (sent_by trail) (front_behind hello hello (frames_from mon journal) (take c.written_up (sent_by trail)) up);
    }

none_front : {A : Type 0} (xs ys : List A) → xs ≡ [] → IsFront xs ys
none_front xs ys none = record { is = none ∙ ap (λ k. take k ys) (sym (ap (λ zs. length zs) none)) }

connected_ordered : (run : ℕ) (journal : List Noted) (mon : ℕ) (trail : List Entry) → IsConnected run journal mon trail → IsOrderedLink journal mon trail
connected_ordered run journal mon trail (inl c) = connection_ordered run journal mon trail c
connected_ordered run journal mon trail (inr none) = record {
  down = none_front (taken_by trail) (frames_to mon journal) none.1;
  up = none_front (frames_from mon journal) (sent_by trail) none.0;
}

pub connected_story : (s : StoryView) (run : ℕ) → AreConnected s run → IsStory s
connected_story s run h = record {
  limits = h.histories.limits;
  logs = h.histories.logs;
  objects = h.histories.objects;
  monitors = h.histories.monitors;
  starts = h.histories.starts;
  count = h.histories.count;
  journal_legal = h.histories.journal_legal;
  trails_legal = h.histories.trails_legal;
  links = λ mon m. connected_ordered run s.journal mon (trail_of s mon) (h.each mon m);
}

pub published_valid : (s : StoryView) (run : ℕ) (before after : List Noted) (p : Publication) → AreConnected s run → s.journal ≡ before ++ n.Published p ∷ after → IsPublishedValid s p
published_valid s run before after p h is = published_holds s (connected_story s run h) p (record { before = before; after = after; is = is })

-- ---- the cut of a publication

-- where a place of the cut stands in the trail
record CutAt (s : StoryView) (p : Publication) (mon : ℕ) : Type 0 where
  front : List Entry
  places : places_of p.cut mon ≡ places_at (setup_of s mon) front

cut_at : (s : StoryView) → IsStory s → (p : Publication) → IsPublished s p → (mon : ℕ) → IsMonitor s.settings mon → CutAt s p mon
cut_at s h p at mon r =
    let set = s.settings in
    let a = at.before in
    let m = set.monitors in
    let w = said_well s h p at in
    let calm = due_calm set a w.due in
    let q = calm_settled set a mon calm r in
    let there = spoken s h p at mon r q.0 q.1 in
    let cut : p.cut ≡ cut_by m (λ (j : ℕ). said_by j a) = ap (λ (x : Publication). x.cut) w.says ∙ cut_said set a calm in
    record {
      front = there.x;
      places = ap (λ (c : List (List ℕ)). places_of c mon) cut ∙ places_by m (λ (j : ℕ). said_by j a) mon r.from_one r.within ∙ said_is mon a q.0 q.1 ∙ there.places;
    }

pub behind_start : (s : StoryView) (run : ℕ) (before after : List Noted) (p : Publication) (j i : ℕ) → AreConnected s run → s.journal ≡ before ++ n.Published p ∷ after → get_or (get_or s.from j []) i 0 ≤ get_or (get_or p.cut j []) i 0
behind_start s run before after p j i h is =
    elim (cases_lt j s.settings.monitors) [
      | inl within ↦
          let c = cut_at s (connected_story s run h) p (record { before = before; after = after; is = is }) (j + 1) (record { from_one = omega arith; within = omega (arith, within) }) in
          let start = ap (λ (ps : List ℕ). get_or ps i 0) (places_at-start (setup_of s (j + 1))) in
          let rise = (places_rise (setup_of s (j + 1)) [] c.front).each i in
          let place = ap (λ (ps : List ℕ). get_or ps i 0) c.places in
          let e : (j + 1) - 1 ≡ j = omega arith in
          let from : get_or (get_or s.from ((j + 1) - 1) []) i 0 ≡ get_or (get_or s.from j []) i 0 = ap (λ (k : ℕ). get_or (get_or s.from k []) i 0) e in
          let cut : get_or (get_or p.cut ((j + 1) - 1) []) i 0 ≡ get_or (get_or p.cut j []) i 0 = ap (λ (k : ℕ). get_or (get_or p.cut k []) i 0) e in
          omega (arith, start, rise, place, from, cut)
      | inr past ↦
          let long : length s.from ≤ j = omega (arith, past, h.histories.starts.shape, h.histories.monitors) in
          let none : get_or (get_or s.from j []) i 0 ≡ 0 = ap (λ (ps : List ℕ). get_or ps i 0) (get_or_past s.from j [] long) ∙ refl in
          omega (arith, none)
    ]

-- ---- over the true logs

from_of : (bases : List (List (List (ℕ × ℤ)))) (j i : ℕ) → get_or (ends_of (get_or bases j [])) i 0 ≡ get_or (get_or (map ends_of bases) j []) i 0
from_of [] j i = refl
from_of (b ∷ bases) zero i = refl
from_of (b ∷ bases) (suc j) i = from_of bases j i

pub valid_over_true_logs : (s : StoryView) (run : ℕ) (bases logs more : List (List (List (ℕ × ℤ)))) (before after : List Noted) (p : Publication) → AreConnected s run → s.journal ≡ before ++ n.Published p ∷ after → StandForLogs bases logs more → s.logs.logs ≡ all_behind bases more → s.from ≡ map ends_of bases → IsValid (all_behind logs more) s.settings.objects p.k p.epsilon (cut_moved bases logs p.cut) p.members
valid_over_true_logs s run bases logs more before after p h is stand session started =
    valid_moves bases logs more s.settings.objects p.k p.epsilon p.cut p.members stand
    (λ j i.
    let low = behind_start s run before after p j i h is in
    let a = from_of bases j i in
    let b = ap (λ (c : List (List ℕ)). get_or (get_or c j []) i 0) started in
    omega (arith, low, a, b))
    (subst (λ (ls : List (List (List (ℕ × ℤ)))). IsValid ls s.settings.objects p.k p.epsilon p.cut p.members) session (published_valid s run before after p h is))
