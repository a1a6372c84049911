-- What is found of a record: one thing at most, and nothing of a story that came to its end.
use Rattle.std.proofs.Common.{◌≡◌, ℕ, zero, suc, ◌+◌, ◌-◌, ◌≤◌, ◌<◌, true, false, List, [], ◌∷◌, length, map, fold, Option, Some, None, refl, sym, ap, ◌∙◌, subst, arith, inl, inr}
use Rattle.std.specs.Prelude.{slice_get, slice_index_or}
use Rattle.std.proofs.lemmas.Option.{slice_get_within}
use Rattle.std.proofs.lemmas.Bool.{cases_Bool, cases_lt, true≢false}
use Rattle.tk_base.specs.History.{last_of}
use Rattle.tk_base.specs.declared.ids.Mon.{Mon}
use Rattle.tk_journal.specs.Laws.{AreNotLast}
use Rattle.tk_journal.specs.Legal.{IsLegal, start}
use Rattle.tk_journal.specs.Links.{frames_from, frames_to}
use Rattle.tk_journal.specs.Publishing.{publications, stops}
use Rattle.tk_journal.specs.Readings.{is_stopped}
use Rattle.tk_journal.specs.declared.publication.Publication.{Publication}
use Rattle.tk_journal.proofs.Ended.{legal_ends}
use Rattle.tk_journal.proofs.LawLemmas.{one_less}
use Rattle.tk_trail.specs.Legal.{IsLegal as IsLegalTrail}
use Rattle.tk_trail.specs.Readings.{sent_by, taken_by}
use Rattle.tk_trail.specs.declared.entry.Entry.{Entry}
use Rattle.tk_story.specs.Ends.{AreOrdered, IsOrdered, down_link, link_at}
use Rattle.tk_story.specs.Story.{IsStory, StoryView, setup_of, trail_of}
use Rattle.tk_story.specs.declared.ends.difference.Direction.{Direction}
use Rattle.tk_story.specs.declared.ends.difference.Direction.TheVariants.{UpLink, DownLink}
use Rattle.tk_story.specs.declared.ends.received.Received.{Received}
use Rattle.tk_story.specs.declared.ends.received.Received.TheVariants as r
use Rattle.tk_story.proofs.EndsLemmas.{front_maps}
use Rattle.tk_story.proofs.KeptLemmas.{never_both, one_first}
use Rattle.tk_story.proofs.PublishedLemmas.{IsPublished, last_is_full, published_holds}
use Rattle.tk_story.specs.Headline.{ReachesItsEnd}
use Rattle.tk_verify.specs.Recorded.{Finds, IsFirstFaultOf, IsFirstUnordered, is_final, links_of}
use Rattle.tk_verify.specs.Verifying.{AreLegalTrails}
use Rattle.tk_verify.specs.declared.finding.Finding.{Finding}
use Rattle.tk_verify.specs.declared.finding.Finding.TheVariants as f
use Rattle.tk_verify.proofs.FrontLemmas.{legal_has_none, one_fault}

-- ---- parts

-- where all trails and the journal are legal, no part has a fault
no_fault : (s : StoryView) (part place : ℕ) → AreLegalTrails s → IsLegal (start s.settings) s.journal → IsFirstFaultOf s part place → ⊥
no_fault s part place trails journal fault = elim (cases_lt s.settings.monitors part) [
  | inl past ↦ let w = fault.within in legal_has_none (IsLegal (start s.settings)) s.journal place journal (fault.journal (omega (arith, w, past)))
  | inr not' ↦
      let low = fault.from_one in
      let high : part ≤ s.settings.monitors = omega (arith, not') in
      legal_has_none (IsLegalTrail (setup_of s part)) (trail_of s part) place (trails part (record { from_one = low; within = high })) (fault.trail high)
]

not_earlier : (s : StoryView) (p q x y : ℕ) → IsFirstFaultOf s p x → IsFirstFaultOf s q y → p < q → ⊥
not_earlier s p q x y a b less =
    let low = a.from_one in
    let w = b.within in
    let high : p ≤ s.settings.monitors = omega (arith, w, less) in
    legal_has_none (IsLegalTrail (setup_of s p)) (trail_of s p) x (b.before p (record { from_one = low; within = high }) less) (a.trail high)

one_part : (s : StoryView) (p q x y : ℕ) → IsFirstFaultOf s p x → IsFirstFaultOf s q y → p ≡ q
one_part s p q x y a b = elim (cases_lt p q) [
  | inl less ↦ absurd (not_earlier s p q x y a b less)
  | inr not' ↦ elim (cases_lt q p) [
    | inl less ↦ absurd (not_earlier s q p y x b a less)
    | inr neither ↦ omega (arith, not', neither)
  ]
]

one_place : (s : StoryView) (p x y : ℕ) → IsFirstFaultOf s p x → IsFirstFaultOf s p y → x ≡ y
one_place s p x y a b = elim (cases_lt s.settings.monitors p) [
  | inl past ↦
      let w = a.within in
      let is : p ≡ s.settings.monitors + 1 = omega (arith, w, past) in
      one_fault (IsLegal (start s.settings)) s.journal x y (a.journal is) (b.journal is)
  | inr not' ↦
      let high : p ≤ s.settings.monitors = omega (arith, not') in
      one_fault (IsLegalTrail (setup_of s p)) (trail_of s p) x y (a.trail high) (b.trail high)
]

same_fault : (s : StoryView) (p q x y : ℕ) → IsFirstFaultOf s p x → IsFirstFaultOf s q y → f.NotLegal p x ≡ f.NotLegal q y
same_fault s p q x y a b =
    let part = one_part s p q x y a b in
    let place = one_place s q x y (subst (λ k. IsFirstFaultOf s k x) part a) b in
    λ i. f.NotLegal (part i) (place i)

-- ---- links

none_at : (trails : List (List Entry)) (k : ℕ) → slice_index_or {A = Option Received} (map (λ trail. None) trails) k None ≡ None
none_at [] k = refl
none_at (trail ∷ trails) zero = refl
none_at (trail ∷ trails) (suc k) = none_at trails k

-- the links of a story are ordered
story_ordered : (s : StoryView) → IsStory s → AreOrdered (links_of s)
story_ordered s h = λ mon direction m. ordered mon direction (h.links mon m) where
  ordered : (mon : ℕ) (direction : Direction) → Rattle.tk_story.specs.Links.IsOrderedLink s.journal mon (trail_of s mon) → IsOrdered (link_at (links_of s) mon direction)
  ordered mon UpLink link = front_maps r.Frame (frames_from mon s.journal) (sent_by (trail_of s mon)) link.up
  ordered mon DownLink link =
      subst (λ odd. IsOrdered (down_link mon s.journal (trail_of s mon) odd)) (sym (none_at s.trails (mon - 1)))
      (front_maps r.Frame (taken_by (trail_of s mon)) (frames_to mon s.journal) link.down)

no_unordered : (s : StoryView) (mon : ℕ) (direction : Direction) (place : ℕ) → IsStory s → IsFirstUnordered s mon direction place → ⊥
no_unordered s mon direction place h found = never_both (links_of s) (story_ordered s h) (record {
  mon = mon;
  direction = direction;
  place = place;
  sent = found.sent;
  received = found.received;
  first = found.first;
})

same_link : (s : StoryView) (m n : Mon) (d c : Direction) (x y : ℕ) → IsFirstUnordered s m.0 d x → IsFirstUnordered s n.0 c y → f.Links m d x ≡ f.Links n c y
same_link s m n d c x y a b =
    let one = one_first (links_of s) m.0 n.0 d c x y a.sent b.sent a.received b.received a.first b.first in
    let mon = one.0 in
    let way = one.1 in
    let place = one.2 in
    λ i. f.Links (record { 0 = mon i }) (way i) (place i)

-- ---- one finding

pub one_found : (s : StoryView) (a b : Finding) → Finds s a → Finds s b → a ≡ b
one_found s (f.NotLegal p x) (f.NotLegal q y) a b = same_fault s p q x y a b
one_found s (f.NotLegal p x) (f.Links m d y) a b = absurd (no_fault s p x b.histories.trails_legal b.histories.journal_legal a)
one_found s (f.NotLegal p x) f.NotFinal a b = absurd (no_fault s p x b.story.trails_legal b.story.journal_legal a)
one_found s (f.NotLegal p x) f.NoMemory a b = absurd b
one_found s (f.Links m d x) (f.NotLegal q y) a b = absurd (no_fault s q y a.histories.trails_legal a.histories.journal_legal b)
one_found s (f.Links m d x) (f.Links n c y) a b = same_link s m n d c x y a b
one_found s (f.Links m d x) f.NotFinal a b = absurd (no_unordered s m.0 d x b.story a)
one_found s (f.Links m d x) f.NoMemory a b = absurd b
one_found s f.NotFinal (f.NotLegal q y) a b = absurd (no_fault s q y a.story.trails_legal a.story.journal_legal b)
one_found s f.NotFinal (f.Links n c y) a b = absurd (no_unordered s n.0 c y a.story b)
one_found s f.NotFinal f.NotFinal a b = refl
one_found s f.NotFinal f.NoMemory a b = absurd b
one_found s f.NoMemory b a c = absurd a

pub none_found : (s : StoryView) (a : Finding) → Finds s a → IsStory s → is_final (last_of (publications s.journal)) ≡ true → ⊥
none_found s (f.NotLegal p x) a h final = no_fault s p x h.trails_legal h.journal_legal a
none_found s (f.Links m d x) a h final = no_unordered s m.0 d x h a
none_found s f.NotFinal a h final = true≢false (sym final ∙ a.last)
none_found s f.NoMemory a h final = a

-- ---- the end of a run

none_final : (from : Option Publication) (ps : List Publication) → is_final from ≡ false → AreNotLast ps → is_final (fold (λ _ p. Some p) from ps) ≡ false
none_final from [] first each = first
none_final from (p ∷ ps) first each = none_final (Some p) ps each.0 each.1

last_from : (from : Option Publication) (ps : List Publication) (i : ℕ) (p : Publication) → slice_get ps i ≡ Some p → suc i ≡ length ps → fold (λ _ q. Some q) from ps ≡ Some p
last_from from [] i p at size = absurd (cc)
last_from from (q ∷ []) zero p at size = at
last_from from (q ∷ x ∷ ps) zero p at size = absurd (omega (arith, size))
last_from from (q ∷ ps) (suc i) p at size = last_from (Some q) ps i p at (omega (arith, size))

-- the last of some publications, by its place
pub last_is : (ps : List Publication) (count : ℕ) (p : Publication) → count ≡ length ps → slice_get ps (count - 1) ≡ Some p → p.last ≡ is_final (last_of ps)
last_is ps count p size at =
    let within = slice_get_within ps (count - 1) p at in
    sym (ap is_final (last_from None ps (count - 1) p at (omega (arith, size, within))))

pub finished : (s : StoryView) → IsStory s → is_final (last_of (publications s.journal)) ≡ true → ReachesItsEnd s
finished s h final =
    let k = one_less s.settings.monitors h.limits.some_monitor in
    let e = legal_ends (start s.settings) k.0 k.1 s.journal h.journal_legal in
    elim (cases_Bool (is_stopped s.journal)) [
      | inl stopped ↦
          let end = e.ended stopped in
          let at : IsPublished s end.final = record { before = end.front; after = stops s.settings; is = end.is } in
          record {
            front = end.front;
            final = end.final;
            is = end.is;
            last = end.last;
            cut = last_is_full s h end.final at end.last;
            valid = published_holds s h end.final at;
          }
      | inr going ↦ absurd (true≢false (sym final ∙ none_final None (publications s.journal) refl (e.going going)))
    ]
