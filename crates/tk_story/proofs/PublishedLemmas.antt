-- A published set holds at its cut, and the last one at the full cut.
use Rattle.tk_frames.specs.declared.frame.Frame.TheVariants as f
use Rattle.tk_journal.specs.declared.noted.Noted.TheVariants as n
use Rattle.std.proofs.Common.{◌≡◌, ℕ, suc, zero, ◌+◌, ◌≤◌, ◌<◌, ℤ, true, false, List, [], ◌∷◌, ◌++◌, length, map, get_or, Contains, Some, refl, sym, ap, ◌∙◌, subst, arith, append_assoc}
use Rattle.std.specs.Prelude.{filter_map}
use Rattle.std.specs.List.{range_with_len}
use Rattle.std.proofs.lemmas.Int.{ints}
use Rattle.std.proofs.lemmas.List.Elements.{filter_map-append}
use Rattle.tk_base.specs.History.{EachFrom}
use Rattle.tk_base.proofs.HistoryLemmas.{each_at}
use Rattle.tk_frames.specs.Assigns.{Assign, assign_in}
use Rattle.tk_input.specs.Logs.{ArePlaces, IsCut, full_cut, parts_of, places_of, value, value_of}
use Rattle.tk_journal.specs.Laws.{IsMonitor}
use Rattle.tk_journal.specs.Legal.{Opening, start}
use Rattle.tk_journal.specs.Links.{frames_to}
use Rattle.tk_journal.specs.Publishing.{is_last, publication_at}
use Rattle.tk_journal.specs.Readings.{Progress, answer_of, assigns_sent, assigns_to, in_force, members_at as members_at_journal, settled_of}
use Rattle.tk_journal.specs.declared.noted.Noted.{Noted}
use Rattle.tk_journal.specs.declared.publication.Publication.{Publication}
use Rattle.tk_journal.proofs.Answering.{answer_fresh}
use Rattle.tk_journal.proofs.Appends.{assigns_to-append}
use Rattle.tk_story.specs.Links.{IsJoined}
use Rattle.tk_journal.proofs.HeardLemmas.{answer_was_got}
use Rattle.tk_story.proofs.JoinLemmas.{carried_seq, rest_of}
use Rattle.tk_trail.specs.Setup.{MonitorSetup}
use Rattle.tk_trail.specs.Legal.{Allowed}
use Rattle.tk_trail.specs.Readings.{assigns_of, at_ends, is_broken, places_at, taken_by, value_of_object}
use Rattle.tk_trail.specs.declared.entry.Entry.{Entry}
use Rattle.tk_trail.specs.declared.entry.Entry.TheVariants.{Sent}
use Rattle.tk_trail.proofs.LawLemmas.{assigns_of-append}
use Rattle.tk_trail.proofs.LegalLemmas.{legal_places}
use Rattle.tk_journal.specs.Sending.{IsPublishable, IsSaidWell}
use Rattle.tk_input.specs.Logs.{IsValid}
use Rattle.tk_story.specs.Story.{IsStory, StoryView, setup_of, trail_of}
use Rattle.tk_story.proofs.DownLemmas.{got_there, settled_seq}
use Rattle.tk_journal.proofs.ProgressLemmas.{settled_is, cut_by, places_by, said_by, said_is, cut_said}
use Rattle.tk_trail.proofs.OrderLemmas.{in_order}
use Rattle.tk_story.proofs.QuietLemmas.{cut_is, joined, level_by, members_by, starts_at}
use Rattle.tk_trail.proofs.SaysLemmas.{ends_are, front_each, sent_where, settled_says}
use Rattle.tk_journal.proofs.SendLemmas.{calm_settled, due_calm, last_settled}
use Rattle.tk_journal.proofs.SendTurns.{legal_well}
use Rattle.tk_journal.proofs.StartLemmas.{start_set_up}
use Rattle.tk_story.proofs.TotalLemmas.{holds_by}

-- ---- two fronts of one list that are as long are the same

pub fronts_same : (xs ys a b : List Assign) → xs ++ a ≡ ys ++ b → length xs ≡ length ys → xs ≡ ys
fronts_same [] [] a b is long = refl
fronts_same [] (y ∷ ys) a b is long = absurd (omega (arith, long))
fronts_same (x ∷ xs) [] a b is long = absurd (omega (arith, long))
fronts_same (x ∷ xs) (y ∷ ys) a b is long =
    let head : x ≡ y = cc in
    let tail : xs ++ a ≡ ys ++ b = cc in
    ap (λ z. z ∷ xs) head ∙ ap (λ zs. y ∷ zs) (fronts_same xs ys a b tail (omega (arith, long)))

-- ---- where a current Settled stands in the trail

pub record SettledAt (setup : MonitorSetup) (trail : List Entry) (a : List Noted) (mon : ℕ) (p : Progress) : Type 0 where
  pub x : List Entry
  pub rest : List Entry
  pub is : trail ≡ x ++ rest
  pub each : EachFrom (Allowed setup) [] x
  pub assigns : assigns_of x ≡ assigns_to mon a
  pub calm : is_broken setup x ≡ false
  pub places : p.places ≡ places_at setup x
  pub last : p.last ≡ at_ends setup x

pub settled_there : (o : Opening) (a b : List Noted) (mon : ℕ) (setup : MonitorSetup) (trail : List Entry) (p : Progress) → IsJoined o (a ++ b) mon setup trail → settled_of mon a ≡ Some p → SettledAt setup trail a mon p
unfolding assigns_sent
settled_there o a b mon setup trail p h is =
    let at = settled_is (answer_of mon a) p is in
    let g = f.Settled at.0 p.last p.places in
    let number = settled_seq at.0 (assigns_sent mon a) p.last p.places (answer_fresh mon a g at.1) in
    let s = got_there o a b mon setup trail g h.up (answer_was_got mon a g at.1) in
    let carried = carried_seq setup trail g at.0 h.ways s refl in
    let said = settled_says setup s.before at.0 p.last p.places (sent_where setup trail s.before s.after g h.ways s.is) in
    let r = rest_of (taken_by trail) (frames_to mon (a ++ b)) h.down in
    let parts : assigns_of s.before ++ (assigns_of (Sent g ∷ s.after) ++ filter_map assign_in r.rest) ≡ assigns_to mon a ++ assigns_to mon b =
    sym (append_assoc (assigns_of s.before) (assigns_of (Sent g ∷ s.after)) (filter_map assign_in r.rest))
    ∙ ap (λ xs. xs ++ filter_map assign_in r.rest) (sym (ap assigns_of s.is ∙ assigns_of-append s.before (Sent g ∷ s.after)))
    ∙ sym (ap (filter_map assign_in) r.is ∙ filter_map-append assign_in (taken_by trail) r.rest)
    ∙ assigns_to-append mon a b in
    record {
      x = s.before;
      rest = Sent g ∷ s.after;
      is = s.is;
      each = front_each setup trail s.before (Sent g ∷ s.after) h.ways s.is;
      assigns = fronts_same (assigns_of s.before) (assigns_to mon a) (assigns_of (Sent g ∷ s.after) ++ filter_map assign_in r.rest) (assigns_to mon b) parts (sym (sym number ∙ carried));
      calm = said.calm;
      places = said.places_is;
      last = said.last_is;
    }

-- ---- the cut of a publication

-- ---- a publication of a story

pub record IsPublished (s : StoryView) (p : Publication) : Type 0 where
  pub before : List Noted
  pub after : List Noted
  pub is : s.journal ≡ before ++ n.Published p ∷ after

pub said_well : (s : StoryView) → IsStory s → (p : Publication) → (at : IsPublished s p) → IsPublishable s.settings at.before p
said_well s h p at =
    each_at (IsSaidWell s.settings) [] at.before (n.Published p) at.after
    (subst (λ xs. EachFrom (IsSaidWell s.settings) [] xs) at.is (legal_well (start s.settings) s.journal (start_set_up s.settings h.limits) h.journal_legal).each)

-- each monitor's current Settled, where it stands in its trail
pub spoken : (s : StoryView) → IsStory s → (p : Publication) → (at : IsPublished s p) → (mon : ℕ) → IsMonitor s.settings mon → (q : Progress) → settled_of mon at.before ≡ Some q → SettledAt (setup_of s mon) (trail_of s mon) at.before mon q
spoken s h p at mon m q is =
    settled_there (start s.settings) at.before (n.Published p ∷ at.after) mon (setup_of s mon) (trail_of s mon) q
    (subst (λ xs. IsJoined (start s.settings) xs mon (setup_of s mon) (trail_of s mon)) at.is (joined s h mon m)) is

pub published_holds : (s : StoryView) → IsStory s → (p : Publication) → (at : IsPublished s p) → IsValid s.logs.logs s.settings.objects p.k p.epsilon p.cut p.members
unfolding value_of_object
published_holds s h p at =
    let set = s.settings in
    let a = at.before in
    let logs = s.logs.logs in
    let m = set.monitors in
    let w = said_well s h p at in
    let calm = due_calm set a w.due in
    let places : ℕ → List ℕ = λ mon. said_by mon a in
    let cut = cut_by m places in
    let is : IsCut logs cut = cut_is logs m places h.monitors (λ mon low high.
    let r : IsMonitor set mon = record { from_one = low; within = high } in
    let q = calm_settled set a mon calm r in
    let there = spoken s h p at mon r q.0 q.1 in
    subst (λ (xs : List ℕ). ArePlaces (parts_of logs mon) xs) (sym (said_is mon a q.0 q.1 ∙ there.places)) (legal_places (setup_of s mon) (starts_at s h mon) there.x there.each)) in
    let holds = holds_by set logs a cut h.monitors is w.stands (λ t o mon in' out t_of o_of r.
    let setup = setup_of s mon in
    let q = calm_settled set a mon calm r in
    let there = spoken s h p at mon r q.0 q.1 in
    let named = members_by set there.x a mon there.assigns (w.stands.named mon r) in
    let levels = in_order setup there.x t o there.calm (subst (λ ms. Contains ms t) (sym named) in') (λ found. out (subst (λ ms. Contains ms o) named found)) t_of.from_one t_of.within o_of.from_one o_of.within in
    let of_t = level_by setup there.x a mon t there.assigns in
    let of_o = level_by setup there.x a mon o there.assigns in
    let here : places_of cut mon ≡ places_at setup there.x = places_by m places mon r.from_one r.within ∙ said_is mon a q.0 q.1 ∙ there.places in
    let value_t : value logs mon t cut ≡ value_of_object setup there.x t = ap (λ ps. value_of setup.parts ps t) here in
    let value_o : value logs mon o cut ≡ value_of_object setup there.x o = ap (λ ps. value_of setup.parts ps o) here in
    omega (arith, ints, levels, of_t, of_o, value_t, value_o)) in
    let here : IsValid logs set.objects (publication_at set a).k (publication_at set a).epsilon (publication_at set a).cut (publication_at set a).members =
    subst (λ c. IsValid logs set.objects (in_force set a).k (in_force set a).epsilon c (members_at_journal a)) (sym (cut_said set a calm)) holds in
    subst (λ (q : Publication). IsValid logs set.objects q.k q.epsilon q.cut q.members) (sym w.says) here

-- ---- the last one is at the full cut

same_map : (g h : ℕ → List ℕ) (a k : ℕ) → ((mon : ℕ) → a ≤ mon → mon < a + k → g mon ≡ h mon) → map g (range_with_len a k) ≡ map h (range_with_len a k)
same_map g h a zero each = refl
same_map g h a (suc k) each =
    ap (λ z. z ∷ map g (range_with_len (a + 1) k)) (each a (omega arith) (omega arith)) ∙ ap (λ zs. h a ∷ zs) (same_map g h (a + 1) k (λ mon low high. each mon (omega (arith, low)) (omega (arith, high))))

listed : (logs : List (List (List (ℕ × ℤ)))) (a : ℕ) (h : ℕ → List ℕ) → ((i : ℕ) → i < length logs → h (a + i) ≡ map length (get_or logs i [])) → map h (range_with_len a (length logs)) ≡ map (λ parts. map length parts) logs
listed [] a h each = refl
listed (parts ∷ logs) a h each =
    ap (λ z. z ∷ map h (range_with_len (a + 1) (length logs))) (ap h (omega arith) ∙ each 0 (omega arith))
    ∙ ap (λ zs. map length parts ∷ zs) (listed logs (a + 1) h (λ i below. ap h (omega arith) ∙ each (suc i) (omega (arith, below))))

pub last_is_full : (s : StoryView) → IsStory s → (p : Publication) → IsPublished s p → p.last ≡ true → p.cut ≡ full_cut s.logs.logs
last_is_full s h p at last =
    let set = s.settings in
    let a = at.before in
    let logs = s.logs.logs in
    let m = set.monitors in
    let w = said_well s h p at in
    let calm = due_calm set a w.due in
    let ends : is_last set a ≡ true = sym (ap (λ (q : Publication). q.last) w.says) ∙ last in
    let each : (mon : ℕ) → 1 ≤ mon → mon ≤ m → said_by mon a ≡ map length (parts_of logs mon) = λ mon low high.
    let r : IsMonitor set mon = record { from_one = low; within = high } in
    let q = calm_settled set a mon calm r in
    let there = spoken s h p at mon r q.0 q.1 in
    said_is mon a q.0 q.1 ∙ there.places ∙ ends_are (setup_of s mon) there.x (starts_at s h mon).shape (sym there.last ∙ last_settled set a mon q.0 ends r q.1) in
    ap (λ (q : Publication). q.cut) w.says
    ∙ cut_said set a calm
    ∙ same_map (λ mon. said_by mon a) (λ mon. map length (parts_of logs mon)) 1 m (λ mon low high. each mon low (omega (arith, high)))
    ∙ ap (λ k. map (λ mon. map length (parts_of logs mon)) (range_with_len 1 k)) (sym h.monitors)
    ∙ listed logs 1 (λ mon. map length (parts_of logs mon)) (λ i below. ap (λ (q : ℕ). map length (get_or logs q [])) (omega arith))
