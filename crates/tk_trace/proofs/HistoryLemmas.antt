-- The readers of journals and trails are exact.
use Rattle.std.proofs.Common.{◌≡◌, ℕ, suc, ◌<◌, ◌≤◌, ◌^◌, ℤ, Bool, eqb, All, List, [], ◌∷◌, ◌++◌, length, Some, refl, sym, ap, subst, ◌∙◌, append_assoc, arith, inl, inr}
use Rattle.std.specs.List.{AllZip, flat_map}
use Rattle.std.proofs.lemmas.List.Elements.{All-head, All-tail}
use Rattle.std.proofs.lemmas.Bool.{eqb-true}
use Rattle.tk_frames.specs.declared.frame.Frame.{Frame}
use Rattle.tk_frames.specs.Reading.{Found, ◌>>=◌, as_at}
use Rattle.std.specs.Prelude.{⊤}
use Rattle.tk_base.specs.Objects.{IsOneOf}
use Rattle.tk_frames.specs.Spelling.{ArePlaces, IsSet, spelling}
use Rattle.tk_frames.proofs.BytesLemmas.{IsBytes}
use Rattle.tk_frames.proofs.ExactLemmas.{IsExact, exact_as, exact_both, left_fits}
use Rattle.tk_frames.proofs.Steps.{bind_some, some_is}
use Rattle.tk_frames.proofs.FieldLemmas.{exact_flag}
use Rattle.tk_journal.specs.declared.noted.Noted.{Noted}
use Rattle.tk_journal.specs.declared.noted.Noted.TheVariants as n
use Rattle.tk_journal.specs.declared.publication.Publication.{Publication}
use Rattle.tk_trail.specs.declared.entry.Entry.{Entry}
use Rattle.tk_trail.specs.declared.entry.Entry.TheVariants as e
use Rattle.tk_trace.specs.Reading.{entry_at, got, journal_at, link_at, noted_at, publication_at, published, raised, said, sent, told, took, trail_at, trails_at, tuned}
use Rattle.tk_trace.specs.Spelling.{IsEntry, IsEpsilon, IsFrame, IsNoted, IsPublication, IsTrail, counted, entry, noted, number, publication, trail}
use Rattle.tk_trace.proofs.ExactLemmas.{exact_behind, exact_number, exact_times, made_from, one_way}
use Rattle.tk_trace.proofs.FieldLemmas.{exact_bounds, exact_one_of, exact_places, exact_set}
use Rattle.tk_trace.proofs.FrameLemmas.{exact_frame}

-- ---- entries of the journal

pub exact_link : (monitors : ℕ) → monitors ≤ 64 → IsExact (λ (x : ℕ × Frame). IsOneOf monitors x.0 × IsFrame x.1) (λ x. number 4 x.0 ++ spelling 1 x.1) (link_at monitors)
unfolding link_at
exact_link monitors few = exact_both (exact_one_of 4 monitors (omega (arith, few))) exact_frame

-- the fields of a publication, as they are read
abbrev unpublished : Publication → ℕ × (Bool × ((ℕ × ℤ) × (List ℕ × List (List ℕ))))
unpublished p = (p.number, (p.last, ((p.k, p.epsilon), (p.members, p.cut))))

abbrev AreFields : ℕ → ℕ × (Bool × ((ℕ × ℤ) × (List ℕ × List (List ℕ)))) → Type 0
AreFields monitors x = (x.0 < 256 ^ 8) × (⊤ × (((x.1.1.0.0 < 2 ^ 32) × IsEpsilon x.1.1.0.1) × (IsSet x.1.1.1.0 × ((length x.1.1.1.1 ≡ monitors) × All ArePlaces x.1.1.1.1))))

made : (monitors : ℕ) (x : ℕ × (Bool × ((ℕ × ℤ) × (List ℕ × List (List ℕ))))) → AreFields monitors x → IsPublication monitors (published x) × (unpublished (published x) ≡ x)
made monitors (number, (last, ((k, epsilon), (members, cut)))) (few, (any, ((small, is), (set, (each, places))))) =
    (record { number = few; k = small; epsilon = is; members = set; monitors = each; places = places }, refl)

unmade : (monitors : ℕ) (p : Publication) → IsPublication monitors p → AreFields monitors (unpublished p) × (published (unpublished p) ≡ p)
unmade monitors p is = ((is.number, (tt, ((is.k, is.epsilon), (is.members, (is.monitors, is.places))))), refl)

pub exact_publication : (monitors : ℕ) → IsExact (IsPublication monitors) publication (publication_at monitors)
unfolding publication_at
exact_publication monitors = exact_as published unpublished (made monitors) (unmade monitors)
    (exact_both (exact_number 8) (exact_both exact_flag (exact_both exact_bounds (exact_both exact_set (exact_times monitors exact_places)))))

-- what is read behind the byte of a kind
behind_kind : {X Y : Type 0} {Fact : X → Type 0} {spell : X → List ℕ} {read : List ℕ → Found X} (exact : IsExact Fact spell read) (make : X → Y) (Other : Y → Type 0) (text : Y → List ℕ) (kind : ℕ)
    → ((x : X) → Fact x → Other (make x)) → ((x : X) → text (make x) ≡ kind ∷ spell x)
    → (bytes : List ℕ) (y : Y) (rest : List ℕ) → IsBytes bytes → as_at make read bytes ≡ Some (y, rest) → (kind ∷ bytes ≡ text y ++ rest) × Other y
behind_kind {spell = spell} {read = read} exact make Other text kind holds is bytes y rest fits e =
    let m = made_from make read bytes y rest e in
    let t = exact.takes bytes m.0 rest fits m.1 in
    subst (λ y. (kind ∷ bytes ≡ text y ++ rest) × Other y) m.2
    (ap (λ (b : List ℕ). kind ∷ b) t.0 ∙ ap (λ (b : List ℕ). b ++ rest) (sym (is m.0)), holds m.0 t.1)

-- and what is spelled so is read
again_made : {X Y : Type 0} {Fact : X → Type 0} {spell : X → List ℕ} {read : List ℕ → Found X} (exact : IsExact Fact spell read) (make : X → Y) (x : X) (rest : List ℕ) → Fact x → as_at make read (spell x ++ rest) ≡ Some (make x, rest)
again_made exact make x rest fact = ap (λ r. r >>= λ x. Some (make x.0, x.1)) (exact.again x rest fact)

noted_takes : (monitors : ℕ) → monitors ≤ 64 → (bytes : List ℕ) (x : Noted) (rest : List ℕ) → IsBytes bytes → noted_at monitors bytes ≡ Some (x, rest) → (bytes ≡ noted x ++ rest) × IsNoted monitors x
unfolding noted_at
noted_takes monitors few [] x rest fits e = absurd cc
noted_takes monitors few (kind ∷ bytes) x rest fits e =
    let behind : IsBytes bytes = λ i. fits (suc i) in
    let link = exact_link monitors few in
    elim (one_way (eqb kind 1) _ _ (Some (x, rest)) e) [
      | inl here ↦ subst (λ (c : ℕ). (c ∷ bytes ≡ noted x ++ rest) × IsNoted monitors x) (sym (eqb-true kind 1 here.0)) (behind_kind link got (IsNoted monitors) noted 1 (λ x fact. fact) (λ x. refl) bytes x rest behind here.1)
      | inr other ↦ elim (one_way (eqb kind 2) _ _ (Some (x, rest)) other.1) [
        | inl here ↦ subst (λ (c : ℕ). (c ∷ bytes ≡ noted x ++ rest) × IsNoted monitors x) (sym (eqb-true kind 2 here.0)) (behind_kind link sent (IsNoted monitors) noted 2 (λ x fact. fact) (λ x. refl) bytes x rest behind here.1)
        | inr other ↦ elim (one_way (eqb kind 3) _ _ (Some (x, rest)) other.1) [
          | inl here ↦ subst (λ (c : ℕ). (c ∷ bytes ≡ noted x ++ rest) × IsNoted monitors x) (sym (eqb-true kind 3 here.0)) (behind_kind (exact_publication monitors) told (IsNoted monitors) noted 3 (λ x fact. fact) (λ x. refl) bytes x rest behind here.1)
          | inr other ↦ elim (one_way (eqb kind 4) _ _ (Some (x, rest)) other.1) [
            | inl here ↦ subst (λ (c : ℕ). (c ∷ bytes ≡ noted x ++ rest) × IsNoted monitors x) (sym (eqb-true kind 4 here.0)) (behind_kind exact_bounds tuned (IsNoted monitors) noted 4 (λ x fact. fact) (λ x. refl) bytes x rest behind here.1)
            | inr other ↦ absurd cc
          ]
        ]
      ]
    ]

noted_again : (monitors : ℕ) → monitors ≤ 64 → (x : Noted) (rest : List ℕ) → IsNoted monitors x → noted_at monitors (noted x ++ rest) ≡ Some (x, rest)
unfolding noted_at
noted_again monitors few (n.Got mon frame) rest fact = again_made (exact_link monitors few) got (mon.0, frame) rest fact
noted_again monitors few (n.Sent mon frame) rest fact = again_made (exact_link monitors few) sent (mon.0, frame) rest fact
noted_again monitors few (n.Published p) rest fact = again_made (exact_publication monitors) told p rest fact
noted_again monitors few (n.Tuned k epsilon) rest fact = again_made exact_bounds tuned (k, epsilon) rest fact

pub exact_noted : (monitors : ℕ) → monitors ≤ 64 → IsExact (IsNoted monitors) noted (noted_at monitors)
exact_noted monitors few = record { takes = noted_takes monitors few; again = noted_again monitors few }

pub exact_journal : (monitors : ℕ) → monitors ≤ 64 → IsExact (λ journal. (length journal < 2 ^ 64) × All (IsNoted monitors) journal) (counted 8 noted) (journal_at monitors)
unfolding journal_at
exact_journal monitors few = exact_behind 8 (exact_number 8) (exact_noted monitors few)

-- ---- entries of a trail

entry_takes : (feeders : ℕ) → feeders ≤ 8 → (bytes : List ℕ) (x : Entry) (rest : List ℕ) → IsBytes bytes → entry_at feeders bytes ≡ Some (x, rest) → (bytes ≡ entry x ++ rest) × IsEntry feeders x
unfolding entry_at
entry_takes feeders few [] x rest fits e = absurd cc
entry_takes feeders few (kind ∷ bytes) x rest fits e =
    let behind : IsBytes bytes = λ i. fits (suc i) in
    let feeder = exact_one_of 1 feeders (omega (arith, few)) in
    elim (one_way (eqb kind 1) _ _ (Some (x, rest)) e) [
      | inl here ↦ subst (λ (c : ℕ). (c ∷ bytes ≡ entry x ++ rest) × IsEntry feeders x) (sym (eqb-true kind 1 here.0)) (behind_kind feeder raised (IsEntry feeders) entry 1 (λ x fact. fact) (λ x. refl) bytes x rest behind here.1)
      | inr other ↦ elim (one_way (eqb kind 2) _ _ (Some (x, rest)) other.1) [
        | inl here ↦ subst (λ (c : ℕ). (c ∷ bytes ≡ entry x ++ rest) × IsEntry feeders x) (sym (eqb-true kind 2 here.0)) (behind_kind exact_frame took (IsEntry feeders) entry 2 (λ x fact. fact) (λ x. refl) bytes x rest behind here.1)
        | inr other ↦ elim (one_way (eqb kind 3) _ _ (Some (x, rest)) other.1) [
          | inl here ↦ subst (λ (c : ℕ). (c ∷ bytes ≡ entry x ++ rest) × IsEntry feeders x) (sym (eqb-true kind 3 here.0)) (behind_kind exact_frame said (IsEntry feeders) entry 3 (λ x fact. fact) (λ x. refl) bytes x rest behind here.1)
          | inr other ↦ absurd cc
        ]
      ]
    ]

entry_again : (feeders : ℕ) → feeders ≤ 8 → (x : Entry) (rest : List ℕ) → IsEntry feeders x → entry_at feeders (entry x ++ rest) ≡ Some (x, rest)
unfolding entry_at
entry_again feeders few (e.Raised feeder) rest fact = again_made (exact_one_of 1 feeders (omega (arith, few))) raised feeder.0 rest fact
entry_again feeders few (e.Took frame) rest fact = again_made exact_frame took frame rest fact
entry_again feeders few (e.Sent frame) rest fact = again_made exact_frame said frame rest fact

pub exact_entry : (feeders : ℕ) → feeders ≤ 8 → IsExact (IsEntry feeders) entry (entry_at feeders)
exact_entry feeders few = record { takes = entry_takes feeders few; again = entry_again feeders few }

pub exact_trail : (parts : List (List (ℕ × ℤ))) → length parts ≤ 8 → IsExact (IsTrail parts) trail (trail_at (length parts))
unfolding trail_at
exact_trail parts few = exact_behind 8 (exact_number 8) (exact_entry (length parts) few)

-- ---- a trail for each monitor

trails_take : (logs : List (List (List (ℕ × ℤ)))) → All (λ parts. length parts ≤ 8) logs → (bytes : List ℕ) (found : List (List Entry) × List ℕ) → IsBytes bytes → trails_at logs bytes ≡ Some found
    → (bytes ≡ flat_map trail found.0 ++ found.1) × AllZip IsTrail logs found.0
unfolding trails_at
trails_take [] few bytes found fits e = subst (λ found. (bytes ≡ flat_map trail found.0 ++ found.1) × AllZip IsTrail [] found.0) (some_is ([], bytes) found e) (refl, tt)
trails_take (parts ∷ logs) few bytes found fits e =
    let exact = exact_trail parts (All-head (λ parts. length parts ≤ 8) parts logs few) in
    let a = bind_some (trail_at (length parts) bytes) (λ first. trails_at logs first.1 >>= λ others. Some (first.0 ∷ others.0, others.1)) found e in
    let b = bind_some (trails_at logs a.0.1) (λ others. Some (a.0.0 ∷ others.0, others.1)) found a.2 in
    let u = exact.takes bytes a.0.0 a.0.1 fits a.1 in
    let v = trails_take logs (All-tail (λ parts. length parts ≤ 8) parts logs few) a.0.1 b.0 (left_fits exact bytes a.0.0 a.0.1 fits a.1) b.1 in
    let s = trail a.0.0 in
    let t = flat_map trail b.0.0 in
    let whole : bytes ≡ (s ++ t) ++ b.0.1 = u.0 ∙ ap (λ (w : List ℕ). s ++ w) v.0 ∙ sym (append_assoc s t b.0.1) in
    subst (λ found. (bytes ≡ flat_map trail found.0 ++ found.1) × AllZip IsTrail (parts ∷ logs) found.0) (some_is (a.0.0 ∷ b.0.0, b.0.1) found b.2) (whole, (u.1, v.1))

trails_again : (logs : List (List (List (ℕ × ℤ)))) → All (λ parts. length parts ≤ 8) logs → (trails : List (List Entry)) (rest : List ℕ) → AllZip IsTrail logs trails → trails_at logs (flat_map trail trails ++ rest) ≡ Some (trails, rest)
unfolding trails_at
trails_again [] few [] rest facts = refl
trails_again [] few (x ∷ xs) rest facts = absurd facts
trails_again (parts ∷ logs) few [] rest facts = absurd facts
trails_again (parts ∷ logs) few (x ∷ xs) rest facts =
    let exact = exact_trail parts (All-head (λ parts. length parts ≤ 8) parts logs few) in
    let t = flat_map trail xs in
    ap (trails_at (parts ∷ logs)) (append_assoc (trail x) t rest)
    ∙ ap (λ z. z >>= λ first. trails_at logs first.1 >>= λ others. Some (first.0 ∷ others.0, others.1)) (exact.again x (t ++ rest) facts.0)
    ∙ ap (λ z. z >>= λ others. Some (x ∷ others.0, others.1)) (trails_again logs (All-tail (λ parts. length parts ≤ 8) parts logs few) xs rest facts.1)

pub exact_trails : (logs : List (List (List (ℕ × ℤ)))) → All (λ parts. length parts ≤ 8) logs → IsExact (AllZip IsTrail logs) (flat_map trail) (trails_at logs)
exact_trails logs few = record {
  takes = λ bytes trails rest fits e. trails_take logs few bytes (trails, rest) fits e;
  again = trails_again logs few;
}
