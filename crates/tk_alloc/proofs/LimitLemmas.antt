-- The search for the first factor past its limit.
use Rattle.std.proofs.Common.{◌≡◌, ℕ, suc, zero, ◌+◌, ◌^◌, ◌<◌, ℤ, pos, unsigned_abs, List, [], ◌∷◌, length, map, get_or, Some, true, false, nat_lt, refl, sym, ap, ◌∙◌, subst, arith, inl, inr}
use Rattle.std.specs.Prelude.{slice_get}
use Rattle.std.specs.List.{All}
use Rattle.std.proofs.lemmas.Bool.{cases_lt, cases_order, ltb-false, ltb-true}
use Rattle.std.proofs.lemmas.List.{length-map, get_or-map, get_or_default}
use Rattle.std.proofs.lemmas.List.Elements.{All-cons, All-map}
use Rattle.std.proofs.lemmas.Option.{get_or_from_slice_get}
use Rattle.tk_base.specs.Ascending.{IsAscending}
use Rattle.tk_base.specs.Pairs.{objects_of}
use Rattle.tk_base.proofs.AscendingLemmas.{ascending_along, ascending_apart, ascending_positive}
use Rattle.tk_rows.specs.declared.mon_change.MonChange.{MonChange}
use Rattle.tk_rows.specs.declared.reallocation.Reallocation.{Reallocation}
use Rattle.tk_rows.specs.Factors.{IsFactor}
use Rattle.tk_rows.specs.Replacing.{monitors_of}
use Rattle.tk_alloc.specs.Limit.{AreAllWithin, Gives, IsFirstPast}
use Rattle.tk_alloc.specs.Parts.{by_monitor}
use Rattle.tk_alloc.proofs.ReplacementLemmas.{numbers_by}
use Rattle.tk_alloc.specs.Search.{by_node, IsEven, placed, AreWithin, IsFirstNode}

-- the factors of a place are within their limit at the first nodes
abbrev pub FirstAreWithin : List (ℕ × List (ℕ × ℤ)) → ℕ → ℕ → Type 0
FirstAreWithin nodes n i = (j : ℕ) (d : ℕ × List (ℕ × ℤ)) → j < n → IsFactor (placed (get_or nodes j d).1 i)

placed_is : (changes : List (ℕ × ℤ)) (i o : ℕ) (z : ℤ) → slice_get changes i ≡ Some (o, z) → placed changes i ≡ z
placed_is changes i o z read = ap (λ (p : ℕ × ℤ). p.1) (get_or_from_slice_get changes i (o, z) (0, pos 0) read)

-- a monitor's changes stand behind the coordinator's
node_of : (change : Reallocation) (n : ℕ) (c : MonChange) (d : ℕ × List (ℕ × ℤ)) → n < length change.at.items → c ≡ get_or change.at.items n c → get_or (by_node change) (suc n) d ≡ (c.mon.0, c.changes)
node_of change n c d within is =
    let f : MonChange → ℕ × List (ℕ × ℤ) = λ m. (m.mon.0, m.changes) in
    get_or-map f change.at.items n c d within ∙ ap f (sym is)

pub length-by_node : (change : Reallocation) → length (by_node change) ≡ suc (length change.at.items)
length-by_node change = ap suc (length-map change.at.items (λ (m : MonChange). (m.mon.0, m.changes)))

-- the factor at one more monitor is within
pub more_within : (change : Reallocation) (n i o : ℕ) (c : MonChange) (z : ℤ) → n < length change.at.items → c ≡ get_or change.at.items n c → slice_get c.changes i ≡ Some (o, z) → nat_lt (2 ^ 112) (unsigned_abs z) ≡ false
    → FirstAreWithin (by_node change) (n + 1) i → FirstAreWithin (by_node change) (n + 1 + 1) i
more_within change n i o c z within is read small before j d h = elim (cases_lt j (n + 1)) [
  | inl lt ↦ before j d lt
  | inr ge ↦
      let e : j ≡ suc n = omega arith in
      let at : get_or (by_node change) j d ≡ (c.mon.0, c.changes) = ap (λ (m : ℕ). get_or (by_node change) m d) e ∙ node_of change n c d within is in
      subst IsFactor (sym (ap (λ (x : ℕ × List (ℕ × ℤ)). placed x.1 i) at ∙ placed_is c.changes i o z read)) (ltb-false (2 ^ 112) (unsigned_abs z) small)
]

-- a monitor's factor is past, where those before it are not
pub monitor_first : (change : Reallocation) (n i o : ℕ) (c : MonChange) (z : ℤ) → n < length change.at.items → c ≡ get_or change.at.items n c → slice_get c.changes i ≡ Some (o, z) → nat_lt (2 ^ 112) (unsigned_abs z) ≡ true
    → FirstAreWithin (by_node change) (n + 1) i → IsFirstNode (by_node change) i c.mon.0 z
monitor_first change n i o c z within is read great before = record {
  entry = suc n;
  within = omega (arith, length-by_node change);
  before = λ j d h. before j d (omega arith);
  number = λ d. ap (λ (x : ℕ × List (ℕ × ℤ)). x.0) (node_of change n c d within is);
  factor_is = λ d. ap (λ (x : ℕ × List (ℕ × ℤ)). placed x.1 i) (node_of change n c d within is) ∙ placed_is c.changes i o z read;
  past = ltb-true (2 ^ 112) (unsigned_abs z) great;
}

-- ---- the first past the limit of all

-- each node's changes are of the same objects
even_objects : (change : Reallocation) → IsEven change → All (λ (n : ℕ × List (ℕ × ℤ)). objects_of n.1 ≡ objects_of change.own) (by_node change)
even_objects change even =
    All-cons (λ (n : ℕ × List (ℕ × ℤ)). objects_of n.1 ≡ objects_of change.own) (0, change.own) (by_monitor change.at.items) refl
    (All-map (λ (n : ℕ × List (ℕ × ℤ)). objects_of n.1 ≡ objects_of change.own) (λ (c : MonChange). (c.mon.0, c.changes)) change.at.items even.objects)

apart_from_own : (monitors : List ℕ) → IsAscending monitors → (j k : ℕ) → j < k → k < length (0 ∷ monitors) → get_or (0 ∷ monitors) j 0 < get_or (0 ∷ monitors) k 0
apart_from_own monitors up j zero h within = absurd (omega arith)
apart_from_own monitors up zero (suc k) h within = ascending_positive monitors up k (omega arith)
apart_from_own monitors up (suc j) (suc k) h within = ascending_apart monitors up j k (omega arith) (omega arith)

-- and the nodes ascend
even_nodes : (change : Reallocation) → IsEven change → (j k : ℕ) (d e : ℕ × List (ℕ × ℤ)) → j < k → k < length (by_node change) → (get_or (by_node change) j d).0 < (get_or (by_node change) k e).0
even_nodes change even j k d e h within =
    let monitors = monitors_of change.at.items in
    let numbers : map (λ (n : ℕ × List (ℕ × ℤ)). n.0) (by_node change) ≡ 0 ∷ monitors = ap (λ (xs : List ℕ). 0 ∷ xs) (sym (numbers_by change.at.items)) in
    let long : length (0 ∷ monitors) ≡ length (by_node change) = ap length (sym numbers) ∙ length-map (by_node change) (λ (n : ℕ × List (ℕ × ℤ)). n.0) in
    let left : get_or (0 ∷ monitors) j 0 ≡ (get_or (by_node change) j d).0 = ap (λ (xs : List ℕ). get_or xs j 0) (sym numbers) ∙ get_or-map (λ (n : ℕ × List (ℕ × ℤ)). n.0) (by_node change) j d 0 (omega arith) in
    let right : get_or (0 ∷ monitors) k 0 ≡ (get_or (by_node change) k e).0 = ap (λ (xs : List ℕ). get_or xs k 0) (sym numbers) ∙ get_or-map (λ (n : ℕ × List (ℕ × ℤ)). n.0) (by_node change) k e 0 within in
    omega (arith, left, right, apart_from_own monitors even.order j k h (omega arith))

-- what a factor that some node gives is, by places
record IsPlaced (change : Reallocation) (o node : ℕ) (factor : ℤ) : Type 0 where
  entry : ℕ
  place : ℕ
  changes : List (ℕ × ℤ)
  within : entry < length (by_node change)
  at : get_or (by_node change) entry (node, changes) ≡ (node, changes)
  inside : place < length change.own
  object : get_or (objects_of change.own) place 0 ≡ o
  factor_is : placed changes place ≡ factor

placed_by : (change : Reallocation) (o node : ℕ) (factor : ℤ) → IsEven change → Gives (by_node change) o node factor → IsPlaced change o node factor
placed_by change o node factor even g =
    let k = g.named.0 in
    let i = g.given.0 in
    let same : objects_of g.changes ≡ objects_of change.own =
    subst (λ (n : ℕ × List (ℕ × ℤ)). objects_of n.1 ≡ objects_of change.own) g.named.2 (even_objects change even k (node, g.changes) g.named.1) in
    let pair : get_or g.changes i (0, pos 0) ≡ (o, factor) = get_or_default g.changes i (0, pos 0) (o, factor) g.given.1 ∙ g.given.2 in
    let long : length g.changes ≡ length change.own = sym (length-map g.changes (λ (p : ℕ × ℤ). p.0)) ∙ ap length same ∙ length-map change.own (λ (p : ℕ × ℤ). p.0) in
    record {
      entry = k;
      place = i;
      changes = g.changes;
      within = g.named.1;
      at = g.named.2;
      inside = omega (arith, long, g.given.1);
      object = ap (λ (xs : List ℕ). get_or xs i 0) (sym same) ∙ get_or-map (λ (p : ℕ × ℤ). p.0) g.changes i (0, pos 0) 0 g.given.1 ∙ ap (λ (p : ℕ × ℤ). p.0) pair;
      factor_is = ap (λ (p : ℕ × ℤ). p.1) pair;
    }

-- the lesser of two objects stands earlier
earlier : (xs : List ℕ) → IsAscending xs → (i j a b : ℕ) → j < length xs → i < length xs → get_or xs i 0 ≡ a → get_or xs j 0 ≡ b → a < b → i < j
earlier xs up i j a b inside within left right less = elim (cases_lt i j) [
  | inl lt ↦ lt
  | inr ge ↦ let far = ascending_along xs up j i ge within in absurd (omega arith)
]

same_place : (xs : List ℕ) → IsAscending xs → (i j a : ℕ) → j < length xs → i < length xs → get_or xs i 0 ≡ a → get_or xs j 0 ≡ a → i ≡ j
same_place xs up i j a inside within left right = elim (cases_order i j) [
  | inl e ↦ e
  | inr (inl less) ↦ let far = ascending_apart xs up i j less inside in absurd (omega arith)
  | inr (inr less) ↦ let far = ascending_apart xs up j i less within in absurd (omega arith)
]

-- the first node past the limit at a place, where no place before has any, gives the first factor past it
pub first_past_is : (change : Reallocation) (i o node : ℕ) (v factor : ℤ) → IsEven change → IsAscending (objects_of change.own) → slice_get change.own i ≡ Some (o, v) → i < length change.own
    → ((j : ℕ) → j < i → AreWithin (by_node change) j) → IsFirstNode (by_node change) i node factor → IsFirstPast (by_node change) o node factor
first_past_is change i o node v factor even up read inside before first =
    let objects = objects_of change.own in
    let long = length-map change.own (λ (p : ℕ × ℤ). p.0) in
    let here : get_or objects i 0 ≡ o = get_or-map (λ (p : ℕ × ℤ). p.0) change.own i (0, pos 0) 0 inside ∙ ap (λ (p : ℕ × ℤ). p.0) (get_or_from_slice_get change.own i (o, v) (0, pos 0) read) in
    let n : ℕ × List (ℕ × ℤ) = get_or (by_node change) first.entry (0, []) in
    let same : objects_of n.1 ≡ objects = even_objects change even first.entry (0, []) first.within in
    let inside_n : i < length n.1 = omega (arith, inside, long, length-map n.1 (λ (p : ℕ × ℤ). p.0), ap length same) in
    let object_n : (get_or n.1 i (0, pos 0)).0 ≡ o = sym (get_or-map (λ (p : ℕ × ℤ). p.0) n.1 i (0, pos 0) 0 inside_n) ∙ ap (λ (xs : List ℕ). get_or xs i 0) same ∙ here in
    record {
      given = record {
        changes = n.1;
        named = (first.entry, first.within, get_or_default (by_node change) first.entry (node, n.1) (0, []) first.within ∙ ap (λ (m : ℕ). (m, n.1)) (first.number (0, [])));
        given = (i, inside_n, get_or_default n.1 i (o, factor) (0, pos 0) inside_n ∙ ap (λ (m : ℕ). (m, placed n.1 i)) object_n ∙ ap (λ (z : ℤ). (o, z)) (first.factor_is (0, [])));
      };
      past = first.past;
      least_object = λ q m z gives less.
          let p = placed_by change q m z even gives in
          let early = earlier objects up p.place i q o (omega (arith, inside, long)) (omega (arith, p.inside, long)) p.object here less in
          let small = before p.place early p.entry (m, p.changes) p.within in
          subst IsFactor p.factor_is (subst (λ (x : ℕ × List (ℕ × ℤ)). IsFactor (placed x.1 p.place)) p.at small);
      least_node = λ m z gives less.
          let p = placed_by change o m z even gives in
          let one = same_place objects up p.place i o (omega (arith, inside, long)) (omega (arith, p.inside, long)) p.object here in
          let number : (get_or (by_node change) p.entry (m, p.changes)).0 ≡ m = ap (λ (x : ℕ × List (ℕ × ℤ)). x.0) p.at in
          let early : p.entry < first.entry = elim (cases_order p.entry first.entry) [
            | inl e ↦ absurd (omega (arith, number, less, ap (λ (k : ℕ). (get_or (by_node change) k (m, p.changes)).0) e, first.number (m, p.changes)))
            | inr (inl lt) ↦ lt
            | inr (inr gt) ↦ let far = even_nodes change even first.entry p.entry (m, p.changes) (m, p.changes) gt p.within in absurd (omega (arith, number, less, far, first.number (m, p.changes)))
          ] in
          let small = first.before p.entry (m, p.changes) early in
          subst IsFactor p.factor_is (subst (λ (j : ℕ). IsFactor (placed p.changes j)) (sym one) (subst (λ (x : ℕ × List (ℕ × ℤ)). IsFactor (placed x.1 i)) p.at small));
    }

-- where the factors of each place are within the limit, all are
pub all_given : (change : Reallocation) → IsEven change → ((i : ℕ) → i < length change.own → AreWithin (by_node change) i) → AreAllWithin (by_node change)
all_given change even within o node factor gives =
    let p = placed_by change o node factor even gives in
    let small = within p.place p.inside p.entry (node, p.changes) p.within in
    subst IsFactor p.factor_is (subst (λ (x : ℕ × List (ℕ × ℤ)). IsFactor (placed x.1 p.place)) p.at small)
