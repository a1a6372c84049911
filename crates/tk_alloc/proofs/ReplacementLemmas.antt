-- A reallocation is what a table can take.
use Rattle.std.proofs.Common.{◌≡◌, ◌≢◌, ℕ, suc, zero, ◌+◌, ◌<◌, ◌≤◌, ℤ, List, [], ◌∷◌, length, map, get_or, Contains, Option, Some, cond, refl, sym, ap, ◌∙◌, subst, arith, eq-eqb, ne_eqb}
use Rattle.std.specs.Prelude.{unwrap_or, ◌==◌}
use Rattle.std.specs.List.{All, sum}
use Rattle.std.specs.Map.{lookup}
use Rattle.std.proofs.lemmas.List.{length-map, get_or-map, get_or_default}
use Rattle.std.proofs.lemmas.List.Elements.{All-cons, All-map}
use Rattle.tk_base.specs.Ascending.{IsAscending}
use Rattle.tk_base.specs.Pairs.{objects_of}
use Rattle.tk_base.proofs.PairsLemmas.{objects_paired}
use Rattle.tk_rows.specs.declared.mon_change.MonChange.{MonChange}
use Rattle.tk_rows.specs.declared.reallocation.Reallocation.{Reallocation}
use Rattle.tk_rows.specs.Factors.{Grid, IsFactor}
use Rattle.tk_rows.specs.Replacing.{IsReplacement, factor_in, changes_of, changes_at, monitors_of}
use Rattle.tk_rows.proofs.WritingLemmas.{AreApart}
use Rattle.tk_alloc.specs.Parts.{Part, new_factor, dealt_from, by_monitor, IsReallocation}
use Rattle.tk_alloc.proofs.LeewayLemmas.{value_put, own_is, at_is, sums_agree, weights_in}

-- the new factors of these objects at some participants meet a bound
abbrev pub AreBounded : (ℤ → Type 0) → Grid → List Part → List ℕ → ℕ → List Part → Type 0
AreBounded P grid parts objects first [] = Unit {0}
AreBounded P grid parts objects first (q ∷ ps) = ((o : ℕ) → Contains objects o → P (new_factor grid parts first q o)) × AreBounded P grid parts objects (first + 1) ps

all_put : (P : ℤ → Type 0) (g : ℕ → ℤ) (objects : List ℕ) → ((o : ℕ) → Contains objects o → P (g o)) → All (λ (q : ℕ × ℤ). P q.1) (map (λ o. (o, g o)) objects)
all_put P g objects h =
    All-map (λ (q : ℕ × ℤ). P q.1) (λ (o : ℕ). (o, g o)) objects (λ k d within. h (get_or objects k d) (k, within, get_or_default objects k (get_or objects k d) d within))

pub all_bounded : (P : ℤ → Type 0) (grid : Grid) (parts : List Part) (objects : List ℕ) (first : ℕ) (ps : List Part) → AreBounded P grid parts objects first ps
    → All (λ (x : ℕ × List (ℕ × ℤ)). (objects_of x.1 ≡ objects) × All (λ (q : ℕ × ℤ). P q.1) x.1) (dealt_from grid parts objects first ps)
all_bounded P grid parts objects first [] h = λ k d within. absurd (omega arith)
all_bounded P grid parts objects first (q ∷ ps) h =
    All-cons (λ (x : ℕ × List (ℕ × ℤ)). (objects_of x.1 ≡ objects) × All (λ (r : ℕ × ℤ). P r.1) x.1) (q.node, map (λ o. (o, new_factor grid parts first q o)) objects) (dealt_from grid parts objects (first + 1) ps)
    (objects_paired (new_factor grid parts first q) objects, all_put P (new_factor grid parts first q) objects h.0)
    (all_bounded P grid parts objects (first + 1) ps h.1)

all_changes : (Q : List (ℕ × ℤ) → Type 0) (at : List MonChange) → All (λ (x : ℕ × List (ℕ × ℤ)). Q x.1) (by_monitor at) → All (λ c. Q c.changes) at
all_changes Q at all k d within =
    let f : MonChange → ℕ × List (ℕ × ℤ) = λ c. (c.mon.0, c.changes) in
    subst (λ (x : ℕ × List (ℕ × ℤ)). Q x.1) (get_or-map f at k d (f d) within) (all k (f d) (omega (arith, length-map at f)))

-- the changes of a reallocation at monitors, of the same objects and within a bound
pub bounded_at : (P : ℤ → Type 0) (grid : Grid) (own : Part) (ms : List Part) (objects members : List ℕ) (change : Reallocation) → IsReallocation grid (own ∷ ms) objects members change → AreBounded P grid (own ∷ ms) objects 1 ms
    → All (λ c. (objects_of c.changes ≡ objects) × All (λ (q : ℕ × ℤ). P q.1) c.changes) change.at.items
bounded_at P grid own ms objects members change r h =
    all_changes (λ xs. (objects_of xs ≡ objects) × All (λ (q : ℕ × ℤ). P q.1) xs) change.at.items
    (subst (All (λ (x : ℕ × List (ℕ × ℤ)). (objects_of x.1 ≡ objects) × All (λ (q : ℕ × ℤ). P q.1) x.1)) (sym (at_is grid own ms objects members change r)) (all_bounded P grid (own ∷ ms) objects 1 ms h))

pub bounded_own : (P : ℤ → Type 0) (grid : Grid) (own : Part) (ms : List Part) (objects members : List ℕ) (change : Reallocation) → IsReallocation grid (own ∷ ms) objects members change → ((o : ℕ) → Contains objects o → P (new_factor grid (own ∷ ms) 0 own o))
    → All (λ (q : ℕ × ℤ). P q.1) change.own
bounded_own P grid own ms objects members change r h =
    subst (All (λ (q : ℕ × ℤ). P q.1)) (sym (own_is grid own ms objects members change r)) (all_put P (new_factor grid (own ∷ ms) 0 own) objects h)

pub own_objects : (grid : Grid) (own : Part) (ms : List Part) (objects members : List ℕ) (change : Reallocation) → IsReallocation grid (own ∷ ms) objects members change → objects_of change.own ≡ objects
own_objects grid own ms objects members change r = ap objects_of (own_is grid own ms objects members change r) ∙ objects_paired (new_factor grid (own ∷ ms) 0 own) objects

pub numbers_by : (at : List MonChange) → monitors_of at ≡ map (λ (x : ℕ × List (ℕ × ℤ)). x.0) (by_monitor at)
numbers_by [] = refl
numbers_by (c ∷ at) = ap (λ (xs : List ℕ). c.mon.0 ∷ xs) (numbers_by at)

dealt_nodes : (grid : Grid) (parts : List Part) (objects : List ℕ) (first : ℕ) (ps : List Part) → map (λ (x : ℕ × List (ℕ × ℤ)). x.0) (dealt_from grid parts objects first ps) ≡ map (λ q. q.node) ps
dealt_nodes grid parts objects first [] = refl
dealt_nodes grid parts objects first (q ∷ ps) = ap (λ (xs : List ℕ). q.node ∷ xs) (dealt_nodes grid parts objects (first + 1) ps)

pub monitors_are : (grid : Grid) (own : Part) (ms : List Part) (objects members : List ℕ) (change : Reallocation) → IsReallocation grid (own ∷ ms) objects members change → monitors_of change.at.items ≡ map (λ q. q.node) ms
monitors_are grid own ms objects members change r =
    numbers_by change.at.items ∙ ap (map (λ (x : ℕ × List (ℕ × ℤ)). x.0)) (at_is grid own ms objects members change r) ∙ dealt_nodes grid (own ∷ ms) objects 1 ms

-- what participants must be so that a table can take what they are dealt
pub record ArePlaced (grid : Grid) (own : Part) (ms : List Part) (objects : List ℕ) : Type 0 where
  pub coordinator : own.node ≡ 0
  pub weight : 0 < sum (weights_in (own ∷ ms))
  pub objects_within : All (λ o. o ≤ length grid.rows) objects
  pub order : IsAscending (map (λ q. q.node) ms)
  pub monitors : All (λ j. j ≤ grid.monitors) (map (λ q. q.node) ms)

pub is_replacement : (grid : Grid) (own : Part) (ms : List Part) (objects members : List ℕ) (change : Reallocation) → IsReallocation grid (own ∷ ms) objects members change → ArePlaced grid own ms objects
    → ((o : ℕ) → Contains objects o → IsFactor (new_factor grid (own ∷ ms) 0 own o)) → AreBounded IsFactor grid (own ∷ ms) objects 1 ms → IsReplacement grid change
is_replacement grid own ms objects members change r placed own_small small =
    let same = own_objects grid own ms objects members change r in
    let nodes = monitors_are grid own ms objects members change r in
    record {
      objects = subst (All (λ o. o ≤ length grid.rows)) (sym same) placed.objects_within;
      order = subst IsAscending (sym nodes) placed.order;
      monitors = subst (All (λ j. j ≤ grid.monitors)) (sym nodes) placed.monitors;
      own = record { same = refl; small = bounded_own IsFactor grid own ms objects members change r own_small };
      at = λ k d within.
          let told = bounded_at IsFactor grid own ms objects members change r small k d within in
          record { same = told.0 ∙ sym same; small = told.1 };
      sum = λ k d within.
          let here : Contains (objects_of change.own) (get_or (objects_of change.own) k d) = (k, within, get_or_default (objects_of change.own) k (get_or (objects_of change.own) k d) d within) in
          sums_agree grid own ms objects members change (get_or (objects_of change.own) k d) r placed.coordinator placed.weight (subst (λ xs. Contains xs (get_or (objects_of change.own) k d)) same here);
    }

-- ---- the factors afterwards

pub own_after : (grid : Grid) (own : Part) (ms : List Part) (objects members : List ℕ) (change : Reallocation) (o : ℕ) (old : ℤ) → IsReallocation grid (own ∷ ms) objects members change → Contains objects o
    → factor_in (changes_at change 0) o old ≡ new_factor grid (own ∷ ms) 0 own o
own_after grid own ms objects members change o old r in' =
    ap (λ (xs : List (ℕ × ℤ)). factor_in xs o old) (own_is grid own ms objects members change r) ∙ ap (λ (v : Option ℤ). unwrap_or v old) (value_put (new_factor grid (own ∷ ms) 0 own) objects o in')

-- what the participant at a place is dealt stands under its node
lookup_dealt : (grid : Grid) (parts : List Part) (objects : List ℕ) (first : ℕ) (ps : List Part) (k : ℕ) (d : Part) → k < length ps → AreApart (map (λ q. q.node) ps)
    → lookup (λ n. n == (get_or ps k d).node) (dealt_from grid parts objects first ps) ≡ Some (map (λ o. (o, new_factor grid parts (first + k) (get_or ps k d) o)) objects)
lookup_dealt grid parts objects first [] k d within apart = absurd (omega arith)
lookup_dealt grid parts objects first (q ∷ ps) zero d within apart =
    let e : first ≡ first + 0 = omega arith in
    ap (λ b. cond b (Some (map (λ o. (o, new_factor grid parts first q o)) objects)) (lookup (λ n. n == q.node) (dealt_from grid parts objects (first + 1) ps))) (eq-eqb q.node q.node refl)
    ∙ ap (λ (p : ℕ). Some (map (λ o. (o, new_factor grid parts p q o)) objects)) e
lookup_dealt grid parts objects first (q ∷ ps) (suc k) d within apart =
    let e : first + 1 + k ≡ first + suc k = omega arith in
    let inside : k < length (map (λ (r : Part). r.node) ps) = omega (arith, length-map ps (λ (r : Part). r.node)) in
    let other : q.node ≢ (get_or ps k d).node = λ same. apart.0 (k, inside, get_or-map (λ (r : Part). r.node) ps k d q.node (omega arith) ∙ sym same) in
    ap (λ b. cond b (Some (map (λ o. (o, new_factor grid parts first q o)) objects)) (lookup (λ n. n == (get_or ps k d).node) (dealt_from grid parts objects (first + 1) ps))) (ne_eqb q.node (get_or ps k d).node other)
    ∙ lookup_dealt grid parts objects (first + 1) ps k d (omega arith) apart.1
    ∙ ap (λ (p : ℕ). Some (map (λ o. (o, new_factor grid parts p (get_or ps k d) o)) objects)) e

changes_at_mon : (change : Reallocation) (j : ℕ) → 0 < j → changes_at change j ≡ changes_of change.at.items j
changes_at_mon change zero h = absurd (omega arith)
changes_at_mon change (suc j) h = refl

pub at_after : (grid : Grid) (own : Part) (ms : List Part) (objects members : List ℕ) (change : Reallocation) (k o : ℕ) (d : Part) (old : ℤ) → IsReallocation grid (own ∷ ms) objects members change → Contains objects o → k < length ms
    → AreApart (map (λ q. q.node) ms) → 0 < (get_or ms k d).node → factor_in (changes_at change (get_or ms k d).node) o old ≡ new_factor grid (own ∷ ms) (1 + k) (get_or ms k d) o
at_after grid own ms objects members change k o d old r in' within apart some =
    let q = get_or ms k d in
    ap (λ (xs : List (ℕ × ℤ)). factor_in xs o old)
    (changes_at_mon change q.node some
    ∙ ap (λ (xs : List (ℕ × List (ℕ × ℤ))). unwrap_or (lookup (λ n. n == q.node) xs) []) (at_is grid own ms objects members change r)
    ∙ ap (λ (x : Option (List (ℕ × ℤ))). unwrap_or x []) (lookup_dealt grid (own ∷ ms) objects 1 ms k d within apart))
    ∙ ap (λ (v : Option ℤ). unwrap_or v old) (value_put (new_factor grid (own ∷ ms) (1 + k) q) objects o in')
