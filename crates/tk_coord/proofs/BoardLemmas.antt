-- The own factors after a reallocation, as a rank keeps them.
use Rattle.std.proofs.Common.{◌≡◌, ℕ, suc, true, ◌+◌, ◌-◌, ◌≤◌, ◌<◌, ℤ, pos, List, [], ◌∷◌, ◌++◌, length, get_or, set, take, cond, Contains, Option, Some, refl, sym, ap, ◌∙◌, subst, arith, eq-eqb, ne_eqb, inl, inr}
use Rattle.std.specs.Prelude.{IsTrue, unwrap_or, unsigned_abs, ◌^◌, fold, slice_get}
use Rattle.std.specs.List.{All}
use Rattle.std.proofs.lemmas.Bool.{cases_eq}
use Rattle.std.proofs.lemmas.List.{length-set, get_or-set_same, get_or-set_other, get_or_default, take_more}
use Rattle.std.proofs.lemmas.List.Sums.{fold_push, list_all-from_AllPass}
use Rattle.std.proofs.lemmas.Option.{slice_get_within, get_or_from_slice_get}
use Rattle.std.proofs.lemmas.List.Elements.{All-head, All-tail}
use Rattle.tk_base.specs.Ascending.{IsAscending}
use Rattle.tk_base.specs.Objects.{is_in}
use Rattle.tk_base.specs.Pairs.{objects_of, value_at}
use Rattle.tk_base.specs.Settings.{Setup}
use Rattle.tk_base.proofs.PairsLemmas.{value_at-absent}
use Rattle.tk_base.proofs.MemberLemmas.{contained_is_in}
use Rattle.tk_border.specs.Levels.{AreSmall, holds, level_at, own_border}
use Rattle.tk_rank.specs.Rank.{RankView}
use Rattle.tk_rows.specs.Factors.{Grid, AreBalanced, IsFactor, factor_at}
use Rattle.tk_rows.specs.Replacing.{factor_in}
use Rattle.tk_rows.specs.declared.reallocation.Reallocation.{Reallocation}
use Rattle.tk_rows.proofs.WritingLemmas.{AreApart, ascending_are_apart}
use Rattle.tk_alloc.specs.Resolving.{own_factors, round_border}
use Rattle.tk_alloc.proofs.BorderLemmas.{own_level, level_size, factors_count}
use Rattle.tk_alloc.proofs.GatheredLemmas.{all_positive}
use Rattle.tk_coord.specs.Board.{ranks_of, relevelled}
use Rattle.tk_coord.specs.Steps.{IsReplaced}
use Rattle.tk_coord.proofs.ElementLemmas.{same_elements}

-- the own factors of a balanced table are small
pub own_small : (grid : Grid) → AreBalanced grid → AreSmall (own_factors grid)
own_small grid balanced k d below =
    let place : suc k - 1 ≡ k = omega arith in
    let small : unsigned_abs (get_or (own_factors grid) k (pos 0)) ≤ 2 ^ 112 = subst (λ m. IsFactor (get_or (own_factors grid) m (pos 0))) place (level_size grid (suc k) balanced) in
    subst (λ (z : ℤ). unsigned_abs z < 2 ^ 114) (get_or_default (own_factors grid) k (pos 0) d below) (omega (arith, small))

-- as many levels as before
pub length-relevelled : (own : List (ℕ × ℤ)) (levels : List ℤ) → length (relevelled levels own) ≡ length levels
length-relevelled [] levels = refl
length-relevelled (p ∷ own) levels = length-relevelled own (set levels (p.0 - 1) p.1) ∙ length-set levels (p.0 - 1) p.1

-- the level of an object after the change
level_after : (own : List (ℕ × ℤ)) (levels : List ℤ) (o : ℕ) → 0 < o → AreApart (objects_of own) → All (λ q. 0 < q) (objects_of own) → All (λ q. q ≤ length levels) (objects_of own)
    → level_at (relevelled levels own) o ≡ factor_in own o (level_at levels o)
level_after [] levels o some apart low high = refl
level_after (p ∷ own) levels o some apart low high =
    let from : 0 < p.0 = All-head (λ q. 0 < q) p.0 (objects_of own) low in
    let to : p.0 ≤ length levels = All-head (λ q. q ≤ length levels) p.0 (objects_of own) high in
    let inside : p.0 - 1 < length levels = omega (arith, from, to) in
    let next = set levels (p.0 - 1) p.1 in
    let rest : All (λ q. q ≤ length next) (objects_of own) = λ k d h.
    let size = length-set levels (p.0 - 1) p.1 in
    let most = All-tail (λ q. q ≤ length levels) p.0 (objects_of own) high k d h in
    omega (arith, size, most) in
    let told = level_after own next o some apart.1 (All-tail (λ q. 0 < q) p.0 (objects_of own) low) rest in
    elim (cases_eq p.0 o) [
      | inl same ↦
          told
          ∙ ap (λ (v : Option ℤ). unwrap_or v (level_at next o)) (value_at-absent own o (λ found. apart.0 (subst (Contains (objects_of own)) (sym same) found)))
          ∙ ap (λ (m : ℕ). get_or next (m - 1) (pos 0)) (sym same)
          ∙ get_or-set_same levels (p.0 - 1) p.1 (pos 0) inside
          ∙ sym (ap (λ b. unwrap_or (cond b (Some p.1) (value_at own o)) (level_at levels o)) (eq-eqb p.0 o same))
      | inr other ↦
          told
          ∙ ap (unwrap_or (value_at own o)) (get_or-set_other levels (p.0 - 1) (o - 1) p.1 (pos 0) (λ e. other (omega (arith, e, from, some))))
          ∙ sym (ap (λ b. unwrap_or (cond b (Some p.1) (value_at own o)) (level_at levels o)) (ne_eqb p.0 o other))
    ]

-- the own factors of a table after a reallocation
pub own_after : (old new : Grid) (r : Reallocation) → IsReplaced old r new → IsAscending (objects_of r.own) → All (λ o. o ≤ length old.rows) (objects_of r.own)
    → relevelled (own_factors old) r.own ≡ own_factors new
own_after old new r is up within =
    let levels = own_factors old in
    let count = factors_count old in
    same_elements (relevelled levels r.own) (own_factors new) (pos 0) (length-relevelled r.own levels ∙ count ∙ sym is.objects ∙ sym (factors_count new)) (λ i below.
    let place : suc i - 1 ≡ i = omega arith in
    subst (λ m. get_or (relevelled levels r.own) m (pos 0) ≡ get_or (own_factors new) m (pos 0)) place
    (level_after r.own levels (suc i) (omega arith) (ascending_are_apart (objects_of r.own) up) (all_positive (objects_of r.own) up) (λ k d h. let w = within k d h in omega (arith, w, count))
    ∙ ap (factor_in r.own (suc i)) (own_level old (suc i))
    ∙ sym (is.factors 0 (suc i) (omega arith))
    ∙ sym (own_level new (suc i))))

-- the rank of a table and its members after a reallocation
pub ranks_after : (old new : Grid) (ranks : RankView) (members : List ℕ) (r : Reallocation) → IsReplaced old r new → IsAscending (objects_of r.own) → All (λ o. o ≤ length old.rows) (objects_of r.own)
    → ranks ≡ ranks_of old members
    → record { levels = relevelled ranks.levels r.own; members = r.members } ≡ ranks_of new r.members
ranks_after old new ranks members r is up within tie =
    ap (λ (ls : List ℤ). record { levels = ls; members = r.members }) (ap (λ (k : RankView). relevelled k.levels r.own) tie ∙ own_after old new r is up within)

-- one more object has another level
pub relevelled_more : (levels now : List ℤ) (own : List (ℕ × ℤ)) (i : ℕ) (p : ℕ × ℤ) → slice_get own i ≡ Some p
    → now ≡ relevelled levels (take i own) → set now (p.0 - 1) p.1 ≡ relevelled levels (take (i + 1) own)
relevelled_more levels now own i p is before =
    let within = slice_get_within own i p is in
    let step : List ℤ → ℕ × ℤ → List ℤ = λ ls q. set ls (q.0 - 1) q.1 in
    ap (λ (ls : List ℤ). set ls (p.0 - 1) p.1) before
    ∙ sym (fold_push step levels (take i own) p)
    ∙ ap (λ (q : ℕ × ℤ). fold step levels (take i own ++ q ∷ [])) (sym (get_or_from_slice_get own i p p is))
    ∙ ap (λ (ps : List (ℕ × ℤ)). fold step levels ps) (sym (take_more own i p within))

-- a pair of small changes is small
pub small_at : (own : List (ℕ × ℤ)) (i : ℕ) (p : ℕ × ℤ) → All (λ q. IsFactor q.1) own → slice_get own i ≡ Some p → IsFactor p.1
small_at own i p small is = subst (λ (q : ℕ × ℤ). IsFactor q.1) (get_or_from_slice_get own i p p is) (small i p (slice_get_within own i p is))

-- one more own factor
pub own_more : (grid : Grid) (items : List ℤ) (i : ℕ) (z : ℤ) → i < length grid.rows → items ≡ take i (own_factors grid) → z ≡ factor_at grid 0 (i + 1) → items ++ z ∷ [] ≡ take (i + 1) (own_factors grid)
own_more grid items i z below before is =
    let own = own_factors grid in
    let count = factors_count grid in
    let place : i + 1 - 1 ≡ i = omega arith in
    let here : z ≡ get_or own i (pos 0) = is ∙ sym (own_level grid (i + 1)) ∙ ap (λ m. get_or own m (pos 0)) place in
    ap (λ (l : List ℤ). l ++ z ∷ []) before ∙ ap (λ (x : ℤ). take i own ++ x ∷ []) here ∙ sym (take_more own i (pos 0) (omega (arith, below, count)))

-- ---- the border

-- objects among which all members are hold them
held : (present objects : List ℕ) → All (Contains objects) present → holds objects present ≡ true
held present objects among = list_all-from_AllPass (is_in objects) present (λ k d below. contained_is_in objects (get_or present k d) (among k d below))

-- so they hold those of the rank
pub are_held : (table : Grid) (present objects : List ℕ) (ranks : RankView) → ranks ≡ ranks_of table present
    → All (Contains objects) present → IsTrue (holds objects ranks.members)
are_held table present objects ranks tie among = subst (λ (r : RankView). IsTrue (holds objects r.members)) (sym tie) (held present objects among)

-- what the rank tells is the border of the round
pub rank_border : (s : Setup) (table : Grid) (present objects : List ℕ) (ranks : RankView) → ranks ≡ ranks_of table present
    → own_border ranks.levels ranks.members s.epsilon objects ≡ round_border s table present objects
unfolding round_border
rank_border s table present objects ranks tie = ap (λ (r : RankView). own_border r.levels r.members s.epsilon objects) tie
