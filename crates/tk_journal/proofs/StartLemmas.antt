-- The start: members 1 to k, and all factors 0.
use Rattle.std.proofs.Common.{◌≡◌, ℕ, suc, zero, ◌+◌, ◌≤◌, ℤ, pos, List, [], ◌∷◌, length, map, Contains, refl, sym, ap, ◌∙◌, subst, arith, Bool, true, false}
use Rattle.std.specs.Prelude.{replicate, neg_ℤ, filter, ◌==◌, if◌then◌else◌}
use Rattle.std.specs.List.{All, enumerate_from}
use Rattle.std.proofs.lemmas.Int.{ints}
use Rattle.std.proofs.lemmas.List.{length-replicate}
use Rattle.std.proofs.lemmas.List.Elements.{All-head, All-tail, All-cons, All-nil}
use Rattle.tk_base.specs.Objects.{objects}
use Rattle.tk_base.specs.Settings.{Setup, IsWithinLimits}
use Rattle.tk_base.specs.Sum.{int_sum}
use Rattle.tk_base.proofs.SumLemmas.{int_sum-cons}
use Rattle.tk_base.proofs.MemberLemmas.{length-objects}
use Rattle.tk_border.proofs.RisingLemmas.{ascends, rises-objects}
use Rattle.tk_frames.specs.Assigns.{Assign, row}
use Rattle.tk_rows.specs.Factors.{IsFactor}
use Rattle.tk_alloc.specs.Resolving.{MeetsOwn}
use Rattle.tk_alloc.proofs.WideLemmas.{of_catalogue}
use Rattle.tk_frames.specs.declared.frame.Frame.TheVariants as f
use Rattle.tk_journal.specs.Laws.{AreChanges, IsSetUp, AreSentShort}
use Rattle.tk_journal.specs.Legal.{start, opened}
use Rattle.tk_journal.specs.Readings.{monitors, factor, own, table_at}
use Rattle.tk_journal.proofs.Batches.{named_assigns}
use Rattle.tk_journal.proofs.Content.{all_by}
use Rattle.tk_journal.proofs.Sizes.{batch_short}
use Rattle.tk_journal.proofs.Standing.{object_of}
use Rattle.tk_journal.proofs.Tables.{IsObject, AreSized, own_is, rows_count, table_balanced}

abbrev Given : Type 0
Given = ℕ × List (ℕ × ℤ)

-- Assigns that change nothing give no factor
unchanged : (members : List ℕ) (rows : List Given) (o : ℕ) → All (λ (p : Given). p.1 ≡ []) rows → row (map (λ (p : Given). record { members = members; changes = p.1 }) rows) o ≡ pos 0
unchanged members [] o each = refl
unchanged members (p ∷ rows) o each =
    ap (λ (cs : List (ℕ × ℤ)). row (record { members = members; changes = cs } ∷ map (λ (q : Given). record { members = members; changes = q.1 }) rows) o) (All-head (λ (q : Given). q.1 ≡ []) p rows each)
    ∙ unchanged members rows o (All-tail (λ (q : Given). q.1 ≡ []) p rows each)

kept : (b : Bool) (p : Given) (rows : List Given) → p.1 ≡ [] → All (λ (q : Given). q.1 ≡ []) rows → All (λ (q : Given). q.1 ≡ []) (if b then p ∷ rows else rows)
kept true p rows here rest = All-cons (λ (q : Given). q.1 ≡ []) p rows here rest
kept false p rows here rest = rest

no_changes : (first k : ℕ) (mon : ℕ) → All (λ (p : Given). p.1 ≡ []) (filter (λ (p : Given). p.0 == mon) (enumerate_from first (replicate k [])))
no_changes first zero mon = All-nil (λ (p : Given). p.1 ≡ [])
no_changes first (suc k) mon = kept (first == mon) (first, []) (filter (λ (p : Given). p.0 == mon) (enumerate_from (first + 1) (replicate k []))) refl (no_changes (first + 1) k mon)

start_factor : (s : Setup) (mon o : ℕ) → factor mon (opened (start s)) o ≡ pos 0
unfolding factor
start_factor s mon o =
    ap (λ (xs : List Assign). row xs o) (named_assigns mon [] (λ (p : Given). p.0) (λ _. 1) (objects s.k) (λ p. p.1) (enumerate_from 1 (replicate s.monitors [])))
    ∙ unchanged (objects s.k) (filter (λ (p : Given). p.0 == mon) (enumerate_from 1 (replicate s.monitors []))) o (no_changes 1 s.monitors mon)

zeros : (g : ℕ → ℤ) (xs : List ℕ) → ((x : ℕ) → g x ≡ pos 0) → int_sum (map g xs) ≡ pos 0
zeros g [] each = refl
zeros g (x ∷ xs) each = let c = int_sum-cons (g x) (map g xs) in let h = each x in let r = zeros g xs each in omega (arith, ints, c, h, r)

start_own : (s : Setup) (o : ℕ) → own s (opened (start s)) o ≡ pos 0
unfolding own
start_own s o = ap neg_ℤ (zeros (λ mon. factor mon (opened (start s)) o) (monitors s) (λ mon. start_factor s mon o))

none_small : IsFactor (pos 0)
none_small = omega (arith, ints)

start_sized : (s : Setup) → AreSized s (opened (start s))
start_sized s = record {
  own = λ o r. subst IsFactor (sym (start_own s o)) none_small;
  each = λ o mon r m. subst IsFactor (sym (start_factor s mon o)) none_small;
}

start_within : (s : Setup) → IsWithinLimits s → All (λ t. t ≤ s.objects) (objects s.k)
start_within s limits = all_by (λ t. t ≤ s.objects) (objects s.k) (λ t in'. let w = (of_catalogue s.k t in').1 in let m = limits.members in omega (arith, w, m))

start_meets : (s : Setup) → IsWithinLimits s → MeetsOwn (table_at s (opened (start s))) s.epsilon (objects s.k)
start_meets s limits t o in' out some within =
    let j = opened (start s) in
    let r : IsObject s o = record { from_one = some; within = (let l = rows_count s j in omega (arith, within, l)) } in
    let of_t = own_is s j t (object_of s (objects s.k) [] t (ascends (objects s.k) (rises-objects s.k)) (start_within s limits) in') in
    let of_o = own_is s j o r in
    let zero_t = start_own s t in
    let zero_o = start_own s o in
    let debt = limits.no_debt in
    omega (arith, ints, of_t, of_o, zero_t, zero_o, debt)

-- the first Assigns are short
empty_changes : (first k : ℕ) (p : Given) → Contains (enumerate_from first (replicate k [])) p → p.1 ≡ []
empty_changes first zero p (i, below, is) = absurd (omega (arith, below))
empty_changes first (suc k) p (zero, below, is) = ap (λ (q : Given). q.1) (sym is)
empty_changes first (suc k) p (suc i, below, is) = empty_changes (first + 1) k p (i, omega (arith, below), is)

start_short : (s : Setup) → IsWithinLimits s → AreSentShort (opened (start s))
start_short s limits =
    batch_short (λ (p : Given). p.0) (λ p. f.Assign 1 (objects s.k) p.1) (enumerate_from 1 (replicate s.monitors []))
    (λ p in'. ((let l = length-objects s.k in let m = limits.k in omega (arith, l, m)), (let e = ap length (empty_changes 1 s.monitors p in') in omega (arith, e))))

nothing_changes : (n : ℕ) → AreChanges n []
nothing_changes n c (k, below, is) = absurd (omega (arith, below))

pub start_set_up : (s : Setup) → IsWithinLimits s → IsSetUp (start s)
start_set_up s limits = record {
  limits = limits;
  factors = length-replicate s.monitors [];
  count = length-objects s.k;
  ascends = ascends (objects s.k) (rises-objects s.k);
  within = start_within s limits;
  changes = start_short s limits;
  given = λ p in'. subst (AreChanges s.objects) (sym (empty_changes 1 s.monitors p in')) (nothing_changes s.objects);
  table = table_balanced s (opened (start s)) (start_sized s);
  own = start_meets s limits;
}
