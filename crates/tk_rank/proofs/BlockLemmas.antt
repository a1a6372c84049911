-- Leaves in blocks: what stands in a block, and what a write leaves.
use Rattle.std.proofs.Common.{◌≡◌, ◌≢◌, ◌⊎◌, ℕ, suc, zero, ◌+◌, ◌-◌, ◌*◌, ◌/◌, ◌<◌, ◌≤◌, min, ℤ, Bool, true, false, cond, not, eqb, ne_eqb, List, [], ◌∷◌, ◌++◌, length, map, set, get_or, filter, Option, Some, None, refl, sym, ap, ap₂, ◌∙◌, subst, arith, inl, inr, get_or-set_other, get_or-set_same, length-set}
use Rattle.std.specs.Int.{int_max}
use Rattle.std.specs.List.{range_with_len, cons_option, AllWithin}
use Rattle.std.proofs.Math.ListN.{get_or-eq_default}
use Rattle.std.proofs.lemmas.Bool.{cases_Bool, cases_eq, cases_lt}
use Rattle.std.proofs.lemmas.Int.{ints, clamps}
use Rattle.std.proofs.lemmas.List.{append-nil, get_or_default, length-map}
use Rattle.std.proofs.lemmas.List.Elements.{filter-append, filter_map-append}
use Rattle.std.proofs.lemmas.List.Folds.{list_any_none}
use Rattle.tk_base.specs.Ascending.{IsAscending}
use Rattle.tk_base.specs.Objects.{is_in, objects}
use Rattle.tk_base.proofs.OptionLemmas.{some_is}
use Rattle.tk_border.specs.Levels.{greatest_of, IsPassed}
use Rattle.tk_border.proofs.PassedLemmas.{ahead_of}
use Rattle.tk_border.proofs.RisingLemmas.{range-append}
use Rattle.tk_rank.specs.Blocks.{AreBlocks, objects_in, blocks_of}
use Rattle.tk_rank.specs.Tree.{greater, is_over, leaf_at, leaves_of, standing, those_over, width_of, IsOther, IsTree}
use Rattle.tk_rank.proofs.GreatestLemmas.{filter_nothing, greater_none, greater_assoc, greatest-cons, greatest-one, over_any, standing-append}
use Rattle.tk_rank.proofs.TreeLemmas.{length-leaves}

-- ---- the greater of two

pub greater_comm : (a b : Option ℤ) → greater a b ≡ greater b a
greater_comm None None = refl
greater_comm None (Some y) = refl
greater_comm (Some x) None = refl
greater_comm (Some x) (Some y) = ap Some (omega (arith, ints, clamps))

some_not : (x : ℤ) (a : Option ℤ) → a ≡ None → a ≡ Some x → ⊥
some_not x a none some = cc

upper : (x y v : ℤ) → v ≡ int_max (int_max x y) v → int_max x v ≡ v
upper x y v high = omega (arith, ints, clamps, high)

one_of : (x y : ℤ) → (int_max x y ≡ x) ⊎ (int_max x y ≡ y)
one_of x y = grind (arith, ints)

picks : (a b : Option ℤ) → (greater a b ≡ a) ⊎ (greater a b ≡ b)
picks None b = inr refl
picks (Some x) None = inl refl
picks (Some x) (Some y) = elim (one_of x y) [
  | inl e ↦ inl (ap Some e)
  | inr e ↦ inr (ap Some e)
]

-- a number that is the greatest with some others and what it takes the place of is so with the others alone
pub new_greatest : (rest old top x : Option ℤ) → top ≡ greater rest old → x ≡ greater top x → greater rest x ≡ x
new_greatest None old top x is most = refl
new_greatest (Some r) None top None is most = absurd (some_not r top (sym (most ∙ greater_none top)) is)
new_greatest (Some r) (Some o) top None is most = absurd (some_not (int_max r o) top (sym (most ∙ greater_none top)) is)
new_greatest (Some r) None top (Some v) is most = sym (most ∙ ap (λ t. greater t (Some v)) is)
new_greatest (Some r) (Some o) top (Some v) is most =
    ap Some (upper r o v (some_is v (int_max (int_max r o) v) (most ∙ ap (λ t. greater t (Some v)) is)))

-- the greatest of some others and a number stays so where that number was not it and the new one is not
pub same_greatest : (rest old top x : Option ℤ) → top ≡ greater rest old → old ≢ top → x ≢ greater top x → greater rest x ≡ top
same_greatest None old top x is other low = absurd (other (sym is))
same_greatest (Some r) old top None is other low = elim (picks (Some r) old) [
  | inl e ↦ sym (is ∙ e)
  | inr e ↦ absurd (other (sym (is ∙ e)))
]
same_greatest (Some r) old top (Some v) is other low = elim (picks (Some r) old) [
  | inl e ↦ elim (picks (Some r) (Some v)) [
    | inl f ↦ f ∙ sym (is ∙ e)
    | inr f ↦ absurd (low (sym f ∙ ap (λ t. greater t (Some v)) (sym (is ∙ e))))
  ]
  | inr e ↦ absurd (other (sym (is ∙ e)))
]

-- ---- what stands in a block

-- nothing stands behind the leaves
pub beyond : (leaves : List (Option ℤ)) (first n : ℕ) → length leaves < first → standing leaves (range_with_len first n) ≡ []
beyond leaves first zero far = refl
beyond leaves first (suc n) far =
    ap₂ cons_option (get_or-eq_default leaves None (omega arith)) (beyond leaves (first + 1) n (omega arith))

-- so what stands in a range is what stands before its end
pub cut : (leaves : List (Option ℤ)) (first n m : ℕ) → n ≤ m → (n < m → length leaves < first + n) → standing leaves (range_with_len first m) ≡ standing leaves (range_with_len first n)
cut leaves first n m less far = elim (cases_lt n m) [
  | inl more ↦
      ap (standing leaves) (ap (range_with_len first) (omega arith) ∙ range-append first n (m - n))
      ∙ filter_map-append (leaf_at leaves) (range_with_len first n) (range_with_len (first + n) (m - n))
      ∙ ap (λ list. standing leaves (range_with_len first n) ++ list) (beyond leaves (first + n) (m - n) (far more))
      ∙ append-nil (standing leaves (range_with_len first n))
  | inr all ↦ ap (λ k. standing leaves (range_with_len first k)) (omega arith)
]

-- a write elsewhere leaves what stands
pub stands_still : (leaves : List (Option ℤ)) (place : ℕ) (x : Option ℤ) (first n : ℕ) → 0 < first → ((o : ℕ) → first ≤ o → o < first + n → o ≢ place + 1) → standing (set leaves place x) (range_with_len first n) ≡ standing leaves (range_with_len first n)
stands_still leaves place x first zero some apart = refl
stands_still leaves place x first (suc n) some apart =
    ap₂ cons_option (get_or-set_other leaves place (first - 1) x None (λ e. apart first (omega arith) (omega arith) (omega (arith, e))))
    (stands_still leaves place x (first + 1) n (omega arith) (λ o low high. apart o (omega arith) (omega arith)))

-- a leaf of a block beside the others
pub record IsParted (leaves : List (Option ℤ)) (first n place : ℕ) : Type 0 where
  pub rest : Option ℤ
  pub is : greatest_of (standing leaves (range_with_len first n)) ≡ greater rest (get_or leaves place None)
  pub put : (x : Option ℤ) → greatest_of (standing (set leaves place x) (range_with_len first n)) ≡ greater rest x

pub parted : (leaves : List (Option ℤ)) (first n place : ℕ) → place < length leaves → 0 < first → first ≤ place + 1 → place + 1 < first + n → IsParted leaves first n place
parted leaves first zero place within some low high = absurd (omega arith)
parted leaves first (suc n) place within some low high = elim (cases_eq first (place + 1)) [
  | inl e ↦
      let others = standing leaves (range_with_len (first + 1) n) in
      let here = λ (xs : List (Option ℤ)). ap (λ k. get_or xs k None) {x = first - 1} {y = place} (omega (arith, e)) in
      record {
        rest = greatest_of others;
        is = greatest-cons (leaf_at leaves first) others ∙ ap (λ a. greater a (greatest_of others)) (here leaves) ∙ greater_comm (get_or leaves place None) (greatest_of others);
        put = λ x.
            greatest-cons (leaf_at (set leaves place x) first) (standing (set leaves place x) (range_with_len (first + 1) n))
            ∙ ap₂ greater (here (set leaves place x) ∙ get_or-set_same leaves place x None within) (ap greatest_of (stands_still leaves place x (first + 1) n (omega arith) (λ o below above. omega (arith, e))))
            ∙ greater_comm x (greatest_of others);
      }
  | inr ne ↦
      let more = parted leaves (first + 1) n place within (omega arith) (omega arith) (omega arith) in
      let head = leaf_at leaves first in
      record {
        rest = greater head more.rest;
        is = greatest-cons head (standing leaves (range_with_len (first + 1) n)) ∙ ap (greater head) more.is ∙ sym (greater_assoc head more.rest (get_or leaves place None));
        put = λ x.
            greatest-cons (leaf_at (set leaves place x) first) (standing (set leaves place x) (range_with_len (first + 1) n))
            ∙ ap₂ greater (get_or-set_other leaves place (first - 1) x None (λ e. ne (omega (arith, e)))) (more.put x)
            ∙ sym (greater_assoc head more.rest x);
      }
]

-- ---- blocks

-- leaves with another number are blocks again, where the tree has the greatest of its block and all else is as before
pub still_blocks : (leaves nodes next : List (Option ℤ)) (place : ℕ) (x : Option ℤ) → AreBlocks leaves nodes → IsTree next → width_of next ≡ width_of nodes
    → get_or (leaves_of next) (place / 64) None ≡ greatest_of (standing (set leaves place x) (objects_in (place / 64)))
    → ((block : ℕ) → block ≢ place / 64 → get_or (leaves_of next) block None ≡ get_or (leaves_of nodes) block None)
    → AreBlocks (set leaves place x) next
still_blocks leaves nodes next place x blocks tree same here others = record {
  few = omega (arith, length-set leaves place x, blocks.few);
  tree = tree;
  covers = omega (arith, length-set leaves place x, blocks.covers, same);
  each = λ block. elim (cases_eq block (place / 64)) [
    | inl e ↦ subst (λ b. get_or (leaves_of next) b None ≡ greatest_of (standing (set leaves place x) (objects_in b))) (sym e) here
    | inr ne ↦ others block ne ∙ blocks.each block ∙ sym (ap greatest_of (stands_still leaves place x (64 * block + 1) 64 (omega arith) (λ o low high is. ne (omega (arith, is)))))
  ];
}

grown : (n m k : ℕ) → m ≡ n + k → range_with_len 1 m ≡ range_with_len 1 n ++ range_with_len (1 + n) k
grown n m k e = ap (range_with_len 1) e ∙ range-append 1 n k

-- the root has the greatest of all blocks
gathered : (leaves tops : List (Option ℤ)) (n : ℕ) → ((block : ℕ) → get_or tops block None ≡ greatest_of (standing leaves (objects_in block))) → greatest_of (standing tops (range_with_len 1 n)) ≡ greatest_of (standing leaves (range_with_len 1 (64 * n)))
gathered leaves tops zero each = refl
gathered leaves tops (suc n) each =
    ap (λ list. greatest_of (standing tops list)) (grown n (suc n) 1 (omega arith))
    ∙ standing-append tops (range_with_len 1 n) (range_with_len (1 + n) 1)
    ∙ ap₂ greater (gathered leaves tops n each)
    (greatest-one (leaf_at tops (1 + n)) ∙ subst (λ k. get_or tops k None ≡ get_or tops n None) {x = n} {y = 1 + n - 1} (omega arith) refl ∙ each n ∙ ap (λ a. greatest_of (standing leaves (range_with_len a 64))) {x = 64 * n + 1} {y = 1 + 64 * n} (omega arith))
    ∙ sym (standing-append leaves (range_with_len 1 (64 * n)) (range_with_len (1 + 64 * n) 64))
    ∙ ap (λ list. greatest_of (standing leaves list)) (sym (grown (64 * n) (64 * suc n) 64 (omega arith)))

pub all_objects : (n : ℕ) → range_with_len 1 n ≡ objects n
unfolding objects
all_objects n = refl

pub blocks_root : (leaves nodes : List (Option ℤ)) → AreBlocks leaves nodes → greatest_of (standing (leaves_of nodes) (objects (length (leaves_of nodes)))) ≡ greatest_of (standing leaves (objects (length leaves)))
blocks_root leaves nodes blocks =
    let wide = length-leaves nodes blocks.tree.even in
    ap (λ list. greatest_of (standing (leaves_of nodes) list)) (sym (all_objects (length (leaves_of nodes))))
    ∙ gathered leaves (leaves_of nodes) (length (leaves_of nodes)) blocks.each
    ∙ ap greatest_of (cut leaves 1 (length leaves) (64 * length (leaves_of nodes)) (omega (arith, wide, blocks.covers)) (λ more. omega arith))
    ∙ ap (λ list. greatest_of (standing leaves list)) (all_objects (length leaves))

-- empty leaves under an empty tree
standing_none : (leaves : List (Option ℤ)) (first n : ℕ) → ((i : ℕ) → get_or leaves i None ≡ None) → standing leaves (range_with_len first n) ≡ []
standing_none leaves first zero none = refl
standing_none leaves first (suc n) none = ap₂ cons_option (none (first - 1)) (standing_none leaves (first + 1) n none)

no_greatest : greatest_of [] ≡ None
unfolding greatest_of
no_greatest = refl

pub empty_blocks : (leaves nodes : List (Option ℤ)) → length leaves ≤ 65536 → IsTree nodes → blocks_of (length leaves) ≤ length (leaves_of nodes) → ((i : ℕ) → get_or leaves i None ≡ None) → ((i : ℕ) → get_or (leaves_of nodes) i None ≡ None) → AreBlocks leaves nodes
empty_blocks leaves nodes few tree enough none nowhere = record {
  few = few;
  tree = tree;
  covers = omega (arith, enough, length-leaves nodes tree.even);
  each = λ block. nowhere block ∙ sym (ap greatest_of (standing_none leaves (64 * block + 1) 64 none) ∙ no_greatest);
}

-- ---- walks over the leaves of a block

pub stands_first : (leaves : List (Option ℤ)) (from : ℕ) → None ≡ greatest_of (standing leaves (range_with_len (from + 1) (from - from)))
stands_first leaves from = sym (ap (λ n. greatest_of (standing leaves (range_with_len (from + 1) n))) {x = from - from} {y = 0} (omega arith) ∙ no_greatest)

pub nothing_first : (p : ℕ → Bool) (leaves : List (Option ℤ)) (from : ℕ) → None ≡ greatest_of (standing leaves (filter p (range_with_len (from + 1) (from - from))))
nothing_first p leaves from = sym (ap (λ n. greatest_of (standing leaves (filter p (range_with_len (from + 1) n)))) {x = from - from} {y = 0} (omega arith) ∙ no_greatest)

-- one more object of a range
pub one_more : (from i : ℕ) → from ≤ i → range_with_len (from + 1) (i + 1 - from) ≡ range_with_len (from + 1) (i - from) ++ (i + 1) ∷ []
one_more from i order =
    ap (range_with_len (from + 1)) {x = i + 1 - from} {y = (i - from) + 1} (omega arith)
    ∙ range-append (from + 1) (i - from) 1
    ∙ ap (λ o. range_with_len (from + 1) (i - from) ++ o ∷ []) (omega arith)

pub stands_more : (leaves : List (Option ℤ)) (from i : ℕ) → from ≤ i → greater (greatest_of (standing leaves (range_with_len (from + 1) (i - from)))) (get_or leaves i None) ≡ greatest_of (standing leaves (range_with_len (from + 1) (i + 1 - from)))
stands_more leaves from i order =
    let before = range_with_len (from + 1) (i - from) in
    sym (ap (λ list. greatest_of (standing leaves list)) (one_more from i order)
    ∙ standing-append leaves before ((i + 1) ∷ [])
    ∙ ap (greater (greatest_of (standing leaves before))) (greatest-one (leaf_at leaves (i + 1)) ∙ ap (λ k. get_or leaves k None) {x = i + 1 - 1} {y = i} (omega arith)))

-- the same of those that pass a test
pub passing_more : (p : ℕ → Bool) (leaves : List (Option ℤ)) (from i : ℕ) → from ≤ i → p (i + 1) ≡ true → greater (greatest_of (standing leaves (filter p (range_with_len (from + 1) (i - from))))) (get_or leaves i None) ≡ greatest_of (standing leaves (filter p (range_with_len (from + 1) (i + 1 - from))))
passing_more p leaves from i order pass =
    let before = filter p (range_with_len (from + 1) (i - from)) in
    sym (ap (λ list. greatest_of (standing leaves list)) (ap (filter p) (one_more from i order) ∙ filter-append p (range_with_len (from + 1) (i - from)) ((i + 1) ∷ []) ∙ ap (λ t. before ++ cond t ((i + 1) ∷ []) []) pass)
    ∙ standing-append leaves before ((i + 1) ∷ [])
    ∙ ap (greater (greatest_of (standing leaves before))) (greatest-one (leaf_at leaves (i + 1)) ∙ ap (λ k. get_or leaves k None) {x = i + 1 - 1} {y = i} (omega arith)))

-- and one that does not adds nothing
pub kept_out : (p : ℕ → Bool) (from i : ℕ) → from ≤ i → p (i + 1) ≡ false → filter p (range_with_len (from + 1) (i + 1 - from)) ≡ filter p (range_with_len (from + 1) (i - from))
kept_out p from i order out =
    ap (filter p) (one_more from i order)
    ∙ filter-append p (range_with_len (from + 1) (i - from)) ((i + 1) ∷ [])
    ∙ ap (λ t. filter p (range_with_len (from + 1) (i - from)) ++ cond t ((i + 1) ∷ []) []) out
    ∙ append-nil (filter p (range_with_len (from + 1) (i - from)))

pub kept_in : (p : ℕ → Bool) (from i : ℕ) → from ≤ i → p (i + 1) ≡ true → filter p (range_with_len (from + 1) (i + 1 - from)) ≡ filter p (range_with_len (from + 1) (i - from)) ++ (i + 1) ∷ []
kept_in p from i order pass =
    ap (filter p) (one_more from i order)
    ∙ filter-append p (range_with_len (from + 1) (i - from)) ((i + 1) ∷ [])
    ∙ ap (λ t. filter p (range_with_len (from + 1) (i - from)) ++ cond t ((i + 1) ∷ []) []) pass

-- ---- what a write leaves

-- the block of a leaf is one of those that the tree stands over
pub block_within : (leaves nodes : List (Option ℤ)) (place : ℕ) → AreBlocks leaves nodes → place < length leaves → place / 64 < length (leaves_of nodes)
block_within leaves nodes place blocks within = omega (arith, blocks.covers, within, length-leaves nodes blocks.tree.even)

-- the same of lists of which each shows a number
pub block_of_leaf : {N : Type 0} (number : N → Option ℤ) (leaves nodes : List N) (place : ℕ) → AreBlocks (map number leaves) (map number nodes) → place < length leaves → place / 64 < length (leaves_of (map number nodes))
block_of_leaf number leaves nodes place blocks within = block_within (map number leaves) (map number nodes) place blocks (omega (arith, within, length-map leaves number))

part_of : (leaves : List (Option ℤ)) (place : ℕ) → place < length leaves → IsParted leaves (64 * (place / 64) + 1) 64 place
part_of leaves place within = parted leaves (64 * (place / 64) + 1) 64 place within (omega arith) (omega arith) (omega arith)

-- a number that is not below the greatest of its block is its greatest then
pub block_new : (leaves nodes : List (Option ℤ)) (place : ℕ) (x : Option ℤ) → AreBlocks leaves nodes → place < length leaves → x ≡ greater (get_or (leaves_of nodes) (place / 64) None) x → x ≡ greatest_of (standing (set leaves place x) (objects_in (place / 64)))
block_new leaves nodes place x blocks within most =
    let part = part_of leaves place within in
    sym (part.put x ∙ new_greatest part.rest (get_or leaves place None) (get_or (leaves_of nodes) (place / 64) None) x (blocks.each (place / 64) ∙ part.is) most)

-- else it stays what it was, unless that was the number before
pub block_same : (leaves nodes : List (Option ℤ)) (place : ℕ) (x : Option ℤ) → AreBlocks leaves nodes → place < length leaves → get_or leaves place None ≢ get_or (leaves_of nodes) (place / 64) None → x ≢ greater (get_or (leaves_of nodes) (place / 64) None) x → get_or (leaves_of nodes) (place / 64) None ≡ greatest_of (standing (set leaves place x) (objects_in (place / 64)))
block_same leaves nodes place x blocks within other low =
    let part = part_of leaves place within in
    sym (part.put x ∙ same_greatest part.rest (get_or leaves place None) (get_or (leaves_of nodes) (place / 64) None) x (blocks.each (place / 64) ∙ part.is) other low)

-- what stands in a block up to its end
pub block_end : (leaves : List (Option ℤ)) (block to : ℕ) → 64 * block ≤ to → to ≡ min (length leaves) (64 * (block + 1)) → greatest_of (standing leaves (range_with_len (64 * block + 1) (to - 64 * block))) ≡ greatest_of (standing leaves (objects_in block))
block_end leaves block to order is = sym (ap greatest_of (cut leaves (64 * block + 1) (to - 64 * block) 64 (omega (arith, is)) (λ more. omega (arith, is, more))))

-- blocks whose tree has another number at that of a leaf
pub put_blocks : (leaves nodes next : List (Option ℤ)) (place : ℕ) (x mended : Option ℤ) → AreBlocks leaves nodes → place < length leaves → IsTree next → length next ≡ length nodes → leaves_of next ≡ set (leaves_of nodes) (place / 64) mended → mended ≡ greatest_of (standing (set leaves place x) (objects_in (place / 64))) → AreBlocks (set leaves place x) next
put_blocks leaves nodes next place x mended blocks within tree size is greatest =
    still_blocks leaves nodes next place x blocks tree (ap (λ n. n / 2) size)
    (ap (λ list. get_or list (place / 64) None) is ∙ get_or-set_same (leaves_of nodes) (place / 64) mended None (block_within leaves nodes place blocks within) ∙ greatest)
    (λ block ne. ap (λ list. get_or list block None) is ∙ get_or-set_other (leaves_of nodes) (place / 64) block mended None ne)

-- and those whose tree stays
pub kept_blocks : (leaves nodes : List (Option ℤ)) (place : ℕ) (x : Option ℤ) → AreBlocks leaves nodes → get_or (leaves_of nodes) (place / 64) None ≡ greatest_of (standing (set leaves place x) (objects_in (place / 64))) → AreBlocks (set leaves place x) nodes
kept_blocks leaves nodes place x blocks greatest = still_blocks leaves nodes nodes place x blocks blocks.tree refl greatest (λ block ne. refl)

-- ---- walks over the blocks

-- the objects up to the end of a block
pub grown_block : (n block to : ℕ) → 64 * block ≤ to → to ≡ min n (64 * (block + 1)) → range_with_len 1 (min n (64 * (block + 1))) ≡ range_with_len 1 (min n (64 * block)) ++ range_with_len (64 * block + 1) (to - 64 * block)
grown_block n block to order is =
    grown (64 * block) (min n (64 * (block + 1))) (to - 64 * block) (omega (arith, is))
    ∙ ap (λ a. range_with_len 1 a ++ range_with_len (1 + 64 * block) (to - 64 * block)) {x = 64 * block} {y = min n (64 * block)} (omega (arith, is))
    ∙ ap (λ b. range_with_len 1 (min n (64 * block)) ++ range_with_len b (to - 64 * block)) {x = 1 + 64 * block} {y = 64 * block + 1} (omega arith)

pub found_more : (level : ℤ) (leaves : List (Option ℤ)) (block to : ℕ) → 64 * block ≤ to → to ≡ min (length leaves) (64 * (block + 1))
    → those_over level leaves (range_with_len 1 (min (length leaves) (64 * (block + 1)))) ≡ those_over level leaves (range_with_len 1 (min (length leaves) (64 * block))) ++ those_over level leaves (range_with_len (64 * block + 1) (to - 64 * block))
found_more level leaves block to order is =
    let test = λ (o : ℕ). is_over level (leaf_at leaves o) in
    ap (filter test) (grown_block (length leaves) block to order is)
    ∙ filter-append test (range_with_len 1 (min (length leaves) (64 * block))) (range_with_len (64 * block + 1) (to - 64 * block))

pub nothing_found : (level : ℤ) (leaves : List (Option ℤ)) (n : ℕ) → n ≡ 0 → [] ≡ those_over level leaves (range_with_len 1 n)
nothing_found level leaves n none = sym (ap (λ k. those_over level leaves (range_with_len 1 k)) none)

-- a block whose greatest is not above a level has no object above it
pub nothing_over : (level : ℤ) (leaves nodes : List (Option ℤ)) (block to : ℕ) → AreBlocks leaves nodes → 64 * block ≤ to → to ≡ min (length leaves) (64 * (block + 1)) → is_over level (get_or (leaves_of nodes) block None) ≡ false → those_over level leaves (range_with_len (64 * block + 1) (to - 64 * block)) ≡ []
nothing_over level leaves nodes block to blocks order is low =
    let list = range_with_len (64 * block + 1) (to - 64 * block) in
    filter_nothing (λ o. is_over level (leaf_at leaves o)) list
    (sym (over_any level leaves list) ∙ ap (is_over level) (block_end leaves block to order is ∙ sym (blocks.each block)) ∙ low)

-- each of the blocks is one of those that the tree stands over
pub one_of_blocks : (leaves nodes : List (Option ℤ)) (block : ℕ) → AreBlocks leaves nodes → block < blocks_of (length leaves) → block < length (leaves_of nodes)
one_of_blocks leaves nodes block blocks less = omega (arith, blocks.covers, less, length-leaves nodes blocks.tree.even)

-- a walk along a set has passed all objects before the block that it comes to
pub passed_before : (set : List ℕ) (place n block : ℕ) → 64 * block < n → IsPassed set place (min n (64 * block) + 1) → IsPassed set place (64 * block + 1)
passed_before set place n block before passed = subst (λ e. IsPassed set place e) {x = min n (64 * block) + 1} {y = 64 * block + 1} (omega (arith, before)) passed

-- the objects of all blocks
pub all_blocks : (n block : ℕ) → blocks_of n ≤ block → range_with_len 1 (min n (64 * block)) ≡ objects n
all_blocks n block enough = ap (range_with_len 1) {x = min n (64 * block)} {y = n} (omega (arith, enough)) ∙ all_objects n

-- the greatest outside a set, one more block
pub outside_more : (p : ℕ → Bool) (leaves : List (Option ℤ)) (block to : ℕ) → 64 * block ≤ to → to ≡ min (length leaves) (64 * (block + 1))
    → greater (greatest_of (standing leaves (filter p (range_with_len 1 (min (length leaves) (64 * block)))))) (greatest_of (standing leaves (filter p (range_with_len (64 * block + 1) (to - 64 * block)))))
    ≡ greatest_of (standing leaves (filter p (range_with_len 1 (min (length leaves) (64 * (block + 1))))))
outside_more p leaves block to order is =
    let before = range_with_len 1 (min (length leaves) (64 * block)) in
    let here = range_with_len (64 * block + 1) (to - 64 * block) in
    sym (ap (λ list. greatest_of (standing leaves list)) (ap (filter p) (grown_block (length leaves) block to order is) ∙ filter-append p before here) ∙ standing-append leaves (filter p before) (filter p here))

-- leaving out leaves that do not have the greatest number keeps it
still_greatest : (p : ℕ → Bool) (leaves : List (Option ℤ)) (before top : Option ℤ) (first n : ℕ) → ((o : ℕ) → first ≤ o → o < first + n → leaf_at leaves o ≡ top → p o ≡ true)
    → greater before (greatest_of (standing leaves (range_with_len first n))) ≡ top → greater before (greatest_of (standing leaves (filter p (range_with_len first n)))) ≡ top
still_greatest p leaves before top first zero kept is = is
still_greatest p leaves before top first (suc n) kept is =
    let here = leaf_at leaves first in
    let all = greatest_of (standing leaves (range_with_len (first + 1) n)) in
    let left = filter p (range_with_len (first + 1) n) in
    let later = λ (o : ℕ) (low : first + 1 ≤ o) (high : o < first + 1 + n). kept o (omega arith) (omega arith) in
    let parts : greater before (greater here all) ≡ top = ap (greater before) (sym (greatest-cons here (standing leaves (range_with_len (first + 1) n)))) ∙ is in
    elim (cases_Bool (p first)) [
      | inl pass ↦
          ap (λ t. greater before (greatest_of (standing leaves (cond t (first ∷ left) left)))) pass
          ∙ ap (greater before) (greatest-cons here (standing leaves left))
          ∙ sym (greater_assoc before here (greatest_of (standing leaves left)))
          ∙ still_greatest p leaves (greater before here) top (first + 1) n later (greater_assoc before here all ∙ parts)
      | inr out ↦
          let others : greater here (greater before all) ≡ top = sym (greater_assoc here before all) ∙ ap (λ a. greater a all) (greater_comm here before) ∙ greater_assoc before here all ∙ parts in
          ap (λ t. greater before (greatest_of (standing leaves (cond t (first ∷ left) left)))) out
          ∙ still_greatest p leaves before top (first + 1) n later (elim (picks here (greater before all)) [
            | inl one ↦ let in_set = kept first (omega arith) (omega arith) (sym one ∙ others) in absurd (cc)
            | inr rest ↦ sym rest ∙ others
          ])
    ]

-- an object with a number that no place of a walk along a set has is outside the set
walked_without : (set : List ℕ) (place next from to : ℕ) (leaves : List (Option ℤ)) (top : Option ℤ) (o : ℕ) → IsPassed set place (from + 1) → IsPassed set next (to + 1) → AllWithin (IsOther leaves top) set place next → from < o → o ≤ to → leaf_at leaves o ≡ top → is_in set o ≡ false
walked_without set place next from to leaves top o before behind other low high has = list_any_none (λ q. eqb q o) set (λ k d within. ne_eqb (get_or set k d) o (λ e. elim (cases_lt k place) [
  | inl early ↦ let old = before.passed k d (omega arith) early in omega arith
  | inr late ↦ elim (cases_lt k next) [
    | inl met ↦ other k d late met (ap (leaf_at leaves) e ∙ has)
    | inr after ↦ let far = behind.ahead k d after within in omega arith
  ]
]))

-- so the greatest of some leaves that no object of the set has is that of the leaves outside it
pub outside_without : (set : List ℕ) (place next from to : ℕ) (leaves : List (Option ℤ)) (top : Option ℤ) → from ≤ to → IsPassed set place (from + 1) → IsPassed set next (to + 1) → AllWithin (IsOther leaves top) set place next
    → top ≡ greatest_of (standing leaves (range_with_len (from + 1) (to - from))) → top ≡ greatest_of (standing leaves (filter (λ o. not (is_in set o)) (range_with_len (from + 1) (to - from))))
outside_without set place next from to leaves top order before behind other is =
    sym (still_greatest (λ o. not (is_in set o)) leaves None top (from + 1) (to - from)
    (λ o low high has. ap not (walked_without set place next from to leaves top o before behind other (omega arith) (omega arith) has)) (sym is))

pub nothing_yet : (p : ℕ → Bool) (leaves : List (Option ℤ)) (n : ℕ) → n ≡ 0 → None ≡ greatest_of (standing leaves (filter p (range_with_len 1 n)))
nothing_yet p leaves n none = sym (ap (λ k. greatest_of (standing leaves (filter p (range_with_len 1 k)))) none ∙ no_greatest)

-- ---- walks along a set

-- what holds at each place of a stretch, and at one more
pub within_more : (P : ℕ → Type 0) (xs : List ℕ) (from n : ℕ) → AllWithin P xs from n → n < length xs → P (get_or xs n 0) → AllWithin P xs from (n + 1)
within_more P xs from n was within here k d low high = elim (cases_lt k n) [
  | inl before ↦ was k d low before
  | inr last ↦ let e : n ≡ k = omega arith in subst P (ap (λ i. get_or xs i 0) e ∙ get_or_default xs k 0 d (omega arith)) here
]

-- the objects passed have lesser numbers, and the one that is reached has not
pub passed_to : (set : List ℕ) (place o : ℕ) → IsAscending set → place < length set → AllWithin (λ q. q < o) set 0 place → o ≤ get_or set place 0 → IsPassed set place o
passed_to set place o up within before low = record {
  within = omega arith;
  passed = before;
  ahead = ahead_of set place o up low;
}
