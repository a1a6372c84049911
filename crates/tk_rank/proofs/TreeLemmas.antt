-- A tree seen as its leaves.
use Rattle.std.proofs.Common.{◌≡◌, ℕ, suc, zero, ◌+◌, ◌*◌, ◌/◌, ◌^◌, ◌<◌, ◌≤◌, max, ℤ, List, length, get_or, drop, replicate, Option, None, sym, ap, ap₂, ◌∙◌, subst, arith, inl, inr, length-drop}
use Rattle.std.specs.Int.{IsPowerOfTwo}
use Rattle.std.specs.List.{range_with_len}
use Rattle.std.proofs.Math.ListN.{get_or-eq_default}
use Rattle.std.proofs.Math.Pow.{pow_mono}
use Rattle.std.proofs.lemmas.Bool.{cases_lt}
use Rattle.std.proofs.lemmas.List.{get_or-replicate, drop-replicate, length-replicate}
use Rattle.std.proofs.lemmas.Nat.{pow_pos}
use Rattle.tk_base.specs.Objects.{objects}
use Rattle.tk_border.specs.Levels.{greatest_of}
use Rattle.tk_rank.specs.Tree.{greater, node_at, width_of, leaves_of, HasNodes, IsTree, standing}
use Rattle.tk_rank.proofs.NodeLemmas.{node_stands, power_doubles, whole_part}

pub length-leaves : (nodes : List (Option ℤ)) → length nodes ≡ width_of nodes + width_of nodes → length (leaves_of nodes) ≡ width_of nodes
length-leaves nodes even = length-drop (width_of nodes) nodes ∙ omega (arith, even)

pub tree_objects : (nodes : List (Option ℤ)) → IsTree nodes → range_with_len 1 (width_of nodes) ≡ objects (length (leaves_of nodes))
unfolding objects
tree_objects nodes tree = ap (range_with_len 1) (sym (length-leaves nodes tree.even))

-- the root has the greatest number of all
pub root_stands : (nodes : List (Option ℤ)) → IsTree nodes → node_at nodes 1 ≡ greatest_of (standing (leaves_of nodes) (objects (length (leaves_of nodes))))
root_stands nodes tree =
    node_stands (width_of nodes) 1 1 nodes tree (whole_part nodes tree)
    ∙ ap (λ list. greatest_of (standing (leaves_of nodes) list)) (tree_objects nodes tree)

-- ---- room

power_within : (h g n : ℕ) → n ≤ 2 ^ g → 2 ^ h / 2 < max 1 n → 2 ^ h ≤ 2 ^ g
power_within zero g n enough low = pow_pos g
power_within (suc h) g n enough low = elim (cases_lt h g) [
  | inl less ↦ pow_mono less
  | inr more ↦ let wide : 2 ^ g ≤ 2 ^ h = pow_mono more in let some = pow_pos g in absurd (omega (arith, power_doubles h))
]

-- room for the least power of two that is enough
pub room_for : (leaves power : ℕ) → IsPowerOfTwo power → leaves ≤ power → HasNodes leaves (2 * power)
room_for leaves power (g, e) enough width (h, is) low =
    let short = power_within h g leaves (omega arith) (subst (λ w. w / 2 < max 1 leaves) is low) in
    omega arith

-- ---- empty leaves

-- so many nodes without a number
abbrev nothing : ℕ → List (Option ℤ)
nothing n = replicate n None

length-nothing : (n : ℕ) → length (nothing n) ≡ n
length-nothing n = length-replicate n None

pub no_number : (n i : ℕ) → get_or (nothing n) i None ≡ None
no_number n i = elim (cases_lt i n) [
  | inl low ↦ get_or-replicate n i None None low
  | inr high ↦ get_or-eq_default (nothing n) None (omega (arith, length-nothing n))
]

width_empty : (nodes : List (Option ℤ)) (width : ℕ) → nodes ≡ replicate (2 * width) None → width_of nodes ≡ width
width_empty nodes width is = ap (λ n. n / 2) (ap length is ∙ length-nothing (2 * width)) ∙ omega arith

pub empty_tree : (nodes : List (Option ℤ)) (width : ℕ) → nodes ≡ replicate (2 * width) None → IsPowerOfTwo width → width ≤ 131072 → IsTree nodes
empty_tree nodes width is power few =
    let wide = width_empty nodes width is in
    let none = λ (i : ℕ). ap (λ list. node_at list i) is ∙ no_number (2 * width) i in
    record {
      width = subst IsPowerOfTwo (sym wide) power;
      even = omega (arith, wide, ap length is, length-nothing (2 * width));
      few = omega (arith, wide);
      mended = λ j some inner. none j ∙ sym (ap₂ greater (none (j + j)) (none (j + j + 1)));
    }

pub empty_leaves : (nodes : List (Option ℤ)) (width : ℕ) → nodes ≡ replicate (2 * width) None → leaves_of nodes ≡ replicate width None
empty_leaves nodes width is =
    ap₂ drop (width_empty nodes width is) is
    ∙ drop-replicate width (2 * width) None
    ∙ ap nothing (omega arith)

pub no_leaf : (nodes : List (Option ℤ)) (width i : ℕ) → nodes ≡ replicate (2 * width) None → get_or (leaves_of nodes) i None ≡ None
no_leaf nodes width i is = ap (λ leaves. get_or leaves i None) (empty_leaves nodes width is) ∙ no_number width i

pub enough_leaves : (nodes : List (Option ℤ)) (width : ℕ) → nodes ≡ replicate (2 * width) None → length (leaves_of nodes) ≡ width
enough_leaves nodes width is = ap length (empty_leaves nodes width is) ∙ length-nothing width
