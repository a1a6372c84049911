-- The nodes of a tree: parts, what stands at a node, and what a write leaves.
use Rattle.std.proofs.Common.{◌≡◌, ◌≢◌, ℕ, suc, zero, ◌+◌, ◌-◌, ◌*◌, ◌/◌, ◌^◌, ◌<◌, ◌≤◌, ℤ, List, length, map, set, drop, Option, None, refl, sym, ap, ap₂, ◌∙◌, subst, arith, inl, inr, get_or, get_or-set_other, get_or-set_same, length-set, length-drop}
use Rattle.std.specs.Int.{IsPowerOfTwo}
use Rattle.std.specs.List.{range_with_len}
use Rattle.std.proofs.Math.Nat.{pow-succ', mul-le-mul_left}
use Rattle.std.proofs.lemmas.Bool.{cases_eq}
use Rattle.std.proofs.lemmas.List.{get_or-drop, get_or-map, length-map, drop-set-lt, drop-set-add}
use Rattle.tk_border.specs.Levels.{greatest_of}
use Rattle.tk_border.proofs.RisingLemmas.{range-append}
use Rattle.tk_rank.specs.Tree.{greater, node_at, width_of, leaves_of, IsMended, IsTree, leaf_at, standing}
use Rattle.tk_rank.proofs.GreatestLemmas.{greatest-one, standing-append}

-- ---- parts

-- the part of a tree of so many leaves under a node: the leaves of so many objects from the first on
pub record IsPart (leaves width node first : ℕ) : Type 0 where
  pub power : IsPowerOfTwo width
  pub place : node * width + 1 ≡ leaves + first
  pub some : 0 < first
  pub within : first + width ≤ leaves + 1

pub power_doubles : (h : ℕ) → 2 ^ suc h ≡ 2 ^ h + 2 ^ h
power_doubles h = pow-succ' 2 h ∙ omega arith

-- what is read at a node
pub read_node : {N : Type 0} (number : N → Option ℤ) (nodes : List N) (i : ℕ) (x : N) → i < length nodes → x ≡ get_or nodes i x → number x ≡ node_at (map number nodes) i
read_node number nodes i x within is = sym (get_or-map number nodes i x None within ∙ ap number (sym is))

-- more than one leaf is twice a power of two
pub split_power : (w : ℕ) → IsPowerOfTwo w → w ≢ 1 → (p : ℕ) × IsPowerOfTwo p × (w ≡ p + p)
split_power w (zero, e) more = absurd (more e)
split_power w (suc h, e) more = (2 ^ h, (h, refl), e ∙ power_doubles h)

pub power_positive : (w : ℕ) → IsPowerOfTwo w → 0 < w
power_positive w (zero, e) = omega (arith, e)
power_positive w (suc h, e) = let more = power_positive (2 ^ h) (h, refl) in omega (arith, e, power_doubles h)

pub node_low : (n w node first : ℕ) → IsPart n w node first → node + w ≤ n + n
node_low n w node first p =
    let some = power_positive w p.power in
    let low = mul-le-mul_left {m = 1} {n = w} node some in
    omega (arith, p.place, p.within, low)

pub node_positive : (n w node first : ℕ) → 0 < n → IsPart n w node first → 0 < node
node_positive n w zero first some p = absurd (omega (arith, p.place))
node_positive n w (suc k) first some p = omega arith

pub part_left : (n w p node first : ℕ) → IsPart n w node first → w ≡ p + p → IsPowerOfTwo p → IsPart n p (node + node) first
part_left n w p node first part e power = record {
  power = power;
  place = let twice : node * w ≡ (node + node) * p = ap (λ x. node * x) e ∙ omega arith in omega (arith, part.place);
  some = part.some;
  within = omega (arith, part.within);
}

pub part_right : (n w p node first : ℕ) → IsPart n w node first → w ≡ p + p → IsPowerOfTwo p → IsPart n p (node + node + 1) (first + p)
part_right n w p node first part e power = record {
  power = power;
  place = let twice : node * w + p ≡ (node + node + 1) * p = ap (λ x. node * x + p) e ∙ omega arith in omega (arith, part.place);
  some = omega (arith, part.some);
  within = omega (arith, part.within);
}

pub part_inner : (n w node first : ℕ) → IsPart n w node first → w ≢ 1 → node < n
part_inner n w node first part more =
    let (p, power, e) = split_power w part.power more in
    let left = node_low n p (node + node) first (part_left n w p node first part e power) in
    let some = power_positive p power in
    omega arith

-- ---- what stands at a node

-- the root is one of the nodes
pub root_within : {N : Type 0} (number : N → Option ℤ) (nodes : List N) → IsTree (map number nodes) → 1 < length nodes
root_within number nodes tree = omega (arith, power_positive (width_of (map number nodes)) tree.width, tree.even, length-map nodes number)

-- the node of a leaf is one of the nodes
pub leaf_within : {N : Type 0} (number : N → Option ℤ) (nodes : List N) (place : ℕ) → IsTree (map number nodes) → place < length (leaves_of (map number nodes)) → length nodes / 2 + place < length nodes
leaf_within number nodes place tree within =
    let same = length-map nodes number in
    let half : length nodes / 2 ≡ width_of (map number nodes) = ap (λ n. n / 2) (sym same) in
    omega (arith, same, half, tree.even, length-drop (width_of (map number nodes)) (map number nodes))

pub leaf_of_node : (nodes : List (Option ℤ)) (o : ℕ) → leaf_at (leaves_of nodes) o ≡ node_at nodes (width_of nodes + (o - 1))
leaf_of_node nodes o = get_or-drop (width_of nodes) nodes (o - 1) None

-- a node has the greatest number of the leaves under it
stands : (h node first : ℕ) (nodes : List (Option ℤ)) → IsTree nodes → IsPart (width_of nodes) (2 ^ h) node first → node_at nodes node ≡ greatest_of (standing (leaves_of nodes) (range_with_len first (2 ^ h)))
stands zero node first nodes tree part =
    let place : node ≡ width_of nodes + (first - 1) = omega (arith, part.place, part.some) in
    sym (greatest-one (leaf_at (leaves_of nodes) first) ∙ leaf_of_node nodes first ∙ ap (node_at nodes) (sym place))
stands (suc h) node first nodes tree part =
    let p = 2 ^ h in
    let e = power_doubles h in
    let leaves = leaves_of nodes in
    let n = width_of nodes in
    let some = power_positive p (h, refl) in
    let left = part_left n (2 ^ suc h) p node first part e (h, refl) in
    let right = part_right n (2 ^ suc h) p node first part e (h, refl) in
    tree.mended node (node_positive n (2 ^ suc h) node first (power_positive n tree.width) part) (part_inner n (2 ^ suc h) node first part (λ one. omega (arith, e, some)))
    ∙ ap₂ greater (stands h (node + node) first nodes tree left) (stands h (node + node + 1) (first + p) nodes tree right)
    ∙ sym (standing-append leaves (range_with_len first p) (range_with_len (first + p) p))
    ∙ ap (λ list. greatest_of (standing leaves list)) (sym (ap (range_with_len first) e ∙ range-append first p p))

pub node_stands : (w node first : ℕ) (nodes : List (Option ℤ)) → IsTree nodes → IsPart (width_of nodes) w node first → node_at nodes node ≡ greatest_of (standing (leaves_of nodes) (range_with_len first w))
node_stands w node first nodes tree part =
    let (h, e) = part.power in
    stands h node first nodes tree (subst (λ x. IsPart (width_of nodes) x node first) e part)
    ∙ ap (λ x. greatest_of (standing (leaves_of nodes) (range_with_len first x))) (sym e)

pub whole_part : (nodes : List (Option ℤ)) → IsTree nodes → IsPart (width_of nodes) (width_of nodes) 1 1
whole_part nodes tree = record {
  power = tree.width;
  place = omega arith;
  some = omega arith;
  within = omega arith;
}

-- ---- what a write leaves

pub width-set : (nodes : List (Option ℤ)) (i : ℕ) (x : Option ℤ) → width_of (set nodes i x) ≡ width_of nodes
width-set nodes i x = ap (λ n. n / 2) (length-set nodes i x)

-- a node stays mended under a write elsewhere
pub mended_elsewhere : (nodes : List (Option ℤ)) (i : ℕ) (x : Option ℤ) (j : ℕ) → j ≢ i → j + j ≢ i → j + j + 1 ≢ i → IsMended nodes j → IsMended (set nodes i x) j
mended_elsewhere nodes i x j here left right mended =
    get_or-set_other nodes i j x None here
    ∙ mended
    ∙ ap₂ greater (sym (get_or-set_other nodes i (j + j) x None left)) (sym (get_or-set_other nodes i (j + j + 1) x None right))

-- a write at a node leaves all mended but its parent
pub mended_but_parent : (nodes : List (Option ℤ)) (i : ℕ) (x : Option ℤ) (j : ℕ) → j ≢ i → j ≢ i / 2 → IsMended nodes j → IsMended (set nodes i x) j
mended_but_parent nodes i x j here parent mended =
    mended_elsewhere nodes i x j here (λ e. parent (omega arith)) (λ e. parent (omega arith)) mended

-- and the node itself where it gets the greater number of its children
pub mended_here : (nodes : List (Option ℤ)) (i : ℕ) → 0 < i → i < length nodes → IsMended (set nodes i (greater (node_at nodes (i + i)) (node_at nodes (i + i + 1)))) i
mended_here nodes i some within =
    let x = greater (node_at nodes (i + i)) (node_at nodes (i + i + 1)) in
    get_or-set_same nodes i x None within
    ∙ ap₂ greater (sym (get_or-set_other nodes i (i + i) x None (λ e. omega arith))) (sym (get_or-set_other nodes i (i + i + 1) x None (λ e. omega arith)))

-- a write to an inner node leaves the leaves, one to a leaf is a write to the list of leaves
pub leaves-inner : (nodes : List (Option ℤ)) (i : ℕ) (x : Option ℤ) → i < width_of nodes → leaves_of (set nodes i x) ≡ leaves_of nodes
leaves-inner nodes i x inner =
    ap (λ n. drop n (set nodes i x)) (width-set nodes i x) ∙ drop-set-lt (width_of nodes) nodes i x inner

pub leaves-set : (nodes : List (Option ℤ)) (i : ℕ) (x : Option ℤ) → width_of nodes ≤ i → leaves_of (set nodes i x) ≡ set (leaves_of nodes) (i - width_of nodes) x
leaves-set nodes i x outer =
    ap (λ n. drop n (set nodes i x)) (width-set nodes i x)
    ∙ ap (λ k. drop (width_of nodes) (set nodes k x)) (omega arith)
    ∙ drop-set-add (width_of nodes) nodes (i - width_of nodes) x

-- the state of a tree while it is mended from a child on upwards
pub record IsMending (nodes : List (Option ℤ)) (child : ℕ) : Type 0 where
  pub width : IsPowerOfTwo (width_of nodes)
  pub even : length nodes ≡ width_of nodes + width_of nodes
  pub few : width_of nodes ≤ 131072
  pub some : 0 < child
  pub within : child < length nodes
  pub mended : (j : ℕ) → 0 < j → j < width_of nodes → j ≢ child / 2 → IsMended nodes j

pub mending_starts : (nodes : List (Option ℤ)) (place : ℕ) (x : Option ℤ) → IsTree nodes → width_of nodes ≤ place → place < length nodes → IsMending (set nodes place x) place
mending_starts nodes place x tree outer within =
    let same = width-set nodes place x in
    record {
      width = subst IsPowerOfTwo (sym same) tree.width;
      even = omega (arith, same, length-set nodes place x, tree.even);
      few = omega (arith, same, tree.few);
      some = omega (arith, power_positive (width_of nodes) tree.width);
      within = omega (arith, length-set nodes place x);
      mended = λ j some inner parent. mended_but_parent nodes place x j (λ e. omega arith) parent (tree.mended j some (omega arith));
    }

pub mending_goes_on : (nodes : List (Option ℤ)) (child parent : ℕ) (x : Option ℤ) → IsMending nodes child → 1 < child → parent ≡ child / 2 → x ≡ greater (node_at nodes (parent + parent)) (node_at nodes (parent + parent + 1)) → IsMending (set nodes parent x) parent
mending_goes_on nodes child parent x m more up is =
    let same = width-set nodes parent x in
    let inner : parent < width_of nodes = omega (arith, m.even, m.within) in
    record {
      width = subst IsPowerOfTwo (sym same) m.width;
      even = omega (arith, same, length-set nodes parent x, m.even);
      few = omega (arith, same, m.few);
      some = omega arith;
      within = omega (arith, length-set nodes parent x, m.even);
      mended = λ j some low above. elim (cases_eq j parent) [
        | inl e ↦ subst (λ k. IsMended (set nodes parent x) k) (sym e) (subst (λ y. IsMended (set nodes parent y) parent) (sym is) (mended_here nodes parent (omega arith) (omega (arith, m.even))))
        | inr ne ↦ mended_but_parent nodes parent x j ne above (m.mended j some (omega arith) (λ e. ne (omega arith)))
      ];
    }

-- at the root all is mended
pub mending_ends : (nodes : List (Option ℤ)) (child : ℕ) → IsMending nodes child → child ≤ 1 → IsTree nodes
mending_ends nodes child m low = record {
  width = m.width;
  even = m.even;
  few = m.few;
  mended = λ j some inner. m.mended j some inner (λ e. omega arith);
}

-- and where the parent is mended already
pub mending_stops : (nodes : List (Option ℤ)) (child parent : ℕ) → IsMending nodes child → parent ≡ child / 2 → node_at nodes parent ≡ greater (node_at nodes (parent + parent)) (node_at nodes (parent + parent + 1)) → IsTree nodes
mending_stops nodes child parent m up is = record {
  width = m.width;
  even = m.even;
  few = m.few;
  mended = λ j some inner. elim (cases_eq j parent) [
    | inl e ↦ subst (λ k. IsMended nodes k) (sym e) is
    | inr ne ↦ m.mended j some inner (λ e. ne (omega arith))
  ];
}
