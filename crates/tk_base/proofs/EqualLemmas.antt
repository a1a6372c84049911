-- The tests of `==` tell equal lists from others.
use Rattle.std.proofs.Common.{◌≡◌, ℕ, ℤ, Bool, true, false, not, ◌↔◌, List, nat_eq, sym, ap, ◌∙◌, refl}
use Rattle.std.specs.Prelude.{IsTrue}
use Rattle.std.specs.Bool.{Decides}
use Rattle.std.specs.Ordering.{int_eq}
use Rattle.std.specs.Cmp.{unsigned_Decides, signed_Decides}
use Rattle.std.specs.Cmp.Lexicographic.{pointwise, pointwise_decides, bytes_decides}
use Rattle.std.proofs.lemmas.Bool.{false≢true, and_parts, and_from}
use Rattle.tk_base.specs.Equal.{pair_eq}

pub numbers_tell : (xs ys : List ℕ) → Decides (pointwise nat_eq xs ys) (xs ≡ ys)
numbers_tell = bytes_decides

pub lists_tell : (xs ys : List (List ℕ)) → Decides (pointwise (pointwise nat_eq) xs ys) (xs ≡ ys)
lists_tell = pointwise_decides numbers_tell

pair_tells : (p q : ℕ × ℤ) → Decides (pair_eq p q) (p ≡ q)
pair_tells p q = (
  λ h. let e = and_parts (nat_eq p.0 q.0) (int_eq p.1 q.1) h in
      let objects : p.0 ≡ q.0 = (unsigned_Decides p.0 q.0).0 e.0 in
      let numbers : p.1 ≡ q.1 = (signed_Decides p.1 q.1).0 e.1 in
      λ i. (objects i, numbers i),
  λ e. and_from (nat_eq p.0 q.0) (int_eq p.1 q.1) ((unsigned_Decides p.0 q.0).1 (ap (λ (r : ℕ × ℤ). r.0) e)) ((signed_Decides p.1 q.1).1 (ap (λ (r : ℕ × ℤ). r.1) e)),
)

unturned : (b : Bool) → false ≡ not b → b ≡ true
unturned true h = refl
unturned false h = absurd (false≢true h)

-- two pairs of which `!=` does not hold are the same
pub same_pair : (p q : ℕ × ℤ) → false ≡ not (pair_eq p q) → p ≡ q
same_pair p q told = (pair_tells p q).0 (unturned (pair_eq p q) told)

pub pairs_tell : (ps qs : List (ℕ × ℤ)) → Decides (pointwise pair_eq ps qs) (ps ≡ qs)
pairs_tell = pointwise_decides pair_tells

-- a result that is what such a test gives is true exactly where the two are equal
pub same_from : {P : Type 0} (test r : Bool) → Decides test P → r ≡ test → IsTrue r ↔ P
same_from test r tells is = (λ t. tells.0 (sym is ∙ t), λ p. is ∙ tells.1 p)
