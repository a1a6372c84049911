-- The names that begin with a prefix.
use Rattle.std.proofs.Common.{◌≡◌, ℕ, suc, zero, ◌+◌, ◌<◌, Bool, true, false, ◌||◌, cond, List, [], ◌∷◌, ◌++◌, length, take, get_or, Vec, bytes_eq, refl, sym, ap, ◌∙◌, arith}
use Rattle.std.specs.Prelude.{◌==◌, filter}
use Rattle.std.specs.List.{list_any, starts_with, IsDistinct}
use Rattle.std.proofs.lemmas.List.{take_more}
use Rattle.std.proofs.lemmas.List.Elements.{filter-append}
use Rattle.tk_input.specs.Catalog.{names_of, names_with}
use Rattle.tk_input.proofs.DifferLemmas.{later_differs, other_way}
use Rattle.tk_input.proofs.NamesLemmas.{any-names_of, names_of-push}

-- the name at a place is that of the key there
pub names_at : {A : Type 0} (keys : List (Vec ℕ A)) (i : ℕ) (d : Vec ℕ A) → i < length keys → get_or (names_of keys) i [] ≡ (get_or keys i d).items
names_at [] i d within = absurd (omega (arith, within))
names_at (k ∷ keys) zero d within = refl
names_at (k ∷ keys) (suc i) d within = names_at keys i d (omega (arith, within))

any_kept : (b : Bool) (q : List ℕ → Bool) (x : List ℕ) (rest : List (List ℕ)) → q x ≡ false → list_any q rest ≡ false → list_any q (cond b (x ∷ rest) rest) ≡ false
any_kept true q x rest differs none = ap (λ (c : Bool). c || list_any q rest) differs ∙ none
any_kept false q x rest differs none = none

-- a name of different names is none of those before it, however they are chosen
pub none_before : {A : Type 0} (p : List ℕ → Bool) (keys : List (Vec ℕ A)) (i : ℕ) → IsDistinct (λ a b. bytes_eq a.items b.items) keys → i < length keys → list_any (λ n. bytes_eq (get_or (names_of keys) i []) n) (filter p (names_of (take i keys))) ≡ false
unfolding IsDistinct
none_before p [] i distinct within = absurd (omega (arith, within))
none_before p (k ∷ keys) zero distinct within = refl
none_before p (k ∷ keys) (suc i) distinct within =
    let name = get_or (names_of keys) i [] in
    any_kept (p k.items) (λ n. bytes_eq name n) k.items (filter p (names_of (take i keys)))
    (other_way k.items name (later_differs k.items keys i distinct.0 (omega (arith, within))))
    (none_before p keys i distinct.1 (omega (arith, within)))

-- one more key is taken where its name begins with the prefix
pub names_with-more : {A : Type 0} (prefix : List ℕ) (keys : List (Vec ℕ A)) (i : ℕ) (key : Vec ℕ A) (b : Bool) → i < length keys → key ≡ get_or keys i key → b ≡ starts_with ◌==◌ key.items prefix
    → names_with prefix (names_of (take (i + 1) keys)) ≡ names_with prefix (names_of (take i keys)) ++ cond b (key.items ∷ []) []
names_with-more {A} prefix keys i key b within is starts =
    let p = λ (name : List ℕ). starts_with ◌==◌ name prefix in
    ap (λ (ks : List (Vec ℕ A)). names_with prefix (names_of ks)) (take_more keys i key within ∙ ap (λ (k : Vec ℕ A). take i keys ++ k ∷ []) (sym is))
    ∙ ap (λ (names : List (List ℕ)). names_with prefix names) (names_of-push (take i keys) key)
    ∙ filter-append p (names_of (take i keys)) (key.items ∷ [])
    ∙ ap (λ (c : Bool). names_with prefix (names_of (take i keys)) ++ cond c (key.items ∷ []) []) (sym starts)

-- the next key that begins with the prefix is a new one
pub fresh_prefix : {A : Type 0} (prefix : List ℕ) (items keys : List (Vec ℕ A)) (i : ℕ) (key : Vec ℕ A) → IsDistinct (λ a b. bytes_eq a.items b.items) items → i < length items → key ≡ get_or items i key
    → names_of keys ≡ names_with prefix (names_of (take i items)) → list_any (λ k. bytes_eq key.items k.items) keys ≡ false
fresh_prefix {A} prefix items keys i key distinct within is same =
    let name_is : key.items ≡ get_or (names_of items) i [] = ap (λ (k : Vec ℕ A). k.items) is ∙ sym (names_at items i key within) in
    sym (any-names_of key.items keys)
    ∙ ap (λ (names : List (List ℕ)). list_any (λ n. bytes_eq key.items n) names) same
    ∙ ap (λ (name : List ℕ). list_any (λ n. bytes_eq name n) (names_with prefix (names_of (take i items)))) name_is
    ∙ none_before (λ name. starts_with ◌==◌ name prefix) items i distinct within
