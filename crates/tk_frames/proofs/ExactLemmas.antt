-- A reader that is exact for a spelling, and how exact readers are put together.
use Rattle.std.proofs.Common.{◌≡◌, ℕ, zero, suc, Bool, true, false, cond, List, [], ◌∷◌, ◌++◌, length, Some, refl, sym, ap, subst, ◌∙◌, append_assoc}
use Rattle.tk_frames.specs.Spelling.{in_turn, EachInTurn}
use Rattle.tk_frames.specs.Reading.{Found, ◌>>=◌, both_at, as_at, items_at}
use Rattle.tk_frames.proofs.BytesLemmas.{IsBytes, rest_fits}
use Rattle.tk_frames.proofs.Steps.{bind_some, some_is}

-- what is read is spelled so, and what is spelled so is read, whatever follows it
pub record IsExact {X : Type 0} (Fact : X → Type 0) (spell : X → List ℕ) (read : List ℕ → Found X) : Type 0 where
  pub takes : (bytes : List ℕ) (x : X) (rest : List ℕ) → IsBytes bytes → read bytes ≡ Some (x, rest) → (bytes ≡ spell x ++ rest) × Fact x
  pub again : (x : X) (rest : List ℕ) → Fact x → read (spell x ++ rest) ≡ Some (x, rest)

-- the bytes after what was read are bytes
pub left_fits : {X : Type 0} {Fact : X → Type 0} {spell : X → List ℕ} {read : List ℕ → Found X} (exact : IsExact Fact spell read) (bytes : List ℕ) (x : X) (rest : List ℕ) → IsBytes bytes → read bytes ≡ Some (x, rest) → IsBytes rest
left_fits {spell = spell} exact bytes x rest fits e = rest_fits (spell x) rest (subst IsBytes (exact.takes bytes x rest fits e).0 fits)

-- the same reader for a fact that is the same
pub exact_fact : {X : Type 0} {Fact Other : X → Type 0} {spell : X → List ℕ} {read : List ℕ → Found X} → ((x : X) → Fact x → Other x) → ((x : X) → Other x → Fact x) → IsExact Fact spell read → IsExact Other spell read
exact_fact to from exact = record {
  takes = λ bytes x rest fits e. let t = exact.takes bytes x rest fits e in (t.0, to x t.1);
  again = λ x rest fact. exact.again x rest (from x fact);
}

-- a reader for each side of a test
pub exact_if : {X : Type 0} {Fact : X → Type 0} {s t : X → List ℕ} {r q : List ℕ → Found X} (b : Bool) → IsExact Fact s r → IsExact Fact t q → IsExact Fact (λ x. cond b (s x) (t x)) (λ bytes. cond b (r bytes) (q bytes))
exact_if true first second = first
exact_if false first second = second

-- what is read, turned into something else that can be turned back
pub exact_as : {X Y : Type 0} {Fact : X → Type 0} {Other : Y → Type 0} {spell : X → List ℕ} {read : List ℕ → Found X} (make : X → Y) (back : Y → X)
    → ((x : X) → Fact x → Other (make x) × (back (make x) ≡ x)) → ((y : Y) → Other y → Fact (back y) × (make (back y) ≡ y))
    → IsExact Fact spell read → IsExact Other (λ y. spell (back y)) (as_at make read)
exact_as {Other = Other} {spell = spell} {read = read} make back to from exact = record {
  takes = λ bytes y rest fits e.
      let a = bind_some (read bytes) (λ x. Some (make x.0, x.1)) (y, rest) e in
      let t = exact.takes bytes a.0.0 a.0.1 fits a.1 in
      let f = to a.0.0 t.1 in
      let whole : bytes ≡ spell (back (make a.0.0)) ++ a.0.1 = t.0 ∙ ap (λ x. spell x ++ a.0.1) (sym f.1) in
      subst (λ p. (bytes ≡ spell (back p.0) ++ p.1) × Other p.0) (some_is (make a.0.0, a.0.1) (y, rest) a.2) (whole, f.0);
  again = λ y rest fact.
      let f = from y fact in
      ap (λ r. r >>= λ x. Some (make x.0, x.1)) (exact.again (back y) rest f.0) ∙ ap (λ z. Some (z, rest)) f.1;
}

-- one field after another
pub exact_both : {X Y : Type 0} {Fact : X → Type 0} {Other : Y → Type 0} {s : X → List ℕ} {t : Y → List ℕ} {r : List ℕ → Found X} {q : List ℕ → Found Y}
    → IsExact Fact s r → IsExact Other t q → IsExact (λ p. Fact p.0 × Other p.1) (λ p. s p.0 ++ t p.1) (both_at r q)
exact_both {X = X} {Y = Y} {Fact = Fact} {Other = Other} {s = s} {t = t} {r = r} {q = q} first second = record {
  takes = λ bytes p rest fits e.
      let a = bind_some (r bytes) (λ x. q x.1 >>= λ y. Some ((x.0, y.0), y.1)) (p, rest) e in
      let b = bind_some (q a.0.1) (λ y. Some ((a.0.0, y.0), y.1)) (p, rest) a.2 in
      let u = first.takes bytes a.0.0 a.0.1 fits a.1 in
      let v = second.takes a.0.1 b.0.0 b.0.1 (left_fits first bytes a.0.0 a.0.1 fits a.1) b.1 in
      let whole : bytes ≡ (s a.0.0 ++ t b.0.0) ++ b.0.1 = u.0 ∙ ap (λ (w : List ℕ). s a.0.0 ++ w) v.0 ∙ sym (append_assoc (s a.0.0) (t b.0.0) b.0.1) in
      subst (λ (w : (X × Y) × List ℕ). (bytes ≡ (s w.0.0 ++ t w.0.1) ++ w.1) × (Fact w.0.0 × Other w.0.1)) (some_is ((a.0.0, b.0.0), b.0.1) (p, rest) b.2) (whole, (u.1, v.1));
  again = λ p rest fact.
      ap (both_at r q) (append_assoc (s p.0) (t p.1) rest)
      ∙ ap (λ z. z >>= λ x. q x.1 >>= λ y. Some ((x.0, y.0), y.1)) (first.again p.0 (t p.1 ++ rest) fact.0)
      ∙ ap (λ z. z >>= λ y. Some ((p.0, y.0), y.1)) (second.again p.1 rest fact.1);
}

-- ---- items in turn

items_take : {X : Type 0} (object_of : X → ℕ) (Fact : ℕ → X → Type 0) (spell : ℕ → X → List ℕ) (read : ℕ → List ℕ → Found X) → ((before : ℕ) → IsExact (Fact before) (spell before) (read before))
    → (before count : ℕ) (bytes : List ℕ) (found : List X × List ℕ) → IsBytes bytes → items_at object_of read before count bytes ≡ Some found
    → (bytes ≡ in_turn object_of spell before found.0 ++ found.1) × ((length found.0 ≡ count) × EachInTurn object_of Fact before found.0)
unfolding items_at in_turn
items_take object_of Fact spell read exact before zero bytes found fits e =
    subst (λ found. (bytes ≡ in_turn object_of spell before found.0 ++ found.1) × ((length found.0 ≡ 0) × EachInTurn object_of Fact before found.0)) (some_is ([], bytes) found e) (refl, (refl, tt))
items_take object_of Fact spell read exact before (suc count) bytes found fits e =
    let a = bind_some (read before bytes) (λ first. items_at object_of read (object_of first.0) count first.1 >>= λ others. Some (first.0 ∷ others.0, others.1)) found e in
    let b = bind_some (items_at object_of read (object_of a.0.0) count a.0.1) (λ others. Some (a.0.0 ∷ others.0, others.1)) found a.2 in
    let u = (exact before).takes bytes a.0.0 a.0.1 fits a.1 in
    let v = items_take object_of Fact spell read exact (object_of a.0.0) count a.0.1 b.0 (left_fits (exact before) bytes a.0.0 a.0.1 fits a.1) b.1 in
    let s = spell before a.0.0 in
    let t = in_turn object_of spell (object_of a.0.0) b.0.0 in
    let whole : bytes ≡ (s ++ t) ++ b.0.1 = u.0 ∙ ap (λ (w : List ℕ). s ++ w) v.0 ∙ sym (append_assoc s t b.0.1) in
    subst (λ found. (bytes ≡ in_turn object_of spell before found.0 ++ found.1) × ((length found.0 ≡ suc count) × EachInTurn object_of Fact before found.0))
    (some_is (a.0.0 ∷ b.0.0, b.0.1) found b.2) (whole, (ap suc v.1.0, (u.1, v.1.1)))

items_again : {X : Type 0} (object_of : X → ℕ) (Fact : ℕ → X → Type 0) (spell : ℕ → X → List ℕ) (read : ℕ → List ℕ → Found X) → ((before : ℕ) → IsExact (Fact before) (spell before) (read before))
    → (before : ℕ) (xs : List X) (rest : List ℕ) → EachInTurn object_of Fact before xs → items_at object_of read before (length xs) (in_turn object_of spell before xs ++ rest) ≡ Some (xs, rest)
unfolding items_at in_turn
items_again object_of Fact spell read exact before [] rest facts = refl
items_again object_of Fact spell read exact before (x ∷ xs) rest facts =
    let t = in_turn object_of spell (object_of x) xs in
    ap (items_at object_of read before (suc (length xs))) (append_assoc (spell before x) t rest)
    ∙ ap (λ z. z >>= λ first. items_at object_of read (object_of first.0) (length xs) first.1 >>= λ others. Some (first.0 ∷ others.0, others.1)) ((exact before).again x (t ++ rest) facts.0)
    ∙ ap (λ z. z >>= λ others. Some (x ∷ others.0, others.1)) (items_again object_of Fact spell read exact (object_of x) xs rest facts.1)

-- so many items
pub exact_items : {X : Type 0} (object_of : X → ℕ) (Fact : ℕ → X → Type 0) (spell : ℕ → X → List ℕ) (read : ℕ → List ℕ → Found X) → ((before : ℕ) → IsExact (Fact before) (spell before) (read before))
    → (before count : ℕ) → IsExact (λ xs. (length xs ≡ count) × EachInTurn object_of Fact before xs) (in_turn object_of spell before) (items_at object_of read before count)
exact_items object_of Fact spell read exact before count = record {
  takes = λ bytes xs rest fits e. items_take object_of Fact spell read exact before count bytes (xs, rest) fits e;
  again = λ xs rest facts. subst (λ (k : ℕ). items_at object_of read before k (in_turn object_of spell before xs ++ rest) ≡ Some (xs, rest)) facts.0 (items_again object_of Fact spell read exact before xs rest facts.1);
}
