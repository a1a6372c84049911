-- Readers that are exact for a spelling, put together.
use Rattle.std.proofs.Common.{◌≡◌, ℕ, zero, suc, ◌<◌, ◌^◌, Bool, true, false, cond, All, List, [], ◌∷◌, ◌++◌, length, Some, None, refl, sym, ap, subst, ◌∙◌, append_assoc, inl, inr, ◌⊎◌}
use Rattle.std.specs.List.{flat_map, AllByRecursion}
use Rattle.std.proofs.lemmas.List.Elements.{All-from_recursion, recursion_from_All}
use Rattle.std.proofs.lemmas.Option.{cond_some}
use Rattle.tk_frames.specs.Reading.{Found, ◌>>=◌, as_at, bytes_at}
use Rattle.tk_frames.proofs.BytesLemmas.{IsBytes}
use Rattle.tk_frames.proofs.Steps.{bind_some, some_is}
use Rattle.tk_frames.proofs.ExactLemmas.{IsExact, left_fits}
use Rattle.tk_frames.proofs.FieldLemmas.{exact_bytes}
use Rattle.tk_trace.specs.Reading.{if_passes, number_at, tested_at, times_at}
use Rattle.tk_trace.specs.Spelling.{counted, number}

-- one of two
pub one_way : {A : Type 0} (b : Bool) (x y z : A) → cond b x y ≡ z → ((b ≡ true) × (x ≡ z)) ⊎ ((b ≡ false) × (y ≡ z))
one_way true x y z e = inl (refl, e)
one_way false x y z e = inr (refl, e)

-- what was read and turned into something else
pub made_from : {X Y : Type 0} (make : X → Y) (read : List ℕ → Found X) (bytes : List ℕ) (y : Y) (rest : List ℕ) → as_at make read bytes ≡ Some (y, rest) → (x : X) × (read bytes ≡ Some (x, rest)) × (make x ≡ y)
made_from {X = X} make read bytes y rest e =
    let a = bind_some (read bytes) (λ x. Some (make x.0, x.1)) (y, rest) e in
    let is = some_is (make a.0.0, a.0.1) (y, rest) a.2 in
    (a.0.0, subst (λ (r : List ℕ). read bytes ≡ Some (a.0.0, r)) (ap (λ p. p.1) is) a.1, ap (λ p. p.0) is)

-- a reader with a test
pub exact_tested : {X : Type 0} {Fact T : X → Type 0} {spell : X → List ℕ} {read : List ℕ → Found X} (test : X → Bool) → ((x : X) → test x ≡ true → T x) → ((x : X) → T x → test x ≡ true)
    → IsExact Fact spell read → IsExact (λ x. T x × Fact x) spell (tested_at test read)
exact_tested {X = X} {Fact = Fact} {T = T} {spell = spell} {read = read} test to from exact = record {
  takes = λ bytes x rest fits e.
      let a = bind_some (read bytes) (if_passes test) (x, rest) e in
      let p = cond_some (test a.0.0) a.0 (x, rest) a.2 in
      let u = exact.takes bytes a.0.0 a.0.1 fits a.1 in
      subst (λ (w : X × List ℕ). (bytes ≡ spell w.0 ++ w.1) × (T w.0 × Fact w.0)) p.1 (u.0, (to a.0.0 p.0, u.1));
  again = λ x rest fact.
      ap (λ r. r >>= if_passes test) (exact.again x rest fact.1)
      ∙ ap (λ (b : Bool). cond b (Some (x, rest)) None) (from x fact.0);
}

-- ---- so many, one after the other

times_take : {X : Type 0} {Fact : X → Type 0} {spell : X → List ℕ} {read : List ℕ → Found X} → IsExact Fact spell read
    → (count : ℕ) (bytes : List ℕ) (found : List X × List ℕ) → IsBytes bytes → times_at read count bytes ≡ Some found
    → (bytes ≡ flat_map spell found.0 ++ found.1) × ((length found.0 ≡ count) × AllByRecursion Fact found.0)
unfolding times_at
times_take {Fact = Fact} {spell = spell} exact zero bytes found fits e =
    subst (λ found. (bytes ≡ flat_map spell found.0 ++ found.1) × ((length found.0 ≡ 0) × AllByRecursion Fact found.0)) (some_is ([], bytes) found e) (refl, (refl, tt))
times_take {Fact = Fact} {spell = spell} {read = read} exact (suc count) bytes found fits e =
    let a = bind_some (read bytes) (λ first. times_at read count first.1 >>= λ others. Some (first.0 ∷ others.0, others.1)) found e in
    let b = bind_some (times_at read count a.0.1) (λ others. Some (a.0.0 ∷ others.0, others.1)) found a.2 in
    let u = exact.takes bytes a.0.0 a.0.1 fits a.1 in
    let v = times_take exact count a.0.1 b.0 (left_fits exact bytes a.0.0 a.0.1 fits a.1) b.1 in
    let s = spell a.0.0 in
    let t = flat_map spell b.0.0 in
    let whole : bytes ≡ (s ++ t) ++ b.0.1 = u.0 ∙ ap (λ (w : List ℕ). s ++ w) v.0 ∙ sym (append_assoc s t b.0.1) in
    subst (λ found. (bytes ≡ flat_map spell found.0 ++ found.1) × ((length found.0 ≡ suc count) × AllByRecursion Fact found.0))
    (some_is (a.0.0 ∷ b.0.0, b.0.1) found b.2) (whole, (ap suc v.1.0, (u.1, v.1.1)))

times_again : {X : Type 0} {Fact : X → Type 0} {spell : X → List ℕ} {read : List ℕ → Found X} → IsExact Fact spell read
    → (xs : List X) (rest : List ℕ) → AllByRecursion Fact xs → times_at read (length xs) (flat_map spell xs ++ rest) ≡ Some (xs, rest)
unfolding times_at
times_again exact [] rest facts = refl
times_again {spell = spell} {read = read} exact (x ∷ xs) rest facts =
    let t = flat_map spell xs in
    ap (times_at read (suc (length xs))) (append_assoc (spell x) t rest)
    ∙ ap (λ z. z >>= λ first. times_at read (length xs) first.1 >>= λ others. Some (first.0 ∷ others.0, others.1)) (exact.again x (t ++ rest) facts.0)
    ∙ ap (λ z. z >>= λ others. Some (x ∷ others.0, others.1)) (times_again exact xs rest facts.1)

pub exact_times : {X : Type 0} {Fact : X → Type 0} {spell : X → List ℕ} {read : List ℕ → Found X} (count : ℕ) → IsExact Fact spell read
    → IsExact (λ xs. (length xs ≡ count) × All Fact xs) (flat_map spell) (times_at read count)
exact_times {Fact = Fact} {spell = spell} {read = read} count exact = record {
  takes = λ bytes xs rest fits e. let t = times_take exact count bytes (xs, rest) fits e in (t.0, (t.1.0, All-from_recursion Fact xs t.1.1));
  again = λ xs rest facts. subst (λ (k : ℕ). times_at read k (flat_map spell xs ++ rest) ≡ Some (xs, rest)) facts.0 (times_again exact xs rest (recursion_from_All Fact xs facts.1));
}

-- ---- numbers, and lists behind their counts

pub exact_number : (size : ℕ) → IsExact (λ n. n < 256 ^ size) (number size) (number_at size)
unfolding number bytes_at
exact_number size = exact_bytes size

-- a count that a reader is exact for, and so many
pub exact_behind : {X : Type 0} {Fact : X → Type 0} {Few : ℕ → Type 0} {spell : X → List ℕ} {read : List ℕ → Found X} {count : List ℕ → Found ℕ} (size : ℕ) → IsExact Few (number size) count → IsExact Fact spell read
    → IsExact (λ xs. Few (length xs) × All Fact xs) (counted size spell) (λ bytes. count bytes >>= λ n. times_at read n.0 n.1)
exact_behind {X = X} {Fact = Fact} {Few = Few} {spell = spell} {read = read} {count = count} size few exact = record {
  takes = λ bytes xs rest fits e.
      let a = bind_some (count bytes) (λ n. times_at read n.0 n.1) (xs, rest) e in
      let t = few.takes bytes a.0.0 a.0.1 fits a.1 in
      let u = (exact_times a.0.0 exact).takes a.0.1 xs rest (left_fits few bytes a.0.0 a.0.1 fits a.1) a.2 in
      let text = flat_map spell xs in
      let whole : bytes ≡ (number size (length xs) ++ text) ++ rest =
      t.0 ∙ ap (λ (w : List ℕ). number size a.0.0 ++ w) u.0
      ∙ ap (λ (k : ℕ). number size k ++ (text ++ rest)) (sym u.1.0)
      ∙ sym (append_assoc (number size (length xs)) text rest) in
      (whole, (subst Few (sym u.1.0) t.1, u.1.1));
  again = λ xs rest fact.
      let text = flat_map spell xs in
      ap (λ (w : List ℕ). count w >>= λ n. times_at read n.0 n.1) (append_assoc (number size (length xs)) text rest)
      ∙ ap (λ r. r >>= λ n. times_at read n.0 n.1) (few.again (length xs) (text ++ rest) fact.0)
      ∙ (exact_times (length xs) exact).again xs rest (refl, fact.1);
}
