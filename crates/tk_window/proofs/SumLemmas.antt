-- Sums of the changes of one object, over lists that are joined or taken back.
use Rattle.std.proofs.Common.{◌≡◌, ℕ, ℤ, pos, ◌+ℤ◌, List, [], ◌∷◌, ◌++◌, map, Bool, true, false, cond, refl, sym, ap, ◌∙◌, arith}
use Rattle.std.specs.Prelude.{◌==◌, filter, neg_ℤ}
use Rattle.std.proofs.lemmas.Int.{ints}
use Rattle.tk_base.specs.Sum.{int_sum}
use Rattle.tk_base.proofs.SumLemmas.{int_sum-cons}
use Rattle.tk_input.specs.Logs.{sum_for}
use Rattle.tk_input.proofs.SumLemmas.{by_at}
use Rattle.tk_window.specs.Window.{withdrawn}

counted : (o : ℕ) (c : ℕ × ℤ) (cs : List (ℕ × ℤ)) (b : Bool) → (c.0 == o) ≡ b → sum_for o (c ∷ cs) ≡ cond b c.1 (pos 0) +ℤ sum_for o cs
counted o c cs true is =
    ap (λ b. int_sum (map (λ (d : ℕ × ℤ). d.1) (cond b (c ∷ filter (λ d. d.0 == o) cs) (filter (λ d. d.0 == o) cs)))) is
    ∙ int_sum-cons c.1 (map (λ (d : ℕ × ℤ). d.1) (filter (λ d. d.0 == o) cs))
counted o c cs false is =
    let rest = sum_for o cs in
    let bare : pos 0 +ℤ rest ≡ rest = omega (arith, ints) in
    ap (λ b. int_sum (map (λ (d : ℕ × ℤ). d.1) (cond b (c ∷ filter (λ d. d.0 == o) cs) (filter (λ d. d.0 == o) cs)))) is ∙ sym bare

-- one more change in front
pub sum_for-cons : (o : ℕ) (c : ℕ × ℤ) (cs : List (ℕ × ℤ)) → sum_for o (c ∷ cs) ≡ by_at o c +ℤ sum_for o cs
sum_for-cons o c cs = counted o c cs (c.0 == o) refl

joined : (x a b c : ℤ) → c ≡ a +ℤ b → x +ℤ c ≡ (x +ℤ a) +ℤ b
joined x a b c is = omega (arith, ints, is)

-- the sum of two lists joined
pub sum_for-append : (o : ℕ) (xs ys : List (ℕ × ℤ)) → sum_for o (xs ++ ys) ≡ sum_for o xs +ℤ sum_for o ys
sum_for-append o [] ys = let rest = sum_for o ys in let bare : pos 0 +ℤ rest ≡ rest = omega (arith, ints) in sym bare
sum_for-append o (x ∷ xs) ys =
    sum_for-cons o x (xs ++ ys)
    ∙ joined (by_at o x) (sum_for o xs) (sum_for o ys) (sum_for o (xs ++ ys)) (sum_for-append o xs ys)
    ∙ ap (λ s. s +ℤ sum_for o ys) (sym (sum_for-cons o x xs))

back : (b : Bool) (x : ℤ) → cond b (neg_ℤ x) (pos 0) ≡ neg_ℤ (cond b x (pos 0))
back true x = refl
back false x = refl

apart : (x y : ℤ) → neg_ℤ x +ℤ neg_ℤ y ≡ neg_ℤ (x +ℤ y)
apart x y = omega (arith, ints)

-- what is taken back sums to the opposite
pub sum_for-withdrawn : (o : ℕ) (cs : List (ℕ × ℤ)) → sum_for o (withdrawn cs) ≡ neg_ℤ (sum_for o cs)
sum_for-withdrawn o [] = refl
sum_for-withdrawn o (c ∷ cs) =
    sum_for-cons o (c.0, neg_ℤ c.1) (withdrawn cs)
    ∙ ap (λ s. cond (c.0 == o) (neg_ℤ c.1) (pos 0) +ℤ s) (sum_for-withdrawn o cs)
    ∙ ap (λ x. x +ℤ neg_ℤ (sum_for o cs)) (back (c.0 == o) c.1)
    ∙ apart (by_at o c) (sum_for o cs)
    ∙ ap (λ s. neg_ℤ s) (sym (sum_for-cons o c cs))
