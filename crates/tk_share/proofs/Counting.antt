-- Counts of the numbers below a bound, and sums over the numbers below a bound.
use Rattle.std.proofs.Common.{◌≡◌, ℕ, suc, zero, ◌+◌, ◌-◌, ◌*◌, ◌%◌, ◌/◌, ◌<◌, ◌≤◌, min, Bool, true, false, cond, ◌&&◌, nat_le, nat_lt, ℤ, pos, neg_ℤ, ◌+ℤ◌, map, refl, sym, ap, ◌∙◌, subst, arith, add-one, inl, inr}
use Rattle.std.specs.List.{range_with_len, count_by}
use Rattle.std.proofs.lemmas.List.FromFn.{sum_by-map-range_with_len_more, map-range_with_len_more}
use Rattle.std.proofs.lemmas.List.Sums.{fold_push}
use Rattle.std.proofs.lemmas.Bool.{cases_lt}
use Rattle.std.proofs.lemmas.Bool.Decides.{nat_tests}
use Rattle.std.proofs.lemmas.Int.{ints}
use Rattle.std.proofs.lemmas.Nat.{mod-mul-add, div-add-mod', mod_below}
use Rattle.tk_base.specs.Sum.{int_sum}

-- how many numbers below a bound pass a test
abbrev pub passing : (ℕ → Bool) → ℕ → ℕ
passing test zero = 0
passing test (suc n) = passing test n + cond (test n) 1 0

-- the sum of a function over the numbers below a bound
abbrev pub total_below : (ℕ → ℕ) → ℕ → ℕ
total_below f zero = 0
total_below f (suc n) = total_below f n + f n

-- a count over a mapped range
pub count_mapped : (test : ℤ → Bool) (f : ℕ → ℤ) (n : ℕ) → count_by test (map f (range_with_len 0 n)) ≡ passing (λ i. test (f i)) n
count_mapped test f zero = refl
count_mapped test f (suc n) =
    ap (λ (m : ℕ). count_by test (map f (range_with_len 0 m))) (sym (add-one n))
    ∙ sum_by-map-range_with_len_more (λ u. cond (test u) 1 0) f 0 n n (omega arith)
    ∙ ap (λ (c : ℕ). c + cond (test (f n)) 1 0) (count_mapped test f n)

bit_le : (b : Bool) → cond b 1 0 ≤ 1
bit_le true = omega arith
bit_le false = omega arith

pub passing_le : (test : ℕ → Bool) (n : ℕ) → passing test n ≤ n
passing_le test zero = omega arith
passing_le test (suc n) = omega (arith, passing_le test n, bit_le (test n))

pub passing_grows : (test : ℕ → Bool) (a b : ℕ) → a ≤ b → passing test a ≤ passing test b
passing_grows test zero zero h = omega arith
passing_grows test (suc a) zero h = absurd (omega arith)
passing_grows test a (suc b) h = elim (cases_lt b a) [
  | inl lt ↦ let e : a ≡ suc b = omega arith in subst (λ (n : ℕ). passing test n ≤ passing test (suc b)) (sym e) (omega arith)
  | inr ge ↦ let low = passing_grows test a b ge in omega arith
]

-- a number is within or not
pub within : (low width x : ℕ) → cond (nat_le low x && nat_lt x (low + width)) 1 0 + min (x - low) width ≡ min (suc x - low) width
within low width x = grind (arith, nat_tests)

-- the numbers whose remainder is one of some, from the first on
pub passing_rest : (low width total q : ℕ) → passing (λ i. nat_le low (i % total) && nat_lt (i % total) (low + width)) (q * total) ≡ q * width
    → (r : ℕ) → r ≤ total → passing (λ i. nat_le low (i % total) && nat_lt (i % total) (low + width)) (q * total + r) ≡ q * width + min (r - low) width
passing_rest low width total q whole zero h =
    let test = λ (i : ℕ). nat_le low (i % total) && nat_lt (i % total) (low + width) in
    let e : q * total + 0 ≡ q * total = omega arith in
    let none : min (0 - low) width ≡ 0 = omega arith in
    ap (passing test) e ∙ whole ∙ omega (arith, none)
passing_rest low width total q whole (suc r) h =
    let test = λ (i : ℕ). nat_le low (i % total) && nat_lt (i % total) (low + width) in
    let e : q * total + suc r ≡ suc (q * total + r) = omega arith in
    let rest : (q * total + r) % total ≡ r = mod-mul-add q total r (omega arith) in
    let one : ℕ → ℕ = λ x. cond (nat_le low x && nat_lt x (low + width)) 1 0 in
    let bit : one ((q * total + r) % total) ≡ one r = ap one rest in
    let before = passing_rest low width total q whole r (omega arith) in
    ap (passing test) e ∙ omega (arith, before, bit, within low width r)

pub passing_whole : (low width total q : ℕ) → low + width ≤ total → passing (λ i. nat_le low (i % total) && nat_lt (i % total) (low + width)) (q * total) ≡ q * width
passing_whole low width total zero h = let e : 0 * total ≡ 0 = omega arith in ap (passing (λ i. nat_le low (i % total) && nat_lt (i % total) (low + width))) e ∙ omega arith
passing_whole low width total (suc q) h =
    let test = λ (i : ℕ). nat_le low (i % total) && nat_lt (i % total) (low + width) in
    let e : suc q * total ≡ q * total + total = omega arith in
    let all : min (total - low) width ≡ width = omega arith in
    ap (passing test) e ∙ passing_rest low width total q (passing_whole low width total q h) total (omega arith) ∙ omega (arith, all)

-- how many of the numbers below n have such a remainder
pub passing_is : (low width total n : ℕ) → 0 < total → low + width ≤ total → passing (λ i. nat_le low (i % total) && nat_lt (i % total) (low + width)) n ≡ n / total * width + min (n % total - low) width
passing_is low width total n some h =
    let test = λ (i : ℕ). nat_le low (i % total) && nat_lt (i % total) (low + width) in
    ap (passing test) (sym (div-add-mod' n total))
    ∙ passing_rest low width total (n / total) (passing_whole low width total (n / total) h) (n % total) (omega (arith, mod_below n total some))

-- the same for remainders counted from the top
pub falling_rest : (low width total q : ℕ) → low + width ≤ total → passing (λ i. nat_le low (total - 1 - i % total) && nat_lt (total - 1 - i % total) (low + width)) (q * total) ≡ q * width
    → (r : ℕ) → r ≤ total → passing (λ i. nat_le low (total - 1 - i % total) && nat_lt (total - 1 - i % total) (low + width)) (q * total + r) + min (total - r - low) width ≡ q * width + width
falling_rest low width total q fits whole zero h =
    let test = λ (i : ℕ). nat_le low (total - 1 - i % total) && nat_lt (total - 1 - i % total) (low + width) in
    let same : q * total + 0 ≡ q * total = omega arith in
    let e : passing test (q * total + 0) ≡ passing test (q * total) = ap (passing test) same in
    let all : min (total - 0 - low) width ≡ width = omega arith in
    omega (arith, e, all, whole)
falling_rest low width total q fits whole (suc r) h =
    let test = λ (i : ℕ). nat_le low (total - 1 - i % total) && nat_lt (total - 1 - i % total) (low + width) in
    let same : q * total + suc r ≡ suc (q * total + r) = omega arith in
    let e : passing test (q * total + suc r) ≡ passing test (suc (q * total + r)) = ap (passing test) same in
    let rest : (q * total + r) % total ≡ r = mod-mul-add q total r (omega arith) in
    let x = total - 1 - r in
    let one : ℕ → ℕ = λ y. cond (nat_le low (total - 1 - y) && nat_lt (total - 1 - y) (low + width)) 1 0 in
    let bit : one ((q * total + r) % total) ≡ one r = ap one rest in
    let before = falling_rest low width total q fits whole r (omega arith) in
    let left : total - suc r ≡ x = omega arith in
    let right : total - r ≡ suc x = omega arith in
    let less : min (total - suc r - low) width ≡ min (x - low) width = ap (λ (y : ℕ). min (y - low) width) left in
    let more : min (total - r - low) width ≡ min (suc x - low) width = ap (λ (y : ℕ). min (y - low) width) right in
    omega (arith, e, before, bit, within low width x, less, more)

pub falling_whole : (low width total q : ℕ) → low + width ≤ total → passing (λ i. nat_le low (total - 1 - i % total) && nat_lt (total - 1 - i % total) (low + width)) (q * total) ≡ q * width
falling_whole low width total zero h = let e : 0 * total ≡ 0 = omega arith in ap (passing (λ i. nat_le low (total - 1 - i % total) && nat_lt (total - 1 - i % total) (low + width))) e ∙ omega arith
falling_whole low width total (suc q) h =
    let test = λ (i : ℕ). nat_le low (total - 1 - i % total) && nat_lt (total - 1 - i % total) (low + width) in
    let same : suc q * total ≡ q * total + total = omega arith in
    let e : passing test (suc q * total) ≡ passing test (q * total + total) = ap (passing test) same in
    let none : min (total - total - low) width ≡ 0 = omega arith in
    let told = falling_rest low width total q h (falling_whole low width total q h) total (omega arith) in
    omega (arith, e, none, told)

pub falling_is : (low width total n : ℕ) → 0 < total → low + width ≤ total → passing (λ i. nat_le low (total - 1 - i % total) && nat_lt (total - 1 - i % total) (low + width)) (suc n) + min (total - 1 - n % total - low) width ≡ n / total * width + width
falling_is low width total n some h =
    let test = λ (i : ℕ). nat_le low (total - 1 - i % total) && nat_lt (total - 1 - i % total) (low + width) in
    let same : suc n ≡ n / total * total + suc (n % total) = omega (arith, div-add-mod' n total) in
    let e : passing test (suc n) ≡ passing test (n / total * total + suc (n % total)) = ap (passing test) same in
    let gone : total - suc (n % total) ≡ total - 1 - n % total = omega arith in
    let left : min (total - suc (n % total) - low) width ≡ min (total - 1 - n % total - low) width = ap (λ (y : ℕ). min (y - low) width) gone in
    let told = falling_rest low width total (n / total) h (falling_whole low width total (n / total) h) (suc (n % total)) (omega (arith, mod_below n total some)) in
    omega (arith, e, left, told)

-- ---- sums over participants

pub total_below_sum : (f g : ℕ → ℕ) (n : ℕ) → total_below (λ p. f p + g p) n ≡ total_below f n + total_below g n
total_below_sum f g zero = refl
total_below_sum f g (suc n) = omega (arith, total_below_sum f g n)

pub total_below_none : (n : ℕ) → total_below (λ p. 0) n ≡ 0
total_below_none zero = refl
total_below_none (suc n) = omega (arith, total_below_none n)

-- where each number passes exactly one of some tests, the counts of the tests sum to the bound
pub passing_each_once : (test : ℕ → ℕ → Bool) (k : ℕ) → ((i : ℕ) → total_below (λ p. cond (test p i) 1 0) k ≡ 1) → (n : ℕ) → total_below (λ p. passing (test p) n) k ≡ n
passing_each_once test k once zero = total_below_none k
passing_each_once test k once (suc n) =
    total_below_sum (λ p. passing (test p) n) (λ p. cond (test p n) 1 0) k ∙ omega (arith, passing_each_once test k once n, once n)

-- the sum of the numbers under a range, as a whole number
pub int_sum_range : (f : ℕ → ℤ) (n : ℕ) → int_sum (map f (range_with_len 0 (suc n))) ≡ int_sum (map f (range_with_len 0 n)) +ℤ f n
int_sum_range f n =
    ap (λ (m : ℕ). int_sum (map f (range_with_len 0 m))) (sym (add-one n))
    ∙ ap int_sum (map-range_with_len_more f 0 n n (omega arith))
    ∙ fold_push ◌+ℤ◌ (pos 0) (map f (range_with_len 0 n)) (f n)

pub int_sum_pos : (f : ℕ → ℕ) (n : ℕ) → int_sum (map (λ p. pos (f p)) (range_with_len 0 n)) ≡ pos (total_below f n)
int_sum_pos f zero = refl
int_sum_pos f (suc n) = int_sum_range (λ p. pos (f p)) n ∙ ap (λ (z : ℤ). z +ℤ pos (f n)) (int_sum_pos f n)

pub int_sum_neg : (f : ℕ → ℕ) (n : ℕ) → int_sum (map (λ p. neg_ℤ (pos (f p))) (range_with_len 0 n)) ≡ neg_ℤ (pos (total_below f n))
int_sum_neg f zero = refl
int_sum_neg f (suc n) = int_sum_range (λ p. neg_ℤ (pos (f p))) n ∙ ap (λ (z : ℤ). z +ℤ neg_ℤ (pos (f n))) (int_sum_neg f n) ∙ omega (arith, ints)
