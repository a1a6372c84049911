-- A set of monitors, by its bits.
use Rattle.std.proofs.Common.{◌≡◌, ℕ, suc, zero, ◌+◌, ◌-◌, ◌*◌, ◌%◌, ◌^◌, ◌<◌, ◌≤◌, ◌==◌, ◌&&◌, ◌||◌, not, Bool, true, false, min, refl, sym, ap, ap₂, ◌∙◌, arith, ◌⊎◌, inl, inr, bit_and, bit_or}
use Rattle.std.specs.Prelude.{nat_le}
use Rattle.std.specs.Int.{bit_at, bit_not, w64}
use Rattle.std.proofs.lemmas.Bool.{cases_eq, cases_lt, eq-eqb, ne_eqb, le-leb}
use Rattle.std.proofs.lemmas.Nat.Bits.{bit_at-lt, bit_at-zero, bit_at_above, bit_at_and, bit_at_clear_other, bit_at_clear_same, bit_at_mask_below, bit_at_mask_inside, bit_at_set_other, bit_at_set_same, ones_shl}

-- whether a monitor is in the set of some bits
abbrev pub at : ℕ → ℕ → Bool
at bits q = nat_le 1 q && bit_at bits (q - 1) == 1

pub at_bit : (bits q n : ℕ) → 1 ≤ q → bit_at bits (q - 1) ≡ n → at bits q ≡ (n == 1)
at_bit bits q n some is = ap₂ (λ (a b : Bool). a && b) (le-leb 1 q some) (ap (λ (k : ℕ). k == 1) is)

pub none_at : (q : ℕ) → at 0 q ≡ false
none_at zero = refl
none_at (suc p) = at_bit 0 (suc p) 0 (omega arith) (bit_at-zero (suc p - 1))

pub past_at : (bits q : ℕ) → bits < 2 ^ 64 → 64 < q → at bits q ≡ false
past_at bits q within past = at_bit bits q 0 (omega arith) (bit_at_above bits 64 (q - 1) within (omega arith))

apart_at : (bits new k p : ℕ) → ((suc p ≡ k) → ⊥) → bit_at new (suc p - 1) ≡ bit_at bits (suc p - 1) → at new (suc p) ≡ at bits (suc p)
apart_at bits new k p apart is = ap (λ (n : ℕ). nat_le 1 (suc p) && n == 1) is

pub set_at : (bits k q : ℕ) → 1 ≤ k → k ≤ 64 → at (bit_or bits (1 * 2 ^ (k - 1) % 2 ^ 64)) q ≡ (q == k || at bits q)
set_at bits k zero some within = ap (λ (b : Bool). b || false) (sym (ne_eqb zero k (λ e. absurd (omega (arith, e)))))
set_at bits k (suc p) some within = elim (cases_eq (suc p) k) [
  | inl same ↦
      at_bit (bit_or bits (1 * 2 ^ (k - 1) % 2 ^ 64)) (suc p) 1 (omega arith) (ap (λ (n : ℕ). bit_at (bit_or bits (1 * 2 ^ (k - 1) % 2 ^ 64)) (n - 1)) same ∙ bit_at_set_same w64 bits (k - 1) (omega arith))
      ∙ ap (λ (b : Bool). b || at bits (suc p)) (sym (eq-eqb (suc p) k same))
  | inr apart ↦
      apart_at bits (bit_or bits (1 * 2 ^ (k - 1) % 2 ^ 64)) k p apart (bit_at_set_other w64 bits (k - 1) (omega arith) (suc p - 1) (λ e. apart (omega (arith, e))))
      ∙ ap (λ (b : Bool). b || at bits (suc p)) (sym (ne_eqb (suc p) k apart))
]

cleared : (bits k p : ℕ) → bits < 2 ^ 64 → 1 ≤ k → k ≤ 64 → (suc p ≡ k → ⊥) → (suc p - 1 < 64) ⊎ (64 ≤ suc p - 1) → at (bit_and bits (bit_not w64 (1 * 2 ^ (k - 1) % 2 ^ 64))) (suc p) ≡ at bits (suc p)
cleared bits k p small some within apart (inl inside) = apart_at bits (bit_and bits (bit_not w64 (1 * 2 ^ (k - 1) % 2 ^ 64))) k p apart (bit_at_clear_other w64 bits (k - 1) (omega arith) (suc p - 1) inside (λ e. apart (omega (arith, e))))
cleared bits k p small some within apart (inr past) =
    let none : bit_at bits (suc p - 1) ≡ 0 = bit_at_above bits 64 (suc p - 1) small past in
    let and : bit_at (bit_and bits (bit_not w64 (1 * 2 ^ (k - 1) % 2 ^ 64))) (suc p - 1) ≡ 0 = (let e = bit_at_and bits (bit_not w64 (1 * 2 ^ (k - 1) % 2 ^ 64)) (suc p - 1) in omega (arith, e, none)) in
    apart_at bits (bit_and bits (bit_not w64 (1 * 2 ^ (k - 1) % 2 ^ 64))) k p apart (and ∙ sym none)

pub clear_at : (bits k q : ℕ) → bits < 2 ^ 64 → 1 ≤ k → k ≤ 64 → at (bit_and bits (bit_not w64 (1 * 2 ^ (k - 1) % 2 ^ 64))) q ≡ (not (q == k) && at bits q)
clear_at bits k zero small some within = ap (λ (b : Bool). not b && false) (sym (ne_eqb zero k (λ e. absurd (omega (arith, e)))))
clear_at bits k (suc p) small some within = elim (cases_eq (suc p) k) [
  | inl same ↦
      at_bit (bit_and bits (bit_not w64 (1 * 2 ^ (k - 1) % 2 ^ 64))) (suc p) 0 (omega arith) (ap (λ (n : ℕ). bit_at (bit_and bits (bit_not w64 (1 * 2 ^ (k - 1) % 2 ^ 64))) (n - 1)) same ∙ bit_at_clear_same w64 bits (k - 1) (omega arith))
      ∙ ap (λ (b : Bool). not b && at bits (suc p)) (sym (eq-eqb (suc p) k same))
  | inr apart ↦
      cleared bits k p small some within apart (cases_lt (suc p - 1) 64)
      ∙ ap (λ (b : Bool). not b && at bits (suc p)) (sym (ne_eqb (suc p) k apart))
]

-- ---- the least at or above a number

mask_is : (bits below i : ℕ) → below < 64 → bit_at (bit_and bits ((2 ^ 64 - 1) * 2 ^ below % 2 ^ 64)) i ≡ min (bit_at bits i) (bit_at (2 ^ 64 - 2 ^ below) i)
mask_is bits below i within =
    bit_at_and bits ((2 ^ 64 - 1) * 2 ^ below % 2 ^ 64) i
    ∙ ap (λ (m : ℕ). min (bit_at bits i) (bit_at m i)) (ones_shl 64 below (omega arith))

pub masked_below : (bits below i : ℕ) → below < 64 → i < below → bit_at (bit_and bits ((2 ^ 64 - 1) * 2 ^ below % 2 ^ 64)) i ≡ 0
masked_below bits below i within under = let e = mask_is bits below i within in let z = bit_at_mask_below below 64 i under in omega (arith, e, z)

pub masked_from : (bits below i : ℕ) → below < 64 → below ≤ i → i < 64 → bit_at (bit_and bits ((2 ^ 64 - 1) * 2 ^ below % 2 ^ 64)) i ≡ bit_at bits i
masked_from bits below i within from inside = let e = mask_is bits below i within in let z = bit_at_mask_inside below 64 i from inside in let l = bit_at-lt bits i in omega (arith, e, z, l)

-- at and above the number, and in front of the lowest bit that is left, no monitor is in the set
pub free_at : (bits below q low : ℕ) → bits < 2 ^ 64 → below < 64 → (0 < q → below < q) → ((i : ℕ) → i < low → bit_at (bit_and bits ((2 ^ 64 - 1) * 2 ^ below % 2 ^ 64)) i ≡ 0) → q ≤ low → at bits q ≡ false
free_at bits below zero low small within past none under = refl
free_at bits below (suc p) low small within past none under =
    let behind : below < suc p = past (omega arith) in
    elim (cases_lt (suc p - 1) 64) [
      | inl inside ↦ at_bit bits (suc p) 0 (omega arith) (sym (masked_from bits below (suc p - 1) within (omega arith) inside) ∙ none (suc p - 1) (omega arith))
      | inr outside ↦ past_at bits (suc p) small (omega arith)
    ]

-- the lowest bit that is left is one of the set
pub found_at : (bits below low : ℕ) → below < 64 → low < 64 → bit_at (bit_and bits ((2 ^ 64 - 1) * 2 ^ below % 2 ^ 64)) low ≡ 1 → (below ≤ low) × (at bits (low + 1) ≡ true)
found_at bits below low within inside one = elim (cases_lt low below) [
  | inl under ↦ absurd (omega (arith, one, masked_below bits below low within under))
  | inr from ↦ (from, at_bit bits (low + 1) 1 (omega arith) (ap (bit_at bits) (let e : low + 1 - 1 ≡ low = omega arith in e) ∙ sym (masked_from bits below low within from inside) ∙ one))
]
