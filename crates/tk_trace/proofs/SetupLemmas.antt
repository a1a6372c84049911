-- The reader of settings is exact.
use Rattle.std.proofs.Common.{◌≡◌, ℕ, ◌*◌, ◌<◌, ◌≤◌, ◌^◌, ◌≤ℤ◌, ℤ, pos, negsuc, unsigned_abs, not, ◌&&◌, List, ◌++◌, Option, Some, Ok, refl, sym, ap, subst, ◌∙◌, arith}
use Rattle.std.specs.Prelude.{nat_le, nat_lt}
use Rattle.std.proofs.lemmas.Bool.{leb-true, le-leb, lt-ltb, ltb-true, and_parts, not-false}
use Rattle.std.proofs.lemmas.Int.{ints}
use Rattle.tk_base.specs.Settings.{IsWithinLimits, Setup, are_counts, is_k, settings_of}
use Rattle.tk_base.specs.declared.settings.SettingFault.TheVariants.{BadCount, BadEpsilon, BadK, BadWeight}
use Rattle.tk_frames.specs.Reading.{◌>>=◌, both_at}
use Rattle.tk_frames.proofs.ExactLemmas.{IsExact, exact_both}
use Rattle.tk_frames.proofs.Steps.{bind_some, some_is}
use Rattle.tk_trace.specs.Reading.{if_ok, number_at, setup_at}
use Rattle.tk_trace.specs.Spelling.{number, setup}
use Rattle.tk_trace.proofs.ExactLemmas.{exact_number}
use Rattle.tk_input.proofs.CatalogLemmas.{ok_is, unless_true}
use Rattle.tk_trace.proofs.NameLemmas.{made_ok}

-- settings that were made are of these numbers, which are within the limits
made : (k epsilon own objects monitors : ℕ) (s : Setup) → settings_of k epsilon own objects monitors ≡ Ok s
    → (s ≡ record { k = k; epsilon = pos epsilon; own_weight = own; objects = objects; monitors = monitors }) × IsWithinLimits s
made k epsilon own objects monitors s e =
    let a = unless_true (not (are_counts objects monitors)) BadCount _ s e in
    let b = unless_true (not (is_k k objects)) BadK _ s a.1 in
    let c = unless_true (not (nat_le epsilon (2 ^ 100))) BadEpsilon _ s b.1 in
    let d = unless_true (not (nat_le own 1000)) BadWeight _ s c.1 in
    let is = sym (ok_is _ s d.1) in
    let counts = not-false (are_counts objects monitors) a.0 in
    let c4 = and_parts (nat_lt 0 objects && nat_le objects 65536 && nat_lt 0 monitors && nat_le monitors 64) (nat_le (objects * monitors) 1048576) counts in
    let c3 = and_parts (nat_lt 0 objects && nat_le objects 65536 && nat_lt 0 monitors) (nat_le monitors 64) c4.0 in
    let c2 = and_parts (nat_lt 0 objects && nat_le objects 65536) (nat_lt 0 monitors) c3.0 in
    let c1 = and_parts (nat_lt 0 objects) (nat_le objects 65536) c2.0 in
    let members = not-false (is_k k objects) b.0 in
    let k2 = and_parts (nat_lt 0 k && nat_le k 1024) (nat_le k objects) members in
    let k1 = and_parts (nat_lt 0 k) (nat_le k 1024) k2.0 in
    let small : epsilon ≤ 2 ^ 100 = leb-true epsilon (2 ^ 100) (not-false (nat_le epsilon (2 ^ 100)) c.0) in (
      is,
      subst IsWithinLimits (sym is) (record {
        some_object = ltb-true 0 objects c1.0;
        objects = leb-true objects 65536 c1.1;
        some_monitor = ltb-true 0 monitors c2.1;
        monitors = leb-true monitors 64 c3.1;
        product = leb-true (objects * monitors) 1048576 c4.1;
        some_member = ltb-true 0 k k1.0;
        k = leb-true k 1024 k1.1;
        members = leb-true k objects k2.1;
        no_debt = omega (arith, ints);
        epsilon = omega (arith, ints, small);
        own_weight = leb-true own 1000 (not-false (nat_le own 1000) d.0);
      }),
    )

within_made : (k epsilon own objects monitors : ℕ) → IsWithinLimits (record { k = k; epsilon = pos epsilon; own_weight = own; objects = objects; monitors = monitors })
    → settings_of k epsilon own objects monitors ≡ Ok (record { k = k; epsilon = pos epsilon; own_weight = own; objects = objects; monitors = monitors })
within_made k epsilon own objects monitors h =
    let small : epsilon ≤ 2 ^ 100 = omega (arith, ints, h.epsilon) in
    rw (
      lt-ltb 0 objects h.some_object,
      le-leb objects 65536 h.objects,
      lt-ltb 0 monitors h.some_monitor,
      le-leb monitors 64 h.monitors,
      le-leb (objects * monitors) 1048576 h.product,
      lt-ltb 0 k h.some_member,
      le-leb k 1024 h.k,
      le-leb k objects h.members,
      le-leb epsilon (2 ^ 100) small,
      le-leb own 1000 h.own_weight,
    ) refl

-- settings within the limits are made of their numbers
made_again : (s : Setup) → IsWithinLimits s → settings_of s.k (unsigned_abs s.epsilon) s.own_weight s.objects s.monitors ≡ Ok s
made_again s h = at s.epsilon h.no_debt h
  where
    at : (z : ℤ) → pos 0 ≤ℤ z → IsWithinLimits (record { k = s.k; epsilon = z; own_weight = s.own_weight; objects = s.objects; monitors = s.monitors }) → settings_of s.k (unsigned_abs z) s.own_weight s.objects s.monitors ≡ Ok (record { k = s.k; epsilon = z; own_weight = s.own_weight; objects = s.objects; monitors = s.monitors })
    at (pos n) some within = within_made s.k n s.own_weight s.objects s.monitors within
    at (negsuc n) some within = absurd (omega (arith, ints, some))

-- the five numbers
abbrev Numbers : Type 0
Numbers = (ℕ × ℕ) × (ℕ × (ℕ × ℕ))

abbrev numbers_of : Setup → Numbers
numbers_of s = ((s.k, unsigned_abs s.epsilon), (s.own_weight, (s.objects, s.monitors)))

abbrev AreNumbers : Numbers → Type 0
AreNumbers x = ((x.0.0 < 256 ^ 4) × (x.0.1 < 256 ^ 16)) × ((x.1.0 < 256 ^ 4) × ((x.1.1.0 < 256 ^ 4) × (x.1.1.1 < 256 ^ 4)))

exact_numbers : IsExact AreNumbers (λ x. (number 4 x.0.0 ++ number 16 x.0.1) ++ (number 4 x.1.0 ++ (number 4 x.1.1.0 ++ number 4 x.1.1.1)))
    (both_at (both_at (number_at 4) (number_at 16)) (both_at (number_at 4) (both_at (number_at 4) (number_at 4))))
exact_numbers = exact_both (exact_both (exact_number 4) (exact_number 16)) (exact_both (exact_number 4) (exact_both (exact_number 4) (exact_number 4)))

abbrev settings_in : Numbers → Option Setup
settings_in x = if_ok (settings_of x.0.0 x.0.1 x.1.0 x.1.1.0 x.1.1.1)

pub exact_setup : IsExact IsWithinLimits setup setup_at
unfolding setup_at
exact_setup = record {
  takes = λ bytes s rest fits e.
      let a = bind_some (both_at (both_at (number_at 4) (number_at 16)) (both_at (number_at 4) (both_at (number_at 4) (number_at 4))) bytes) (λ x. settings_in x.0 >>= λ s. Some (s, x.1)) (s, rest) e in
      let x = a.0.0 in
      let b = bind_some (settings_in x) (λ s. Some (s, a.0.1)) (s, rest) a.2 in
      let t = exact_numbers.takes bytes x a.0.1 fits a.1 in
      let m = made x.0.0 x.0.1 x.1.0 x.1.1.0 x.1.1.1 b.0 (made_ok (settings_of x.0.0 x.0.1 x.1.0 x.1.1.0 x.1.1.1) b.0 b.1) in
      let is = some_is (b.0, a.0.1) (s, rest) b.2 in
      let whole : bytes ≡ setup b.0 ++ a.0.1 = t.0 ∙ ap (λ (s : Setup). setup s ++ a.0.1) (sym m.0) in
      subst (λ (p : Setup × List ℕ). (bytes ≡ setup p.0 ++ p.1) × IsWithinLimits p.0) is (whole, m.1);
  again = λ s rest h.
      ap (λ r. r >>= λ x. settings_in x.0 >>= λ s. Some (s, x.1)) (exact_numbers.again (numbers_of s) rest (small s h))
      ∙ ap (λ r. if_ok r >>= λ s. Some (s, rest)) (made_again s h);
}
  where
    small : (s : Setup) → IsWithinLimits s → AreNumbers (numbers_of s)
    small s h = ((omega (arith, h.k), omega (arith, ints, h.no_debt, h.epsilon)), (omega (arith, h.own_weight), (omega (arith, h.objects), omega (arith, h.monitors))))
