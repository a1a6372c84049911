-- The readers of fields are exact for their spellings.
use Rattle.std.proofs.Common.{◌≡◌, ℕ, zero, suc, ◌+◌, ◌*◌, ◌-◌, ◌/◌, ◌%◌, ◌^◌, ◌<◌, ◌≤◌, ℤ, pos, negsuc, Bool, true, false, cond, eqb, ltb, List, [], ◌∷◌, ◌++◌, length, drop, Some, None, refl, sym, ap, subst, ◌∙◌, append_assoc, ne_eqb, arith, inl, inr}
use Rattle.std.specs.Prelude.{FitsSigned, nat_le, nat_lt, ⊤}
use Rattle.std.specs.Int.{w128, cast_signed, cast_unsigned}
use Rattle.std.proofs.lemmas.Int.{to_z-of_z, of_z-to_z}
use Rattle.std.proofs.Math.Facts.{sfits_to_z, Fits-of_z, Fits-lt-pow}
use Rattle.std.proofs.lemmas.Bool.{true≢false, cases_lt, ltb-false, le-ltb, lt-ltb, leb-false, lt-leb}
use Rattle.std.proofs.lemmas.List.{drop_at, take-append-drop, length-append}
use Rattle.byteorder.specs.Endian.{big_bytes, big_number}
use Rattle.byteorder.specs.Numbers.{big_from-lt, big_number-reads_back, length-bytes_high_first}
use Rattle.tk_frames.specs.Spelling.{groups, number, zigzag, unsigned_form, signed, object, pair, place, counted, set, pairs, places, flag, in_turn, Above, PairAbove, IsPlace, IsCounted, IsSet, ArePairs, ArePlaces, object_itself, pair_object, no_object}
use Rattle.tk_frames.specs.Reading.{Found, ◌>>=◌, bytes_at, groups_at, number_at, unzigzag, signed_at, object_if, object_at, pair_at, place_at, counted_at, set_at, pairs_at, places_at, flag_at, items_at}
use Rattle.tk_frames.proofs.Steps.{bind_some, passed, some_is}
use Rattle.tk_frames.proofs.BytesLemmas.{IsBytes, positive, bytes_of_number}
use Rattle.tk_frames.proofs.GroupLemmas.{groups_small, groups_more}
use Rattle.tk_frames.proofs.ExactLemmas.{IsExact, left_fits, exact_fact, exact_if, exact_as, exact_both, exact_items}

-- ---- numbers

pub exact_bytes : (size : ℕ) → IsExact (λ n. n < 256 ^ size) (big_bytes size) (bytes_at size)
unfolding bytes_at
exact_bytes size = record {
  takes = λ bytes n rest fits e.
      let a = passed (ltb (length bytes) size) (Some (big_number size bytes, drop size bytes)) (n, rest) e in
      let long : size ≤ length bytes = ltb-false (length bytes) size a.0 in
      let is = some_is (big_number size bytes, drop size bytes) (n, rest) a.1 in
      let whole : bytes ≡ big_bytes size (big_number size bytes) ++ drop size bytes = sym (ap (λ (front : List ℕ). front ++ drop size bytes) (bytes_of_number size bytes fits long) ∙ take-append-drop size bytes) in
      subst (λ p. (bytes ≡ big_bytes size p.0 ++ p.1) × (p.0 < 256 ^ size)) is (whole, big_from-lt 0 size bytes fits);
  again = λ n rest small.
      let len = length-bytes_high_first size n in
      let long : ltb (length (big_bytes size n ++ rest)) size ≡ false = le-ltb _ _ (omega (arith, length-append (big_bytes size n) rest, len)) in
      rw (long, big_number-reads_back size n rest small, drop_at (big_bytes size n) rest size len) refl;
}

not_zero : (n : ℕ) → eqb n 0 ≡ false → 0 < n
not_zero zero e = absurd (true≢false e)
not_zero (suc n) e = omega arith

-- what is read of a byte from 128 on and of the number above it
abbrev above_of : ℕ → ℕ → ℕ × List ℕ → Found ℕ
above_of limit b high = cond (eqb high.0 0) None (cond (ltb limit (128 * high.0 + (b - 128))) None (Some (128 * high.0 + (b - 128), high.1)))

above_takes : (limit b high : ℕ) (after : List ℕ) (n : ℕ) (rest : List ℕ) → 128 ≤ b → b < 256 → above_of limit b (high, after) ≡ Some (n, rest) → (b ∷ groups high ++ after ≡ groups n ++ rest) × (n ≤ limit)
above_takes limit b high after n rest ge byte e =
    let c = passed (eqb high 0) (cond (ltb limit (128 * high + (b - 128))) None (Some (128 * high + (b - 128), after))) (n, rest) e in
    let d = passed (ltb limit (128 * high + (b - 128))) (Some (128 * high + (b - 128), after)) (n, rest) c.1 in
    let is = some_is (128 * high + (b - 128), after) (n, rest) d.1 in
    let some : 0 < high = not_zero high c.0 in
    let n_is : 128 * high + (b - 128) ≡ n = ap (λ p. p.0) is in
    let after_is : after ≡ rest = ap (λ p. p.1) is in
    let large : 128 ≤ n = omega arith in
    let above : n / 128 ≡ high = omega arith in
    let first : 128 + n % 128 ≡ b = omega arith in
    let spelled : groups n ≡ b ∷ groups high = groups_more n large ∙ rw (first, above) refl in
    let within : 128 * high + (b - 128) ≤ limit = ltb-false _ _ d.0 in
    (rw (spelled, after_is) refl, omega arith)

groups_take : (limit : ℕ) (bytes : List ℕ) (n : ℕ) (rest : List ℕ) → IsBytes bytes → groups_at limit bytes ≡ Some (n, rest) → (bytes ≡ groups n ++ rest) × (n ≤ limit)
unfolding groups_at
groups_take limit [] n rest fits e = absurd cc
groups_take limit (b ∷ bytes) n rest fits e = elim (cases_lt b 128) [
  | inl lt ↦
      let one : cond (ltb limit b) None (Some (b, bytes)) ≡ Some (n, rest) = rw (lt-ltb b 128 lt) at e in
      let a = passed (ltb limit b) (Some (b, bytes)) (n, rest) one in
      let is = some_is (b, bytes) (n, rest) a.1 in
      subst (λ p. (b ∷ bytes ≡ groups p.0 ++ p.1) × (p.0 ≤ limit)) is (rw (groups_small b lt) refl, ltb-false limit b a.0)
  | inr ge ↦
      let more : cond (ltb limit 128) None (groups_at (limit / 128) bytes >>= above_of limit b) ≡ Some (n, rest) = rw (le-ltb b 128 ge) at e in
      let a = passed (ltb limit 128) (groups_at (limit / 128) bytes >>= above_of limit b) (n, rest) more in
      let h = bind_some (groups_at (limit / 128) bytes) (above_of limit b) (n, rest) a.1 in
      let u = groups_take (limit / 128) bytes h.0.0 h.0.1 (λ i. fits (suc i)) h.1 in
      let v = above_takes limit b h.0.0 h.0.1 n rest ge (fits 0) h.2 in
      (ap (λ (xs : List ℕ). b ∷ xs) u.0 ∙ v.0, v.1)
]

above_again : (limit n : ℕ) (rest : List ℕ) → 128 ≤ n → n ≤ limit → above_of limit (128 + n % 128) (n / 128, rest) ≡ Some (n, rest)
above_again limit n rest large within =
    let some : eqb (n / 128) 0 ≡ false = ne_eqb (n / 128) 0 (λ e. omega arith) in
    let is : 128 * (n / 128) + (128 + n % 128 - 128) ≡ n = omega arith in
    rw (some, is, le-ltb limit n within) refl

groups_again : (fuel limit n : ℕ) (rest : List ℕ) → n < fuel → n ≤ limit → groups_at limit (groups n ++ rest) ≡ Some (n, rest)
unfolding groups_at
groups_again zero limit n rest enough within = absurd (omega arith)
groups_again (suc fuel) limit n rest enough within = elim (cases_lt n 128) [
  | inl lt ↦ ap (λ (text : List ℕ). groups_at limit (text ++ rest)) (groups_small n lt) ∙ rw (lt-ltb n 128 lt, le-ltb limit n within) refl
  | inr ge ↦
      let byte : ltb (128 + n % 128) 128 ≡ false = le-ltb (128 + n % 128) 128 (omega arith) in
      let room : ltb limit 128 ≡ false = le-ltb limit 128 (omega arith) in
      let higher : groups_at (limit / 128) (groups (n / 128) ++ rest) ≡ Some (n / 128, rest) = groups_again fuel (limit / 128) (n / 128) rest (omega arith) (omega arith) in
      ap (λ (text : List ℕ). groups_at limit (text ++ rest)) (groups_more n ge)
      ∙ rw (byte, room) (ap (λ r. r >>= above_of limit (128 + n % 128)) higher ∙ above_again limit n rest ge within)
]

pub exact_groups : (limit : ℕ) → IsExact (λ n. n ≤ limit) groups (groups_at limit)
exact_groups limit = record {
  takes = groups_take limit;
  again = λ n rest within. groups_again (suc n) limit n rest (omega arith) within;
}

pub exact_number : (version size : ℕ) → IsExact (λ n. n < 256 ^ size) (number version size) (number_at version size)
unfolding number number_at
exact_number version size = exact_if (eqb version 1) (exact_bytes size)
    (exact_fact (λ n le. let some = positive size in omega arith) (λ n lt. omega arith) (exact_groups (256 ^ size - 1)))

-- ---- signed numbers

zigzag_back : (z : ℤ) → unzigzag (zigzag z) ≡ z
zigzag_back (pos n) =
    let even : 2 * n % 2 ≡ 0 = omega arith in
    let half : 2 * n / 2 ≡ n = omega arith in
    rw even (ap pos half)
zigzag_back (negsuc n) =
    let odd : (2 * n + 1) % 2 ≡ 1 = omega arith in
    let half : (2 * n + 1) / 2 ≡ n = omega arith in
    rw odd (ap negsuc half)

zigzag_again : (n : ℕ) → n < 2 ^ 128 → FitsSigned w128 (unzigzag n) × (zigzag (unzigzag n) ≡ n)
zigzag_again n small = elim (cases_lt (n % 2) 1) [
  | inl lt ↦
      let even : n % 2 ≡ 0 = omega arith in
      let fits : FitsSigned w128 (pos (n / 2)) = omega arith in
      let whole : 2 * (n / 2) ≡ n = omega arith in
      rw even (fits, whole)
  | inr ge ↦
      let odd : n % 2 ≡ 1 = omega arith in
      let fits : FitsSigned w128 (negsuc (n / 2)) = omega arith in
      let whole : 2 * (n / 2) + 1 ≡ n = omega arith in
      rw odd (fits, whole)
]

zigzag_fits : (z : ℤ) → FitsSigned w128 z → zigzag z < 2 ^ 128
zigzag_fits (pos n) fits = omega arith
zigzag_fits (negsuc n) fits = omega arith

form_again : (b : Bool) (n : ℕ) → n < 256 ^ 16 → FitsSigned w128 (cond b (cast_signed w128 n) (unzigzag n)) × (cond b (cast_unsigned w128 (cond b (cast_signed w128 n) (unzigzag n))) (zigzag (cond b (cast_signed w128 n) (unzigzag n))) ≡ n)
form_again true n small = (sfits_to_z {w = w128} {n = n} (record { fits = small }), of_z-to_z w128 n small)
form_again false n small = zigzag_again n small

form_back : (b : Bool) (z : ℤ) → FitsSigned w128 z → (cond b (cast_unsigned w128 z) (zigzag z) < 256 ^ 16) × (cond b (cast_signed w128 (cond b (cast_unsigned w128 z) (zigzag z))) (unzigzag (cond b (cast_unsigned w128 z) (zigzag z))) ≡ z)
form_back true z fits = (Fits-lt-pow (Fits-of_z fits), to_z-of_z w128 z fits)
form_back false z fits = (zigzag_fits z fits, zigzag_back z)

-- the number that spells a signed one is within 16 bytes
pub unsigned_small : (version : ℕ) (z : ℤ) → FitsSigned w128 z → unsigned_form version z < 256 ^ 16
unsigned_small version z fits = (form_back (eqb version 1) z fits).0

pub exact_signed : (version : ℕ) → IsExact (FitsSigned w128) (signed version) (signed_at version)
unfolding signed signed_at
exact_signed version = exact_as (λ n. cond (eqb version 1) (cast_signed w128 n) (unzigzag n)) (unsigned_form version)
    (form_again (eqb version 1)) (form_back (eqb version 1)) (exact_number version 16)

-- ---- objects and what is under them

object_back : (b : Bool) (before n : ℕ) → before < cond b n (before + n) → cond b (cond b n (before + n)) (cond b n (before + n) - before) ≡ n
object_back true before n up = refl
object_back false before n up = omega arith

object_told : (b : Bool) (before o : ℕ) → before < o → cond b (cond b o (o - before)) (before + cond b o (o - before)) ≡ o
object_told true before o up = refl
object_told false before o up = omega arith

-- a number within its type, whatever the version
pub object_small : (b : Bool) (before o : ℕ) → o < 2 ^ 32 → cond b o (o - before) < 2 ^ 32
object_small true before o small = small
object_small false before o small = omega arith

pub exact_object : (version before : ℕ) → IsExact (Above before) (object version before) (object_at version before)
unfolding object object_at
exact_object version before = record {
  takes = λ bytes o rest fits e.
      let b = eqb version 1 in
      let a = bind_some (number_at version 4 bytes) (λ n. object_if before (cond b n.0 (before + n.0)) n.1) (o, rest) e in
      let told = cond b a.0.0 (before + a.0.0) in
      let c = passed (nat_le told before) (cond (nat_lt 4294967295 told) None (Some (told, a.0.1))) (o, rest) a.2 in
      let d = passed (nat_lt 4294967295 told) (Some (told, a.0.1)) (o, rest) c.1 in
      let is = some_is (told, a.0.1) (o, rest) d.1 in
      let up : before < told = leb-false told before c.0 in
      let small : told ≤ 4294967295 = ltb-false 4294967295 told d.0 in
      let t = (exact_number version 4).takes bytes a.0.0 a.0.1 fits a.1 in
      let whole : bytes ≡ number version 4 (cond b told (told - before)) ++ a.0.1 = t.0 ∙ ap (λ (n : ℕ). number version 4 n ++ a.0.1) (sym (object_back b before a.0.0 up)) in
      subst (λ p. (bytes ≡ number version 4 (cond b p.0 (p.0 - before)) ++ p.1) × Above before p.0) is (whole, (up, omega arith));
  again = λ o rest fact.
      let b = eqb version 1 in
      let told : cond b (cond b o (o - before)) (before + cond b o (o - before)) ≡ o = object_told b before o fact.0 in
      let up : nat_le o before ≡ false = lt-leb o before fact.0 in
      let small : nat_lt 4294967295 o ≡ false = le-ltb 4294967295 o (omega (arith, fact.1)) in
      let passes : object_if before o rest ≡ Some (o, rest) = rw (up, small) refl in
      ap (λ r. r >>= λ n. object_if before (cond b n.0 (before + n.0)) n.1) ((exact_number version 4).again (cond b o (o - before)) rest (object_small b before o fact.1))
      ∙ ap (λ (x : ℕ). object_if before x rest) told ∙ passes;
}

pub exact_pair : (version before : ℕ) → IsExact (PairAbove before) (pair version before) (pair_at version before)
unfolding pair_at
exact_pair version before = exact_both (exact_object version before) (exact_signed version)

pub exact_counted : {X : Type 0} (version : ℕ) (object_of : X → ℕ) (Fact : ℕ → X → Type 0) (spell : ℕ → X → List ℕ) (read : ℕ → List ℕ → Found X) → ((before : ℕ) → IsExact (Fact before) (spell before) (read before))
    → IsExact (IsCounted object_of Fact) (counted version object_of spell) (counted_at version object_of read)
unfolding counted counted_at
exact_counted version object_of Fact spell read exact = record {
  takes = λ bytes xs rest fits e.
      let a = bind_some (number_at version 4 bytes) (λ count. items_at object_of read 0 count.0 count.1) (xs, rest) e in
      let t = (exact_number version 4).takes bytes a.0.0 a.0.1 fits a.1 in
      let items = exact_items object_of Fact spell read exact 0 a.0.0 in
      let u = items.takes a.0.1 xs rest (left_fits (exact_number version 4) bytes a.0.0 a.0.1 fits a.1) a.2 in
      let text = in_turn object_of spell 0 xs in
      let whole : bytes ≡ (number version 4 (length xs) ++ text) ++ rest =
      t.0 ∙ ap (λ (w : List ℕ). number version 4 a.0.0 ++ w) u.0
      ∙ ap (λ (k : ℕ). number version 4 k ++ (text ++ rest)) (sym u.1.0)
      ∙ sym (append_assoc (number version 4 (length xs)) text rest) in
      (whole, (omega (arith, t.1, u.1.0), u.1.1));
  again = λ xs rest fact.
      let text = in_turn object_of spell 0 xs in
      ap (λ (w : List ℕ). number_at version 4 w >>= λ count. items_at object_of read 0 count.0 count.1) (append_assoc (number version 4 (length xs)) text rest)
      ∙ ap (λ r. r >>= λ count. items_at object_of read 0 count.0 count.1) ((exact_number version 4).again (length xs) (text ++ rest) fact.0)
      ∙ (exact_items object_of Fact spell read exact 0 (length xs)).again xs rest (refl, fact.1);
}

pub exact_set : (version : ℕ) → IsExact IsSet (set version) (set_at version)
exact_set version = exact_counted version object_itself Above (object version) (object_at version) (exact_object version)

pub exact_pairs : (version : ℕ) → IsExact ArePairs (pairs version) (pairs_at version)
exact_pairs version = exact_counted version pair_object PairAbove (pair version) (pair_at version) (exact_pair version)

pub exact_places : (version : ℕ) → IsExact ArePlaces (places version) (places_at version)
exact_places version = exact_counted version no_object IsPlace (place version) (place_at version) (λ before. exact_number version 4)

-- what was read as a flag is how it is spelled
pub flag_takes : (bytes : List ℕ) (last : Bool) (rest : List ℕ) → flag_at bytes ≡ Some (last, rest) → bytes ≡ flag last ++ rest
unfolding flag_at
flag_takes [] last rest e = absurd cc
flag_takes (zero ∷ bytes) last rest e = subst (λ p. 0 ∷ bytes ≡ flag p.0 ++ p.1) (some_is (false, bytes) (last, rest) e) refl
flag_takes (suc zero ∷ bytes) last rest e = subst (λ p. 1 ∷ bytes ≡ flag p.0 ++ p.1) (some_is (true, bytes) (last, rest) e) refl
flag_takes (suc (suc b) ∷ bytes) last rest e = absurd cc

-- a flag that is spelled is read again
pub flag_again : (last : Bool) (rest : List ℕ) → flag_at (flag last ++ rest) ≡ Some (last, rest)
unfolding flag_at
flag_again false rest = refl
flag_again true rest = refl

-- a flag has one spelling
pub exact_flag : IsExact (λ last. ⊤) flag flag_at
exact_flag = record {
  takes = λ bytes last rest fits e. (flag_takes bytes last rest e, tt);
  again = λ last rest fact. flag_again last rest;
}
