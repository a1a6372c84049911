-- The bytes of a greeting, and the numbers at their places.
use Rattle.std.proofs.Common.{◌≡◌, ℕ, zero, suc, ◌+◌, ◌-◌, ◌*◌, ◌^◌, ◌<◌, ◌≤◌, List, [], ◌∷◌, ◌++◌, length, take, drop, replicate, slice_index, refl, sym, ap, ◌∙◌, append_assoc, subst, arith}
use Rattle.std.specs.List.{flat_map, AllByRecursion}
use Rattle.std.proofs.lemmas.List.{append-nil, drop-drop, drop-replicate, drop_at, drop_more, length-append, length-drop, length-replicate, take-append-drop, take_rest}
use Rattle.byteorder.specs.Endian.{big_number}
use Rattle.byteorder.specs.Numbers.{big_from-lt, big_number-reads_back, length-bytes_high_first}
use Rattle.tk_frames.proofs.BytesLemmas.{IsBytes, rest_fits, bytes_of_number}
use Rattle.tk_wire.specs.declared.beginning.Beginning.{Beginning}
use Rattle.tk_wire.specs.declared.greeting.Greeting.{Greeting}
use Rattle.tk_wire.specs.Greeting.{GreetingIn, IsBeginning, SaysTheSame, beginning_bytes, beginnings_bytes, greeting_mark, number_bytes}
use Rattle.tk_wire.proofs.QueueLemmas.{take_add}
use Rattle.tk_wire.specs.GreetingReading.{HasForm, beginning_at, beginnings_at}

abbrev zeros : ℕ → List ℕ
zeros n = replicate n 0

-- ---- from what is said to what is read

length-number : (size n : ℕ) → length (number_bytes size n) ≡ size
unfolding number_bytes
length-number size n = length-bytes_high_first size n

reads_back : (size n : ℕ) (rest : List ℕ) → n < 256 ^ size → big_number size (number_bytes size n ++ rest) ≡ n
unfolding number_bytes
reads_back size n rest small = big_number-reads_back size n rest small

-- what follows a number
behind : (size n : ℕ) (rest : List ℕ) → drop size (number_bytes size n ++ rest) ≡ rest
behind size n rest = drop_at (number_bytes size n) rest size (length-number size n)

length-beginning : (b : Beginning) → length (beginning_bytes b) ≡ 12
length-beginning b = length-append (number_bytes 8 b.count) (number_bytes 4 b.start) ∙ rw (length-number 8 b.count, length-number 4 b.start) refl

length-flat : (bs : List Beginning) → length (flat_map beginning_bytes bs) ≡ 12 * length bs
length-flat [] = refl
length-flat (b ∷ bs) =
    let a = length-append (beginning_bytes b) (flat_map beginning_bytes bs) in
    let h = length-beginning b in
    let t = length-flat bs in
    omega arith

-- beginnings are read as they were said
beginning_back : (b : Beginning) (rest : List ℕ) → IsBeginning b → beginning_at (beginning_bytes b ++ rest) ≡ b
beginning_back b rest is =
    let split : beginning_bytes b ++ rest ≡ number_bytes 8 b.count ++ (number_bytes 4 b.start ++ rest) = append_assoc (number_bytes 8 b.count) (number_bytes 4 b.start) rest in
    let count : big_number 8 (number_bytes 8 b.count ++ (number_bytes 4 b.start ++ rest)) ≡ b.count = reads_back 8 b.count _ is.0 in
    let start : big_number 4 (drop 8 (number_bytes 8 b.count ++ (number_bytes 4 b.start ++ rest))) ≡ b.start = ap (big_number 4) (behind 8 b.count _) ∙ reads_back 4 b.start rest is.1 in
    ap beginning_at split ∙ ap (λ (n : ℕ). record { count = n; start = big_number 4 (drop 8 (number_bytes 8 b.count ++ (number_bytes 4 b.start ++ rest))) }) count ∙ ap (λ (n : ℕ). record { count = b.count; start = n }) start

pub beginnings_back : (bs : List Beginning) (rest : List ℕ) → AllByRecursion IsBeginning bs → beginnings_at (length bs) (flat_map beginning_bytes bs ++ rest) ≡ bs
unfolding beginnings_at
beginnings_back [] rest each = refl
beginnings_back (b ∷ bs) rest each =
    let split : flat_map beginning_bytes (b ∷ bs) ++ rest ≡ beginning_bytes b ++ (flat_map beginning_bytes bs ++ rest) = append_assoc (beginning_bytes b) (flat_map beginning_bytes bs) rest in
    let first = beginning_back b (flat_map beginning_bytes bs ++ rest) each.0 in
    let others : beginnings_at (length bs) (drop 12 (beginning_bytes b ++ (flat_map beginning_bytes bs ++ rest))) ≡ bs = ap (beginnings_at (length bs)) (drop_at (beginning_bytes b) _ 12 (length-beginning b)) ∙ beginnings_back bs rest each.1 in
    ap (beginnings_at (suc (length bs))) split ∙ ap (λ x. x ∷ beginnings_at (length bs) (drop 12 (beginning_bytes b ++ (flat_map beginning_bytes bs ++ rest)))) first ∙ ap (λ xs. b ∷ xs) others

-- what stands at a place
slice_at : (i : ℕ) (xs : List ℕ) (y : ℕ) (ys : List ℕ) → drop i xs ≡ y ∷ ys → slice_index xs i ≡ y
slice_at zero [] y ys e = absurd cc
slice_at zero (x ∷ xs) y ys e = cc
slice_at (suc i) [] y ys e = absurd cc
slice_at (suc i) (x ∷ xs) y ys e = slice_at i xs y ys e

-- the bytes of a greeting have its form
pub form_of : (bytes : List ℕ) (g : Greeting) → GreetingIn bytes g → HasForm bytes (length g.beginnings.items)
form_of bytes g is =
    let bs = g.beginnings.items in
    let n = length bs in
    let tail = n ∷ beginnings_bytes bs in
    let after_run = number_bytes 4 g.mon.0 ++ tail in
    let d4 : drop 4 bytes ≡ number_bytes 8 g.run ++ after_run = ap (drop 4) is.bytes_are in
    let d12 : drop 12 bytes ≡ after_run = sym (drop-drop 8 4 bytes) ∙ ap (drop 8) d4 ∙ behind 8 g.run after_run in
    let d16 : drop 16 bytes ≡ tail = sym (drop-drop 4 12 bytes) ∙ ap (drop 4) d12 ∙ behind 4 g.mon.0 tail in
    let d17 : drop 17 bytes ≡ beginnings_bytes bs = sym (drop-drop 1 16 bytes) ∙ ap (drop 1) d16 in
    let mon : big_number 4 (drop 12 bytes) ≡ g.mon.0 = ap (big_number 4) d12 ∙ reads_back 4 g.mon.0 tail (omega (arith, is.form.monitor)) in
    let size : length bytes ≡ 113 =
    let l0 : length bytes ≡ suc (suc (suc (suc (length (number_bytes 8 g.run ++ after_run))))) = ap length is.bytes_are in
    let tail_is : length tail ≡ suc (length (flat_map beginning_bytes bs ++ zeros (96 - 12 * n))) = refl in
    let l1 : length (number_bytes 8 g.run ++ after_run) ≡ length (number_bytes 8 g.run) + length after_run = length-append (number_bytes 8 g.run) after_run in
    let l2 : length after_run ≡ length (number_bytes 4 g.mon.0) + length tail = length-append (number_bytes 4 g.mon.0) tail in
    let l3 : length (flat_map beginning_bytes bs ++ zeros (96 - 12 * n)) ≡ length (flat_map beginning_bytes bs) + length (zeros (96 - 12 * n)) = length-append (flat_map beginning_bytes bs) (zeros (96 - 12 * n)) in
    let l4 = length-number 8 g.run in
    let l5 = length-number 4 g.mon.0 in
    let l6 = length-flat bs in
    let l7 : length (zeros (96 - 12 * n)) ≡ 96 - 12 * n = length-replicate (96 - 12 * n) 0 in
    let few = is.form.streams.1 in
    omega arith in
    let padding : drop (17 + 12 * n) bytes ≡ zeros (96 - 12 * n) =
    sym (drop-drop (12 * n) 17 bytes) ∙ ap (drop (12 * n)) d17 ∙ drop_at (flat_map beginning_bytes bs) _ (12 * n) (length-flat bs) in
    let told : slice_index bytes 16 ≡ n = slice_at 16 bytes n (beginnings_bytes bs) d16 in
    record {
      size = size;
      mark = ap (take 4) is.bytes_are;
      monitor = rw mon is.form.monitor;
      told = told;
      streams = is.form.streams;
      padding = padding;
    }

-- ---- from what is read to what was said

drop_fits : (k : ℕ) (xs : List ℕ) → IsBytes xs → IsBytes (drop k xs)
drop_fits k xs fits = rest_fits (take k xs) (drop k xs) (subst IsBytes (sym (take-append-drop k xs)) fits)

number_said : (size : ℕ) (xs : List ℕ) → IsBytes xs → size ≤ length xs → number_bytes size (big_number size xs) ≡ take size xs
unfolding number_bytes
number_said size xs fits long = bytes_of_number size xs fits long

-- the bytes of the beginning that was read
beginning_said : (xs : List ℕ) → IsBytes xs → 12 ≤ length xs → (beginning_bytes (beginning_at xs) ≡ take 12 xs) × IsBeginning (beginning_at xs)
beginning_said xs fits long =
    let long' : 4 ≤ length (drop 8 xs) = rw (length-drop 8 xs) (omega arith) in
    let first = number_said 8 xs fits (omega arith) in
    let second = number_said 4 (drop 8 xs) (drop_fits 8 xs fits) long' in (
      ap (λ (ys : List ℕ). ys ++ number_bytes 4 (big_number 4 (drop 8 xs))) first ∙ ap (λ (ys : List ℕ). take 8 xs ++ ys) second ∙ take_add 8 4 xs,
      (big_from-lt 0 8 xs fits, big_from-lt 0 4 (drop 8 xs) (drop_fits 8 xs fits)),
    )

-- the bytes of the beginnings that were read, how many they are, and that each is one
pub beginnings_said : (n : ℕ) (xs : List ℕ) → IsBytes xs → 12 * n ≤ length xs
    → (flat_map beginning_bytes (beginnings_at n xs) ≡ take (12 * n) xs) × (length (beginnings_at n xs) ≡ n) × AllByRecursion IsBeginning (beginnings_at n xs)
unfolding beginnings_at
beginnings_said zero xs fits long = (refl, refl, tt)
beginnings_said (suc n) xs fits long =
    let rest = drop 12 xs in
    let left : 12 * n ≤ length rest = rw (length-drop 12 xs) (omega arith) in
    let first = beginning_said xs fits (omega arith) in
    let others = beginnings_said n rest (drop_fits 12 xs fits) left in
    let size : 12 + 12 * n ≡ 12 * suc n = omega arith in (
      ap (λ (ys : List ℕ). ys ++ flat_map beginning_bytes (beginnings_at n rest)) first.0 ∙ ap (λ (ys : List ℕ). take 12 xs ++ ys) others.0 ∙ take_add 12 (12 * n) xs ∙ ap (λ (k : ℕ). take k xs) size,
      ap suc others.1,
      (first.1, others.2),
    )

-- bytes of that form are those of the greeting that is read there
pub greeting_of : (bytes : List ℕ) (n : ℕ) (g : Greeting) → IsBytes bytes → HasForm bytes n → g.run ≡ big_number 8 (drop 4 bytes) → g.mon.0 ≡ big_number 4 (drop 12 bytes) → g.beginnings.items ≡ beginnings_at n (drop 17 bytes) → GreetingIn bytes g
greeting_of bytes n g fits form run mon beginnings =
    let few = form.streams in
    let len = form.size in
    let l4 : length (drop 4 bytes) ≡ 109 = length-drop 4 bytes ∙ ap (λ (k : ℕ). k - 4) len in
    let l12 : length (drop 12 bytes) ≡ 101 = length-drop 12 bytes ∙ ap (λ (k : ℕ). k - 12) len in
    let l17 : length (drop 17 bytes) ≡ 96 = length-drop 17 bytes ∙ ap (λ (k : ℕ). k - 17) len in
    let said = beginnings_said n (drop 17 bytes) (drop_fits 17 bytes fits) (rw l17 (omega arith)) in
    let count : length g.beginnings.items ≡ n = ap length beginnings ∙ said.1 in
    let run_bytes : number_bytes 8 g.run ≡ take 8 (drop 4 bytes) = ap (number_bytes 8) run ∙ number_said 8 (drop 4 bytes) (drop_fits 4 bytes fits) (rw l4 (omega arith)) in
    let mon_bytes : number_bytes 4 g.mon.0 ≡ take 4 (drop 12 bytes) = ap (number_bytes 4) mon ∙ number_said 4 (drop 12 bytes) (drop_fits 12 bytes fits) (rw l12 (omega arith)) in
    let told : drop 16 bytes ≡ n ∷ drop 17 bytes = drop_more bytes 16 0 (rw len (omega arith)) ∙ ap (λ (m : ℕ). m ∷ drop 17 bytes) form.told in
    let padding : drop (12 * n) (drop 17 bytes) ≡ zeros (96 - 12 * n) = drop-drop (12 * n) 17 bytes ∙ form.padding in
    let streams : beginnings_bytes g.beginnings.items ≡ drop 17 bytes =
    ap (λ (k : ℕ). flat_map beginning_bytes g.beginnings.items ++ zeros (96 - 12 * k)) count
    ∙ ap (λ (ys : List ℕ). ys ++ zeros (96 - 12 * n)) (ap (flat_map beginning_bytes) beginnings ∙ said.0)
    ∙ ap (λ (ys : List ℕ). take (12 * n) (drop 17 bytes) ++ ys) (sym padding)
    ∙ take-append-drop (12 * n) (drop 17 bytes) in
    let behind_mon : length g.beginnings.items ∷ beginnings_bytes g.beginnings.items ≡ drop 16 bytes = ap (λ (k : ℕ). k ∷ beginnings_bytes g.beginnings.items) count ∙ ap (λ (ys : List ℕ). n ∷ ys) streams ∙ sym told in
    let behind_run : number_bytes 4 g.mon.0 ++ (length g.beginnings.items ∷ beginnings_bytes g.beginnings.items) ≡ drop 12 bytes =
    ap (λ (ys : List ℕ). ys ++ (length g.beginnings.items ∷ beginnings_bytes g.beginnings.items)) mon_bytes
    ∙ ap (λ (ys : List ℕ). take 4 (drop 12 bytes) ++ ys) (behind_mon ∙ sym (drop-drop 4 12 bytes))
    ∙ take-append-drop 4 (drop 12 bytes) in
    let behind_mark : number_bytes 8 g.run ++ (number_bytes 4 g.mon.0 ++ (length g.beginnings.items ∷ beginnings_bytes g.beginnings.items)) ≡ drop 4 bytes =
    ap (λ (ys : List ℕ). ys ++ (number_bytes 4 g.mon.0 ++ (length g.beginnings.items ∷ beginnings_bytes g.beginnings.items))) run_bytes
    ∙ ap (λ (ys : List ℕ). take 8 (drop 4 bytes) ++ ys) (behind_run ∙ sym (drop-drop 8 4 bytes))
    ∙ take-append-drop 8 (drop 4 bytes) in
    record {
      form = record {
        monitor = rw mon form.monitor;
        streams = rw count form.streams;
        run = rw run (big_from-lt 0 8 (drop 4 bytes) (drop_fits 4 bytes fits));
        each = rw beginnings said.2;
      };
      bytes_are = sym (ap (λ (ys : List ℕ). greeting_mark ++ ys) behind_mark ∙ ap (λ (ys : List ℕ). ys ++ drop 4 bytes) (sym form.mark) ∙ take-append-drop 4 bytes);
    }

-- ---- the loop that reads beginnings

-- one beginning more was read
pub one_more : (count i : ℕ) (list new : List Beginning) (rest after bytes : List ℕ) (first : Beginning) → i < count → first ≡ beginning_at rest → after ≡ drop 12 rest → new ≡ list ++ first ∷ []
    → list ++ beginnings_at (count - i) rest ≡ beginnings_at count bytes → 12 * (count - i) ≤ length rest
    → (new ++ beginnings_at (count - (i + 1)) after ≡ beginnings_at count bytes) × (12 * (count - (i + 1)) ≤ length after)
unfolding beginnings_at
one_more count i list new rest after bytes first below first_is after_is new_is whole long =
    let left : count - i ≡ suc (count - (i + 1)) = omega arith in
    let next : list ++ (beginning_at rest ∷ beginnings_at (count - (i + 1)) (drop 12 rest)) ≡ beginnings_at count bytes = ap (λ (k : ℕ). list ++ beginnings_at k rest) (sym left) ∙ whole in (
      ap (λ (xs : List Beginning). xs ++ beginnings_at (count - (i + 1)) after) new_is
          ∙ append_assoc list (first ∷ []) (beginnings_at (count - (i + 1)) after)
          ∙ ap (λ (b : Beginning). list ++ (b ∷ beginnings_at (count - (i + 1)) after)) first_is
          ∙ ap (λ (xs : List ℕ). list ++ (beginning_at rest ∷ beginnings_at (count - (i + 1)) xs)) after_is
          ∙ next,
      rw (after_is, length-drop 12 rest) (omega arith),
    )

-- none is left to read
pub all_read : (count i : ℕ) (list : List Beginning) (rest bytes : List ℕ) → count ≤ i → list ++ beginnings_at (count - i) rest ≡ beginnings_at count bytes → list ≡ beginnings_at count bytes
unfolding beginnings_at
all_read count i list rest bytes past whole =
    let none : count - i ≡ 0 = omega arith in
    sym (append-nil list) ∙ ap (λ (k : ℕ). list ++ beginnings_at k rest) (sym none) ∙ whole

-- ---- the test of the form

-- where there are no beginnings
pub padding_of : (n : ℕ) → take (96 - 12 * n) (drop (12 * n) (zeros 96)) ≡ zeros (96 - 12 * n)
padding_of n = take_rest (zeros 96) (12 * n) ∙ drop-replicate (12 * n) 96 0

-- what stands behind the beginnings
pub padding_is : (bytes : List ℕ) (n : ℕ) → take (length bytes - (17 + 12 * n)) (drop (17 + 12 * n) bytes) ≡ take (96 - 12 * n) (drop (12 * n) (zeros 96)) → drop (17 + 12 * n) bytes ≡ zeros (96 - 12 * n)
padding_is bytes n same = sym (take_rest bytes (17 + 12 * n)) ∙ same ∙ padding_of n

-- other bytes there are no padding
pub no_padding : (bytes : List ℕ) (n : ℕ) → HasForm bytes n → take (length bytes - (17 + 12 * slice_index bytes 16)) (drop (17 + 12 * slice_index bytes 16) bytes) ≡ take (96 - 12 * slice_index bytes 16) (drop (12 * slice_index bytes 16) (zeros 96))
no_padding bytes n form = subst (λ (k : ℕ). take (length bytes - (17 + 12 * k)) (drop (17 + 12 * k) bytes) ≡ take (96 - 12 * k) (drop (12 * k) (zeros 96))) (sym form.told) (take_rest bytes (17 + 12 * n) ∙ form.padding ∙ sym (padding_of n))

-- ---- laws

-- its numbers are read back from its bytes
run_back : (bytes : List ℕ) (g : Greeting) → GreetingIn bytes g → big_number 8 (drop 4 bytes) ≡ g.run
run_back bytes g is = ap (λ (xs : List ℕ). big_number 8 (drop 4 xs)) is.bytes_are ∙ reads_back 8 g.run _ is.form.run

mon_back : (bytes : List ℕ) (g : Greeting) → GreetingIn bytes g → big_number 4 (drop 12 bytes) ≡ g.mon.0
mon_back bytes g is =
    let rest = length g.beginnings.items ∷ beginnings_bytes g.beginnings.items in
    let d4 : drop 4 bytes ≡ number_bytes 8 g.run ++ (number_bytes 4 g.mon.0 ++ rest) = ap (drop 4) is.bytes_are in
    let d12 : drop 12 bytes ≡ number_bytes 4 g.mon.0 ++ rest = sym (drop-drop 8 4 bytes) ∙ ap (drop 8) d4 ∙ behind 8 g.run _ in
    ap (big_number 4) d12 ∙ reads_back 4 g.mon.0 rest (omega (arith, is.form.monitor))

streams_back : (bytes : List ℕ) (g : Greeting) → GreetingIn bytes g → beginnings_at (length g.beginnings.items) (drop 17 bytes) ≡ g.beginnings.items
streams_back bytes g is =
    let rest = length g.beginnings.items ∷ beginnings_bytes g.beginnings.items in
    let d4 : drop 4 bytes ≡ number_bytes 8 g.run ++ (number_bytes 4 g.mon.0 ++ rest) = ap (drop 4) is.bytes_are in
    let d12 : drop 12 bytes ≡ number_bytes 4 g.mon.0 ++ rest = sym (drop-drop 8 4 bytes) ∙ ap (drop 8) d4 ∙ behind 8 g.run _ in
    let d16 : drop 16 bytes ≡ rest = sym (drop-drop 4 12 bytes) ∙ ap (drop 4) d12 ∙ behind 4 g.mon.0 rest in
    let d17 : drop 17 bytes ≡ beginnings_bytes g.beginnings.items = sym (drop-drop 1 16 bytes) ∙ ap (drop 1) d16 in
    ap (beginnings_at (length g.beginnings.items)) d17 ∙ beginnings_back g.beginnings.items _ is.form.each

-- the same bytes are of one greeting
pub one_greeting : (bytes : List ℕ) (g h : Greeting) → GreetingIn bytes g → GreetingIn bytes h → SaysTheSame g h
one_greeting bytes g h left right =
    let mon : g.mon.0 ≡ h.mon.0 = sym (mon_back bytes g left) ∙ mon_back bytes h right in
    let count : length g.beginnings.items ≡ length h.beginnings.items = sym (form_of bytes g left).told ∙ (form_of bytes h right).told in
    record {
      run = sym (run_back bytes g left) ∙ run_back bytes h right;
      mon = ap (λ (n : ℕ). record { 0 = n }) mon;
      beginnings = sym (streams_back bytes g left) ∙ ap (λ (n : ℕ). beginnings_at n (drop 17 bytes)) count ∙ streams_back bytes h right;
    }
