-- How many bytes each field takes.
use Rattle.std.proofs.Common.{◌≡◌, ℕ, ℤ, suc, ◌+◌, ◌*◌, ◌^◌, ◌<◌, ◌≤◌, Bool, true, false, cond, eqb, List, [], ◌∷◌, ◌++◌, length, refl, arith, length-append}
use Rattle.std.specs.Prelude.{FitsSigned}
use Rattle.std.specs.Int.{w128}
use Rattle.byteorder.specs.Endian.{big_bytes}
use Rattle.byteorder.specs.Numbers.{length-bytes_high_first}
use Rattle.tk_frames.specs.declared.frame.Frame.{Frame}
use Rattle.tk_frames.specs.declared.frame.Frame.TheVariants as f
use Rattle.tk_frames.specs.Spelling.{groups, number, signed, unsigned_form, object, pair, place, in_turn, EachInTurn, counted, set, pairs, places, flag, fields, payload, spelling, Above, PairAbove, IsPlace, IsFrame, object_itself, pair_object, no_object}
use Rattle.tk_frames.specs.Encoding.{AreWithin, IsBadHello}
use Rattle.tk_frames.specs.Size.{size_of, IsShort}
use Rattle.tk_frames.proofs.GroupLemmas.{some_group, length-groups}
use Rattle.tk_frames.proofs.FieldLemmas.{object_small, unsigned_small}
use Rattle.tk_frames.proofs.FrameLemmas.{hello_decided}

-- ---- a number takes a byte, and only so many

either_some : (b : Bool) (x y : List ℕ) → 0 < length x → 0 < length y → 0 < length (cond b x y)
either_some true x y left right = left
either_some false x y left right = right

either_most : (b : Bool) (x y : List ℕ) (n : ℕ) → length x ≤ n → length y ≤ n → length (cond b x y) ≤ n
either_most true x y n left right = left
either_most false x y n left right = right

pub number_some : (version size n : ℕ) → 0 < size → 0 < length (number version size n)
unfolding number
number_some version size n some = either_some (eqb version 1) (big_bytes size n) (groups n) (omega (arith, length-bytes_high_first size n)) (some_group n)

pub number_most : (version size more n : ℕ) → n < 128 ^ suc more → size ≤ suc more → length (number version size n) ≤ suc more
unfolding number
number_most version size more n small few = either_most (eqb version 1) (big_bytes size n) (groups n) (suc more) (omega (arith, length-bytes_high_first size n)) (length-groups more n small)

most_u32 : (version n : ℕ) → n < 2 ^ 32 → length (number version 4 n) ≤ 5
most_u32 version n small = number_most version 4 4 n (omega arith) (omega arith)

most_u64 : (version n : ℕ) → n < 2 ^ 64 → length (number version 8 n) ≤ 10
most_u64 version n small = number_most version 8 9 n (omega arith) (omega arith)

most_signed : (version : ℕ) (z : ℤ) → FitsSigned w128 z → length (signed version z) ≤ 19
unfolding signed
most_signed version z fits =
    let small : unsigned_form version z < 256 ^ 16 = unsigned_small version z fits in
    number_most version 16 18 (unsigned_form version z) (omega arith) (omega arith)

most_object : (version before o : ℕ) → Above before o → length (object version before o) ≤ 5
unfolding object
most_object version before o above = most_u32 version _ (object_small (eqb version 1) before o above.1)

most_pair : (version before : ℕ) (p : ℕ × ℤ) → PairAbove before p → length (pair version before p) ≤ 24
most_pair version before p above = omega (arith, length-append (object version before p.0) (signed version p.1), most_object version before p.0 above.0, most_signed version p.1 above.1)

exact_number : (size n : ℕ) → length (number 1 size n) ≡ size
unfolding number
exact_number size n = length-bytes_high_first size n

exact_signed : (z : ℤ) → length (signed 1 z) ≡ 16
unfolding signed
exact_signed z = exact_number 16 (unsigned_form 1 z)

-- ---- items in turn

in_turn_some : {X : Type 0} (object_of : X → ℕ) (spell : ℕ → X → List ℕ) → ((b : ℕ) (x : X) → 0 < length (spell b x)) → (before : ℕ) (xs : List X) → length xs ≤ length (in_turn object_of spell before xs)
unfolding in_turn
in_turn_some object_of spell some before [] = omega arith
in_turn_some object_of spell some before (x ∷ xs) = omega (arith, length-append (spell before x) (in_turn object_of spell (object_of x) xs), some before x, in_turn_some object_of spell some (object_of x) xs)

in_turn_most : {X : Type 0} (object_of : X → ℕ) (Fact : ℕ → X → Type 0) (spell : ℕ → X → List ℕ) (n : ℕ) → ((b : ℕ) (x : X) → Fact b x → length (spell b x) ≤ n) → (before : ℕ) (xs : List X) → EachInTurn object_of Fact before xs → length (in_turn object_of spell before xs) ≤ length xs * n
unfolding in_turn
in_turn_most object_of Fact spell n most before [] facts = omega arith
in_turn_most object_of Fact spell n most before (x ∷ xs) facts = omega (arith, length-append (spell before x) (in_turn object_of spell (object_of x) xs), most before x facts.0, in_turn_most object_of Fact spell n most (object_of x) xs facts.1)

in_turn_exact : {X : Type 0} (object_of : X → ℕ) (spell : ℕ → X → List ℕ) (n : ℕ) → ((b : ℕ) (x : X) → length (spell b x) ≡ n) → (before : ℕ) (xs : List X) → length (in_turn object_of spell before xs) ≡ length xs * n
unfolding in_turn
in_turn_exact object_of spell n exact before [] = omega arith
in_turn_exact object_of spell n exact before (x ∷ xs) = omega (arith, length-append (spell before x) (in_turn object_of spell (object_of x) xs), exact before x, in_turn_exact object_of spell n exact (object_of x) xs)

-- ---- lists

counted_some : {X : Type 0} (version : ℕ) (object_of : X → ℕ) (spell : ℕ → X → List ℕ) → ((b : ℕ) (x : X) → 0 < length (spell b x)) → (xs : List X) → length xs ≤ length (counted version object_of spell xs)
unfolding counted
counted_some version object_of spell some xs = omega (arith, length-append (number version 4 (length xs)) (in_turn object_of spell 0 xs), in_turn_some object_of spell some 0 xs)

counted_most : {X : Type 0} (version : ℕ) (object_of : X → ℕ) (Fact : ℕ → X → Type 0) (spell : ℕ → X → List ℕ) (n : ℕ) → ((b : ℕ) (x : X) → Fact b x → length (spell b x) ≤ n) → (xs : List X) → length xs ≤ 65536 → EachInTurn object_of Fact 0 xs → length (counted version object_of spell xs) ≤ 5 + length xs * n
unfolding counted
counted_most version object_of Fact spell n most xs few facts = omega (arith, length-append (number version 4 (length xs)) (in_turn object_of spell 0 xs), most_u32 version (length xs) (omega arith), in_turn_most object_of Fact spell n most 0 xs facts)

counted_exact : {X : Type 0} (object_of : X → ℕ) (spell : ℕ → X → List ℕ) (n : ℕ) → ((b : ℕ) (x : X) → length (spell b x) ≡ n) → (xs : List X) → length (counted 1 object_of spell xs) ≡ 4 + length xs * n
unfolding counted
counted_exact object_of spell n exact xs = omega (arith, length-append (number 1 4 (length xs)) (in_turn object_of spell 0 xs), exact_number 4 (length xs), in_turn_exact object_of spell n exact 0 xs)

object_some : (version before o : ℕ) → 0 < length (object version before o)
unfolding object
object_some version before o = number_some version 4 _ (omega arith)

pair_some : (version before : ℕ) (p : ℕ × ℤ) → 0 < length (pair version before p)
pair_some version before p = omega (arith, length-append (object version before p.0) (signed version p.1), object_some version before p.0)

set_some : (version : ℕ) (xs : List ℕ) → length xs ≤ length (set version xs)
set_some version xs = counted_some version object_itself (object version) (object_some version) xs

pairs_some : (version : ℕ) (ps : List (ℕ × ℤ)) → length ps ≤ length (pairs version ps)
pairs_some version ps = counted_some version pair_object (pair version) (pair_some version) ps

places_some : (version : ℕ) (ps : List ℕ) → length ps ≤ length (places version ps)
places_some version ps = counted_some version no_object (place version) (λ b p. number_some version 4 p (omega arith)) ps

set_most : (version : ℕ) (xs : List ℕ) → length xs ≤ 65536 → EachInTurn object_itself Above 0 xs → length (set version xs) ≤ 5 + length xs * 5
set_most version xs few facts = counted_most version object_itself Above (object version) 5 (most_object version) xs few facts

pairs_most : (version : ℕ) (ps : List (ℕ × ℤ)) → length ps ≤ 65536 → EachInTurn pair_object PairAbove 0 ps → length (pairs version ps) ≤ 5 + length ps * 24
pairs_most version ps few facts = counted_most version pair_object PairAbove (pair version) 24 (most_pair version) ps few facts

places_most : (version : ℕ) (ps : List ℕ) → length ps ≤ 65536 → EachInTurn no_object IsPlace 0 ps → length (places version ps) ≤ 5 + length ps * 5
places_most version ps few facts = counted_most version no_object IsPlace (place version) 5 (λ b p small. most_u32 version p small) ps few facts

object_exact : (before o : ℕ) → length (object 1 before o) ≡ 4
unfolding object
object_exact before o = exact_number 4 o

pair_exact : (before : ℕ) (p : ℕ × ℤ) → length (pair 1 before p) ≡ 20
pair_exact before p = omega (arith, length-append (object 1 before p.0) (signed 1 p.1), object_exact before p.0, exact_signed p.1)

set_exact : (xs : List ℕ) → length (set 1 xs) ≡ 4 + length xs * 4
set_exact xs = counted_exact object_itself (object 1) 4 object_exact xs

pairs_exact : (ps : List (ℕ × ℤ)) → length (pairs 1 ps) ≡ 4 + length ps * 20
pairs_exact ps = counted_exact pair_object (pair 1) 20 pair_exact ps

places_exact : (ps : List ℕ) → length (places 1 ps) ≡ 4 + length ps * 4
places_exact ps = counted_exact no_object (place 1) 4 (λ b p. exact_number 4 p) ps

-- ---- frames

length-flag : (last : Bool) → length (flag last) ≡ 1
length-flag false = refl
length-flag true = refl

-- the lengths of fields that stand one after the other
two : (a b : List ℕ) → length (a ++ b) ≡ length a + length b
two a b = length-append a b

three : (a b c : List ℕ) → length (a ++ b ++ c) ≡ length a + length b + length c
three a b c = omega (arith, length-append (a ++ b) c, length-append a b)

four : (a b c d : List ℕ) → length (a ++ b ++ c ++ d) ≡ length a + length b + length c + length d
four a b c d = omega (arith, length-append (a ++ b ++ c) d, three a b c)

length-fields : (frame : Frame) → length (fields 1 frame) + 5 ≡ size_of frame
length-fields (f.Hello run speaks mon) = omega (arith, three (number 1 8 run) (number 1 1 speaks) (number 1 4 mon.0), exact_number 8 run, exact_number 1 speaks, exact_number 4 mon.0)
length-fields (f.Report seq border failed values) = omega (arith, four (number 1 8 seq) (signed 1 border) (set 1 failed) (pairs 1 values), exact_number 8 seq, exact_signed border, set_exact failed, pairs_exact values)
length-fields (f.Collect round objects) = omega (arith, two (number 1 8 round) (set 1 objects), exact_number 8 round, set_exact objects)
length-fields (f.Values round seq border values) = omega (arith, four (number 1 8 round) (number 1 8 seq) (signed 1 border) (pairs 1 values), exact_number 8 round, exact_number 8 seq, exact_signed border, pairs_exact values)
length-fields (f.Assign seq members changes) = omega (arith, three (number 1 8 seq) (set 1 members) (pairs 1 changes), exact_number 8 seq, set_exact members, pairs_exact changes)
length-fields (f.Settled seq last reached) = omega (arith, three (number 1 8 seq) (flag last) (places 1 reached), exact_number 8 seq, length-flag last, places_exact reached)
length-fields f.Stop = omega arith

-- the length of a spelling in version 1
pub length-spelling : (frame : Frame) → length (spelling 1 frame) ≡ size_of frame
length-spelling frame = omega (arith, length-append (big_bytes 4 (length (payload 1 frame))) (payload 1 frame), length-bytes_high_first 4 (length (payload 1 frame)), length-fields frame)

-- a frame without long lists fits
pub short_fits : (version : ℕ) (frame : Frame) → AreWithin frame → IsShort frame → length (payload version frame) ≤ 2097152
short_fits version (f.Hello run speaks mon) small few = omega (arith, three (number 1 8 run) (number 1 1 speaks) (number 1 4 mon.0), exact_number 8 run, exact_number 1 speaks, exact_number 4 mon.0)
short_fits version (f.Report seq border failed values) (a, b, c, d) (few, low) = omega (arith, four (number version 8 seq) (signed version border) (set version failed) (pairs version values), most_u64 version seq a, most_signed version border b, set_most version failed few c, pairs_most version values low d)
short_fits version (f.Collect round objects) (a, b) few = omega (arith, two (number version 8 round) (set version objects), most_u64 version round a, set_most version objects few b)
short_fits version (f.Values round seq border values) (a, b, c, d) few = omega (arith, four (number version 8 round) (number version 8 seq) (signed version border) (pairs version values), most_u64 version round a, most_u64 version seq b, most_signed version border c, pairs_most version values few d)
short_fits version (f.Assign seq members changes) (a, b, c) (few, low) = omega (arith, three (number version 8 seq) (set version members) (pairs version changes), most_u64 version seq a, set_most version members few b, pairs_most version changes low c)
short_fits version (f.Settled seq last reached) (a, b) few = omega (arith, three (number version 8 seq) (flag last) (places version reached), most_u64 version seq a, length-flag last, places_most version reached few b)
short_fits version f.Stop small few = omega arith

-- a frame is within its types
pub frame_within : (frame : Frame) → IsFrame frame → AreWithin frame
frame_within (f.Hello run speaks mon) is = is.0
frame_within (f.Report seq border failed values) (a, b, c, d) = (a, b, c.1, d.1)
frame_within (f.Collect round objects) (a, b) = (a, b.1)
frame_within (f.Values round seq border values) (a, b, c, d) = (a, b, c, d.1)
frame_within (f.Assign seq members changes) (a, b, c) = (a, b.1, c.1)
frame_within (f.Settled seq last reached) (a, b) = (a, b.1)
frame_within f.Stop is = tt

-- and what is within its types is a frame, where its payload fits and it is no bad Hello
pub within_frame : (version : ℕ) (frame : Frame) → AreWithin frame → (IsBadHello frame → ⊥) → length (payload version frame) ≤ 2097152 → IsFrame frame
within_frame version (f.Hello run speaks mon) small good fits = (small, hello_decided speaks mon.0 good)
within_frame version (f.Report seq border failed values) (a, b, c, d) good fits =
    let size = four (number version 8 seq) (signed version border) (set version failed) (pairs version values) in
    (a, b, (omega (arith, size, fits, set_some version failed), c), (omega (arith, size, fits, pairs_some version values), d))
within_frame version (f.Collect round objects) (a, b) good fits = (a, (omega (arith, two (number version 8 round) (set version objects), fits, set_some version objects), b))
within_frame version (f.Values round seq border values) (a, b, c, d) good fits =
    (a, b, c, (omega (arith, four (number version 8 round) (number version 8 seq) (signed version border) (pairs version values), fits, pairs_some version values), d))
within_frame version (f.Assign seq members changes) (a, b, c) good fits =
    let size = three (number version 8 seq) (set version members) (pairs version changes) in
    (a, (omega (arith, size, fits, set_some version members), b), (omega (arith, size, fits, pairs_some version changes), c))
within_frame version (f.Settled seq last reached) (a, b) good fits = (a, (omega (arith, three (number version 8 seq) (flag last) (places version reached), fits, places_some version reached), b))
within_frame version f.Stop small good fits = tt
