-- Items that are each above the one before ascend.
use Rattle.std.proofs.Common.{◌≡◌, ℕ, ℤ, zero, suc, ◌+◌, ◌<◌, List, [], ◌∷◌, length, map, get_or, Some, None, cond, sym, ap, subst, arith, nat_lt, eqb}
use Rattle.std.proofs.lemmas.Bool.{leb-false}
use Rattle.tk_base.specs.Pairs.{objects_of}
use Rattle.std.specs.Prelude.{nat_le}
use Rattle.std.proofs.lemmas.List.{map-id}
use Rattle.tk_base.specs.Ascending.{IsAscending}
use Rattle.tk_frames.specs.Spelling.{EachInTurn, object_itself, pair_object}
use Rattle.tk_frames.specs.Reading.{Found, ◌>>=◌, items_at, number_at, signed_at, object_at, object_if, pair_at}
use Rattle.tk_frames.proofs.Steps.{bind_some, passed, some_is}

pub ascend_from : {X : Type 0} (object_of : X → ℕ) (before : ℕ) (xs : List X) → EachInTurn object_of (λ b x. b < object_of x) before xs → (k : ℕ) → k < length (map object_of xs) → get_or (before ∷ map object_of xs) k 0 < get_or (map object_of xs) k 0
ascend_from object_of before [] up k within = absurd (omega arith)
ascend_from object_of before (x ∷ xs) up zero within = up.0
ascend_from object_of before (x ∷ xs) up (suc k) within = ascend_from object_of (object_of x) xs up.1 k (omega arith)

-- and what ascends is above the one before in turn
pub in_turn_from : {X : Type 0} (object_of : X → ℕ) (before : ℕ) (xs : List X) → ((k : ℕ) → k < length (map object_of xs) → get_or (before ∷ map object_of xs) k 0 < get_or (map object_of xs) k 0) → EachInTurn object_of (λ b x. b < object_of x) before xs
in_turn_from object_of before [] up = tt
in_turn_from object_of before (x ∷ xs) up = (up 0 (omega arith), in_turn_from object_of (object_of x) xs (λ k within. up (suc k) (omega arith)))

-- items that a reader gives are in turn what each one read is
pub read_in_turn : {X : Type 0} (object_of : X → ℕ) (read : ℕ → List ℕ → Found X) → ((b : ℕ) (bytes : List ℕ) (x : X) (rest : List ℕ) → read b bytes ≡ Some (x, rest) → b < object_of x)
    → (before count : ℕ) (bytes : List ℕ) (found : List X × List ℕ) → items_at object_of read before count bytes ≡ Some found → EachInTurn object_of (λ b x. b < object_of x) before found.0
unfolding items_at
read_in_turn object_of read above before zero bytes found e = subst (λ found. EachInTurn object_of (λ b x. b < object_of x) before found.0) (some_is ([], bytes) found e) tt
read_in_turn object_of read above before (suc count) bytes found e =
    let a = bind_some (read before bytes) (λ first. items_at object_of read (object_of first.0) count first.1 >>= λ others. Some (first.0 ∷ others.0, others.1)) found e in
    let b = bind_some (items_at object_of read (object_of a.0.0) count a.0.1) (λ others. Some (a.0.0 ∷ others.0, others.1)) found a.2 in
    subst (λ found. EachInTurn object_of (λ b x. b < object_of x) before found.0) (some_is (a.0.0 ∷ b.0.0, b.0.1) found b.2)
    (above before bytes a.0.0 a.0.1 a.1, read_in_turn object_of read above (object_of a.0.0) count a.0.1 b.0 b.1)

-- an object that was read is above the one before
pub object_above : (version before : ℕ) (bytes : List ℕ) (o : ℕ) (rest : List ℕ) → object_at version before bytes ≡ Some (o, rest) → before < o
unfolding object_at
object_above version before bytes o rest e =
    let a = bind_some (number_at version 4 bytes) (λ n. object_if before (cond (eqb version 1) n.0 (before + n.0)) n.1) (o, rest) e in
    let told = cond (eqb version 1) a.0.0 (before + a.0.0) in
    let b = passed (nat_le told before) (cond (nat_lt 4294967295 told) None (Some (told, a.0.1))) (o, rest) a.2 in
    let d = passed (nat_lt 4294967295 told) (Some (told, a.0.1)) (o, rest) b.1 in
    let is : told ≡ o = ap (λ p. p.0) (some_is (told, a.0.1) (o, rest) d.1) in
    subst (λ (x : ℕ). before < x) is (leb-false told before b.0)

-- and so is the object of a pair
pub pair_above : (version before : ℕ) (bytes : List ℕ) (p : ℕ × ℤ) (rest : List ℕ) → pair_at version before bytes ≡ Some (p, rest) → before < p.0
unfolding pair_at
pair_above version before bytes p rest e =
    let a = bind_some (object_at version before bytes) (λ o. signed_at version o.1 >>= λ z. Some ((o.0, z.0), z.1)) (p, rest) e in
    let b = bind_some (signed_at version a.0.1) (λ z. Some ((a.0.0, z.0), z.1)) (p, rest) a.2 in
    let is : a.0.0 ≡ p.0 = ap (λ q. q.0.0) (some_is ((a.0.0, b.0.0), b.0.1) (p, rest) b.2) in
    subst (λ (x : ℕ). before < x) is (object_above version before bytes a.0.0 a.0.1 a.1)

-- objects that were read ascend
pub objects_ascend : (version count : ℕ) (bytes : List ℕ) (xs rest : List ℕ) → items_at object_itself (object_at version) 0 count bytes ≡ Some (xs, rest) → IsAscending xs
objects_ascend version count bytes xs rest e =
    subst IsAscending (map-id xs) (ascend_from object_itself 0 xs (read_in_turn object_itself (object_at version) (object_above version) 0 count bytes (xs, rest) e))

-- and so do the objects of pairs
pub pairs_ascend : (version count : ℕ) (bytes : List ℕ) (ps : List (ℕ × ℤ)) (rest : List ℕ) → items_at pair_object (pair_at version) 0 count bytes ≡ Some (ps, rest) → IsAscending (objects_of ps)
pairs_ascend version count bytes ps rest e =
    ascend_from pair_object 0 ps (read_in_turn pair_object (pair_at version) (pair_above version) 0 count bytes (ps, rest) e)

-- objects that ascend are each above the one before
pub objects_in_turn : (xs : List ℕ) → IsAscending xs → EachInTurn object_itself (λ b x. b < x) 0 xs
objects_in_turn xs up = in_turn_from object_itself 0 xs (subst (λ ys. (k : ℕ) → k < length ys → get_or (0 ∷ ys) k 0 < get_or ys k 0) (sym (map-id xs)) up)

-- and so are those of pairs
pub pairs_in_turn : (ps : List (ℕ × ℤ)) → IsAscending (objects_of ps) → EachInTurn pair_object (λ b p. b < p.0) 0 ps
pairs_in_turn ps up = in_turn_from pair_object 0 ps up
