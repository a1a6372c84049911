-- Reading items one after the other, as a loop does.
use Rattle.std.proofs.Common.{◌≡◌, ℕ, suc, ◌-◌, ◌+◌, ◌≤◌, ◌<◌, List, [], ◌∷◌, ◌++◌, Some, None, refl, sym, ap, ◌∙◌, append_assoc, arith}
use Rattle.std.proofs.lemmas.List.{append-nil}
use Rattle.tk_frames.specs.declared.reading.Unread.{Unread}
use Rattle.tk_frames.specs.declared.reading.Unread.TheVariants as unread
use Rattle.tk_frames.specs.Reading.{Found, ◌>>=◌, Fails, items_at}

-- what was read before, and what is still read
abbrev pub with_front : {X : Type 0} → List X → Found (List X) → Found (List X)
with_front front read = read >>= λ x. Some (front ++ x.0, x.1)

-- one that was read stands behind those before it
pub regroup : {X : Type 0} (front : List X) (x : X) (read : Found (List X)) → with_front front (read >>= λ xs. Some (x ∷ xs.0, xs.1)) ≡ with_front (front ++ x ∷ []) read
regroup front x (Some found) = ap (λ xs. Some (xs, found.1)) (simp append_assoc)
regroup front x None = refl

pub goes_on : {X : Type 0} (object_of : X → ℕ) (read : ℕ → List ℕ → Found X) (front : List X) (before count i : ℕ) (bytes : List ℕ) (x : X) (after : List ℕ) (total : Found (List X)) → i < count → read before bytes ≡ Some (x, after)
    → with_front front (items_at object_of read before (count - i) bytes) ≡ total → with_front (front ++ x ∷ []) (items_at object_of read (object_of x) (count - (i + 1)) after) ≡ total
unfolding items_at
goes_on object_of read front before count i bytes x after total lt h so_far =
    let k : count - i ≡ suc (count - (i + 1)) = omega arith in
    let one : with_front front (items_at object_of read before (count - i) bytes) ≡ with_front (front ++ x ∷ []) (items_at object_of read (object_of x) (count - (i + 1)) after) = rw (k, h) (regroup front x (items_at object_of read (object_of x) (count - (i + 1)) after)) in
    sym one ∙ so_far

pub ends : {X : Type 0} (e : Unread) (object_of : X → ℕ) (read : ℕ → List ℕ → Found X) (front : List X) (before count i : ℕ) (bytes : List ℕ) (total : Found (List X)) → i < count → Fails e (read before bytes)
    → with_front front (items_at object_of read before (count - i) bytes) ≡ total → Fails e total
unfolding items_at
ends unread.Memory object_of read front before count i bytes total lt h so_far = tt
ends unread.Malformed object_of read front before count i bytes total lt h so_far =
    let k : count - i ≡ suc (count - (i + 1)) = omega arith in
    let one : with_front front (items_at object_of read before (count - i) bytes) ≡ None = rw (k, h) refl in
    sym so_far ∙ one

pub is_done : {X : Type 0} (object_of : X → ℕ) (read : ℕ → List ℕ → Found X) (front : List X) (before count i : ℕ) (bytes : List ℕ) (total : Found (List X)) → count ≤ i → with_front front (items_at object_of read before (count - i) bytes) ≡ total → total ≡ Some (front, bytes)
unfolding items_at
is_done object_of read front before count i bytes total le so_far =
    let k : count - i ≡ 0 = omega arith in
    let one : with_front front (items_at object_of read before (count - i) bytes) ≡ Some (front, bytes) = rw k (ap (λ xs. Some (xs, bytes)) (append-nil front)) in
    sym so_far ∙ one
