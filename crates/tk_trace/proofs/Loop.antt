-- Reading so many, one after the other, as a loop does.
use Rattle.std.proofs.Common.{◌≡◌, ℕ, suc, ◌-◌, ◌+◌, ◌≤◌, ◌<◌, ℤ, length, drop, get_or, List, [], ◌∷◌, ◌++◌, Some, None, refl, sym, ap, ◌∙◌, arith}
use Rattle.std.proofs.lemmas.List.{append-nil, drop_all}
use Rattle.std.proofs.Math.Seq.{drop-cons}
use Rattle.tk_trail.specs.declared.entry.Entry.{Entry}
use Rattle.tk_frames.specs.Reading.{Found, items_at}
use Rattle.tk_frames.proofs.Loop.{with_front, regroup}
use Rattle.tk_trace.specs.declared.fault.ParseFault.{ParseFault}
use Rattle.tk_trace.specs.declared.fault.ParseFault.TheVariants as fault
use Rattle.tk_trace.specs.Reading.{Fails, times_at, trail_at, trails_at}

-- one more was read
pub goes_on : {X : Type 0} (read : List ℕ → Found X) (front : List X) (count i : ℕ) (bytes : List ℕ) (x : X) (after : List ℕ) (total : Found (List X)) → i < count → read bytes ≡ Some (x, after)
    → with_front front (times_at read (count - i) bytes) ≡ total → with_front (front ++ x ∷ []) (times_at read (count - (i + 1)) after) ≡ total
unfolding times_at
goes_on read front count i bytes x after total lt h so_far =
    let k : count - i ≡ suc (count - (i + 1)) = omega arith in
    let one : with_front front (times_at read (count - i) bytes) ≡ with_front (front ++ x ∷ []) (times_at read (count - (i + 1)) after) = rw (k, h) (regroup front x (times_at read (count - (i + 1)) after)) in
    sym one ∙ so_far

-- the next one was not read
pub ends : {X : Type 0} (e : ParseFault) (read : List ℕ → Found X) (front : List X) (count i : ℕ) (bytes : List ℕ) (total : Found (List X)) → i < count → Fails e (read bytes)
    → with_front front (times_at read (count - i) bytes) ≡ total → Fails e total
unfolding times_at
ends fault.NoMemory read front count i bytes total lt h so_far = tt
ends fault.NotATrace read front count i bytes total lt h so_far =
    let k : count - i ≡ suc (count - (i + 1)) = omega arith in
    let one : with_front front (times_at read (count - i) bytes) ≡ None = rw (k, h) refl in
    sym so_far ∙ one

-- all were read
pub is_done : {X : Type 0} (read : List ℕ → Found X) (front : List X) (count i : ℕ) (bytes : List ℕ) (total : Found (List X)) → count ≤ i → with_front front (times_at read (count - i) bytes) ≡ total → total ≡ Some (front, bytes)
unfolding times_at
is_done read front count i bytes total le so_far =
    let k : count - i ≡ 0 = omega arith in
    let one : with_front front (times_at read (count - i) bytes) ≡ Some (front, bytes) = rw k (ap (λ xs. Some (xs, bytes)) (append-nil front)) in
    sym so_far ∙ one

-- the next one of items in turn was not read
pub items_end : {X : Type 0} (e : ParseFault) (object_of : X → ℕ) (read : ℕ → List ℕ → Found X) (front : List X) (before count i : ℕ) (bytes : List ℕ) (total : Found (List X)) → i < count → Fails e (read before bytes)
    → with_front front (items_at object_of read before (count - i) bytes) ≡ total → Fails e total
unfolding items_at
items_end fault.NoMemory object_of read front before count i bytes total lt h so_far = tt
items_end fault.NotATrace object_of read front before count i bytes total lt h so_far =
    let k : count - i ≡ suc (count - (i + 1)) = omega arith in
    let one : with_front front (items_at object_of read before (count - i) bytes) ≡ None = rw (k, h) refl in
    sym so_far ∙ one

-- ---- a trail for each monitor

-- the parts of a monitor, and those behind it
parts_here : (logs : List (List (List (ℕ × ℤ)))) (i : ℕ) → i < length logs → drop i logs ≡ get_or logs i [] ∷ drop (i + 1) logs
parts_here logs i within =
    let next : suc i ≡ i + 1 = omega arith in
    drop-cons logs i [] within ∙ ap (λ (n : ℕ). get_or logs i [] ∷ drop n logs) next

pub trails_go_on : (logs : List (List (List (ℕ × ℤ)))) (front : List (List Entry)) (i : ℕ) (bytes : List ℕ) (x : List Entry) (after : List ℕ) (total : Found (List (List Entry))) → i < length logs
    → trail_at (length (get_or logs i [])) bytes ≡ Some (x, after) → with_front front (trails_at (drop i logs) bytes) ≡ total → with_front (front ++ x ∷ []) (trails_at (drop (i + 1) logs) after) ≡ total
unfolding trails_at
trails_go_on logs front i bytes x after total lt h so_far =
    let one : with_front front (trails_at (drop i logs) bytes) ≡ with_front (front ++ x ∷ []) (trails_at (drop (i + 1) logs) after) = rw (parts_here logs i lt, h) (regroup front x (trails_at (drop (i + 1) logs) after)) in
    sym one ∙ so_far

pub trails_end : (e : ParseFault) (logs : List (List (List (ℕ × ℤ)))) (front : List (List Entry)) (i : ℕ) (bytes : List ℕ) (total : Found (List (List Entry))) → i < length logs
    → Fails e (trail_at (length (get_or logs i [])) bytes) → with_front front (trails_at (drop i logs) bytes) ≡ total → Fails e total
unfolding trails_at
trails_end fault.NoMemory logs front i bytes total lt h so_far = tt
trails_end fault.NotATrace logs front i bytes total lt h so_far =
    let one : with_front front (trails_at (drop i logs) bytes) ≡ None = rw (parts_here logs i lt, h) refl in
    sym so_far ∙ one

pub trails_done : (logs : List (List (List (ℕ × ℤ)))) (front : List (List Entry)) (i : ℕ) (bytes : List ℕ) (total : Found (List (List Entry))) → length logs ≤ i
    → with_front front (trails_at (drop i logs) bytes) ≡ total → total ≡ Some (front, bytes)
unfolding trails_at
trails_done logs front i bytes total le so_far =
    let one : with_front front (trails_at (drop i logs) bytes) ≡ Some (front, bytes) = rw (drop_all i logs le) (ap (λ xs. Some (xs, bytes)) (append-nil front)) in
    sym so_far ∙ one
