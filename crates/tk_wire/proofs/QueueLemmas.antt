-- Queues of bytes: what is behind a front, and bytes that leave in two steps.
use Rattle.std.proofs.Common.{◌≡◌, ◌<◌, ◌≤◌, ◌-◌, min, length, ℕ, ◌+◌, ◌++◌, List, take, drop, ap, sym, ◌∙◌, append_assoc, arith}
use Rattle.std.proofs.lemmas.List.{append_cancel_left, drop-drop, drop-take, take-take, take-append-drop, length-drop, length-append, length-take-le}
use Rattle.tk_wire.specs.Pipe.{Queue, free, without, with_more}

-- what stands behind a front, after more was appended to the whole
appended_behind : {X : Type 0} (front old more new whole : List X) → front ++ old ≡ whole → front ++ new ≡ whole ++ more → new ≡ old ++ more
appended_behind front old more new whole was is = append_cancel_left front new (old ++ more) (is ∙ ap (λ w. w ++ more) (sym was) ∙ append_assoc front old more)

-- what a reader sees behind what it has popped, once more was pushed
pub seen_after_push : {X : Type 0} (r0 r1 r2 k0 k2 s0 s1 s2 s3 bytes : List X) → r1 ≡ r0 → r2 ≡ r1 → r0 ++ k0 ≡ s0 → s1 ≡ s0 → s2 ≡ s1 ++ bytes → s3 ≡ s2 → r2 ++ k2 ≡ s3 → k2 ≡ k0 ++ bytes
seen_after_push r0 r1 r2 k0 k2 s0 s1 s2 s3 bytes a b seen c d e fifo =
    let whole : r0 ++ k2 ≡ s0 ++ bytes = cc in
    appended_behind r0 k0 bytes k2 s0 seen whole

-- the first n and the m behind them
pub take_add : {X : Type 0} (n m : ℕ) (xs : List X) → take n xs ++ take m (drop n xs) ≡ take (n + m) xs
take_add n m xs =
    ap (λ ys. take n xs ++ ys) (sym (drop-take n m xs)) ∙ ap (λ ys. ys ++ drop n (take (n + m) xs)) (sym (take-take n (n + m) xs (omega arith))) ∙ take-append-drop n (take (n + m) xs)

-- bytes that leave in two steps
pub without_without : (n m : ℕ) (q : Queue) → without m (without n q) ≡ without (n + m) q
without_without n m q = rw (append_assoc q.past (take n q.bytes) (take m (drop n q.bytes)), take_add n m q.bytes, drop-drop m n q.bytes)

pub with_more_with_more : (n m : ℕ) (bytes : List ℕ) (q : Queue) → with_more (take m (drop n bytes)) (with_more (take n bytes) q) ≡ with_more (take (n + m) bytes) q
with_more_with_more n m bytes q = rw (append_assoc q.bytes (take n bytes) (take m (drop n bytes)), take_add n m bytes)

-- one chunk more has gone from queue to queue
pub moved_on : (moved size count got put : ℕ) (chunk : List ℕ) (from0 from from1 to0 to to1 : Queue)
    → moved < count → size ≡ min 512 (count - moved) → count ≤ length from0.bytes → count ≤ free to0
    → from ≡ without moved from0 → to ≡ with_more (take moved from0.bytes) to0
    → got ≡ min size (length from.bytes) → take got chunk ≡ take got from.bytes → from1 ≡ without got from
    → length chunk ≡ size → put ≡ min (length chunk) (free to) → to1 ≡ with_more (take put chunk) to
    → (moved + size ≤ count) × (from1 ≡ without (moved + size) from0) × (to1 ≡ with_more (take (moved + size) from0.bytes) to0)
moved_on moved size count got put chunk from0 from from1 to0 to to1 on size_is there fits from_is to_is got_is bytes from1_is chunk_is put_is to1_is =
    let left : length from.bytes ≡ length from0.bytes - moved = ap (λ q. length q.bytes) from_is ∙ length-drop moved from0.bytes in
    let put_len : length to.bytes ≡ length to0.bytes + moved = ap (λ q. length q.bytes) to_is ∙ length-append to0.bytes (take moved from0.bytes) ∙ ap (λ n. length to0.bytes + n) (length-take-le moved from0.bytes (omega arith)) in
    let room : to.room ≡ to0.room = ap (λ q. q.room) to_is in
    let got_all : got ≡ size = omega arith in
    let put_all : put ≡ size = omega arith in
    let first : from1 ≡ without (moved + size) from0 = from1_is ∙ ap (λ n. without n from) got_all ∙ ap (without size) from_is ∙ without_without moved size from0 in
    let same : take put chunk ≡ take size (drop moved from0.bytes) = ap (λ n. take n chunk) (put_all ∙ sym got_all) ∙ bytes ∙ ap (λ n. take n from.bytes) got_all ∙ ap (λ q. take size q.bytes) from_is in
    (omega arith, first, to1_is ∙ ap (λ xs. with_more xs to) same ∙ ap (with_more (take size (drop moved from0.bytes))) to_is ∙ with_more_with_more moved size from0.bytes to0)
