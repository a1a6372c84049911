-- What holds of the fields stays so.
use Rattle.std.proofs.Common.{◌≡◌, ℕ, ◌+◌, ◌-◌, ◌^◌, ◌<◌, ◌≤◌, ℤ, pos, List, [], ◌∷◌, ◌++◌, length, set, drop, sym, ap, ◌∙◌, subst, arith}
use Rattle.std.specs.Prelude.{unsigned_abs, replicate, flat_map, All}
use Rattle.std.proofs.lemmas.Int.{ints}
use Rattle.std.proofs.lemmas.List.{drop-drop, length-drop, length-replicate, length-set}
use Rattle.std.proofs.lemmas.List.Elements.{All-append, All-drop, All-head, All-nil, All-push, All-replicate, All-set, All-tail, All-take}
use Rattle.tk_input.specs.Logs.{IsObject}
use Rattle.tk_window.specs.Ticks.{AreOver}
use Rattle.tk_recent.specs.Fields.{AreKept}
use Rattle.tk_recent.specs.Kept.{Kept, leaving, opposite, staying, taken}
use Rattle.tk_recent.proofs.SumsLemmas.{opposite_over}

-- where a sum is another that fits
pub kept_noted : (width : ℕ) (ended : List (List (ℕ × ℤ))) (sums : List ℤ) (leaves : List (ℕ × ℤ)) (told place : ℕ) (sum : ℤ) → AreKept width ended sums leaves told → unsigned_abs sum < 2 ^ 127 → AreKept width ended (set sums place sum) leaves told
kept_noted width ended sums leaves told place sum old fits =
    let size : length sums ≡ length (set sums place sum) = sym (length-set sums place sum) in
    record {
      few = old.few;
      over = subst (λ n. All (AreOver n) ended) size old.over;
      objects = subst (λ n. n ≤ 65536) size old.objects;
      sizes = All-set (λ (v : ℤ). unsigned_abs v < 2 ^ 127) sums place sum fits old.sizes;
      leaving = subst (λ n. AreOver n leaves) size old.leaving;
      within = old.within;
    }

all_flat : {X : Type 0} (P : X → Type 0) (xs : List (List X)) → All (λ x. All P x) xs → All P (flat_map (λ (x : List X). x) xs)
all_flat P [] all = All-nil P
all_flat P (x ∷ xs) all = All-append P x (flat_map (λ x. x) xs) (All-head (λ x. All P x) x xs all) (all_flat P xs (All-tail (λ x. All P x) x xs all))

zero_fits : unsigned_abs (pos 0) < 2 ^ 127
zero_fits = omega (arith, ints)

-- where a tick ends
pub kept_ticked : (width : ℕ) (ended joined stays : List (List (ℕ × ℤ))) (sums zeros : List ℤ) (leaves gone : List (ℕ × ℤ)) (told : ℕ) → AreKept width ended sums leaves told → joined ≡ ended ++ opposite sums ∷ [] → stays ≡ staying width joined → zeros ≡ replicate (length sums) (pos 0) → gone ≡ flat_map (λ (tick : List (ℕ × ℤ)). tick) (leaving width joined)
    → AreKept width stays zeros gone 0
kept_ticked width ended joined stays sums zeros leaves gone told old all stay none leave =
    let n : ℕ = length sums in
    let over : All (AreOver n) joined = subst (λ (xs : List (List (ℕ × ℤ))). All (AreOver n) xs) (sym all) (All-push (AreOver n) ended (opposite sums) old.over (opposite_over sums)) in
    let size : n ≡ length zeros = sym (ap (λ (xs : List ℤ). length xs) none ∙ length-replicate n (pos 0)) in
    let gone_over : AreOver n gone = subst (AreOver n) (sym leave) (all_flat (λ (c : ℕ × ℤ). IsObject n c.0) (leaving width joined) (All-take (AreOver n) (length joined - width) joined over)) in
    let stays_over : All (AreOver n) stays = subst (λ (xs : List (List (ℕ × ℤ))). All (AreOver n) xs) (sym stay) (All-drop (AreOver n) (length joined - width) joined over) in
    record {
      few = omega (arith, ap (λ (xs : List (List (ℕ × ℤ))). length xs) stay, length-drop (length joined - width) joined);
      over = subst (λ k. All (AreOver k) stays) size stays_over;
      objects = subst (λ k. k ≤ 65536) size old.objects;
      sizes = subst (λ (xs : List ℤ). All (λ v. unsigned_abs v < 2 ^ 127) xs) (sym none) (All-replicate (λ (v : ℤ). unsigned_abs v < 2 ^ 127) n (pos 0) zero_fits);
      leaving = subst (λ k. AreOver k gone) size gone_over;
      within = omega arith;
    }

-- where one change more was told
pub next_taken : (width : ℕ) (ended : List (List (ℕ × ℤ))) (sums : List ℤ) (leaves : List (ℕ × ℤ)) (told : ℕ) (k : Kept) → record { width = width; ended = ended; sums = sums; back = drop told leaves } ≡ k → record { width = width; ended = ended; sums = sums; back = drop (told + 1) leaves } ≡ taken k
next_taken width ended sums leaves told k is =
    ap (λ (back : List (ℕ × ℤ)). record { width = width; ended = ended; sums = sums; back = back }) (sym (drop-drop 1 told leaves)) ∙ ap taken is
