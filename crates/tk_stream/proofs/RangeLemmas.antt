-- Bytes between two places of a list, as bytes come behind them and leave before them.
use Rattle.std.proofs.Common.{◌≡◌, ◌<◌, ◌≤◌, ℕ, ◌+◌, ◌-◌, ◌++◌, List, [], length, take, drop, ap, sym, ◌∙◌, arith, append_assoc, true, Some, None}
use Rattle.std.specs.Prelude.{min, position}
use Rattle.std.specs.Str.Lines.{lines}
use Rattle.std.proofs.lemmas.List.{drop-drop, drop-take, take-take, length-take, take_at, take-append-drop, nil_from_length}
use Rattle.std.specs.List.{slice_range}
use Rattle.tk_input.proofs.CountLemmas.{position_found}
use Rattle.tk_stream.specs.LineBuffer.{Held, left_in}
use Rattle.tk_stream.specs.Lines.{behind_feed, lines_left}
use Rattle.tk_stream.proofs.LinesLemmas.{is_feed, behind_found, behind_missing}

-- they without the first n
pub removed_front : (from n to : ℕ) (xs : List ℕ) → from + n ≤ to → slice_range xs (from + n) to ≡ drop n (slice_range xs from to)
removed_front from n to xs within =
    let is : to - from ≡ n + (to - (from + n)) = omega arith in
    rw (is, drop-take n (to - (from + n)) (drop from xs), drop-drop n from xs)

-- they are no longer than what is between the places
pub slice_size : (from to : ℕ) (xs : List ℕ) → length (slice_range xs from to) ≤ to - from
slice_size from to xs = rw length-take (omega arith)

-- they are the end of a front
as_front : (from to : ℕ) (xs : List ℕ) → from ≤ to → slice_range xs from to ≡ drop from (take to xs)
as_front from to xs within =
    let is : to ≡ from + (to - from) = omega arith in
    sym (ap (λ k. drop from (take k xs)) is ∙ drop-take from (to - from) xs)

-- the first n and the m behind them
take_add : (n m : ℕ) (xs : List ℕ) → take n xs ++ take m (drop n xs) ≡ take (n + m) xs
take_add n m xs =
    ap (λ ys. take n xs ++ ys) (sym (drop-take n m xs)) ∙ ap (λ ys. ys ++ drop n (take (n + m) xs)) (sym (take-take n (n + m) xs (omega arith))) ∙ take-append-drop n (take (n + m) xs)

-- what is held and what came behind it, where the whole list was written anew
pub refilled : (count n size : ℕ) (new rest held before after : List ℕ) → length new ≡ size → take count new ≡ held → before ≡ take n (drop count new) ++ after → slice_range (take size (new ++ rest)) 0 (count + n) ++ after ≡ held ++ before
refilled count n size new rest held before after len front came =
    ap (λ xs. slice_range xs 0 (count + n) ++ after) (take_at new rest size len)
    ∙ ap (λ k. take k new ++ after) (omega arith)
    ∙ ap (λ xs. xs ++ after) (sym (take_add count n new))
    ∙ append_assoc (take count new) (take n (drop count new)) after
    ∙ ap (λ xs. xs ++ (take n (drop count new) ++ after)) front
    ∙ ap (λ xs. held ++ xs) (sym came)

-- what is held, where the whole list was written anew
pub kept_front : (count size : ℕ) (new rest held : List ℕ) → length new ≡ size → take count new ≡ held → slice_range (take size (new ++ rest)) 0 count ≡ held
kept_front count size new rest held len front =
    ap (λ xs. slice_range xs 0 count) (take_at new rest size len) ∙ ap (λ k. take k new) (omega arith) ∙ front

-- what is behind the line feed that was found among n bytes, where the whole list was written anew
pub passed_to : (place n size : ℕ) (new rest before after : List ℕ) → length new ≡ size → before ≡ take n new ++ after → position is_feed (take n new) ≡ Some place → slice_range (take size (new ++ rest)) (place + 1) n ++ after ≡ behind_feed before
passed_to place n size new rest before after len came is =
    let at = position_found is_feed (take n new) place is in
    let within : place < n = omega (arith, at.within, length-take n new) in
    ap (λ xs. slice_range xs (place + 1) n ++ after) (take_at new rest size len)
    ∙ ap (λ xs. xs ++ after) (as_front (place + 1) n new (omega arith))
    ∙ sym (ap behind_feed came ∙ behind_found (take n new) after place is)

-- nothing of n bytes without a line feed is kept
pub passed_all : (n : ℕ) (new before after : List ℕ) → before ≡ take n new ++ after → position is_feed (take n new) ≡ None → behind_feed after ≡ behind_feed before
passed_all n new before after came none = sym (ap behind_feed came ∙ behind_missing (take n new) after none)

-- a read from the rest of a list
pub read_from : (at n : ℕ) (bytes room rest : List ℕ) → rest ≡ drop at bytes → take n room ≡ take n (drop at bytes) → rest ≡ take n room ++ drop (at + n) bytes
read_from at n bytes room rest is copied =
    is ∙ sym (take-append-drop n (drop at bytes)) ∙ ap (λ xs. xs ++ drop n (drop at bytes)) (sym copied) ∙ ap (λ xs. take n room ++ xs) (drop-drop n at bytes)

-- a read of nothing, where there is room for more, is at the end
pub read_none : (n piece size : ℕ) (bytes : List ℕ) → n ≡ min (min (length bytes) piece) size → 1 ≤ piece → 0 < size → n ≡ 0 → bytes ≡ []
read_none n piece size bytes is some room none = nil_from_length bytes (omega arith)

-- nothing is between a place and itself
pub nothing_between : (from to : ℕ) (xs : List ℕ) → to ≡ from → slice_range xs from to ≡ []
nothing_between from to xs same = let none : to - from ≡ 0 = omega arith in ap (λ k. take k (drop from xs)) none

-- what is left inside a line that is passed over
pub left_passing : (h : Held) (content : List ℕ) → h.bytes ≡ [] → h.passing ≡ true → left_in h content ≡ lines (behind_feed content)
left_passing h content none passing = ap (λ xs. lines_left h.passing (xs ++ content)) none ∙ ap (λ b. lines_left b content) passing
