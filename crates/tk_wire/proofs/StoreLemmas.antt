-- Bytes between two places of a list, as bytes come behind them and leave before them.
use Rattle.std.proofs.Common.{◌≡◌, ◌≤◌, ℕ, ◌+◌, ◌-◌, ◌++◌, List, length, take, drop, ap, sym, ◌∙◌, refl, arith, Bool, true}
use Rattle.std.proofs.lemmas.List.{drop-drop, drop-take, take-take, length-take, length-take-le, length-drop, take_at}
use Rattle.std.specs.List.{slice_range}
use Rattle.tk_wire.specs.Meanings.{Traffic, Takes, Arrives}
use Rattle.tk_wire.specs.Buffered.{Gains}
use Rattle.tk_wire.specs.Store.{Fills}
use Rattle.tk_wire.specs.declared.wire.Took.{Took}
use Rattle.tk_wire.specs.declared.wire.Took.TheVariants as t
use Rattle.tk_wire.proofs.QueueLemmas.{take_add}

-- they without the first n
pub removed_front : {X : Type 0} (from n to : ℕ) (xs : List X) → from + n ≤ to → slice_range xs (from + n) to ≡ drop n (slice_range xs from to)
removed_front from n to xs within =
    let is : to - from ≡ n + (to - (from + n)) = omega arith in
    rw (is, drop-take n (to - (from + n)) (drop from xs), drop-drop n from xs)

-- they are the end of a front
as_front : {X : Type 0} (from to : ℕ) (xs : List X) → from ≤ to → slice_range xs from to ≡ drop from (take to xs)
as_front from to xs within =
    let is : to ≡ from + (to - from) = omega arith in
    sym (ap (λ k. drop from (take k xs)) is ∙ drop-take from (to - from) xs)

-- they and the n behind them, where what stands before those is as it was
pub filled_behind : {X : Type 0} (from to n : ℕ) (old new : List X) → from ≤ to → take to new ≡ take to old → slice_range new from (to + n) ≡ slice_range old from to ++ take n (drop to new)
filled_behind from to n old new within same =
    let size : to + n - from ≡ (to - from) + n = omega arith in
    let place : from + (to - from) ≡ to = omega arith in
    let front : slice_range new from to ≡ slice_range old from to = as_front from to new within ∙ ap (drop from) same ∙ sym (as_front from to old within) in
    ap (λ k. take k (drop from new)) size ∙ sym (take_add (to - from) n (drop from new)) ∙ ap (λ ys. take (to - from) (drop from new) ++ take n ys) (drop-drop (to - from) from new ∙ ap (λ k. drop k new) place) ∙ ap (λ ys. ys ++ take n (drop to new)) front

-- they are no longer than what is between the places
pub slice_size : {X : Type 0} (from to : ℕ) (xs : List X) → length (slice_range xs from to) ≤ to - from
slice_size from to xs = rw length-take (omega arith)

-- they, where the whole list was written anew and their front is as it was
pub nothing_behind : (from to size : ℕ) (old new rest held : List ℕ) → held ≡ slice_range old from to → from ≤ to → length new ≡ size → take to new ≡ take to old → slice_range (take size (new ++ rest)) from to ≡ held
nothing_behind from to size old new rest held held_is within len same =
    ap (λ xs. slice_range xs from to) (take_at new rest size len) ∙ as_front from to new within ∙ ap (drop from) same ∙ sym (as_front from to old within) ∙ sym held_is

-- they and a piece that came behind them
pub gains_behind : (from to n size : ℕ) (old new rest held : List ℕ) (tells : Bool) (before after : Traffic) → held ≡ slice_range old from to → from ≤ to → to + n ≤ size → length new ≡ size → take to new ≡ take to old → (tells ≡ true → Arrives (take n (drop to new)) before after) → Gains n tells held (slice_range (take size (new ++ rest)) from (to + n)) before after
gains_behind from to n size old new rest held tells before after held_is within fits len same told = record {
  piece = take n (drop to new);
  size = length-take-le n (drop to new) (rw (length-drop, len) (omega arith));
  appended = ap (λ xs. slice_range xs from (to + n)) (take_at new rest size len) ∙ filled_behind from to n old new within same ∙ ap (λ xs. xs ++ take n (drop to new)) (sym held_is);
  arrived = told;
}

-- a take that gave no bytes
pub fills_nothing : (took : Took) (tells : Bool) (slice old new : List ℕ) (before after : Traffic) → ((n : ℕ) → took ≡ t.Bytes n → ⊥) → new ≡ old → (tells ≡ true → Takes took slice before after) → Fills took tells old new before after
fills_nothing (t.Bytes n) tells slice old new before after other same told = absurd (other n refl)
fills_nothing t.NotYet tells slice old new before after other same told = (same, told)
fills_nothing t.End tells slice old new before after other same told = (same, told)
fills_nothing t.Failed tells slice old new before after other same told = (same, told)

-- some of them
pub range_within : {X : Type 0} (from to start end : ℕ) (xs : List X) → from ≤ to → to ≤ end - start → take (to - from) (drop (start + from) xs) ≡ slice_range (slice_range xs start end) from to
range_within from to start end xs ordered within =
    let left : ℕ = end - start - from in
    let is : end - start ≡ from + left = omega arith in
    sym
    (ap (λ n. take (to - from) (drop from (take n (drop start xs)))) is
    ∙ ap (take (to - from)) (drop-take from left (drop start xs))
    ∙ take-take (to - from) left (drop from (drop start xs)) (omega arith)
    ∙ ap (take (to - from)) (drop-drop from start xs))
