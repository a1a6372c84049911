-- Bytes between two places of a list, as those of a chunk are opened and taken, and as more come behind them.
use Rattle.std.proofs.Common.{◌≡◌, ◌≤◌, ℕ, ◌+◌, ◌-◌, ◌++◌, [], List, length, take, drop, min, ap, sym, ◌∙◌, refl, arith}
use Rattle.std.proofs.lemmas.List.{append-nil, append_assoc, length-drop, length-take-le, take-append-drop, take-take, take_at}
use Rattle.std.specs.List.{slice_range}
use Rattle.tk_wire.proofs.StoreLemmas.{filled_behind, nothing_behind, range_within, removed_front, slice_size}
use Rattle.tk_net.specs.Cables.{Fills, HandsOut, InletView, Opens, Writes}
use Rattle.tk_net.specs.Chunks.{chunk_of, held_in}
use Rattle.tk_net.specs.declared.chunk.Front.{Front}
use Rattle.tk_net.specs.declared.chunk.Front.TheVariants as front
use Rattle.tk_wire.specs.declared.wire.Took.{Took}
use Rattle.tk_wire.specs.declared.wire.Took.TheVariants as took

-- how many there are
range_size : (from to : ℕ) (xs : List ℕ) → to ≤ length xs → length (slice_range xs from to) ≡ to - from
range_size from to xs within = length-take-le (to - from) (drop from xs) (rw (length-drop from xs) (omega arith))

-- those of a chunk behind a place
pub opened : (middle end n : ℕ) (xs : List ℕ) → 6 + n ≤ length (slice_range xs middle end)
    → slice_range xs (middle + 6) (middle + 6 + n) ≡ held_in n (slice_range xs middle end)
opened middle end n xs whole =
    let size : middle + 6 + n - (middle + 6) ≡ 6 + n - 6 = omega arith in
    ap (λ (k : ℕ). take k (drop (middle + 6) xs)) size
    ∙ range_within 6 (6 + n) middle end xs (omega arith) (omega (arith, whole, slice_size middle end xs))

-- those behind that chunk
pub left_behind : (middle end n : ℕ) (xs : List ℕ) → 6 + n ≤ length (slice_range xs middle end)
    → slice_range xs (middle + 6 + n) end ≡ drop (6 + n) (slice_range xs middle end)
left_behind middle end n xs whole =
    let place : middle + 6 + n ≡ middle + (6 + n) = omega arith in
    ap (λ (k : ℕ). slice_range xs k end) place ∙ removed_front middle (6 + n) end xs (omega (arith, whole, slice_size middle end xs))

-- those behind a pulse
pub behind_pulse : (middle end : ℕ) (xs : List ℕ) → 2 ≤ length (slice_range xs middle end)
    → slice_range xs (middle + 2) end ≡ drop 2 (slice_range xs middle end)
behind_pulse middle end xs whole = removed_front middle 2 end xs (omega (arith, whole, slice_size middle end xs))

-- a pulse was dropped
pub opens_pulse : (some : Front) (old new : InletView) → some ≡ front.Pulse → new.held ≡ [] → new.unread ≡ drop 2 old.unread → Opens some old new
opens_pulse some old new is held unread = rw is (held, unread)

-- no bytes stand between a place and itself
pub none_between : (at : ℕ) (xs : List ℕ) → slice_range xs at at ≡ []
none_between at xs = ap (λ (k : ℕ). take k (drop at xs)) (let is : at - at ≡ 0 = omega arith in is)

-- some bytes are handed out
pub hands_out : (start middle end room count : ℕ) (xs into copied held unread : List ℕ) → start ≤ middle → middle ≤ length xs
    → held ≡ slice_range xs start middle → unread ≡ slice_range xs middle end → count ≡ min (length into) (middle - start)
    → copied ≡ slice_range xs start (start + count)
    → (old : InletView) → old.held ≡ held → old.unread ≡ unread
    → HandsOut count old (record { held = slice_range xs (start + count) middle; unread = slice_range xs middle end; room = room }) into (copied ++ drop count into)
hands_out start middle end room count xs into copied held unread ordered within held_is unread_is count_is copied_is old old_held old_unread =
    let all = range_size start middle xs within in
    let few : count ≤ middle - start = omega arith in
    let size : start + count - start ≡ count = omega arith in
    let part : slice_range xs start (start + count) ≡ take count (drop start xs) = ap (λ (k : ℕ). take k (drop start xs)) size in
    let long : length copied ≡ count = ap length copied_is ∙ range_size start (start + count) xs (omega arith) ∙ size in
    record {
      size = count_is ∙ ap (λ (k : ℕ). min (length into) k) (sym (ap length (old_held ∙ held_is) ∙ all));
      bytes = take_at copied (drop count into) count long ∙ copied_is ∙ part ∙ sym (take-take count (middle - start) (drop start xs) few) ∙ ap (take count) (sym (old_held ∙ held_is));
      held = removed_front start count middle xs (omega arith) ∙ ap (drop count) (sym (old_held ∙ held_is));
      unread = sym (old_unread ∙ unread_is);
    }

-- what stands in a front that is as it was
pub same_within : (from to end size : ℕ) (old new rest held : List ℕ) → from ≤ to → to ≤ end → length new ≡ size → take end new ≡ take end old
    → held ≡ slice_range old from to → slice_range (take size (new ++ rest)) from to ≡ held
same_within from to end size old new rest held ordered within long same is =
    let front : take to new ≡ take to old = sym (take-take to end new within) ∙ ap (take to) same ∙ take-take to end old within in
    nothing_behind from to size old new rest held is ordered long front

-- bytes that came behind those that were there
pub filled : (from to n size : ℕ) (old new rest unread : List ℕ) → from ≤ to → to + n ≤ size → length new ≡ size → take to new ≡ take to old
    → unread ≡ slice_range old from to
    → (piece : List ℕ) × (length piece ≡ n) × (slice_range (take size (new ++ rest)) from (to + n) ≡ unread ++ piece)
filled from to n size old new rest unread ordered fits long same is = (
  take n (drop to new),
  length-take-le n (drop to new) (rw (length-drop to new, long) (omega arith)),
  ap (λ (xs : List ℕ). slice_range xs from (to + n)) (take_at new rest size long) ∙ filled_behind from to n old new ordered same ∙ ap (λ (xs : List ℕ). xs ++ take n (drop to new)) (sym is),
)

-- a read that brought nothing
pub fills_nothing : (some : Took) (old new : InletView) → ((n : ℕ) → some ≡ took.Bytes n → ⊥) → new.held ≡ old.held → new.unread ≡ old.unread → Fills some old new
fills_nothing (took.Bytes n) old new other held unread = absurd (other n refl)
fills_nothing took.NotYet old new other held unread = (held, unread)
fills_nothing took.End old new other held unread = (held, unread)
fills_nothing took.Failed old new other held unread = (held, unread)

-- more was written
pub writes_more : (n : ℕ) (old middle new : List ℕ) → Writes old middle → new ≡ drop n middle → Writes old new
writes_more n old middle new written is = (
  written.0 ++ take n middle,
  written.1 ∙ ap (λ (xs : List ℕ). written.0 ++ xs) (sym (take-append-drop n middle)) ∙ sym (append_assoc written.0 (take n middle) (drop n middle)) ∙ ap (λ (xs : List ℕ). (written.0 ++ take n middle) ++ xs) (sym is),
)

-- what was there before, and a chunk behind it
pub carries : (n : ℕ) (bytes old between chunk new : List ℕ) → Writes old between → between ≡ [] → chunk ≡ chunk_of (take n bytes) → Writes chunk new
    → Writes (old ++ chunk_of (take n bytes)) new
carries n bytes old between chunk new first empty is second =
    let whole : old ≡ first.0 = first.1 ∙ ap (λ (xs : List ℕ). first.0 ++ xs) empty ∙ append-nil first.0 in (
      first.0 ++ second.0,
      ap (λ (xs : List ℕ). xs ++ chunk_of (take n bytes)) whole ∙ ap (λ (xs : List ℕ). first.0 ++ xs) (sym is ∙ second.1) ∙ sym (append_assoc first.0 second.0 new),
    )
