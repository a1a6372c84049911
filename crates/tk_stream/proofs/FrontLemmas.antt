-- What stands at the front of the bytes that are held, whatever follows them.
use Rattle.std.proofs.Common.{◌≡◌, ℕ, ◌+◌, ◌-◌, ◌<◌, ◌≤◌, Bool, true, false, cond, List, [], ◌∷◌, ◌++◌, length, take, drop, Option, Some, None, refl, sym, ap, ◌∙◌, arith, length-append}
use Rattle.std.specs.Prelude.{◌==◌, position, slice_index}
use Rattle.std.specs.Str.Lines.{lines, strip_carriage_return}
use Rattle.std.proofs.lemmas.List.{take-append-le, drop-append-le, length-take-le}
use Rattle.std.proofs.Math.Seq.{drop-length}
use Rattle.tk_base.proofs.ListLemmas.{rest_is}
use Rattle.tk_input.proofs.CountLemmas.{position_found}
use Rattle.tk_input.proofs.LinesLemmas.{lines_found, lines_missing}
use Rattle.tk_stream.specs.Front.{IsLine, IsTooLong}
use Rattle.tk_stream.specs.Lines.{behind_feed}
use Rattle.tk_stream.proofs.LinesLemmas.{is_feed, position_front, position_behind, position_neither, behind_found, behind_missing}

-- a line that ends within what is held
pub ends_here : (held line : List ℕ) (i : ℕ) (ended : Bool) → position is_feed held ≡ Some i → line ≡ strip_carriage_return (take i held) → IsLine line held (i + 1) ended
ends_here held line i ended is named =
    let at = position_found is_feed held i is in
    record {
      fits = omega (arith, at.within);
      first = λ more _.
          lines_found (held ++ more) i (position_front is_feed held more i is)
          ∙ ap (λ (rest : List ℕ). strip_carriage_return (take i (held ++ more)) ∷ lines rest) (rest_is (held ++ more) (i + 1) ∙ drop-append-le (i + 1) held more (omega (arith, at.within)))
          ∙ ap (λ (front : List ℕ). strip_carriage_return front ∷ lines (drop (i + 1) held ++ more)) (take-append-le i held more (omega (arith, at.within)))
          ∙ ap (λ (l : List ℕ). l ∷ lines (drop (i + 1) held ++ more)) (sym named);
    }

append_nil : (xs : List ℕ) → xs ++ [] ≡ xs
append_nil [] = refl
append_nil (x ∷ xs) = ap (λ (ys : List ℕ). x ∷ ys) (append_nil xs)

-- the last line, whose end never comes
pub ends_there : (held : List ℕ) (ended : Bool) → position is_feed held ≡ None → 0 < length held → ended ≡ true → IsLine held held (length held) ended
ends_there held ended none some over = record {
  fits = omega arith;
  first = λ more last.
      let empty : more ≡ [] = last over in
      ap (λ (xs : List ℕ). lines (held ++ xs)) empty
      ∙ ap lines (append_nil held)
      ∙ lines_missing held some none
      ∙ ap (λ (xs : List ℕ). held ∷ lines xs) (sym (ap (λ (xs : List ℕ). xs ++ []) (drop-length held)))
      ∙ ap (λ (xs : List ℕ). held ∷ lines (drop (length held) held ++ xs)) (sym empty);
}

stripped : (b : Bool) (l : List ℕ) → length l ≤ length (cond b (take (length l - 1) l) l) + 1
stripped true l = omega (arith, length-take-le (length l - 1) l (omega arith))
stripped false l = omega arith

-- a line loses one byte at most
long_still : (l : List ℕ) → 65538 ≤ length l → 65536 < length (strip_carriage_return l)
long_still l long = omega (arith, stripped (slice_index l (length l - 1) == 13) l)

-- a line whose end is not within so many bytes
pub ends_too_late : (held : List ℕ) → position is_feed held ≡ None → 65538 ≤ length held → IsTooLong held
ends_too_late held none long more = by (position is_feed more) refl where
  by : (place : Option ℕ) → position is_feed more ≡ place → (line : List ℕ) × (65536 < length line) × (lines (held ++ more) ≡ line ∷ lines (behind_feed more))
  by (Some j) is =
      let at = position_found is_feed more j is in
      let whole = length-append held more in
      let i : ℕ = length held + j in
      let size : length (take i (held ++ more)) ≡ i = length-take-le i (held ++ more) (omega (arith, at.within)) in
      let rest : take (length (held ++ more) - (i + 1)) (drop (i + 1) (held ++ more)) ≡ behind_feed more =
      rest_is (held ++ more) (i + 1) ∙ sym (sym (behind_missing held more none) ∙ ap behind_feed (sym (append_nil (held ++ more))) ∙ behind_found (held ++ more) [] i (position_behind is_feed held more j none is) ∙ append_nil (drop (i + 1) (held ++ more))) in
      (strip_carriage_return (take i (held ++ more)), long_still (take i (held ++ more)) (omega arith), lines_found (held ++ more) i (position_behind is_feed held more j none is) ∙ ap (λ (xs : List ℕ). strip_carriage_return (take i (held ++ more)) ∷ lines xs) rest)
  by None is =
      let nothing : behind_feed more ≡ [] = ap behind_feed (sym (append_nil more)) ∙ behind_missing more [] is in
      (held ++ more, omega (arith, length-append held more), lines_missing (held ++ more) (omega (arith, length-append held more)) (position_neither is_feed held more none is) ∙ ap (λ (xs : List ℕ). (held ++ more) ∷ lines xs) (sym nothing))
