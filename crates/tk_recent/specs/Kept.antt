-- What is kept of the ticks of one stream, so that each can be taken back once it leaves the window.
use Rattle.std.specs.Prelude.{ℕ, ◌-◌, ℤ, pos, ◌+ℤ◌, neg_ℤ, List, [], ◌∷◌, ◌++◌, length, map, flat_map, take, drop, replicate, slice_index_or, slice_set}
use Rattle.tk_base.specs.Objects.{objects}
use Rattle.tk_input.specs.Logs.{sum_for}
use Rattle.tk_compact.specs.Compacted.{compacted}

-- the sum of some changes for each object of a catalogue
unfoldable pub sums_of : ℕ → List (ℕ × ℤ) → List ℤ
sums_of n changes = map (λ o. sum_for o changes) (objects n)

-- what takes such sums back: for each object whose sum is not zero, by objects, the opposite
unfoldable pub opposite : List ℤ → List (ℕ × ℤ)
opposite sums = compacted (map neg_ℤ sums)

-- how many ticks the window has; what takes back each tick in it that has ended, in order; the sum of each object in the tick
-- that runs; and what is to be taken back now
pub record Kept : Type 0 where
  pub width : ℕ
  pub ended : List (List (ℕ × ℤ))
  pub sums : List ℤ
  pub back : List (ℕ × ℤ)

-- before the first record
abbrev pub fresh : ℕ → ℕ → Kept
fresh n width = record { width = width; ended = []; sums = replicate n (pos 0); back = [] }

-- the sum of an object with one more change of it
abbrev pub sum_with : List ℤ → ℕ × ℤ → ℤ
sum_with sums c = slice_index_or sums (c.0 - 1) (pos 0) +ℤ c.1

-- a record more of the tick that runs
abbrev pub noted : Kept → ℕ × ℤ → Kept
noted k c = record k { sums = slice_set k.sums (c.0 - 1) (sum_with k.sums c) }

-- those of some ticks that are older than the last ones of the window, and the others
abbrev pub leaving : ℕ → List (List (ℕ × ℤ)) → List (List (ℕ × ℤ))
leaving width ticks = take (length ticks - width) ticks

abbrev pub staying : ℕ → List (List (ℕ × ℤ)) → List (List (ℕ × ℤ))
staying width ticks = drop (length ticks - width) ticks

-- the ended ticks with the one that ran
abbrev pub with_last : Kept → List (List (ℕ × ℤ))
with_last k = k.ended ++ opposite k.sums ∷ []

-- the tick ends, and what leaves the window is to be taken back
abbrev pub ticked : Kept → Kept
ticked k = record {
  width = k.width;
  ended = staying k.width (with_last k);
  sums = replicate (length k.sums) (pos 0);
  back = flat_map (λ tick. tick) (leaving k.width (with_last k));
}

-- one change was taken back
abbrev pub taken : Kept → Kept
taken k = record k { back = drop 1 k.back }
