-- The ticks of small logs, what a window makes of them, and which ticks end where. Objects a and b.
use Rattle.std.proofs.Common.{◌≡◌, ℕ, ◌≤◌, ℤ, pos, List, ◌∷◌, [], Ok, Err, Some, None, codes, refl, arith}
use Rattle.std.specs.Prelude.{neg_ℤ}
use Rattle.csv.proofs.OnLiterals.{csv_on_literals}
use Rattle.tk_input.specs.Records.{through}
use Rattle.tk_input.specs.declared.part.PartFault.TheVariants as fault
use Rattle.tk_window.specs.Ticks.{ticked_of}
use Rattle.tk_window.specs.Validity.{IsWindowValid}
use Rattle.tk_window.specs.Window.{expansion, tick_ending, up_to, window_sum}

abbrev names : List (List ℕ)
names = codes "a" ∷ codes "b" ∷ []

-- five of a in the first tick, two of b in the second
abbrev ticks : List (List (ℕ × ℤ))
ticks = ((1, pos 5) ∷ []) ∷ ((2, pos 2) ∷ []) ∷ []

-- ---- reading

-- a mark ends a tick, and the last tick has none
pub two_ticks : ticked_of names (codes "a,5\ntick\nb,2\n") ≡ Ok ticks
unfolding csv_on_literals through
two_ticks = refl

-- ticks may be empty, and a log without marks is one tick
pub empty_ticks : ticked_of names (codes "tick\ntick\na,1") ≡ Ok ([] ∷ [] ∷ ((1, pos 1) ∷ []) ∷ [])
unfolding csv_on_literals through
empty_ticks = refl

pub no_record : ticked_of names [] ≡ Ok ([] ∷ [])
unfolding csv_on_literals through
no_record = refl

-- marks are counted with the other records
pub second_record : ticked_of names (codes "tick\nc,1\n") ≡ Err (fault.UnknownName 2)
unfolding csv_on_literals through
second_record = refl

-- a mark has one field, and its own spelling
pub tick_with_a_number : ticked_of names (codes "tick,1\n") ≡ Err (fault.UnknownName 1)
unfolding csv_on_literals through
tick_with_a_number = refl

pub another_word : ticked_of names (codes "Tick\n") ≡ Err (fault.BadRow 1)
unfolding csv_on_literals through
another_word = refl

-- ---- windows

-- of width 1: the five of a are gone in the second tick
pub window_of_one : expansion 1 ticks ≡ record { part = (1, pos 5) ∷ (1, neg_ℤ (pos 5)) ∷ (2, pos 2) ∷ []; ends = 1 ∷ 3 ∷ [] }
unfolding up_to
window_of_one = refl

pub one_tick_back : window_sum 1 ticks 2 1 ≡ pos 0
one_tick_back = refl

-- of width 2: they are still there
pub window_of_two : expansion 2 ticks ≡ record { part = (1, pos 5) ∷ (2, pos 2) ∷ []; ends = 1 ∷ 2 ∷ [] }
unfolding up_to
window_of_two = refl

pub two_ticks_back : window_sum 2 ticks 2 1 ≡ pos 5
two_ticks_back = refl

-- ---- places

-- no tick ends within the steps to the next
pub ends_of_two : tick_ending (1 ∷ 3 ∷ []) 3 ≡ Some 2
ends_of_two = refl

pub within_a_step : tick_ending (1 ∷ 3 ∷ []) 2 ≡ None
within_a_step = refl

-- of several ticks that end at a place the first is told, and before the first change none has begun
pub first_of_several : tick_ending (1 ∷ 1 ∷ 2 ∷ []) 1 ≡ Some 1
first_of_several = refl

pub before_all : tick_ending (0 ∷ 2 ∷ []) 0 ≡ Some 0
before_all = refl

-- ---- validity

-- without a row of ticks for each monitor no set is valid
pub no_row_of_ticks : (width n k : ℕ) (epsilon : ℤ) (row : List (List (List (ℕ × ℤ)))) (logs : List (List (List (List (ℕ × ℤ))))) (set : List ℕ)
    → IsWindowValid width (row ∷ logs) n k epsilon [] set → ⊥
no_row_of_ticks width n k epsilon row logs set valid = absurd (omega (arith, valid.are_ticks.shape))

-- nor without a tick for each log, nor at one past the last
pub no_tick : (set : List ℕ) → IsWindowValid 1 ((ticks ∷ []) ∷ []) 2 1 (pos 0) ([] ∷ []) set → ⊥
no_tick set valid = let none : 0 ≡ 1 = (valid.are_ticks.each 0).shape in absurd (omega (arith, none))

pub past_the_last : (set : List ℕ) → IsWindowValid 1 ((ticks ∷ []) ∷ []) 2 1 (pos 0) ((3 ∷ []) ∷ []) set → ⊥
past_the_last set valid = let past : 3 ≤ 2 = (valid.are_ticks.each 0).within 0 in absurd (omega (arith, past))
