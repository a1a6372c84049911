-- The raises that are left: each part's are enough to bring it to its end.
use Rattle.std.proofs.Common.{◌≡◌, ℕ, suc, zero, ℤ, ◌+◌, ◌-◌, ◌<◌, ◌≤◌, ◌==◌, Bool, true, false, List, [], ◌∷◌, ◌++◌, length, map, get_or, refl, sym, subst, arith, inl, inr, le_refl}
use Rattle.std.specs.Prelude.{flat_map, fold, max}
use Rattle.std.specs.List.{range_with_len}
use Rattle.std.proofs.Math.Nat.{le-max_left, le-max_right}
use Rattle.std.proofs.lemmas.Bool.{and_from, cases_eq, eq-eqb}
use Rattle.tk_input.specs.Logs.{LogSet, parts_of}
use Rattle.tk_input.specs.declared.event.Event.{Event}
use Rattle.tk_world.specs.Events.{raise_at}
use Rattle.tk_drain.specs.Drive.{all_raises, longest_of, pass_of, raises_of}
use Rattle.tk_drain.proofs.RaiseLemmas.{is_raise_of, one_if, raised_in}

-- ---- counting

none_and : (a : ℕ) → a ≡ 0 + a
none_and a = omega arith

plus_all : (a b c d : ℕ) → b ≡ c + d → a + b ≡ a + c + d
plus_all a b c d is = omega (arith, is)

pub raised_in-append : (mon g : ℕ) (xs ys : List Event) → raised_in mon g (xs ++ ys) ≡ raised_in mon g xs + raised_in mon g ys
raised_in-append mon g [] ys = none_and (raised_in mon g ys)
raised_in-append mon g (x ∷ xs) ys = plus_all (one_if (is_raise_of mon g x)) (raised_in mon g (xs ++ ys)) (raised_in mon g xs) (raised_in mon g ys) (raised_in-append mon g xs ys)

one_there : (b : Bool) (k : ℕ) → b ≡ true → 1 ≤ one_if b + k
one_there true k is = omega arith
one_there false k is = absurd (cc)

later_there : (a k : ℕ) → 1 ≤ k → 1 ≤ a + k
later_there a k is = omega (arith, is)

-- one of the raises of a monitor is that of the part
pub one_of_range : (mon g a k : ℕ) → a ≤ g → g < a + k → 1 ≤ raised_in mon g (map (raise_at mon) (range_with_len a k))
one_of_range mon g a zero low high = absurd (omega (arith, low, high))
one_of_range mon g a (suc k) low high = elim (cases_eq a g) [
  | inl same ↦ one_there (is_raise_of mon g (raise_at mon a)) (raised_in mon g (map (raise_at mon) (range_with_len (a + 1) k))) (and_from (mon == mon) (a == g) (eq-eqb mon mon refl) (eq-eqb a g same))
  | inr apart ↦ later_there (one_if (is_raise_of mon g (raise_at mon a))) (raised_in mon g (map (raise_at mon) (range_with_len (a + 1) k))) (one_of_range mon g (a + 1) k (omega (arith, low, apart)) (omega (arith, high)))
]

left_there : (a b c : ℕ) → a ≡ b + c → 1 ≤ b → 1 ≤ a
left_there a b c is one = omega (arith, is, one)

right_there : (a b c : ℕ) → a ≡ b + c → 1 ≤ c → 1 ≤ a
right_there a b c is one = omega (arith, is, one)

-- what one of the lists has, all have together
pub one_of_lists : (mon g : ℕ) (each : ℕ → List Event) (q a k : ℕ) → a ≤ q → q < a + k → 1 ≤ raised_in mon g (each q) → 1 ≤ raised_in mon g (flat_map each (range_with_len a k))
one_of_lists mon g each q a zero low high one = absurd (omega (arith, low, high))
one_of_lists mon g each q a (suc k) low high one =
    let sum = raised_in-append mon g (each a) (flat_map each (range_with_len (a + 1) k)) in
    elim (cases_eq a q) [
      | inl same ↦ left_there (raised_in mon g (each a ++ flat_map each (range_with_len (a + 1) k))) (raised_in mon g (each a)) (raised_in mon g (flat_map each (range_with_len (a + 1) k))) sum (subst (λ z. 1 ≤ raised_in mon g (each z)) (sym same) one)
      | inr apart ↦ right_there (raised_in mon g (each a ++ flat_map each (range_with_len (a + 1) k))) (raised_in mon g (each a)) (raised_in mon g (flat_map each (range_with_len (a + 1) k))) sum (one_of_lists mon g each q (a + 1) k (omega (arith, low, apart)) (omega (arith, high)) one)
    ]

one_each : (a b c k : ℕ) → a ≡ b + c → 1 ≤ b → k ≤ c → suc k ≤ a
one_each a b c k is one rest = omega (arith, is, one, rest)

-- as many as there are passes
pub many_passes : (mon g : ℕ) (pass : List Event) (a k : ℕ) → 1 ≤ raised_in mon g pass → k ≤ raised_in mon g (flat_map (λ (_ : ℕ). pass) (range_with_len a k))
many_passes mon g pass a zero one = omega arith
many_passes mon g pass a (suc k) one =
    let rest = flat_map (λ (_ : ℕ). pass) (range_with_len (a + 1) k) in
    one_each (raised_in mon g (pass ++ rest)) (raised_in mon g pass) (raised_in mon g rest) k (raised_in-append mon g pass rest) one (many_passes mon g pass (a + 1) k one)

-- ---- the longest part

abbrev pub longer : ℕ → List (ℕ × ℤ) → ℕ
longer most part = max most (length part)

abbrev pub longest_in : ℕ → List (List (ℕ × ℤ)) → ℕ
longest_in most parts = fold longer most parts

two_steps : (a b c : ℕ) → a ≤ b → b ≤ c → a ≤ c
two_steps a b c x y = omega (arith, x, y)

nothing_less : (a : ℕ) → 0 ≤ a
nothing_less a = omega arith

pub longest_grows : (most : ℕ) (parts : List (List (ℕ × ℤ))) → most ≤ longest_in most parts
longest_grows most [] = le_refl most
longest_grows most (part ∷ parts) = two_steps most (longer most part) (longest_in (longer most part) parts) (le-max_left most (length part)) (longest_grows (longer most part) parts)

pub longest_covers : (most : ℕ) (parts : List (List (ℕ × ℤ))) (i : ℕ) → length (get_or parts i []) ≤ longest_in most parts
longest_covers most [] i = nothing_less most
longest_covers most (part ∷ parts) zero = two_steps (length part) (longer most part) (longest_in (longer most part) parts) (le-max_right most (length part)) (longest_grows (longer most part) parts)
longest_covers most (part ∷ parts) (suc i) = longest_covers (longer most part) parts i

over_grows : (most : ℕ) (logs : List (List (List (ℕ × ℤ)))) → most ≤ fold longest_in most logs
over_grows most [] = le_refl most
over_grows most (parts ∷ logs) = two_steps most (longest_in most parts) (fold longest_in (longest_in most parts) logs) (longest_grows most parts) (over_grows (longest_in most parts) logs)

over_covers : (most : ℕ) (logs : List (List (List (ℕ × ℤ)))) (j i : ℕ) → length (get_or (get_or logs j []) i []) ≤ fold longest_in most logs
over_covers most [] j i = nothing_less most
over_covers most (parts ∷ logs) zero i = two_steps (length (get_or parts i [])) (longest_in most parts) (fold longest_in (longest_in most parts) logs) (longest_covers most parts i) (over_grows (longest_in most parts) logs)
over_covers most (parts ∷ logs) (suc j) i = over_covers (longest_in most parts) logs j i

-- ---- all raises

-- a part is raised at least as often as it has changes
pub enough_raises : (logs : LogSet) (mon g : ℕ) → 1 ≤ mon → mon ≤ length logs.logs → 1 ≤ g → g ≤ length (parts_of logs.logs mon) → length (get_or (parts_of logs.logs mon) (g - 1) []) ≤ raised_in mon g (all_raises logs)
unfolding all_raises
enough_raises logs mon g low high from to =
    two_steps (length (get_or (parts_of logs.logs mon) (g - 1) [])) (longest_of logs) (raised_in mon g (all_raises logs))
    (over_covers 0 logs.logs (mon - 1) (g - 1))
    (many_passes mon g (pass_of logs) 0 (longest_of logs)
    (one_of_lists mon g (raises_of logs) mon 1 (length logs.logs) low (omega (arith, high))
    (one_of_range mon g 1 (length (parts_of logs.logs mon)) from (omega (arith, to)))))
