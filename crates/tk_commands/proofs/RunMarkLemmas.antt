-- The mark of a run, line by line.
use Rattle.std.proofs.Common.{◌≡◌, ℕ, ◌+◌, ◌-◌, ◌<◌, List, [], ◌∷◌, ◌++◌, Some, length, take, get_or, sym, ap, ◌∙◌, arith, codes}
use Rattle.std.specs.Prelude.{decimal, slice_get}
use Rattle.std.proofs.lemmas.Grind.{flat_map-append}
use Rattle.std.proofs.lemmas.List.{append-nil, append_assoc, take_more}
use Rattle.std.proofs.lemmas.List.Sums.{fold-append}
use Rattle.std.proofs.lemmas.Option.{get_or_from_slice_get}
use Rattle.tk_commands.specs.RunMark.{mark_behind, mark_of, mark_with, name_lines, run_lines}

-- a mark behind two pieces
behind : (mark : ℕ) (xs ys : List ℕ) → mark_behind (mark_behind mark xs) ys ≡ mark_behind mark (xs ++ ys)
behind mark xs ys = sym (fold-append mark_with mark xs ys)

-- one name more
lines_more : (names : List (List ℕ)) (i : ℕ) → i < length names → name_lines (take (i + 1) names) ≡ name_lines (take i names) ++ (get_or names i [] ++ codes "\n")
lines_more names i within =
    ap (λ (some : List (List ℕ)). name_lines some) (take_more names i [] within)
    ∙ flat_map-append (λ (name : List ℕ). name ++ codes "\n") (take i names) (get_or names i [] ∷ [])
    ∙ ap (λ (l : List ℕ). name_lines (take i names) ++ l) (append-nil (get_or names i [] ++ codes "\n"))

-- so it is for the run's lines
run_lines_more : (run : ℕ) (names : List (List ℕ)) (i : ℕ) → i < length names → run_lines run (take (i + 1) names) ≡ run_lines run (take i names) ++ (get_or names i [] ++ codes "\n")
run_lines_more run names i within =
    ap (λ (l : List ℕ). decimal run ++ codes "\n" ++ l) (lines_more names i within)
    ∙ sym (append_assoc (decimal run ++ codes "\n") (name_lines (take i names)) (get_or names i [] ++ codes "\n"))

-- the mark with a name more, and the line feed behind it
pub mark_more : (run : ℕ) (names : List (List ℕ)) (i mark named lined : ℕ) (name : List ℕ) → i < length names → mark ≡ mark_of (run_lines run (take i names))
    → slice_get names (i + 1 - 1) ≡ Some name → named ≡ mark_behind mark name → lined ≡ mark_with named 10 → lined ≡ mark_of (run_lines run (take (i + 1) names))
mark_more run names i mark named lined name within before found here there =
    let at : i + 1 - 1 ≡ i = omega arith in
    let is : get_or names i [] ≡ name = get_or_from_slice_get names i name [] (ap (λ (k : ℕ). slice_get names k) (sym at) ∙ found) in
    there
    ∙ ap (λ (m : ℕ). mark_behind m (codes "\n")) (here ∙ ap (λ (m : ℕ). mark_behind m name) before)
    ∙ ap (λ (n : List ℕ). mark_behind (mark_behind (mark_of (run_lines run (take i names))) n) (codes "\n")) (sym is)
    ∙ behind (mark_of (run_lines run (take i names))) (get_or names i []) (codes "\n")
    ∙ behind 14695981039346656037 (run_lines run (take i names)) (get_or names i [] ++ codes "\n")
    ∙ ap (λ (l : List ℕ). mark_of l) (sym (run_lines_more run names i within))
