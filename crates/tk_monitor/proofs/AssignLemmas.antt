-- An Assign at the board, and its undoing.
use Rattle.std.proofs.Common.{◌≡◌, ◌≤◌, ℕ, List, length, ap, ap₂, ◌∙◌, arith}
use Rattle.std.specs.Prelude.{ℤ, Option, All}
use Rattle.tk_monitor.specs.Board.{IsBoard, AreLimited, assigned, board_of, values_under}
use Rattle.tk_monitor.specs.Factors.{factor_in, factors_over}
use Rattle.tk_monitor.proofs.BoardLemmas.{length-assigned, assigned_undone}
use Rattle.tk_monitor.proofs.ValuesLemmas.{value_under, values_same}

-- the levels that the changes set, where what is kept of the factors gives the same ones
pub set_levels : (levels new : List ℤ) (kept now : List (Option ℤ)) (changes : List (ℕ × ℤ)) → ((o : ℕ) → factor_in now o ≡ factor_in kept o) → new ≡ assigned (values_under levels now) levels changes → new ≡ assigned (values_under levels kept) levels changes
set_levels levels new kept now changes same is = is ∙ ap (λ (values : List ℤ). assigned values levels changes) (values_same levels kept now same)

pub set_size : (values levels new : List ℤ) (changes : List (ℕ × ℤ)) → new ≡ assigned values levels changes → length new ≡ length levels
set_size values levels new changes is = ap (λ (xs : List ℤ). length xs) is ∙ length-assigned values levels changes

-- the values stay
pub set_values : (levels new seated : List ℤ) (kept now set : List (Option ℤ)) → ((o : ℕ) → factor_in now o ≡ factor_in kept o) → seated ≡ new → values_under new set ≡ values_under levels now → values_under seated set ≡ values_under levels kept
set_values levels new seated kept now set same seats stay = ap (λ (xs : List ℤ). values_under xs set) seats ∙ stay ∙ values_same levels kept now same

-- the factors before bring the levels back
pub levels_back : (levels seated back : List ℤ) (kept set : List (Option ℤ)) (changes before : List (ℕ × ℤ)) → seated ≡ assigned (values_under levels kept) levels changes → values_under seated set ≡ values_under levels kept → before ≡ factors_over kept changes → back ≡ assigned (values_under seated set) seated before → back ≡ levels
levels_back levels seated back kept set changes before is stay was undone =
    let values = values_under levels kept in
    undone
    ∙ ap (λ (vs : List ℤ). assigned vs seated before) stay
    ∙ ap₂ (λ (xs : List ℤ) (ps : List (ℕ × ℤ)). assigned values xs ps) is was
    ∙ assigned_undone values levels kept changes (value_under levels kept)

-- the board with other members
pub board_taken : (set seated : List ℤ) (kept : List (Option ℤ)) (n : ℕ) (members taken : List ℕ) → AreLimited (values_under set kept) set → length set ≡ n → seated ≡ set → All (λ o. o ≤ n) members → taken ≡ members → IsBoard (board_of seated kept taken)
board_taken set seated kept n members taken limits size is within takes =
    rw (is, takes) (record {
      limits = limits;
      members = λ k d below. omega (arith, size, within k d below);
    })
