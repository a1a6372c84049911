-- What tests say of two monitors. No public clause cites this file.
use Rattle.std.specs.Prelude.{ℕ, ℤ, List, [], ◌∷◌}
use Rattle.tk_rows.specs.declared.mon_change.MonChange.{MonChange}

-- this factor of both objects
abbrev pub of_both : ℤ → List (ℕ × ℤ)
of_both factor = (1, factor) ∷ (2, factor) ∷ []

-- these factors of both objects at monitors 1 and 2
abbrev pub at_both : ℤ → ℤ → List MonChange
at_both one two =
    (record { mon = record { 0 = 1 }; changes = of_both one })
    ∷ (record { mon = record { 0 = 2 }; changes = of_both two })
    ∷ []
