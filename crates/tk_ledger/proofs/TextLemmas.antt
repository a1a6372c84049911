-- The line of one monitor.
use Rattle.std.proofs.Common.{◌≡◌, ℕ, List, [], ◌∷◌, ◌++◌, ap, ◌∙◌, append_assoc, arith}
use Rattle.std.specs.Prelude.{codes, decimal}
use Rattle.tk_ledger.specs.Text.{counts_text, monitor_text, whole}
use Rattle.tk_ledger.specs.declared.counts.Counts.{Counts}
use Rattle.tk_ledger.proofs.FrameLemmas.{same_counts}

pub whole_one : (counts : Counts) → whole (counts ∷ []) ≡ counts
whole_one counts = same_counts _ _ (omega arith) (omega arith) (omega arith) (omega arith) (omega arith) (omega arith)

pub one_monitor : (before after : List ℕ) (per : List Counts) (mon : ℕ) (counts : Counts) → before ≡ codes "monitor " ++ decimal mon → per ≡ counts ∷ []
    → after ≡ before ++ counts_text (whole per) → after ≡ monitor_text mon counts
one_monitor before after per mon counts named alone is =
    is
    ∙ ap (λ (l : List ℕ). l ++ counts_text (whole per)) named
    ∙ ap (λ (l : List Counts). (codes "monitor " ++ decimal mon) ++ counts_text (whole l)) alone
    ∙ ap (λ (x : Counts). (codes "monitor " ++ decimal mon) ++ counts_text x) (whole_one counts)
    ∙ append_assoc (codes "monitor ") (decimal mon) (counts_text counts)
