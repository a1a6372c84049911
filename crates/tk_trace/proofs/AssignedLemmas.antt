-- Parts that are listed row by row make logs of these rows.
use Rattle.std.proofs.Common.{ℕ, ◌+◌, ◌≤◌, ℤ, All, List, [], ◌∷◌, length, arith}
use Rattle.std.proofs.lemmas.List.Elements.{All-append, All-head, All-map, All-nil, All-tail}
use Rattle.tk_base.specs.declared.ids.Mon.{Mon}
use Rattle.tk_input.specs.Judged.{under, assigned_from}
use Rattle.tk_base.specs.Objects.{IsOneOf}
use Rattle.tk_trace.specs.Assigned.{monitor}

-- ---- what logs are made of

pub are_monitors : (first : ℕ) (logs : List (List (List (ℕ × ℤ)))) → 1 ≤ first → first + length logs ≤ 65 → All (λ p. IsOneOf 64 p.0.0) (assigned_from first logs)
are_monitors first [] low few = All-nil (λ (p : Mon × List (ℕ × ℤ)). IsOneOf 64 p.0.0)
are_monitors first (parts ∷ logs) low few =
    All-append (λ p. IsOneOf 64 p.0.0) (under first parts) (assigned_from (first + 1) logs)
    (All-map (λ p. IsOneOf 64 p.0.0) (λ part. (monitor first, part)) parts (λ i d within. (low, omega (arith, few))))
    (are_monitors (first + 1) logs (omega arith) (omega (arith, few)))

pub are_parts : (P : List (ℕ × ℤ) → Type 0) (first : ℕ) (logs : List (List (List (ℕ × ℤ)))) → All (λ parts. All P parts) logs → All (λ p. P p.1) (assigned_from first logs)
are_parts P first [] facts = All-nil (λ (p : Mon × List (ℕ × ℤ)). P p.1)
are_parts P first (parts ∷ logs) facts =
    All-append (λ p. P p.1) (under first parts) (assigned_from (first + 1) logs)
    (All-map (λ p. P p.1) (λ part. (monitor first, part)) parts (All-head (λ parts. All P parts) parts logs facts))
    (are_parts P (first + 1) logs (All-tail (λ parts. All P parts) parts logs facts))
