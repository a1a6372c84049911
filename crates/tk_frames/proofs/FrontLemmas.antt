-- Bytes that stay at the front, whatever is appended.
use Rattle.std.proofs.Common.{◌≡◌, ℕ, List, [], ◌++◌, length, take, refl, sym, ap, ◌∙◌}
use Rattle.std.proofs.lemmas.List.{append-nil, take_at, take-take}
use Rattle.tk_base.specs.History.{IsFront}
use Rattle.tk_base.proofs.HistoryLemmas.{front_size}

-- nothing was appended
pub front_same : (xs ys : List ℕ) → ys ≡ xs → IsFront xs ys
front_same xs ys is = record { is = sym (take_at xs [] (length xs) refl) ∙ ap (take (length xs)) (append-nil xs ∙ sym is) }

-- something was
pub front_more : (xs ys more : List ℕ) → ys ≡ xs ++ more → IsFront xs ys
front_more xs ys more is = record { is = sym (take_at xs more (length xs) refl) ∙ ap (take (length xs)) (sym is) }

-- a front of a front is one
pub front_on : (xs ys zs : List ℕ) → IsFront xs ys → IsFront ys zs → IsFront xs zs
front_on xs ys zs first next =
    record { is = first.is ∙ ap (take (length xs)) next.is ∙ take-take (length xs) (length ys) zs (front_size xs ys first) }

pub ruleset front_steps = (front_same, front_more, front_on)
