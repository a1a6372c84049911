-- Where a recorded history leaves the legal ones.
use Rattle.std.specs.Prelude.{ℕ, ◌+◌, ◌<◌, ◌≤◌, ◌≡◌, List, ◌++◌, length, take}

-- a front of a legal history: something can follow that makes one
abbrev pub IsFrontOf : {A : Type 0} → (List A → Type 0) → List A → Type 0
IsFrontOf {A} Legal front = (rest : List A) × Legal (front ++ rest)

-- the first fault of a history is at the place up to which it is a front of a legal one and no further; it is at the
-- length of a history that is such a front and not legal itself, since something is missing there
pub record IsFirstFault {A : Type 0} (Legal : List A → Type 0) (history : List A) (place : ℕ) : Type 0 where
  pub within : place ≤ length history
  pub front : IsFrontOf Legal (take place history)
  pub further : place < length history → IsFrontOf Legal (take (place + 1) history) → ⊥
  pub missing : place ≡ length history → Legal history → ⊥
