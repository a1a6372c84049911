-- Two wires that are joined by pipes.
use Rattle.std.specs.Prelude.{◌≡◌, ℕ, List, ◌++◌}
use Rattle.tk_wire.specs.Meanings.{Traffic}

-- what one wire was given is what the other took, and then what is on its way to it: the bytes that wait there,
-- those in the pipe between, and those that the first still holds
pub record Joins (from to : Traffic) (between : List ℕ) : Type 0 where
  pub bytes : from.went ≡ to.came ++ to.waiting ++ between ++ from.held

-- the one begins with the other
pub record BeginsWith (front whole : List ℕ) : Type 0 where
  pub rest : List ℕ
  pub parts : whole ≡ front ++ rest
