-- What an event may ask for.
use Rattle.std.specs.Prelude.{ℕ}

-- the k and epsilon that a retune asks for
pub record Tuning : Type 0 where
  pub k : ℕ
  pub epsilon : ℕ
