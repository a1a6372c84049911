-- The bytes that wait to be read as frames. No public clause cites it.
use Rattle.std.specs.Prelude.{◌≡◌, ℕ, List, [], Bool, true}
use Rattle.tk_wire.specs.Meanings.{Traffic, IsPiece}
use Rattle.tk_wire.specs.Buffered.{Gains}
use Rattle.tk_wire.specs.declared.wire.Took.{Took}
use Rattle.tk_wire.specs.declared.wire.Took.TheVariants as t

-- bytes in their order, and how many more have room behind them
pub record StoreView : Type 0 where
  pub held : List ℕ
  pub room : ℕ

-- what a take does to the bytes and to the wire
abbrev pub Fills : Took → Bool → List ℕ → List ℕ → Traffic → Traffic → Type 0
Fills (t.Bytes n) tells old new before after = IsPiece n 4096 × Gains n tells old new before after
Fills t.NotYet tells old new before after = (new ≡ old) × (tells ≡ true → (before.waiting ≡ []) × (after ≡ before))
Fills t.End tells old new before after = (new ≡ old) × (tells ≡ true → after ≡ before)
Fills t.Failed tells old new before after = (new ≡ old) × (tells ≡ true → after ≡ before)
