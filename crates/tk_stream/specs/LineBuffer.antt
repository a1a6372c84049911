-- The bytes of a stream that were read and are not taken as lines. No public clause cites it.
use Rattle.std.specs.Prelude.{ℕ, Bool, List, ◌++◌}
use Rattle.tk_stream.specs.Lines.{lines_left}

-- the bytes, and whether they begin inside a line that is passed over
pub record Held : Type 0 where
  pub bytes : List ℕ
  pub passing : Bool

-- the lines that are left of the bytes that are held and of those to come
abbrev pub left_in : Held → List ℕ → List (List ℕ)
left_in h content = lines_left h.passing (h.bytes ++ content)
