-- The lines of a stream. A line ends with a line feed, and a carriage return just in front of that is no part of it; the last
-- line may lack its end, and then keeps its carriage return. So `lines` of the standard library cuts bytes.
use Rattle.std.specs.Prelude.{ℕ, ◌==◌, Bool, true, false, List, [], ◌∷◌, if◌then◌else◌}
use Rattle.std.specs.Str.Lines.{lines}

-- the bytes behind the first line feed
abbrev pub behind_feed : List ℕ → List ℕ
behind_feed [] = []
behind_feed (b ∷ bytes) = if b == 10 then bytes else behind_feed bytes

-- the lines that are left of some bytes, which may begin inside a line that was passed over
abbrev pub lines_left : Bool → List ℕ → List (List ℕ)
lines_left true bytes = lines (behind_feed bytes)
lines_left false bytes = lines bytes
