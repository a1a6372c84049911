-- A queue of bytes, as contracts see it.
use Rattle.std.specs.Prelude.{ℕ, ◌-◌, min, List, ◌++◌, length, take, drop}

-- all bytes that have left it, those in it in their order, and how many it has room for
pub record Queue : Type 0 where
  pub past : List ℕ
  pub bytes : List ℕ
  pub room : ℕ

-- how many more bytes fit
abbrev pub free : Queue → ℕ
free q = q.room - length q.bytes

-- the queue with these bytes at its end
abbrev pub with_more : List ℕ → Queue → Queue
with_more bytes q = record q { bytes = q.bytes ++ bytes }

-- the queue without its first n bytes
abbrev pub without : ℕ → Queue → Queue
without n q = record q { past = q.past ++ take n q.bytes; bytes = drop n q.bytes }

-- how many bytes go from one queue to another, where at most so many may
abbrev pub passing : ℕ → Queue → Queue → ℕ
passing most from to = min most (min (length from.bytes) (free to))
