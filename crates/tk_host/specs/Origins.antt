-- From where the streams of a monitor are counted, by its greeting.
use Rattle.std.specs.Prelude.{ℕ, ℤ, pos, ◌+ℤ◌, ◌-ℤ◌, List, slice_index_or}
use Rattle.tk_wire.specs.declared.beginning.Beginning.{Beginning}

-- the beginning of a stream of which nobody told
abbrev pub none : Beginning
none = record { count = 0; start = 0 }

-- the origin of a stream: how many records it has given, without the place at which it starts
abbrev pub origin_of : Beginning → ℤ
origin_of b = pos b.count -ℤ pos b.start

-- the absolute place of a stream: its origin and its place
abbrev pub absolute : List Beginning → List ℕ → ℕ → ℤ
absolute beginnings places i = origin_of (slice_index_or beginnings i none) +ℤ pos (slice_index_or places i 0)
