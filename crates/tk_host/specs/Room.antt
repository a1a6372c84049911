-- How many bytes the frames of a session's journal have together.
use Rattle.std.specs.Prelude.{ℕ, ◌≤◌, ◌<◌, List, sum_by}
use Rattle.tk_journal.specs.declared.noted.Noted.{Noted}
use Rattle.tk_ledger.specs.Ledger.{bytes_in}

-- the most that they may have before a turn: 256 MiB
abbrev pub most_bytes : ℕ
most_bytes = 268435456

-- the bytes of all frames that a journal has got and sent, by their lengths in version 1
abbrev pub bytes_of : List Noted → ℕ
bytes_of journal = sum_by bytes_in journal

-- a journal has room for a turn
abbrev pub HasRoom : List Noted → Type 0
HasRoom journal = bytes_of journal ≤ most_bytes

-- a journal is full
abbrev pub IsFull : List Noted → Type 0
IsFull journal = most_bytes < bytes_of journal
