-- Bytes in which csv treats nothing apart but commas and line feeds, and what they are cut into. No public clause cites it.
use Rattle.std.specs.Prelude.{ℕ, ◌==◌, ◌||◌, Bool, true, false, not, List, [], ◌∷◌, map, filter}
use Rattle.std.specs.List.{list_any, slice_split}

-- a quote, a carriage return, or the first byte of a byte order mark
abbrev pub is_apart : ℕ → Bool
is_apart b = b == 34 || b == 13 || b == 239

-- a text has none of them
abbrev pub is_plain : List ℕ → Bool
is_plain text = not (list_any is_apart text)

-- the fields of a line: what stands between its commas
abbrev pub cut_fields : List ℕ → List (List ℕ)
cut_fields line = slice_split (λ b. b == 44) line

-- whether a line has a byte
abbrev pub is_filled : List ℕ → Bool
is_filled [] = false
is_filled (b ∷ line) = true

-- the records of some lines: one of each that is not empty
abbrev pub rows_of : List (List ℕ) → List (List (List ℕ))
rows_of lines = map cut_fields (filter is_filled lines)

-- the records of a text: those of what stands between its line feeds
abbrev pub cut_records : List ℕ → List (List (List ℕ))
cut_records text = rows_of (slice_split (λ b. b == 10) text)

-- a line in front of some records
abbrev pub with_line : List ℕ → List (List (List ℕ)) → List (List (List ℕ))
with_line [] rows = rows
with_line (b ∷ line) rows = cut_fields (b ∷ line) ∷ rows
