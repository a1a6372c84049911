-- The number of a run on the wire: processes of another run, or with another list of objects, have another one.
use Rattle.std.specs.Prelude.{ℕ, ◌*◌, ◌%◌, ◌^◌, ◌++◌, List, bit_xor, codes, decimal, flat_map, fold}

-- the mark of some bytes with one more, as a 64-bit FNV-1a goes on
abbrev pub mark_with : ℕ → ℕ → ℕ
mark_with mark byte = (bit_xor mark byte * 1099511628211) % 2 ^ 64

-- that of some bytes behind others of this mark
abbrev pub mark_behind : ℕ → List ℕ → ℕ
mark_behind mark bytes = fold mark_with mark bytes

-- the 64-bit FNV-1a of some bytes
abbrev pub mark_of : List ℕ → ℕ
mark_of bytes = mark_behind 14695981039346656037 bytes

-- the lines of some names
abbrev pub name_lines : List (List ℕ) → List ℕ
name_lines names = flat_map (λ name. name ++ codes "\n") names

-- the bytes that are marked: the run's number as a line, and each name as one
abbrev pub run_lines : ℕ → List (List ℕ) → List ℕ
run_lines run names = decimal run ++ codes "\n" ++ name_lines names

-- the number on the wire of a run with these names
abbrev pub run_mark : ℕ → List (List ℕ) → ℕ
run_mark run names = mark_of (run_lines run names)
