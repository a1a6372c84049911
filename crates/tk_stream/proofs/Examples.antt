-- The worked rows of a stream, computed: how bytes are cut, what each line is, and what is first.
use Rattle.std.proofs.Common.{◌≡◌, pos, ◌∷◌, [], Ok, Err, Some, true, false, codes, refl, List, ℕ}
use Rattle.std.specs.Prelude.{neg_ℤ}
use Rattle.std.specs.Str.Lines.{lines}
use Rattle.csv.proofs.OnLiterals.{csv_on_literals}
use Rattle.tk_input.specs.Records.{through}
use Rattle.tk_stream.specs.First.{first_of}
use Rattle.tk_stream.specs.Line.{line_change, line_of}
use Rattle.tk_stream.specs.Lines.{behind_feed}
use Rattle.tk_stream.specs.declared.line_fault.LineFault.TheVariants as l
use Rattle.tk_window.specs.Ticks.Entry.{Made, Mark}

-- the names a and b
abbrev names : List (List ℕ)
names = codes "a" ∷ codes "b" ∷ []

-- the lines behind the third
abbrev rest : List (List ℕ)
rest = codes "c,1" ∷ codes "b;2" ∷ codes "a,x" ∷ codes "b,-1" ∷ []

-- a carriage return goes in front of a line feed alone, an empty line is a line, and the last lacks its end
pub cut : lines (codes "a,5\r\n\n\"b\",3\nc,1\nb;2\na,x\nb,-1") ≡ codes "a,5" ∷ [] ∷ codes "\"b\",3" ∷ rest
cut = refl

-- the last line keeps its carriage return
pub last_return : lines (codes "a,5\nb\r") ≡ codes "a,5" ∷ codes "b\r" ∷ []
last_return = refl

-- what is behind a line that is passed over
pub passed : behind_feed (codes "aaa\nb,3\n") ≡ codes "b,3\n"
passed = refl

-- the first line is a record
pub first : first_of false names true 0 0 (codes "a,5" ∷ [] ∷ codes "\"b\",3" ∷ rest)
    ≡ record { what = Ok (Some (Made (1, pos 5))); number = 1; skipped = 0; left = [] ∷ codes "\"b\",3" ∷ rest }
unfolding csv_on_literals through first_of
first = refl

-- an empty line is passed over, and counts
pub behind_empty : first_of false names true 1 0 ([] ∷ codes "\"b\",3" ∷ rest) ≡ record { what = Ok (Some (Made (2, pos 3))); number = 3; skipped = 0; left = rest }
unfolding csv_on_literals through first_of
behind_empty = refl

-- three bad lines are skipped
pub skipped : first_of false names true 3 0 rest ≡ record { what = Ok (Some (Made (2, neg_ℤ (pos 1)))); number = 7; skipped = 3; left = [] }
unfolding csv_on_literals through first_of
skipped = refl

-- or the first of them is a fault
pub unknown_name : first_of false names false 3 0 rest
    ≡ record { what = Err l.UnknownName; number = 4; skipped = 0; left = codes "b;2" ∷ codes "a,x" ∷ codes "b,-1" ∷ [] }
unfolding csv_on_literals through first_of
unknown_name = refl

-- as the others are behind it
pub bad_row : line_of false names (codes "b;2") ≡ Some (Err l.BadRow)
unfolding csv_on_literals through
bad_row = refl

pub bad_number : line_of false names (codes "a,x") ≡ Some (Err l.BadNumber)
unfolding csv_on_literals through
bad_number = refl

-- a quoted field ends with its line
pub open_quote : first_of false names false 0 0 (lines (codes "\"a,5\nb,3\n")) ≡ record { what = Err l.BadRow; number = 1; skipped = 0; left = codes "b,3" ∷ [] }
unfolding csv_on_literals through first_of
open_quote = refl

-- so it does not reach the next one
pub behind_quote : first_of false names true 0 0 (lines (codes "\"a,5\nb,3\n")) ≡ record { what = Ok (Some (Made (2, pos 3))); number = 2; skipped = 1; left = [] }
unfolding csv_on_literals through first_of
behind_quote = refl

-- a line with a carriage return within is a log of two records
pub two_records : line_change names (codes "a,1\rb,2") ≡ Err l.BadRow
unfolding csv_on_literals through
two_records = refl

-- a byte order mark is dropped at the front of a line
pub mark : line_change names (0xEF ∷ 0xBB ∷ 0xBF ∷ codes "a,1") ≡ Ok (1, pos 1)
unfolding csv_on_literals through
mark = refl

-- a line of the single field `tick` ends a tick, also where it is quoted
pub tick : first_of true names false 0 0 (codes "tick" ∷ codes "a,5" ∷ []) ≡ record { what = Ok (Some Mark); number = 1; skipped = 0; left = codes "a,5" ∷ [] }
unfolding csv_on_literals through first_of
tick = refl

pub quoted_tick : line_of true names (codes "\"tick\"") ≡ Some (Ok Mark)
unfolding csv_on_literals through
quoted_tick = refl

-- without ticks it is a bad row
pub no_tick : line_of false names (codes "tick") ≡ Some (Err l.BadRow)
unfolding csv_on_literals through
no_tick = refl

-- two marks in a line are a bad row
pub two_ticks : line_of true names (codes "tick\rtick") ≡ Some (Err l.BadRow)
unfolding csv_on_literals through
two_ticks = refl

-- an object of that name is counted by two fields
pub named_tick : line_of true (codes "tick" ∷ []) (codes "tick,5") ≡ Some (Ok (Made (1, pos 5)))
unfolding csv_on_literals through
named_tick = refl
