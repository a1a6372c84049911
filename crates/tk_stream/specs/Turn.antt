-- What one turn of a reader of records does. No public clause cites it.
use Rattle.std.specs.Prelude.{◌≡◌, ℕ, Bool, true, false, List, Some, None, Result, Ok, Err}
use Rattle.tk_input.specs.Files.{one_more}
use Rattle.tk_stream.specs.Line.{IsItemOf}
use Rattle.tk_stream.specs.Records.{FindsItem, Unread, first_in}
use Rattle.tk_stream.specs.declared.line.Judged.{Judged}
use Rattle.tk_stream.specs.declared.line.Judged.TheVariants as j
use Rattle.tk_stream.specs.declared.records.StreamFault.{StreamFault}
use Rattle.tk_stream.specs.declared.records.StreamFault.TheVariants as f
use Rattle.tk_stream.specs.declared.records.Turn.{Turn}
use Rattle.tk_stream.specs.declared.records.Turn.TheVariants as t

-- what comes of a line that was counted, and what becomes of the count of skipped lines
abbrev pub Counts : Judged → Bool → Result Turn StreamFault → ℕ → ℕ → ℕ → Type 0
Counts j.Empty skips result number old new = (result ≡ Ok t.More) × (new ≡ old)
Counts (j.Found item) skips result number old new = (result ≡ Ok (t.Found item)) × (new ≡ old)
Counts (j.Bad fault) true result number old new = (result ≡ Ok t.More) × (new ≡ one_more old)
Counts (j.Bad fault) false result number old new = (result ≡ Err (f.Bad number fault)) × (new ≡ old)

-- what a turn does to what is unread: what is first stays so, or is taken
abbrev pub Turns : Bool → List (List ℕ) → Turn → Unread → Unread → Type 0
Turns ticks names t.More old new = old.tells ≡ true → first_in ticks names old ≡ first_in ticks names new
Turns ticks names (t.Found item) old new = FindsItem ticks names (Some item) old new
Turns ticks names t.End old new = FindsItem ticks names None old new

-- a record is of one of so many objects, and a tick comes only where ticks are known
abbrev pub IsTurnOf : Bool → ℕ → Turn → Type 0
IsTurnOf ticks objects t.More = Unit {0}
IsTurnOf ticks objects (t.Found item) = IsItemOf ticks objects item
IsTurnOf ticks objects t.End = Unit {0}
