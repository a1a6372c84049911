-- A reader over bytes in memory; no public clause cites this file.
use Rattle.std.specs.Prelude.{◌≡◌, ℕ, ◌+◌, Bool, true, false, List, [], length, Option, Some, None, IsSome}
use Rattle.csv.specs.declared.parser.State.{State}
use Rattle.csv.specs.declared.reader.Reader.{Reader}
use Rattle.csv.specs.declared.reader.Trim.TheVariants as trim
use Rattle.csv.specs.Reading.{Ready, default_config, has_failed, is_flexible, reader_config, reader_state, reader_trim, records_from, source_of}
use Rattle.std.specs.Borrow.{Bor}

-- the bytes behind a slice
abbrev pub behind : Bor (List ℕ) → Option (List ℕ)
behind s = Some s.now

-- the records of these bytes, from a state
abbrev pub records_of : State → Option (List ℕ) → List (List (List ℕ))
records_of s None = []
records_of s (Some bytes) = records_from default_config (length bytes + 1) s bytes

-- the records that are still to be read
abbrev pub left_of : Bool → Reader (Bor (List ℕ)) → List (List (List ℕ))
left_of true r = []
left_of false r = records_of (reader_state r) (source_of behind r)

-- a reader that has not ended reads on
pub record Reads (r : Reader (Bor (List ℕ))) : Type 0 where
  pub config : reader_config r ≡ default_config
  pub trim : reader_trim r ≡ trim.None
  pub flexible : is_flexible r ≡ true
  pub goes : has_failed r ≡ false
  pub ready : Ready r
  pub known : IsSome (source_of behind r)

-- one that has ended reads no more
abbrev pub IsReading : Bool → Reader (Bor (List ℕ)) → Type 0
IsReading true r = Unit
IsReading false r = Reads r
