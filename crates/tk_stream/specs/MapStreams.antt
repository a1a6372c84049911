-- Streams in memory: what each read of them gives.
use Rattle.std.specs.Prelude.{ℕ, ◌==◌, min, Bool, List, [], length}
use Rattle.std.specs.List.{list_any}
use Rattle.std.specs.Option.{option_map_or}
use Rattle.tk_input.specs.Files.{one_more}
use Rattle.tk_input.specs.MapFiles.{content_of}

-- the bytes still to come, the most of one read, the numbers of the reads that fail, and how many reads there were and failed
pub record MapSourceView : Type 0 where
  pub rest : List ℕ
  pub piece : ℕ
  pub fails : List ℕ
  pub reads : ℕ
  pub faults : ℕ

-- the streams by name, and how a source of each reads
pub record MapStreamsView : Type 0 where
  pub streams : List (List ℕ × List ℕ)
  pub piece : ℕ
  pub fails : List ℕ

-- whether the next read fails
abbrev pub fails_next : MapSourceView → Bool
fails_next s = list_any (λ i. i == one_more s.reads) s.fails

-- how many bytes a read gives
abbrev pub read_now : ℕ → ℕ → List ℕ → ℕ
read_now piece room rest = min (min (length rest) piece) room

-- what the stream of a name gives, and nothing where there is none
abbrev pub bytes_of : MapStreamsView → List ℕ → List ℕ
bytes_of m name = option_map_or (λ bytes. bytes) (content_of m.streams name) []

-- a source that was just opened
abbrev pub opened : MapStreamsView → List ℕ → MapSourceView
opened m rest = record { rest = rest; piece = m.piece; fails = m.fails; reads = 0; faults = 0 }
