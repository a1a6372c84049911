-- The grammar of traces: the bytes of a recorded run. Numbers stand with their highest byte first.
use Rattle.std.specs.Prelude.{FitsSigned, ◌≡◌, ◌<◌, ◌≤◌, ◌^◌, ◌≤ℤ◌, ℕ, ℤ, pos, unsigned_abs, codes, List, ◌∷◌, ◌++◌, length, Ok}
use Rattle.std.specs.Int.{w128}
use Rattle.std.specs.List.{flat_map, All, AllZip}
use Rattle.byteorder.specs.Endian.{big_bytes}
use Rattle.tk_base.specs.Settings.{Setup, IsWithinLimits}
use Rattle.tk_base.specs.Objects.{IsOneOf}
use Rattle.tk_input.specs.Catalog.{catalog_from}
use Rattle.tk_input.specs.Logs.{AreGathered}
use Rattle.tk_frames.specs.declared.frame.Frame.{Frame}
use Rattle.tk_frames.specs.Spelling.{ArePlaces, IsSet, IsSpelling, flag, places, set, signed, spelling}
use Rattle.tk_journal.specs.declared.noted.Noted.{Noted}
use Rattle.tk_journal.specs.declared.noted.Noted.TheVariants as n
use Rattle.tk_journal.specs.declared.publication.Publication.{Publication}
use Rattle.tk_trail.specs.declared.entry.Entry.{Entry}
use Rattle.tk_trail.specs.declared.entry.Entry.TheVariants as e
use Rattle.tk_story.specs.Story.{StoryView}
use Rattle.tk_trace.specs.Recorded.{Recorded, recorded_of}

-- ---- the bytes

-- the eight bytes with which every trace begins
abbrev pub mark : List ℕ
mark = codes "TOPKTRC1"

-- a number in so many bytes, the highest first
unfoldable pub number : ℕ → ℕ → List ℕ
number size n = big_bytes size n

-- how many there are, and then each
abbrev pub counted : {X : Type 0} → ℕ → (X → List ℕ) → List X → List ℕ
counted size spell xs = number size (length xs) ++ flat_map spell xs

-- k and epsilon
abbrev pub bounds : ℕ → ℤ → List ℕ
bounds k epsilon = number 4 k ++ number 16 (unsigned_abs epsilon)

-- what the run was set up with
abbrev pub setup : Setup → List ℕ
setup s = bounds s.k s.epsilon ++ (number 4 s.own_weight ++ (number 4 s.objects ++ number 4 s.monitors))

-- a name behind its length
abbrev pub name : List ℕ → List ℕ
name bytes = number 1 (length bytes) ++ bytes

-- a change: an object and by how much
abbrev pub change : ℕ × ℤ → List ℕ
change c = number 4 c.0 ++ signed 1 c.1

-- the changes of a part behind how many they are
abbrev pub part : List (ℕ × ℤ) → List ℕ
part changes = counted 4 change changes

-- the parts of a monitor behind how many they are
abbrev pub row : List (List (ℕ × ℤ)) → List ℕ
row parts = counted 1 part parts

-- a set of members with the places of each monitor
abbrev pub publication : Publication → List ℕ
publication p = number 8 p.number ++ (flag p.last ++ (bounds p.k p.epsilon ++ (set 1 p.members ++ flat_map (places 1) p.cut)))

-- an entry of the journal behind the byte of its kind
abbrev pub noted : Noted → List ℕ
noted (n.Got mon frame) = 1 ∷ (number 4 mon.0 ++ spelling 1 frame)
noted (n.Sent mon frame) = 2 ∷ (number 4 mon.0 ++ spelling 1 frame)
noted (n.Published p) = 3 ∷ publication p
noted (n.Tuned k epsilon) = 4 ∷ bounds k epsilon

-- an entry of a trail behind the byte of its kind
abbrev pub entry : Entry → List ℕ
entry (e.Raised feeder) = 1 ∷ number 1 feeder.0
entry (e.Took frame) = 2 ∷ spelling 1 frame
entry (e.Sent frame) = 3 ∷ spelling 1 frame

-- the entries of the journal behind how many they are
abbrev pub journal : List Noted → List ℕ
journal entries = counted 8 noted entries

-- the entries of a trail behind how many they are
abbrev pub trail : List Entry → List ℕ
trail entries = counted 8 entry entries

-- the bytes of a recorded run
unfoldable pub trace : Recorded → List ℕ
trace r = mark ++ (setup r.settings ++ (flat_map name r.names ++ (flat_map row r.logs.logs ++ (journal r.journal ++ flat_map trail r.trails))))

-- the trace of a story over these names
abbrev pub trace_of : List (List ℕ) → StoryView → List ℕ
trace_of names s = trace (recorded_of names s)

-- ---- what can be recorded

-- epsilon is a number from 0 on, within its type
pub record IsEpsilon (epsilon : ℤ) : Type 0 where
  pub from_zero : pos 0 ≤ℤ epsilon
  pub within : FitsSigned w128 epsilon

-- a frame that has a spelling
abbrev pub IsFrame : Frame → Type 0
IsFrame frame = IsSpelling 1 frame (spelling 1 frame)

-- a publication among so many monitors: each number within its type, an ascending set, and the places of each monitor
pub record IsPublication (many : ℕ) (p : Publication) : Type 0 where
  pub number : p.number < 2 ^ 64
  pub k : p.k < 2 ^ 32
  pub epsilon : IsEpsilon p.epsilon
  pub members : IsSet p.members
  pub monitors : length p.cut ≡ many
  pub places : All ArePlaces p.cut

-- an entry of a journal among so many monitors
abbrev pub IsNoted : ℕ → Noted → Type 0
IsNoted monitors (n.Got mon frame) = IsOneOf monitors mon.0 × IsFrame frame
IsNoted monitors (n.Sent mon frame) = IsOneOf monitors mon.0 × IsFrame frame
IsNoted monitors (n.Published p) = IsPublication monitors p
IsNoted monitors (n.Tuned k epsilon) = (k < 2 ^ 32) × IsEpsilon epsilon

-- an entry of a trail of a monitor with so many feeders
abbrev pub IsEntry : ℕ → Entry → Type 0
IsEntry feeders (e.Raised feeder) = IsOneOf feeders feeder.0
IsEntry feeders (e.Took frame) = IsFrame frame
IsEntry feeders (e.Sent frame) = IsFrame frame

-- the trail of a monitor with these parts, one feeder for each
abbrev pub IsTrail : List (List (ℕ × ℤ)) → List Entry → Type 0
IsTrail parts trail = (length trail < 2 ^ 64) × All (IsEntry (length parts)) trail

-- names, settings and logs are within the rules and of one size, there is a trail for each monitor, and each monitor
-- and feeder that is named is there
pub record IsRecorded (r : Recorded) : Type 0 where
  pub settings : IsWithinLimits r.settings
  pub names : catalog_from r.names ≡ Ok r.names
  pub named : length r.names ≡ r.settings.objects
  pub logs : AreGathered r.logs
  pub objects : r.logs.objects ≡ r.settings.objects
  pub monitors : length r.logs.logs ≡ r.settings.monitors
  pub few : length r.journal < 2 ^ 64
  pub journal : All (IsNoted r.settings.monitors) r.journal
  pub trails : AllZip IsTrail r.logs.logs r.trails

-- the bytes are a trace of this run
pub record IsTrace (bytes : List ℕ) (r : Recorded) : Type 0 where
  pub recorded : IsRecorded r
  pub spelled : bytes ≡ trace r
