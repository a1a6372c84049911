-- Reading from left to right, as the code does. No public clause cites it.
use Rattle.std.specs.Prelude.{◌≡◌, ◌==◌, ◌&&◌, ◌^◌, ℕ, zero, suc, ℤ, pos, Bool, List, [], ◌∷◌, length, take, drop, Option, Some, None, Result, Ok, Err, nat_lt, nat_le, nat_eq, if◌then◌else◌, ⊤}
use Rattle.std.specs.Cmp.Lexicographic.{pointwise}
use Rattle.std.specs.Int.{w128, cast_signed}
use Rattle.byteorder.specs.Endian.{big_number}
use Rattle.tk_base.specs.Settings.{Setup, settings_of}
use Rattle.tk_input.specs.Catalog.{catalog_from}
use Rattle.tk_input.specs.Judged.{judged}
use Rattle.tk_input.specs.Logs.{LogSet}
use Rattle.tk_frames.specs.declared.frame.Frame.{Frame}
use Rattle.tk_frames.specs.declared.answer.Next.{Next}
use Rattle.tk_frames.specs.declared.answer.Next.TheVariants.{Whole, Part, Bad}
use Rattle.tk_frames.specs.Reading.{Found, ◌>>=◌, as_at, both_at, items_at, next_of, object_if, flag_at}
use Rattle.tk_frames.specs.Spelling.{no_object, object_itself}
use Rattle.tk_journal.specs.declared.noted.Noted.{Noted}
use Rattle.tk_journal.specs.declared.noted.Noted.TheVariants as n
use Rattle.tk_journal.specs.declared.publication.Publication.{Publication}
use Rattle.tk_trail.specs.declared.entry.Entry.{Entry}
use Rattle.tk_trail.specs.declared.entry.Entry.TheVariants as e
use Rattle.tk_trace.specs.Recorded.{Recorded}
use Rattle.tk_trace.specs.Spelling.{mark}
use Rattle.tk_trace.specs.declared.fault.ParseFault.{ParseFault}
use Rattle.tk_trace.specs.declared.fault.ParseFault.TheVariants as fault

-- ---- what a reader gives

-- reading finds nothing, unless the fault is want of memory
abbrev pub Fails : {Y : Type 0} → ParseFault → Option Y → Type 0
Fails fault.NoMemory read = ⊤
Fails fault.NotATrace read = read ≡ None

-- what a function returned, seen by view, is what reading finds, unless memory ran out
abbrev pub Gives : {X Y : Type 0} → (X → Y) → Result X ParseFault → Option Y → Type 0
Gives view (Ok x) read = read ≡ Some (view x)
Gives view (Err e) read = Fails e read

-- what is made, unless there is a fault
abbrev pub if_ok : {A E : Type 0} → Result A E → Option A
if_ok (Ok x) = Some x
if_ok (Err e) = None

-- a value and the bytes after it, where it passes a test
abbrev pub if_passes : {X : Type 0} → (X → Bool) → X × List ℕ → Found X
if_passes test x = if test x.0 then Some x else None

-- what is read, where it passes a test
abbrev pub tested_at : {X : Type 0} → (X → Bool) → (List ℕ → Found X) → List ℕ → Found X
tested_at test read bytes = read bytes >>= if_passes test

-- so many, one after the other
unfoldable pub times_at : {X : Type 0} → (List ℕ → Found X) → ℕ → List ℕ → Found (List X)
times_at read zero bytes = Some ([], bytes)
times_at read (suc count) bytes = do
  first ← read bytes
  others ← times_at read count first.1
  Some (first.0 ∷ others.0, others.1)

-- a number in so many bytes
abbrev pub number_at : ℕ → List ℕ → Found ℕ
number_at size bytes = if nat_lt (length bytes) size then None else Some (big_number size bytes, drop size bytes)

-- how many there are, in so many bytes and within a limit, and then each
abbrev pub counted_at : {X : Type 0} → ℕ → (ℕ → Bool) → (List ℕ → Found X) → List ℕ → Found (List X)
counted_at size few read bytes = tested_at few (number_at size) bytes >>= λ count. times_at read count.0 count.1

-- ---- single fields

-- a signed number in 16 bytes, in two's complement
unfoldable pub signed_at : List ℕ → Found ℤ
signed_at bytes = as_at (cast_signed w128) (number_at 16) bytes

-- an object above the one before
unfoldable pub object_at : ℕ → List ℕ → Found ℕ
object_at before bytes = number_at 4 bytes >>= λ n. object_if before n.0 n.1

-- an ascending set of objects, behind how many they are
unfoldable pub set_at : List ℕ → Found (List ℕ)
set_at bytes = number_at 4 bytes >>= λ count. items_at object_itself object_at 0 count.0 count.1

-- the place of a feeder, whatever the one before is
abbrev pub place_at : ℕ → List ℕ → Found ℕ
place_at before bytes = number_at 4 bytes

-- the places of the feeders of one monitor, behind how many they are
unfoldable pub places_at : List ℕ → Found (List ℕ)
places_at bytes = number_at 4 bytes >>= λ count. items_at no_object place_at 0 count.0 count.1

-- ---- settings and names

-- a number of one of so many, from 1
abbrev pub is_one_of : ℕ → ℕ → Bool
is_one_of many number = nat_lt 0 number && nat_le number many

-- whether a number is within the type of an epsilon
abbrev pub is_epsilon : ℕ → Bool
is_epsilon n = nat_lt n (2 ^ 127)

-- an epsilon, which is not negative
unfoldable pub epsilon_at : List ℕ → Found ℤ
epsilon_at bytes = as_at pos (tested_at is_epsilon (number_at 16)) bytes

-- what a run is set up with, within the limits
unfoldable pub setup_at : List ℕ → Found Setup
setup_at bytes = do
  x ← both_at (both_at (number_at 4) (number_at 16)) (both_at (number_at 4) (both_at (number_at 4) (number_at 4))) bytes
  s ← if_ok (settings_of x.0.0.0 x.0.0.1 x.0.1.0 x.0.1.1.0 x.0.1.1.1)
  Some (s, x.1)

-- the text of a name, of so many bytes
abbrev pub text_at : ℕ → List ℕ → Found (List ℕ)
text_at size bytes = if nat_lt (length bytes) size then None else Some (take size bytes, drop size bytes)

-- a name behind its length
unfoldable pub name_at : List ℕ → Found (List ℕ)
name_at bytes = number_at 1 bytes >>= λ size. text_at size.0 size.1

-- the names of so many objects, within the rules of a catalogue
unfoldable pub names_at : ℕ → List ℕ → Found (List (List ℕ))
names_at objects bytes = do
  x ← times_at name_at objects bytes
  names ← if_ok (catalog_from x.0)
  Some (names, x.1)

-- ---- logs

-- a change: one of so many objects, and by how much
unfoldable pub change_at : ℕ → List ℕ → Found (ℕ × ℤ)
change_at objects bytes = both_at (tested_at (is_one_of objects) (number_at 4)) signed_at bytes

-- the changes of a part, at most 1,000,000, behind how many they are
unfoldable pub part_at : ℕ → List ℕ → Found (List (ℕ × ℤ))
part_at objects bytes = counted_at 4 (λ count. nat_le count 1000000) (change_at objects) bytes

-- the parts of a monitor, 1 to 8, behind how many they are
unfoldable pub row_at : ℕ → List ℕ → Found (List (List (ℕ × ℤ)))
row_at objects bytes = counted_at 1 (is_one_of 8) (part_at objects) bytes

-- the parts of all monitors as logs over so many objects
abbrev pub log_set : ℕ → List (List (List (ℕ × ℤ))) → LogSet
log_set objects logs = record { logs = logs; objects = objects }

-- the logs of so many monitors, within the rules of logs
unfoldable pub logs_at : ℕ → ℕ → List ℕ → Found LogSet
logs_at objects monitors bytes = do
  x ← times_at (row_at objects) monitors bytes
  logs ← if_ok (judged (log_set objects x.0))
  Some (logs, x.1)

-- ---- histories

-- what stands at the front, as a frame
abbrev pub frame_in : List ℕ → Next → Found Frame
frame_in bytes (Whole frame size) = Some (frame, drop size bytes)
frame_in bytes Part = None
frame_in bytes (Bad why) = None

-- a frame, as version 1 spells it
unfoldable pub frame_at : List ℕ → Found Frame
frame_at bytes = frame_in bytes (next_of 1 bytes)

-- one of so many monitors, and a frame that passed on its links
unfoldable pub link_at : ℕ → List ℕ → Found (ℕ × Frame)
link_at monitors bytes = both_at (tested_at (is_one_of monitors) (number_at 4)) frame_at bytes

-- k and epsilon
unfoldable pub bounds_at : List ℕ → Found (ℕ × ℤ)
bounds_at bytes = both_at (number_at 4) epsilon_at bytes

-- a publication of its fields in their order
abbrev pub published : ℕ × (Bool × ((ℕ × ℤ) × (List ℕ × List (List ℕ)))) → Publication
published x = record {
  number = x.0;
  last = x.1.0;
  k = x.1.1.0.0;
  epsilon = x.1.1.0.1;
  members = x.1.1.1.0;
  cut = x.1.1.1.1;
}

-- a publication with the places of each of so many monitors
unfoldable pub publication_at : ℕ → List ℕ → Found Publication
publication_at monitors bytes = as_at published (both_at (number_at 8) (both_at flag_at (both_at bounds_at (both_at set_at (times_at places_at monitors))))) bytes

-- the entry of a frame got from a monitor
abbrev pub got : ℕ × Frame → Noted
got x = n.Got (record { 0 = x.0 }) x.1

-- the entry of a frame sent to a monitor
abbrev pub sent : ℕ × Frame → Noted
sent x = n.Sent (record { 0 = x.0 }) x.1

-- the entry of a retune to this k and epsilon
abbrev pub tuned : ℕ × ℤ → Noted
tuned x = n.Tuned x.0 x.1

-- the entry of a publication
abbrev pub told : Publication → Noted
told p = n.Published p

-- an entry of the journal by the byte of its kind
unfoldable pub noted_at : ℕ → List ℕ → Found Noted
noted_at monitors [] = None
noted_at monitors (kind ∷ bytes) =
    if kind == 1 then as_at got (link_at monitors) bytes
    else (if kind == 2 then as_at sent (link_at monitors) bytes
    else (if kind == 3 then as_at told (publication_at monitors) bytes
    else (if kind == 4 then as_at tuned bounds_at bytes
    else None)))

-- the entry of a raised change of a feeder
abbrev pub raised : ℕ → Entry
raised feeder = e.Raised (record { 0 = feeder })

-- the entry of a frame that a monitor took
abbrev pub took : Frame → Entry
took frame = e.Took frame

-- the entry of a frame that a monitor sent
abbrev pub said : Frame → Entry
said frame = e.Sent frame

-- an entry of a trail by the byte of its kind, where there are so many feeders
unfoldable pub entry_at : ℕ → List ℕ → Found Entry
entry_at feeders [] = None
entry_at feeders (kind ∷ bytes) =
    if kind == 1 then as_at raised (tested_at (is_one_of feeders) (number_at 1)) bytes
    else (if kind == 2 then as_at took frame_at bytes
    else (if kind == 3 then as_at said frame_at bytes
    else None))

-- the entries of the journal, behind how many they are
unfoldable pub journal_at : ℕ → List ℕ → Found (List Noted)
journal_at monitors bytes = number_at 8 bytes >>= λ count. times_at (noted_at monitors) count.0 count.1

-- the entries of a trail, behind how many they are
unfoldable pub trail_at : ℕ → List ℕ → Found (List Entry)
trail_at feeders bytes = number_at 8 bytes >>= λ count. times_at (entry_at feeders) count.0 count.1

-- a trail for each monitor
unfoldable pub trails_at : List (List (List (ℕ × ℤ))) → List ℕ → Found (List (List Entry))
trails_at [] bytes = Some ([], bytes)
trails_at (row ∷ logs) bytes = do
  first ← trail_at (length row) bytes
  others ← trails_at logs first.1
  Some (first.0 ∷ others.0, others.1)

-- ---- the whole

-- what stands behind the mark
abbrev pub behind_mark : List ℕ → Option (List ℕ)
behind_mark bytes = if pointwise nat_eq (take 8 bytes) mark then Some (drop 8 bytes) else None

-- nothing may follow
abbrev pub at_the_end : {X : Type 0} → X → List ℕ → Option X
at_the_end x [] = Some x
at_the_end x (b ∷ rest) = None

-- what was recorded over these settings
unfoldable pub run_at : Setup → List ℕ → Option Recorded
run_at settings bytes = do
  names ← names_at settings.objects bytes
  logs ← logs_at settings.objects settings.monitors names.1
  journal ← journal_at settings.monitors logs.1
  trails ← trails_at logs.0.logs journal.1
  at_the_end (record { names = names.0; settings = settings; logs = logs.0; journal = journal.0; trails = trails.0 }) trails.1

-- what was recorded in a whole trace: the settings behind the mark, and the rest behind them
unfoldable pub trace_at : List ℕ → Option Recorded
trace_at bytes = behind_mark bytes >>= λ front. setup_at front >>= λ settings. run_at settings.0 settings.1
