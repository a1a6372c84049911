-- Frames as bytes: the one spelling of each frame in each version.
use Rattle.std.specs.Prelude.{FitsSigned, ◌≡◌, ◌<◌, ◌≤◌, ◌⊎◌, ◌==◌, ◌+◌, ◌-◌, ◌*◌, ◌/◌, ◌%◌, ◌^◌, ℕ, zero, suc, ℤ, pos, negsuc, Bool, true, false, List, [], ◌∷◌, ◌++◌, length, nat_lt, if◌then◌else◌, ⊤}
use Rattle.std.specs.Int.{w128, cast_unsigned}
use Rattle.byteorder.specs.Endian.{big_bytes}
use Rattle.tk_frames.specs.declared.frame.Frame.{Frame}
use Rattle.tk_frames.specs.declared.frame.Frame.TheVariants as f
use Rattle.tk_frames.specs.declared.kind.Kind.{Kind}
use Rattle.tk_frames.specs.declared.kind.Kind.TheVariants as k
use Rattle.tk_frames.specs.Frame.{kind_of}

-- the versions that there are
abbrev pub IsVersion : ℕ → Type 0
IsVersion version = (version ≡ 1) ⊎ (version ≡ 2)

-- a number in groups of seven bits, least first, the top bit set where another follows; at most so many follow
unfoldable pub groups_within : ℕ → ℕ → List ℕ
groups_within zero n = n ∷ []
groups_within (suc more) n = if nat_lt n 128 then n ∷ [] else (128 + n % 128) ∷ groups_within more (n / 128)

-- the fewest groups that make the number
abbrev pub groups : ℕ → List ℕ
groups n = groups_within n n

-- a number of a type of `size` bytes: these bytes, the highest first, or its groups in version 2
unfoldable pub number : ℕ → ℕ → ℕ → List ℕ
number version size n = if version == 1 then big_bytes size n else groups n

-- 0, -1, 1, -2, 2, .. in the order in which they are counted from 0
abbrev pub zigzag : ℤ → ℕ
zigzag (pos n) = 2 * n
zigzag (negsuc n) = 2 * n + 1

-- a signed number as one from 0: in two's complement, or zigzag in version 2
abbrev pub unsigned_form : ℕ → ℤ → ℕ
unsigned_form version z = if version == 1 then cast_unsigned w128 z else zigzag z

-- a signed number of 16 bytes, in that form
unfoldable pub signed : ℕ → ℤ → List ℕ
signed version z = number version 16 (unsigned_form version z)

-- an object of 4 bytes: itself, or in version 2 how far it is above the one before
unfoldable pub object : ℕ → ℕ → ℕ → List ℕ
object version before o = number version 4 (if version == 1 then o else o - before)

-- items in turn, each after the object of the one before, the first after 0
unfoldable pub in_turn : {X : Type 0} → (X → ℕ) → (ℕ → X → List ℕ) → ℕ → List X → List ℕ
in_turn object_of spell before [] = []
in_turn object_of spell before (x ∷ xs) = spell before x ++ in_turn object_of spell (object_of x) xs

-- a fact of each item and of the object before it
abbrev pub EachInTurn : {X : Type 0} → (X → ℕ) → (ℕ → X → Type 0) → ℕ → List X → Type 0
EachInTurn object_of Fact before [] = ⊤
EachInTurn object_of Fact before (x ∷ xs) = Fact before x × EachInTurn object_of Fact (object_of x) xs

-- the object of an item that is one
abbrev pub object_itself : ℕ → ℕ
object_itself o = o

-- the object of a pair
abbrev pub pair_object : ℕ × ℤ → ℕ
pair_object p = p.0

-- a place has no object, so that each stands after 0
abbrev pub no_object : ℕ → ℕ
no_object place = 0

-- a pair after another object: its own object, then its number
abbrev pub pair : ℕ → ℕ → ℕ × ℤ → List ℕ
pair version before p = object version before p.0 ++ signed version p.1

-- a place of 4 bytes, whatever stands before it
abbrev pub place : ℕ → ℕ → ℕ → List ℕ
place version before p = number version 4 p

-- a count, and so many items in turn
unfoldable pub counted : {X : Type 0} → ℕ → (X → ℕ) → (ℕ → X → List ℕ) → List X → List ℕ
counted version object_of spell xs = number version 4 (length xs) ++ in_turn object_of spell 0 xs

-- ascending objects behind their count
abbrev pub set : ℕ → List ℕ → List ℕ
set version objects = counted version object_itself (object version) objects

-- pairs behind their count, ascending by object
abbrev pub pairs : ℕ → List (ℕ × ℤ) → List ℕ
pairs version ps = counted version pair_object (pair version) ps

-- places behind their count
abbrev pub places : ℕ → List ℕ → List ℕ
places version ps = counted version no_object (place version) ps

-- one byte, 0 or 1
abbrev pub flag : Bool → List ℕ
flag false = 0 ∷ []
flag true = 1 ∷ []

-- the fields of a frame in their order; a Hello has those of version 1 in both
abbrev pub fields : ℕ → Frame → List ℕ
fields version (f.Hello run speaks mon) = number 1 8 run ++ number 1 1 speaks ++ number 1 4 mon.0
fields version (f.Report seq border failed values) = number version 8 seq ++ signed version border ++ set version failed ++ pairs version values
fields version (f.Collect round objects) = number version 8 round ++ set version objects
fields version (f.Values round seq border values) = number version 8 round ++ number version 8 seq ++ signed version border ++ pairs version values
fields version (f.Assign seq members changes) = number version 8 seq ++ set version members ++ pairs version changes
fields version (f.Settled seq last reached) = number version 8 seq ++ flag last ++ places version reached
fields version f.Stop = []

-- the byte that says the kind
abbrev pub code_of : Kind → ℕ
code_of k.Hello = 1
code_of k.Report = 2
code_of k.Collect = 3
code_of k.Values = 4
code_of k.Assign = 5
code_of k.Settled = 6
code_of k.Stop = 7

-- the payload of a frame: the byte of its kind, and its fields
abbrev pub payload : ℕ → Frame → List ℕ
payload version frame = code_of (kind_of frame) ∷ fields version frame

-- a payload behind its length
abbrev pub framed : List ℕ → List ℕ
framed bytes = big_bytes 4 (length bytes) ++ bytes

-- the bytes of a frame in a version: its payload behind the length of that
abbrev pub spelling : ℕ → Frame → List ℕ
spelling version frame = framed (payload version frame)

-- an object is above the one before, and within its type
abbrev pub Above : ℕ → ℕ → Type 0
Above before o = (before < o) × (o < 2 ^ 32)

-- so is the object of a pair, and its number is within its type
abbrev pub PairAbove : ℕ → ℕ × ℤ → Type 0
PairAbove before p = Above before p.0 × FitsSigned w128 p.1

-- a place is within its type, whatever stands before it
abbrev pub IsPlace : ℕ → ℕ → Type 0
IsPlace before p = p < 2 ^ 32

-- the count of some items is within its type, and a fact holds of each and of the object before it
abbrev pub IsCounted : {X : Type 0} → (X → ℕ) → (ℕ → X → Type 0) → List X → Type 0
IsCounted object_of Fact xs = (length xs < 2 ^ 32) × EachInTurn object_of Fact 0 xs

-- objects that ascend, and are within their type
abbrev pub IsSet : List ℕ → Type 0
IsSet objects = IsCounted object_itself Above objects

-- pairs that ascend by object, and are within their types
abbrev pub ArePairs : List (ℕ × ℤ) → Type 0
ArePairs ps = IsCounted pair_object PairAbove ps

-- places that are within their type
abbrev pub ArePlaces : List ℕ → Type 0
ArePlaces ps = IsCounted no_object IsPlace ps

-- a Hello names a version that there is, and a monitor from 1 to 64
abbrev pub IsHello : ℕ → ℕ → Type 0
IsHello speaks mon = IsVersion speaks × (0 < mon) × (mon ≤ 64)

-- each number of a frame is within its type, and each list ascends that has to
abbrev pub IsFrame : Frame → Type 0
IsFrame (f.Hello run speaks mon) = (run < 2 ^ 64) × IsHello speaks mon.0
IsFrame (f.Report seq border failed values) = (seq < 2 ^ 64) × FitsSigned w128 border × IsSet failed × ArePairs values
IsFrame (f.Collect round objects) = (round < 2 ^ 64) × IsSet objects
IsFrame (f.Values round seq border values) = (round < 2 ^ 64) × (seq < 2 ^ 64) × FitsSigned w128 border × ArePairs values
IsFrame (f.Assign seq members changes) = (seq < 2 ^ 64) × IsSet members × ArePairs changes
IsFrame (f.Settled seq last reached) = (seq < 2 ^ 64) × ArePlaces reached
IsFrame f.Stop = ⊤

-- the length of a payload that there can be
abbrev pub IsLength : ℕ → Type 0
IsLength n = (0 < n) × (n ≤ 2097152)

-- the bytes are the frame's, in this version: its length, its kind, its fields, and nothing after them
pub record IsSpelling (version : ℕ) (frame : Frame) (bytes : List ℕ) : Type 0 where
  pub frame_is : IsFrame frame
  pub fits : length (payload version frame) ≤ 2097152
  pub bytes_are : bytes ≡ spelling version frame
