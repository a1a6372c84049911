-- Reading from left to right, as the code does. No public clause cites it.
use Rattle.std.specs.Prelude.{◌≡◌, ◌==◌, ◌&&◌, ◌+◌, ◌-◌, ◌*◌, ◌/◌, ◌%◌, ◌^◌, ℕ, zero, suc, ℤ, pos, negsuc, Bool, true, false, List, [], ◌∷◌, length, take, drop, Option, Some, None, Result, Ok, Err, nat_lt, nat_le, if◌then◌else◌, ⊤}
use Rattle.std.specs.Int.{w128, cast_signed}
use Rattle.byteorder.specs.Endian.{big_number}
use Rattle.tk_frames.specs.declared.frame.Frame.{Frame}
use Rattle.tk_frames.specs.declared.frame.Frame.TheVariants as f
use Rattle.tk_frames.specs.declared.kind.Kind.{Kind}
use Rattle.tk_frames.specs.declared.kind.Kind.TheVariants as k
use Rattle.tk_frames.specs.declared.reading.Unread.{Unread}
use Rattle.tk_frames.specs.declared.reading.Unread.TheVariants as unread
use Rattle.tk_frames.specs.declared.answer.Next.{Next}
use Rattle.tk_frames.specs.declared.answer.Next.TheVariants.{Whole, Part, Bad}
use Rattle.tk_frames.specs.declared.answer.BadFrame.TheVariants.{BadLength, BadKind, BadFields}
use Rattle.tk_frames.specs.Spelling.{object_itself, pair_object, no_object}

-- what was read, and the bytes after it
abbrev pub Found : Type 0 → Type 0
Found X = Option (X × List ℕ)

infixl 10 ◌>>=◌
-- what is read next, if something was read
abbrev pub ◌>>=◌ : {A B : Type 0} → Option A → (A → Option B) → Option B
(Some x) >>= next = next x
None >>= next = None

-- a field was not read: memory ran out, or reading finds nothing
abbrev pub Fails : {Y : Type 0} → Unread → Option Y → Type 0
Fails unread.Memory read = ⊤
Fails unread.Malformed read = read ≡ None

-- what a function returned, seen by view, is what reading finds, unless memory ran out
abbrev pub Gives : {X Y : Type 0} → (X → Y) → Result X Unread → Option Y → Type 0
Gives view (Ok x) read = read ≡ Some (view x)
Gives view (Err e) read = Fails e read

-- a number in so many bytes
unfoldable pub bytes_at : ℕ → List ℕ → Found ℕ
bytes_at size bytes = if nat_lt (length bytes) size then None else Some (big_number size bytes, drop size bytes)

-- a number up to a limit, in its fewest groups
unfoldable pub groups_at : ℕ → List ℕ → Found ℕ
groups_at limit [] = None
groups_at limit (b ∷ rest) =
    if nat_lt b 128 then (if nat_lt limit b then None else Some (b, rest))
    else (if nat_lt limit 128 then None
    else (groups_at (limit / 128) rest >>= λ high.
    if high.0 == 0 then None
    else (if nat_lt limit (128 * high.0 + (b - 128)) then None else Some (128 * high.0 + (b - 128), high.1))))

-- a number of a type of so many bytes: these bytes, or its groups in version 2
unfoldable pub number_at : ℕ → ℕ → List ℕ → Found ℕ
number_at version size bytes = if version == 1 then bytes_at size bytes else groups_at (256 ^ size - 1) bytes

-- the signed number at this place of 0, -1, 1, -2, 2, .., counted from 0
abbrev pub unzigzag : ℕ → ℤ
unzigzag n = if n % 2 == 0 then pos (n / 2) else negsuc (n / 2)

-- a signed number of 16 bytes: in two's complement, or zigzag in version 2
unfoldable pub signed_at : ℕ → List ℕ → Found ℤ
signed_at version bytes = do
  n ← number_at version 16 bytes
  Some (if version == 1 then cast_signed w128 n.0 else unzigzag n.0, n.1)

-- the object that a number tells, where it is above the one before and within its type
abbrev pub object_if : ℕ → ℕ → List ℕ → Found ℕ
object_if before o rest = if nat_le o before then None else (if nat_lt 4294967295 o then None else Some (o, rest))

-- an object above the one before: itself, or in version 2 how far it is above that
unfoldable pub object_at : ℕ → ℕ → List ℕ → Found ℕ
object_at version before bytes = do
  n ← number_at version 4 bytes
  object_if before (if version == 1 then n.0 else before + n.0) n.1

-- an object above the one before, and its number
unfoldable pub pair_at : ℕ → ℕ → List ℕ → Found (ℕ × ℤ)
pair_at version before bytes = do
  o ← object_at version before bytes
  z ← signed_at version o.1
  Some ((o.0, z.0), z.1)

-- a place of 4 bytes, whatever stands before it
abbrev pub place_at : ℕ → ℕ → List ℕ → Found ℕ
place_at version before bytes = number_at version 4 bytes

-- so many items in turn
unfoldable pub items_at : {X : Type 0} → (X → ℕ) → (ℕ → List ℕ → Found X) → ℕ → ℕ → List ℕ → Found (List X)
items_at object_of read before zero bytes = Some ([], bytes)
items_at object_of read before (suc count) bytes = do
  first ← read before bytes
  others ← items_at object_of read (object_of first.0) count first.1
  Some (first.0 ∷ others.0, others.1)

-- a count, and so many items
unfoldable pub counted_at : {X : Type 0} → ℕ → (X → ℕ) → (ℕ → List ℕ → Found X) → List ℕ → Found (List X)
counted_at version object_of read bytes = do
  count ← number_at version 4 bytes
  items_at object_of read 0 count.0 count.1

-- ascending objects behind their count
abbrev pub set_at : ℕ → List ℕ → Found (List ℕ)
set_at version bytes = counted_at version object_itself (object_at version) bytes

-- pairs behind their count, ascending by object
abbrev pub pairs_at : ℕ → List ℕ → Found (List (ℕ × ℤ))
pairs_at version bytes = counted_at version pair_object (pair_at version) bytes

-- places behind their count
abbrev pub places_at : ℕ → List ℕ → Found (List ℕ)
places_at version bytes = counted_at version no_object (place_at version) bytes

-- a flag: one byte, 0 or 1
unfoldable pub flag_at : List ℕ → Found Bool
flag_at [] = None
flag_at (zero ∷ rest) = Some (false, rest)
flag_at (suc zero ∷ rest) = Some (true, rest)
flag_at (suc (suc b) ∷ rest) = None

-- two fields, one after the other
abbrev pub both_at : {A B : Type 0} → (List ℕ → Found A) → (List ℕ → Found B) → List ℕ → Found (A × B)
both_at first second bytes = do
  x ← first bytes
  y ← second x.1
  Some ((x.0, y.0), y.1)

-- what is read, as something else
abbrev pub as_at : {A B : Type 0} → (A → B) → (List ℕ → Found A) → List ℕ → Found B
as_at make read bytes = do
  x ← read bytes
  Some (make x.0, x.1)

-- whether a Hello can name this version and this monitor
abbrev pub is_hello : ℕ → ℕ → Bool
is_hello speaks mon = nat_lt 0 speaks && nat_lt speaks 3 && nat_lt 0 mon && nat_lt mon 65

-- the fields of a Hello, in both versions those of version 1: run, version and monitor
unfoldable pub hello_at : List ℕ → Found Frame
hello_at bytes = do
  x ← both_at (both_at (number_at 1 8) (number_at 1 1)) (number_at 1 4) bytes
  if is_hello x.0.0.1 x.0.1 then Some (f.Hello x.0.0.0 x.0.0.1 (record { 0 = x.0.1 }), x.1) else None

-- the fields of a Report: sequence number, border, broken objects and values
unfoldable pub report_at : ℕ → List ℕ → Found Frame
report_at version bytes = as_at (λ x. f.Report x.0.0.0 x.0.0.1 x.0.1 x.1) (both_at (both_at (both_at (number_at version 8) (signed_at version)) (set_at version)) (pairs_at version)) bytes

-- the fields of a Collect: round and asked objects
unfoldable pub collect_at : ℕ → List ℕ → Found Frame
collect_at version bytes = as_at (λ x. f.Collect x.0 x.1) (both_at (number_at version 8) (set_at version)) bytes

-- the fields of Values: round, sequence number, border and values
unfoldable pub values_at : ℕ → List ℕ → Found Frame
values_at version bytes = as_at (λ x. f.Values x.0.0.0 x.0.0.1 x.0.1 x.1) (both_at (both_at (both_at (number_at version 8) (number_at version 8)) (signed_at version)) (pairs_at version)) bytes

-- the fields of an Assign: sequence number, members and changed factors
unfoldable pub assign_at : ℕ → List ℕ → Found Frame
assign_at version bytes = as_at (λ x. f.Assign x.0.0 x.0.1 x.1) (both_at (both_at (number_at version 8) (set_at version)) (pairs_at version)) bytes

-- the fields of a Settled: sequence number, whether the logs are at their ends, and places
unfoldable pub settled_at : ℕ → List ℕ → Found Frame
settled_at version bytes = as_at (λ x. f.Settled x.0.0 x.0.1 x.1) (both_at (both_at (number_at version 8) flag_at) (places_at version)) bytes

-- the fields of a frame of some kind
unfoldable pub fields_at : ℕ → Kind → List ℕ → Found Frame
fields_at version k.Hello bytes = hello_at bytes
fields_at version k.Report bytes = report_at version bytes
fields_at version k.Collect bytes = collect_at version bytes
fields_at version k.Values bytes = values_at version bytes
fields_at version k.Assign bytes = assign_at version bytes
fields_at version k.Settled bytes = settled_at version bytes
fields_at version k.Stop bytes = Some (f.Stop, bytes)

-- the kind that a byte says
unfoldable pub kind_at : ℕ → Option Kind
kind_at code =
    if code == 1 then Some k.Hello else (if code == 2 then Some k.Report else (if code == 3 then Some k.Collect
    else (if code == 4 then Some k.Values else (if code == 5 then Some k.Assign else (if code == 6 then Some k.Settled
    else (if code == 7 then Some k.Stop else None))))))

-- the answer to a whole payload, its fields read: nothing may follow them
abbrev pub answer_of : Kind → ℕ → Found Frame → Next
answer_of kind whole (Some (frame, [])) = Whole frame whole
answer_of kind whole (Some (frame, b ∷ rest)) = Bad (BadFields kind)
answer_of kind whole None = Bad (BadFields kind)

-- the answer to a whole payload whose first byte says this kind, or none
abbrev pub kind_answer : ℕ → ℕ → ℕ → List ℕ → Option Kind → Next
kind_answer version whole code bytes None = Bad (BadKind code)
kind_answer version whole code bytes (Some kind) = answer_of kind whole (fields_at version kind bytes)

-- the kind with whose byte a payload begins, if it is one's
abbrev pub kind_ahead : List ℕ → Option Kind
kind_ahead [] = None
kind_ahead (code ∷ bytes) = kind_at code

-- the answer to a whole payload
unfoldable pub payload_answer : ℕ → List ℕ → Next
payload_answer version [] = Part
payload_answer version (code ∷ bytes) = kind_answer version (length bytes + 5) code bytes (kind_at code)

-- the answer to any bytes
unfoldable pub next_of : ℕ → List ℕ → Next
next_of version bytes =
    if nat_lt (length bytes) 4 then Part
    else (let size = big_number 4 bytes in
    if size == 0 then Bad (BadLength size)
    else (if nat_lt 2097152 size then Bad (BadLength size)
    else (if nat_lt (length bytes) (4 + size) then Part
    else payload_answer version (take size (drop 4 bytes)))))
