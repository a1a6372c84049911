-- The names of the objects, and the catalogue that a file is.
use Rattle.std.specs.Prelude.{◌≡◌, ℕ, ◌+◌, ◌-◌, ◌≤◌, Bool, IsTrue, not, ◌&&◌, nat_lt, nat_le, ◌==◌, if◌then◌else◌, List, [], ◌∷◌, ◌++◌, length, map, filter, position, Option, Some, None, option_map, Result, Ok, Err, is_ok, Vec, bytes_eq, slice_index_or}
use Rattle.std.specs.Borrow.{Bor}
use Rattle.std.specs.List.{list_all, list_any, starts_with}
use Rattle.tk_input.specs.Logs.{IsObject}
use Rattle.tk_input.specs.Records.{and_then, records_in, through}
use Rattle.tk_input.specs.declared.catalog.CatalogFault.{CatalogFault}
use Rattle.tk_input.specs.declared.catalog.CatalogFault.TheVariants.{Empty, TooMany, BadRow, BadName, Repeated, NoMemory}

-- the names as bytes
abbrev pub names_of : {A : Type 0} → List (Vec ℕ A) → List (List ℕ)
names_of names = map (λ name. name.items) names

-- there are 1 to 65,536 names
abbrev pub IsWithin : List (List ℕ) → Type 0
IsWithin names = (1 ≤ length names) × (length names ≤ 65536)

-- the object of a name: its place from 1
abbrev pub object_of : List (List ℕ) → List ℕ → Option ℕ
object_of names name = option_map (λ i. i + 1) (position (λ n. bytes_eq name n) names)

-- no name stands twice: each finds its own object
abbrev pub AreDifferent : List (List ℕ) → Type 0
AreDifferent names = (o : ℕ) → IsObject (length names) o → object_of names (slice_index_or names (o - 1) []) ≡ Some o

-- a name has 1 to 255 bytes from 0x21 to 0x7E
abbrev pub is_name : List ℕ → Bool
is_name name = nat_lt 0 (length name) && nat_le (length name) 255 && list_all (λ b. nat_le 0x21 b && nat_le b 0x7e) name

-- the field of a record that has one
abbrev pub only_field : List (List ℕ) → Option (List ℕ)
only_field [] = None
only_field (name ∷ []) = Some name
only_field (name ∷ more ∷ rest) = None

-- a name that may be lent, as bytes
abbrev pub lent_name : Option (Bor (List ℕ)) → Option (List ℕ)
lent_name name = option_map (λ s. s.now) name

-- the names before with one more, or what forbids it at that record
abbrev pub with_name : List (List ℕ) → Option (List ℕ) → Result (List (List ℕ)) CatalogFault
with_name before None = Err (BadRow (length before + 1))
with_name before (Some name) =
    if not (is_name name) then Err (BadName (length before + 1))
    else (if list_any (λ n. bytes_eq name n) before then Err (Repeated (length before + 1))
    else Ok (before ++ name ∷ []))

-- the names before with the next, or its fault; a catalogue has at most 65,536
abbrev pub next_name : List (List ℕ) → Option (List ℕ) → Result (List (List ℕ)) CatalogFault
next_name before name = if nat_le 65536 (length before) then Err TooMany else with_name before name

-- the names before with that of the next record, or its fault; each record before gave one
abbrev pub name_added : List (List ℕ) → List (List ℕ) → Result (List (List ℕ)) CatalogFault
name_added before fields = next_name before (only_field fields)

-- there must be a name
abbrev pub some_names : List (List ℕ) → Result (List (List ℕ)) CatalogFault
some_names [] = Err Empty
some_names (name ∷ names) = Ok (name ∷ names)

-- the names of a catalogue file, or its first fault
abbrev pub catalog_of : List ℕ → Result (List (List ℕ)) CatalogFault
catalog_of bytes = and_then some_names (through name_added [] (records_in bytes))

-- a catalogue of these names in order, or the first fault in them
abbrev pub catalog_from : List (List ℕ) → Result (List (List ℕ)) CatalogFault
catalog_from names = and_then some_names (through (λ before name. next_name before (Some name)) [] names)

-- the names that begin with a prefix, in order
abbrev pub names_with : List ℕ → List (List ℕ) → List (List ℕ)
names_with prefix names = filter (λ name. starts_with ◌==◌ name prefix) names

-- the fault of a record is the one that is meant; memory is wanted only for a name that is taken
abbrev pub IsNameFault : {A : Type 0} → CatalogFault → Result A CatalogFault → Type 0
IsNameFault Empty meant = meant ≡ Err Empty
IsNameFault TooMany meant = meant ≡ Err TooMany
IsNameFault (BadRow n) meant = meant ≡ Err (BadRow n)
IsNameFault (BadName n) meant = meant ≡ Err (BadName n)
IsNameFault (Repeated n) meant = meant ≡ Err (Repeated n)
IsNameFault NoMemory meant = IsTrue (is_ok meant)

-- a fault is the one that is meant, but for want of memory
abbrev pub IsFault : CatalogFault → Result (List (List ℕ)) CatalogFault → Type 0
IsFault Empty meant = meant ≡ Err Empty
IsFault TooMany meant = meant ≡ Err TooMany
IsFault (BadRow n) meant = meant ≡ Err (BadRow n)
IsFault (BadName n) meant = meant ≡ Err (BadName n)
IsFault (Repeated n) meant = meant ≡ Err (Repeated n)
IsFault NoMemory meant = Unit
