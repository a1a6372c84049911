-- The changes that a log file is.
use Rattle.std.specs.Prelude.{◌≡◌, ℕ, ◌+◌, ℤ, nat_le, if◌then◌else◌, List, [], ◌∷◌, ◌++◌, length, Option, Some, None, option_map, Result, Ok, Err}
use Rattle.std.specs.Borrow.{Bor}
use Rattle.tk_input.specs.Catalog.{object_of}
use Rattle.tk_input.specs.Number.{whole_number}
use Rattle.tk_input.specs.Records.{and_then, records_in, through}
use Rattle.tk_input.specs.declared.part.PartFault.{PartFault}
use Rattle.tk_input.specs.declared.part.PartFault.TheVariants.{TooMany, BadRow, UnknownName, BadNumber, NoMemory}

-- the fields of a record that has two
abbrev pub both_fields : List (List ℕ) → Option (List ℕ × List ℕ)
both_fields [] = None
both_fields (name ∷ []) = None
both_fields (name ∷ text ∷ []) = Some (name, text)
both_fields (name ∷ text ∷ more ∷ rest) = None

-- the change of an object by a number, or what forbids it at record n
abbrev pub change_of : ℕ → Option ℕ → Option ℤ → Result (ℕ × ℤ) PartFault
change_of n None by = Err (UnknownName n)
change_of n (Some o) None = Err (BadNumber n)
change_of n (Some o) (Some by) = Ok (o, by)

-- the change that two fields are, over these names, or what forbids it at record n
abbrev pub change_in : List (List ℕ) → ℕ → Option (List ℕ × List ℕ) → Result (ℕ × ℤ) PartFault
change_in names n None = Err (BadRow n)
change_in names n (Some fields) = change_of n (object_of names fields.0) (whole_number fields.1)

-- two fields that may be lent, as bytes
abbrev pub lent_fields : Option (Bor (List ℕ) × Bor (List ℕ)) → Option (List ℕ × List ℕ)
lent_fields fields = option_map (λ p. (p.0.now, p.1.now)) fields

-- the change that two fields are as the record after so many, or its fault
abbrev pub change_behind : List (List ℕ) → ℕ → Option (List ℕ × List ℕ) → Result (ℕ × ℤ) PartFault
change_behind names before fields = if nat_le 1000000 before then Err TooMany else change_in names (before + 1) fields

-- the change of the record after so many, or its fault
abbrev pub next_change : List (List ℕ) → ℕ → List (List ℕ) → Result (ℕ × ℤ) PartFault
next_change names before fields = change_behind names before (both_fields fields)

-- the changes before with that of the next record, or its fault
abbrev pub change_added : List (List ℕ) → List (ℕ × ℤ) → List (List ℕ) → Result (List (ℕ × ℤ)) PartFault
change_added names before fields = and_then (λ change. Ok (before ++ change ∷ [])) (next_change names (length before) fields)

-- the changes of a log file over these names, or its first fault
abbrev pub log_of : List (List ℕ) → List ℕ → Result (List (ℕ × ℤ)) PartFault
log_of names bytes = through (change_added names) [] (records_in bytes)

-- a fault is the one that is meant, but for want of memory
abbrev pub IsFault : {A : Type 0} → PartFault → Result A PartFault → Type 0
IsFault TooMany meant = meant ≡ Err TooMany
IsFault (BadRow n) meant = meant ≡ Err (BadRow n)
IsFault (UnknownName n) meant = meant ≡ Err (UnknownName n)
IsFault (BadNumber n) meant = meant ≡ Err (BadNumber n)
IsFault NoMemory meant = Unit
