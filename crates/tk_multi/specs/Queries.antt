-- The queries that a file asks for.
use Rattle.std.specs.Prelude.{◌≡◌, ℕ, ◌+◌, ◌-◌, ◌≤◌, Bool, IsSome, not, ◌&&◌, nat_le, if◌then◌else◌, List, [], ◌∷◌, ◌++◌, length, Option, Some, None, option_and_then, Result, Ok, Err, bytes_eq, slice_get}
use Rattle.std.specs.List.{list_all, list_any}
use Rattle.tk_base.specs.declared.memory.NoMemory.{NoMemory}
use Rattle.tk_base.specs.Digits.{digits_in, short_in}
use Rattle.tk_input.specs.Catalog.{is_name}
use Rattle.tk_input.specs.Records.{and_then, records_in, through}
use Rattle.tk_input.specs.declared.catalog.CatalogFault.{CatalogFault}
use Rattle.tk_input.specs.declared.catalog.CatalogFault.TheVariants.{Empty, TooMany, BadRow, BadName, Repeated, NoMemory as OutOfMemory}

-- a query: its name, its k and epsilon, and how the names of its objects begin
pub record QueryView : Type 0 where
  pub name : List ℕ
  pub k : ℕ
  pub epsilon : ℕ
  pub prefix : List ℕ

-- a prefix has 0 to 255 bytes from 0x21 to 0x7E
abbrev pub is_prefix : List ℕ → Bool
is_prefix prefix = nat_le (length prefix) 255 && list_all (λ b. nat_le 0x21 b && nat_le b 0x7e) prefix

-- the query of these numbers and a prefix, where all three are of their forms
abbrev pub query_with : List ℕ → Option ℕ → Option ℕ → List ℕ → Option QueryView
query_with name k epsilon prefix =
    option_and_then (λ asked. option_and_then (λ e.
    if is_prefix prefix then Some (record { name = name; k = asked; epsilon = e; prefix = prefix }) else None) epsilon) k

-- the query that four fields are: a name, a k of 1 to 18 digits, an epsilon of 1 to 38, and a prefix
abbrev pub query_in : List (List ℕ) → Option QueryView
query_in [] = None
query_in (name ∷ []) = None
query_in (name ∷ k ∷ []) = None
query_in (name ∷ k ∷ epsilon ∷ []) = None
query_in (name ∷ k ∷ epsilon ∷ prefix ∷ []) = query_with name (short_in k) (digits_in epsilon) prefix
query_in (name ∷ k ∷ epsilon ∷ prefix ∷ more ∷ rest) = None

-- whether one of some queries has a name
abbrev pub has_name : List QueryView → List ℕ → Bool
has_name queries name = list_any (λ query. bytes_eq name query.name) queries

-- the queries before with one more, or what forbids it at that record
abbrev pub with_query : List QueryView → Option QueryView → Result (List QueryView) CatalogFault
with_query before None = Err (BadRow (length before + 1))
with_query before (Some query) =
    if not (is_name query.name) then Err (BadName (length before + 1))
    else (if has_name before query.name then Err (Repeated (length before + 1))
    else Ok (before ++ query ∷ []))

-- the queries before with that of the next record, or its fault; a file has at most 16
abbrev pub query_added : List QueryView → List (List ℕ) → Result (List QueryView) CatalogFault
query_added before fields = if nat_le 16 (length before) then Err TooMany else with_query before (query_in fields)

-- there must be a query
abbrev pub some_queries : List QueryView → Result (List QueryView) CatalogFault
some_queries [] = Err Empty
some_queries (query ∷ queries) = Ok (query ∷ queries)

-- the queries of a file, or its first fault
abbrev pub queries_of : List ℕ → Result (List QueryView) CatalogFault
queries_of bytes = and_then some_queries (through query_added [] (records_in bytes))

-- a fault is the one that is meant, but for want of memory
abbrev pub IsFault : CatalogFault → Result (List QueryView) CatalogFault → Type 0
IsFault Empty meant = meant ≡ Err Empty
IsFault TooMany meant = meant ≡ Err TooMany
IsFault (BadRow n) meant = meant ≡ Err (BadRow n)
IsFault (BadName n) meant = meant ≡ Err (BadName n)
IsFault (Repeated n) meant = meant ≡ Err (Repeated n)
IsFault OutOfMemory meant = Unit

-- what a record was read as is what it means; memory is wanted only where it means a query
abbrev pub IsReadAs : Option (Result QueryView NoMemory) → Option QueryView → Type 0
IsReadAs None meant = meant ≡ None
IsReadAs (Some (Ok query)) meant = meant ≡ Some query
IsReadAs (Some (Err no_room)) meant = IsSome meant

-- there are 1 to 16 queries
abbrev pub IsWithin : List QueryView → Type 0
IsWithin queries = (1 ≤ length queries) × (length queries ≤ 16)

-- what stands of a query in a list with an entry for each, if there is such a query
abbrev pub entry_at : {A : Type 0} → List A → ℕ → Option A
entry_at list q = if nat_le 1 q then slice_get list (q - 1) else None
