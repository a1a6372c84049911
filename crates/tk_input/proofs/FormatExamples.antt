-- The examples of docs/formats.md, computed: what csv does with marks, empty lines, quotes and carriage
-- returns, and which fault of a file is the first.
use Rattle.std.proofs.Common.{◌≡◌, pos, ◌∷◌, [], Ok, Err, codes, refl}
use Rattle.std.specs.Prelude.{neg_ℤ}
use Rattle.csv.proofs.OnLiterals.{csv_on_literals}
use Rattle.tk_input.specs.Catalog.{catalog_of}
use Rattle.tk_input.specs.Log.{log_of}
use Rattle.tk_input.specs.Order.{order_of}
use Rattle.tk_input.specs.Plain.{cut_records}
use Rattle.tk_input.specs.Records.{through}
use Rattle.tk_input.specs.declared.catalog.CatalogFault.TheVariants as catalog
use Rattle.tk_input.specs.declared.event.Event.TheVariants.{Raise, Check, Up, Down, Retune}
use Rattle.tk_input.specs.declared.order.OrderFault.TheVariants as order
use Rattle.tk_input.specs.declared.part.PartFault.TheVariants as log

-- a byte order mark at the start is no part of the first record
pub mark : catalog_of (0xEF ∷ 0xBB ∷ 0xBF ∷ codes "a\n") ≡ Ok (codes "a" ∷ [])
unfolding csv_on_literals through
mark = refl

-- empty lines are no records, a lone carriage return ends one, and the last may lack its end
pub line_ends : catalog_of (codes "a\r\n\n\r\nb\rc") ≡ Ok (codes "a" ∷ codes "b" ∷ codes "c" ∷ [])
unfolding csv_on_literals through
line_ends = refl

-- a quoted field may hold a comma, and a doubled quote for one; a quote inside a bare field is itself
pub quotes : catalog_of (codes "\"a,b\"\n\"c\"\"d\"\ne\"f\n") ≡ Ok (codes "a,b" ∷ codes "c\"d" ∷ codes "e\"f" ∷ [])
unfolding csv_on_literals through
quotes = refl

-- a quoted field may hold a line feed, which no name has
pub quoted_line : catalog_of (codes "\"a\nb\"\n") ≡ Err (catalog.BadName 1)
unfolding csv_on_literals through
quoted_line = refl

-- a file of empty lines has no record
pub no_record : catalog_of (codes "\n\r\n") ≡ Err catalog.Empty
unfolding csv_on_literals through
no_record = refl

-- records are counted without the empty lines
pub third_line : catalog_of (codes "a\n\na\n") ≡ Err (catalog.Repeated 2)
unfolding csv_on_literals through
third_line = refl

-- the first record with a fault decides, and in it the number of its fields comes first
pub first_fault : catalog_of (codes "a\na b,c\na\n") ≡ Err (catalog.BadRow 2)
unfolding csv_on_literals through
first_fault = refl

-- the same without csv: an empty line is no record, and an empty field is one
pub cuts : cut_records (codes "a,5\n\nb,,-2\nc") ≡ (codes "a" ∷ codes "5" ∷ []) ∷ (codes "b" ∷ [] ∷ codes "-2" ∷ []) ∷ (codes "c" ∷ []) ∷ []
cuts = refl

-- the changes of a log over the names a and b
pub changes : log_of (codes "a" ∷ codes "b" ∷ []) (codes "a,5\nb,-0002\r\n\"a\",+3") ≡ Ok ((1, pos 5) ∷ (2, neg_ℤ (pos 2)) ∷ (1, pos 3) ∷ [])
unfolding csv_on_literals through
changes = refl

-- an empty log is a part with no changes
pub no_change : log_of (codes "a" ∷ []) [] ≡ Ok []
unfolding csv_on_literals through
no_change = refl

-- an unknown name goes before a bad number, and an earlier record before both
pub unknown_name : log_of (codes "a" ∷ codes "b" ∷ []) (codes "a,1\nb,2\nc,x\na\n") ≡ Err (log.UnknownName 3)
unfolding csv_on_literals through
unknown_name = refl

-- a bad number goes before a later unknown name
pub bad_number : log_of (codes "a" ∷ codes "b" ∷ []) (codes "a,12x\nc,1\n") ≡ Err (log.BadNumber 1)
unfolding csv_on_literals through
bad_number = refl

-- the lines of an order with their numbers; empty ones are passed over, but counted
pub events : order_of (codes "raise 1 2\r\n\n\r\ncheck 3\nup 4\ndown 999\nretune 010 0")
    ≡ Ok (record {
      events = Raise (record { 0 = 1 }) (record { 0 = 2 }) ∷ Check (record { 0 = 3 }) ∷ Up (record { 0 = 4 }) ∷ Down (record { 0 = 999 }) ∷ Retune (record { k = 10; epsilon = 0 }) ∷ [];
      lines = 1 ∷ 4 ∷ 5 ∷ 6 ∷ 7 ∷ [];
    })
unfolding through
events = refl

-- lines are counted with the empty ones
pub fourth_line : order_of (codes "\n\ncheck 1\nraise 1 2 3\nup x\n") ≡ Err (order.BadOrder 4)
unfolding through
fourth_line = refl

-- a k has at most 18 digits
pub long_k : order_of (codes "retune 999999999999999999 0\nretune 0000000000000000001 0") ≡ Err (order.BadOrder 2)
unfolding through
long_k = refl

-- an epsilon has at most 38 digits
pub long_epsilon : order_of (codes "retune 1 99999999999999999999999999999999999999\nretune 1 000000000000000000000000000000000000000") ≡ Err (order.BadOrder 2)
unfolding through
long_epsilon = refl

-- a retune has no sign
pub signed_epsilon : order_of (codes "retune 1 +1") ≡ Err (order.BadOrder 1)
unfolding through
signed_epsilon = refl

-- a carriage return is dropped before a line feed alone
pub bare_return : order_of (codes "up 1\r") ≡ Err (order.BadOrder 1)
unfolding through
bare_return = refl
