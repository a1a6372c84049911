-- What the coordinator tests in a frame before it takes it.
use Rattle.std.specs.Prelude.{ℕ, ◌<◌, ◌≤◌, ◌≡◌, ◌^◌, ℤ, unsigned_abs, Bool, nat_lt, List, length}
use Rattle.std.specs.List.{All}
use Rattle.tk_rows.specs.declared.mon_change.MonChange.{MonChange}
use Rattle.tk_journal.specs.Refusal.{Known}
use Rattle.tk_coord.specs.declared.checks.Known.{Known as Seen}

-- every value is at most 2^100 in size
abbrev pub AreSmall : List (ℕ × ℤ) → Type 0
AreSmall values = All (λ p. unsigned_abs p.1 ≤ 2 ^ 100) values

-- a value is over 2^100 in size
abbrev pub is_too_great : ℤ → Bool
is_too_great value = nat_lt (2 ^ 100) (unsigned_abs value)

-- every object is within a catalogue of n
abbrev pub AreWithin : ℕ → List ℕ → Type 0
AreWithin n objects = All (λ o. o ≤ n) objects

-- every change is for one of so many monitors
abbrev pub AreNamed : ℕ → List MonChange → Type 0
AreNamed monitors changes = All (λ c. (0 < c.mon.0) × (c.mon.0 ≤ monitors)) changes

-- what the code sees, as what the tests look at
abbrev pub known_in : Seen → Known
known_in seen = record {
  mon = seen.mon.0;
  objects = seen.objects;
  members = seen.members.now;
  table = seen.table.now;
}

-- the members are of the catalogue, and the table has its factors at the monitor
pub record IsKnown (k : Known) : Type 0 where
  pub some : 0 < k.mon
  pub monitor : k.mon ≤ k.table.monitors
  pub objects : length k.table.rows ≡ k.objects
  pub within : AreWithin k.objects k.members
