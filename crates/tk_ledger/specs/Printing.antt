-- What a print does to the sink's count of faults, and the names that it needs.
use Rattle.std.specs.Prelude.{ℕ, ◌≤◌, Result, Ok, Err}
use Rattle.std.specs.List.{All}
use Rattle.tk_input.specs.Files.{one_more}
use Rattle.tk_journal.specs.declared.noted.Noted.{Noted}
use Rattle.tk_journal.specs.declared.noted.Noted.TheVariants as n
use Rattle.tk_ledger.specs.declared.printing.PrintFault.{PrintFault}
use Rattle.tk_ledger.specs.declared.printing.PrintFault.TheVariants.{NoMemory, WriteFailed}

-- how many puts failed after a print: one more exactly where it says so
abbrev pub print_faults : {A : Type 0} → Result A PrintFault → ℕ → ℕ
print_faults (Ok done) faults = faults
print_faults (Err WriteFailed) faults = one_more faults
print_faults (Err NoMemory) faults = faults

-- the members that an entry publishes have names among so many
abbrev pub AreNamed : ℕ → Noted → Type 0
AreNamed names (n.Got from frame) = Unit {0}
AreNamed names (n.Sent to frame) = Unit {0}
AreNamed names (n.Published publication) = All (λ o. o ≤ names) publication.members
AreNamed names (n.Tuned k epsilon) = Unit {0}
