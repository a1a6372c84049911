-- Which monitors and objects an entry of a journal speaks of.
use Rattle.std.specs.Prelude.{ℕ, ◌<◌, ◌≤◌}
use Rattle.std.specs.List.{All}
use Rattle.tk_journal.specs.declared.noted.Noted.{Noted}
use Rattle.tk_journal.specs.declared.noted.Noted.TheVariants as n

-- the entry is about one of the monitors 1 to m, or publishes members of a catalogue of so many objects
abbrev pub IsEntryOf : ℕ → ℕ → Noted → Type 0
IsEntryOf monitors objects (n.Got from frame) = (0 < from.0) × (from.0 ≤ monitors)
IsEntryOf monitors objects (n.Sent to frame) = (0 < to.0) × (to.0 ≤ monitors)
IsEntryOf monitors objects (n.Published publication) = All (λ t. t ≤ objects) publication.members
IsEntryOf monitors objects (n.Tuned k epsilon) = Unit {0}
