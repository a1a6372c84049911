-- How a node is driven over a record of its history. No public clause cites this file.
use Rattle.std.specs.Prelude.{◌<◌, ◌≡◌, ℕ, List, ◌∷◌, ◌++◌, length, ⊤, Result, OnOk}
use Rattle.tk_base.specs.declared.memory.NoMemory.{NoMemory as Refused}
use Rattle.tk_base.specs.Settings.{Setup}
use Rattle.tk_journal.specs.Legal.{IsLegal, start}
use Rattle.tk_journal.specs.declared.noted.Noted.{Noted}
use Rattle.tk_verify.specs.Faults.{IsFirstFault}
use Rattle.tk_verify.specs.declared.halt.Halt.{Halt}
use Rattle.tk_verify.specs.declared.halt.Halt.TheVariants.{NotLegal, NoMemory}

-- a list goes on from another
pub record GoesOn {A : Type 0} (front whole : List A) : Type 0 where
  pub more : List A
  pub is : whole ≡ front ++ more

-- a node did what was seen of a record so far: its own history is legal and goes on from that, and every legal history
-- that goes on from that goes on from the node's own
pub record IsDriven {A : Type 0} (Legal : List A → Type 0) (seen now : List A) : Type 0 where
  pub legal : Legal now
  pub ahead : GoesOn seen now
  pub forced : (rest : List A) → Legal (seen ++ rest) → GoesOn now (seen ++ rest)

-- a history has grown into another, from which a whole one goes on
pub record Grew {A : Type 0} (old new whole : List A) : Type 0 where
  pub longer : length old < length new
  pub whole_is : GoesOn new whole

-- what a node does where an entry stands behind what was seen: if the entry is allowed there, the node goes on to it
pub record Leads {A : Type 0} (Legal : List A → Type 0) (seen : List A) (entry : A) (now : List A) : Type 0 where
  pub legal : Legal now
  pub ahead : GoesOn seen now
  pub moved : (rest : List A) → Legal (seen ++ entry ∷ rest) → Grew seen now (seen ++ entry ∷ rest)

-- what a node does at a place of a record, unless it did so much already
abbrev pub LeadsAt : {A : Type 0} → (List A → Type 0) → ℕ → A → List A → List A → Result (Unit {0}) Refused → Type 0
LeadsAt {A} Legal place entry old new result =
    (seen : List A) → IsDriven Legal seen old → length seen ≡ place → OnOk result (Leads Legal seen entry new)

-- so does a coordinator of some settings
abbrev pub JournalLeads : Setup → List Noted → Noted → List Noted → Type 0
JournalLeads settings = Leads (IsLegal (start settings))

-- why a driving halts over a history
abbrev pub Halts : {A : Type 0} → (List A → Type 0) → List A → Halt → Type 0
Halts Legal history (NotLegal place) = IsFirstFault Legal history place
Halts Legal history NoMemory = ⊤
