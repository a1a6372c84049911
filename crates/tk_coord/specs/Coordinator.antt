-- What contracts see of a coordinator.
use Rattle.std.specs.Prelude.{ℕ, ◌≤◌, ◌≡◌, ◌⊎◌, List, length, map, Option, Some, None}
use Rattle.std.specs.List.{All}
use Rattle.tk_base.specs.Settings.{Setup}
use Rattle.tk_base.specs.Objects.{objects}
use Rattle.tk_rows.specs.Factors.{Grid, factor_at}
use Rattle.tk_alloc.specs.Resolving.{MeetsOwn}
use Rattle.tk_alloc.specs.Rounds.{IsOfSize}
use Rattle.tk_journal.specs.declared.noted.Noted.{Noted}
use Rattle.tk_journal.specs.Laws.{IsSetUp}
use Rattle.tk_journal.specs.Legal.{Opening, IsLegal, opened}
use Rattle.tk_journal.specs.Readings.{monitors, table_at}

-- a coordinator: what it was made with, and its journal
pub record CoordinatorView : Type 0 where
  pub settings : Setup
  pub journal : List Noted

-- why something is not taken: the first test that it does not pass or, where it passes all, want of memory
abbrev pub IsRefusal : {R : Type 0} → R → Option R → R → Type 0
IsRefusal want first why = ((why ≡ want) × (first ≡ None)) ⊎ (first ≡ Some why)

-- the journal of a coordinator with these settings: a legal one, from an opening from which a journal may start
pub record IsJournal (s : Setup) (j : List Noted) : Type 0 where
  pub opening : Opening
  pub settings : opening.settings ≡ s
  pub set_up : IsSetUp opening
  pub legal : IsLegal opening j

-- an opening with these members and the factors of a table: each monitor is sent its factor of every object
abbrev pub with_factors : Setup → List ℕ → Grid → Opening
with_factors s members table = record {
  settings = s;
  members = members;
  factors = map (λ mon. map (λ o. (o, factor_at table mon o)) (objects s.objects)) (monitors s);
}

-- members and a table with which a coordinator can begin: k objects of the catalogue, and factors of the settings'
-- size that meet the coordinator's constraint
pub record CanBegin (s : Setup) (members : List ℕ) (table : Grid) : Type 0 where
  pub count : length members ≡ s.k
  pub within : All (λ t. t ≤ s.objects) members
  pub size : IsOfSize s table
  pub own : MeetsOwn table s.epsilon members

-- a journal with which a coordinator begins: the first Assigns, with the members and the factors that they name
pub record Begins (s : Setup) (members : List ℕ) (table : Grid) (j : List Noted) : Type 0 where
  pub opening : Opening
  pub settings : opening.settings ≡ s
  pub set_up : IsSetUp opening
  pub is : j ≡ opened opening
  pub named : members ≡ opening.members
  pub dealt : table ≡ table_at s j
