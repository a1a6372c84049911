-- What is counted of the reads of each name.
use Rattle.std.specs.Prelude.{◌≡◌, ◌≢◌, ℕ, List, find, Option, Some, bytes_eq}
use Rattle.std.specs.Option.{option_map_or}

-- what is counted of a name: the failed reads, and the most bytes that one read took
pub record Count : Type 0 where
  pub name : List ℕ
  pub faults : ℕ
  pub longest : ℕ

-- the count of a name, if it was read
abbrev pub count_of : List Count → List ℕ → Option Count
count_of counts name = find (λ c. bytes_eq c.name name) counts

-- how many reads of a name failed
abbrev pub faults_of : List Count → List ℕ → ℕ
faults_of counts name = option_map_or (λ c. c.faults) (count_of counts name) 0

-- the most bytes that one read of a name took
abbrev pub longest_of : List Count → List ℕ → ℕ
longest_of counts name = option_map_or (λ c. c.longest) (count_of counts name) 0

-- a name has these counts now, and the others have theirs
pub record Notes (old new : List Count) (name : List ℕ) (faults longest : ℕ) : Type 0 where
  pub counted : count_of new name ≡ Some (record { name = name; faults = faults; longest = longest })
  pub others : (other : List ℕ) → other ≢ name → count_of new other ≡ count_of old other
