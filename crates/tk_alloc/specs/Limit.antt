-- The limit of factors: the first new factor that is past it, and how great any number of a round is.
use Rattle.std.specs.Prelude.{ℕ, ◌^◌, ◌<◌, ◌≤◌, ℤ, unsigned_abs, List, [], ◌∷◌, length, Contains, ⊤}
use Rattle.std.specs.List.{All, enumerate_from}
use Rattle.tk_base.specs.Objects.{objects}
use Rattle.tk_base.specs.Pairs.{objects_of}
use Rattle.tk_base.specs.Settings.{Setup, IsWithinLimits}
use Rattle.tk_rows.specs.Factors.{AreBalanced, Grid, IsFactor}
use Rattle.tk_alloc.specs.declared.alloc_fault.AllocFault.{AllocFault}
use Rattle.tk_alloc.specs.declared.alloc_fault.AllocFault.TheVariants.{PastLimit, NoMemory}
use Rattle.tk_alloc.specs.declared.reported.Reported.{Reported}
use Rattle.tk_alloc.specs.Parts.{Part, dealt_from, leeway, new_factor}
use Rattle.tk_alloc.specs.Resolving.{CanTakePart, IsReady, objects_over, round_parts}
use Rattle.tk_alloc.specs.Rounds.{AreReports, IsOfSize, chosen, total}

-- changes at some nodes give an object this factor at a node
pub record Gives (nodes : List (ℕ × List (ℕ × ℤ))) (o node : ℕ) (factor : ℤ) : Type 0 where
  pub changes : List (ℕ × ℤ)
  pub named : Contains nodes (node, changes)
  pub given : Contains changes (o, factor)

-- all of these factors are within the limit
abbrev pub AreAllWithin : List (ℕ × List (ℕ × ℤ)) → Type 0
AreAllWithin nodes = (o node : ℕ) (factor : ℤ) → Gives nodes o node factor → IsFactor factor

-- this is the first of them that is past 2^112 in size: of the least object, and for it of the least node
pub record IsFirstPast (nodes : List (ℕ × List (ℕ × ℤ))) (o node : ℕ) (factor : ℤ) : Type 0 where
  pub given : Gives nodes o node factor
  pub past : 2 ^ 112 < unsigned_abs factor
  pub least_object : (q n : ℕ) (z : ℤ) → Gives nodes q n z → q < o → IsFactor z
  pub least_node : (n : ℕ) (z : ℤ) → Gives nodes o n z → n < node → IsFactor z

-- a fault is that of the first of these factors past the limit, and never want of memory
abbrev pub IsPastLimit : List (ℕ × List (ℕ × ℤ)) → AllocFault → Type 0
IsPastLimit nodes (PastLimit o node factor) = IsFirstPast nodes o.0 node factor
IsPastLimit nodes NoMemory = ⊥

-- what the fault of a round tells of its factors: the first that is past the limit, or want of memory
abbrev pub TellsFault : List (ℕ × List (ℕ × ℤ)) → AllocFault → Type 0
TellsFault nodes (PastLimit o node factor) = IsFirstPast nodes o.0 node factor
TellsFault nodes NoMemory = ⊤

-- the new factors of a short round, by node
abbrev pub short_factors : Setup → Grid → List ℕ → Reported → List (ℕ × List (ℕ × ℤ))
short_factors setup grid present report =
    let objects = objects_of report.values in
    let parts = round_parts setup grid present present objects (report ∷ []) in
    dealt_from grid parts objects 0 parts

-- those of a full round
abbrev pub full_factors : Setup → Grid → List ℕ → List Reported → List (ℕ × List (ℕ × ℤ))
full_factors setup grid present reports =
    let objects = objects_over reports in
    let parts = round_parts setup grid present (chosen setup present reports objects) objects reports in
    dealt_from grid parts objects 0 parts

-- a round over these objects can begin, and these reports can take part in it
pub record CanDeal (setup : Setup) (grid : Grid) (present objects : List ℕ) (reports : List Reported) : Type 0 where
  pub limits : IsWithinLimits setup
  pub balanced : AreBalanced grid
  pub ready : IsReady setup grid present objects
  pub take : All (CanTakePart grid present objects) reports
  pub count : length reports ≤ setup.monitors

-- a wide round can begin: each monitor has reported all objects
pub record CanWiden (setup : Setup) (grid : Grid) (reports : List Reported) : Type 0 where
  pub limits : IsWithinLimits setup
  pub size : IsOfSize setup grid
  pub balanced : AreBalanced grid
  pub reported : AreReports setup.monitors (objects setup.objects) reports

-- no reported total of these objects reaches 2^107 in size
abbrev pub AreTotalsSized : List Reported → List ℕ → Type 0
AreTotalsSized reports objects = All (λ o. unsigned_abs (total reports o) < 2 ^ 107) objects

-- no leeway of these objects reaches 2^122 in size, and no new factor
pub record AreSized (grid : Grid) (parts : List Part) (objects : List ℕ) : Type 0 where
  pub leeways : All (λ o. unsigned_abs (leeway grid parts o) < 2 ^ 122) objects
  pub factors : All (λ o. All (λ e. unsigned_abs (new_factor grid parts e.0 e.1 o) < 2 ^ 122) (enumerate_from 0 parts)) objects
