-- A round as the code holds it. No public clause cites this.
use Rattle.std.specs.Prelude.{ℕ, ◌^◌, ◌<◌, ◌≤◌, ℤ, pos, ◌+ℤ◌, ◌-ℤ◌, unsigned_abs, List, [], ◌∷◌, map, length, slice_index}
use Rattle.std.specs.List.{All}
use Rattle.tk_base.specs.Pairs.{objects_of}
use Rattle.tk_rows.specs.Factors.{Grid}
use Rattle.tk_share.specs.Shares.{share}
use Rattle.tk_alloc.specs.declared.reported.Reported.{Reported}
use Rattle.tk_alloc.specs.declared.terms.Borders.{Borders}
use Rattle.tk_alloc.specs.declared.terms.Borders.TheVariants.{AsReported, Zero}
use Rattle.tk_alloc.specs.declared.terms.Terms.{Terms}
use Rattle.tk_alloc.specs.Parts.{Part, dealt_from, leeway, monitor, value_of}
use Rattle.tk_alloc.specs.Rounds.{AreValues}

-- the border that a round gives a monitor
abbrev pub border_by : Borders → Reported → ℤ
border_by AsReported report = report.border
border_by Zero report = pos 0

-- the monitors that take part
abbrev pub monitors_in : Terms → List Reported → List Part
monitors_in terms reports = map (λ r. monitor (border_by terms.borders r) r) reports

-- the coordinator, which takes part too
abbrev pub coordinator_in : Terms → Part
coordinator_in terms = record { node = 0; weight = terms.own_weight; border = terms.own_border; values = terms.own_values }

-- all participants
abbrev pub parts_of : Terms → List Reported → List Part
parts_of terms reports = coordinator_in terms ∷ monitors_in terms reports

-- the objects of the round
abbrev pub objects_in : Terms → List ℕ
objects_in terms = objects_of terms.own_values

-- the object at a place
abbrev pub object_at : Terms → ℕ → ℕ
object_at terms place = slice_index (objects_in terms) place

-- the leeway of each object
abbrev pub leeways_in : Grid → Terms → List Reported → List ℤ
leeways_in grid terms reports = map (leeway grid (parts_of terms reports)) (objects_in terms)

-- the new factors at each monitor
abbrev pub dealt_in : Grid → Terms → List Reported → List (ℕ × List (ℕ × ℤ))
dealt_in grid terms reports = dealt_from grid (parts_of terms reports) (objects_in terms) 1 (monitors_in terms reports)

-- a monitor takes part
pub record TakesPart (grid : Grid) (terms : Terms) (report : Reported) : Type 0 where
  pub values : AreValues (objects_of terms.own_values) report.values
  pub some : 0 < report.mon.0
  pub monitor : report.mon.0 ≤ grid.monitors
  pub border : unsigned_abs (border_by terms.borders report) ≤ 2 ^ 113

-- what a round deals is within bounds
pub record AreTerms (grid : Grid) (terms : Terms) (reports : List Reported) : Type 0 where
  pub own : AreValues (objects_of terms.own_values) terms.own_values
  pub objects : All (λ o. o ≤ length grid.rows) (objects_of terms.own_values)
  pub border : unsigned_abs terms.own_border ≤ 2 ^ 113
  pub weight : terms.own_weight ≤ 1000
  pub some : 0 < length reports
  pub count : length reports ≤ 64
  pub parts : All (TakesPart grid terms) reports

-- the new factors of some objects, each by its leeway
abbrev pub dealt_by : List (ℕ × ℤ) → ℤ → List ℕ → ℕ → List ℕ → List ℤ → List (ℕ × ℤ)
dealt_by values border weights p [] leeways = []
dealt_by values border weights p (o ∷ objects) [] = []
dealt_by values border weights p (o ∷ objects) (z ∷ leeways) = (o, border -ℤ value_of values o +ℤ share weights p z) ∷ dealt_by values border weights p objects leeways

-- the new factors at one monitor, by the leeways
abbrev pub dealt_to : Terms → Reported → List ℕ → ℕ → List ℤ → List (ℕ × ℤ)
dealt_to terms report weights p leeways = dealt_by report.values (border_by terms.borders report) weights p (objects_in terms) leeways
