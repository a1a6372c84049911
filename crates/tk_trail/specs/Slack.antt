-- The slack of a monitor, and how far its levels can have moved.
use Rattle.std.specs.Prelude.{ℕ, ℤ, pos, ◌-ℤ◌, ◌≤ℤ◌, unsigned_abs, List, take, drop, sum_by, Option, Some, None}
use Rattle.std.specs.List.{zip}
use Rattle.tk_border.specs.Levels.{least_member, greatest_outside}
use Rattle.tk_trail.specs.Setup.{MonitorSetup}
use Rattle.tk_trail.specs.Readings.{members_at, places_at, levels_of}
use Rattle.tk_trail.specs.declared.entry.Entry.{Entry}

-- the difference of two numbers, where both are there
abbrev pub difference : Option ℤ → Option ℤ → Option ℤ
difference (Some x) (Some y) = Some (x -ℤ y)
difference (Some x) None = None
difference None y = None

-- the least member level minus the greatest level of an outsider, where there are both
unfoldable pub slack_of : MonitorSetup → List Entry → Option ℤ
slack_of setup trail =
    difference (least_member (levels_of setup trail) (members_at trail)) (greatest_outside (levels_of setup trail) (members_at trail))

-- the sizes of some changes, summed
abbrev pub sizes : List (ℕ × ℤ) → ℕ
sizes changes = sum_by (λ c. unsigned_abs c.1) changes

-- the sizes of the changes of all parts between two places of each
abbrev pub sizes_between : List (List (ℕ × ℤ)) → List ℕ → List ℕ → ℕ
sizes_between parts earlier later = sum_by (λ p. sizes (drop p.1.0 (take p.1.1 p.0))) (zip parts (zip earlier later))

-- the sizes of the changes raised between two fronts of a trail
unfoldable pub moved_between : MonitorSetup → List Entry → List Entry → ℕ
moved_between setup earlier later = sizes_between setup.parts (places_at setup earlier) (places_at setup later)

-- at most the slack; where there is no slack there is nothing to pass
abbrev pub IsWithinSlack : ℕ → Option ℤ → Type 0
IsWithinSlack moved None = Unit {0}
IsWithinSlack moved (Some slack) = pos moved ≤ℤ slack
