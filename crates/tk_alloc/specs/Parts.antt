-- The participants of a round, the leeways of its objects, and the factors that it deals.
use Rattle.std.specs.Prelude.{ℕ, ◌≡◌, ℤ, pos, ◌+ℤ◌, ◌-ℤ◌, List, ◌∷◌, map, unwrap_or, if◌then◌else◌}
use Rattle.std.specs.List.{enumerate_from}
use Rattle.tk_base.specs.Objects.{is_in}
use Rattle.tk_base.specs.Pairs.{value_at}
use Rattle.tk_base.specs.Sum.{int_sum}
use Rattle.tk_rows.specs.declared.mon_change.MonChange.{MonChange}
use Rattle.tk_rows.specs.declared.reallocation.Reallocation.{Reallocation}
use Rattle.tk_rows.specs.Factors.{Grid, factor_at}
use Rattle.tk_share.specs.Shares.{share}
use Rattle.tk_alloc.specs.declared.reported.Reported.{Reported}

-- a participant of a round, by its node
pub record Part : Type 0 where
  pub node : ℕ
  pub weight : ℕ
  pub border : ℤ
  pub values : List (ℕ × ℤ)

-- the value of an object at a participant
abbrev pub value_of : List (ℕ × ℤ) → ℕ → ℤ
value_of values o = unwrap_or (value_at values o) (pos 0)

-- the coordinator, at which the value of a member is epsilon, and that of any other object 0
abbrev pub coordinator : ℕ → ℤ → ℤ → List ℕ → List ℕ → Part
coordinator weight epsilon border members objects =
    record { node = 0; weight = weight; border = border; values = map (λ o. (o, if is_in members o then epsilon else pos 0)) objects }

-- a monitor that has reported, with the border that the round gives it
abbrev pub monitor : ℤ → Reported → Part
monitor border report = record { node = report.mon.0; weight = 1; border = border; values = report.values }

-- how far the level of an object at a participant is above the border there
abbrev pub above : Grid → ℕ → Part → ℤ
above grid o part = value_of part.values o +ℤ factor_at grid part.node o -ℤ part.border

-- the leeway of an object
unfoldable pub leeway : Grid → List Part → ℕ → ℤ
leeway grid parts o = int_sum (map (above grid o) parts)

-- the new factor at the participant of a place: its level is to be its share above the border
abbrev pub new_factor : Grid → List Part → ℕ → Part → ℕ → ℤ
new_factor grid parts p part o = part.border -ℤ value_of part.values o +ℤ share (map (λ q. q.weight) parts) p (leeway grid parts o)

-- the new factors of some objects at participants, of which the first stands at a place of all
abbrev pub dealt_from : Grid → List Part → List ℕ → ℕ → List Part → List (ℕ × List (ℕ × ℤ))
dealt_from grid parts objects first some = map (λ e. (e.1.node, map (λ o. (o, new_factor grid parts e.0 e.1 o)) objects)) (enumerate_from first some)

-- the changes at monitors, by their numbers
abbrev pub by_monitor : List MonChange → List (ℕ × List (ℕ × ℤ))
by_monitor at = map (λ c. (c.mon.0, c.changes)) at

-- a reallocation between these participants, of these objects, with these members
pub record IsReallocation (grid : Grid) (parts : List Part) (objects members : List ℕ) (change : Reallocation) : Type 0 where
  pub chosen : change.members ≡ members
  pub factors : (0, change.own) ∷ by_monitor change.at.items ≡ dealt_from grid parts objects 0 parts
