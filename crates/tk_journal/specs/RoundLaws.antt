-- What is reported to a round that ends in a legal journal, and what it leaves.
use Rattle.std.specs.Prelude.{ℕ, ℤ, ◌≡◌, true, false, List, [], ◌∷◌, ◌++◌}
use Rattle.std.specs.List.{All}
use Rattle.tk_alloc.specs.Resolving.{objects_over}
use Rattle.tk_alloc.specs.Strain.{is_strained}
use Rattle.tk_base.specs.Objects.{objects}
use Rattle.tk_base.specs.Pairs.{objects_of}
use Rattle.tk_base.specs.declared.ids.Mon.{Mon}
use Rattle.tk_frames.specs.declared.frame.Frame.{Frame}
use Rattle.tk_frames.specs.declared.frame.Frame.TheVariants as f
use Rattle.tk_journal.specs.Deciding.{is_within_limit, reports_at}
use Rattle.tk_journal.specs.Legal.{Opening, turn_of}
use Rattle.tk_journal.specs.Readings.{assigns_sent, members_at}
use Rattle.tk_journal.specs.RoundEnds.{AreReported, AreSpokenOf, IsLoneTurn, IsRoundEnd, IsShortTurn, KeepsOrder, levels_with}
use Rattle.tk_journal.specs.Turns.{full_at, is_wide, reported}
use Rattle.tk_journal.specs.declared.noted.Noted.{Noted}
use Rattle.tk_journal.specs.declared.noted.Noted.TheVariants as n

-- where a round ends each monitor has reported over its objects, all of them where it is wide
abbrev pub EachMonitorHasReported : Type 0
EachMonitorHasReported =
    (o : Opening) (j : List Noted) (from : Mon) (frame : Frame)
    → IsRoundEnd o j from frame → AreReported o.settings (j ++ n.Got from frame ∷ [])

-- the end of a wide round leaves no object above a member at any monitor, at the values that it reported
abbrev pub WideEndLeavesOrder : Type 0
WideEndLeavesOrder =
    (o : Opening) (j : List Noted) (from : Mon) (frame : Frame)
    → IsRoundEnd o j from frame
    → let now = j ++ n.Got from frame ∷ [] in
    is_wide o.settings now ≡ true
    → All (λ r. KeepsOrder (j ++ turn_of o.settings j (n.Got from frame)) r (objects o.settings.objects))
    (reports_at o.settings now)

-- the end of a full round leaves none of its objects above a member at any monitor, at the values that it reported
abbrev pub FullEndLeavesOrder : Type 0
FullEndLeavesOrder =
    (o : Opening) (j : List Noted) (from : Mon) (frame : Frame)
    → IsRoundEnd o j from frame
    → let now = j ++ n.Got from frame ∷ [] in
    is_wide o.settings now ≡ false → is_within_limit (full_at o.settings now (reports_at o.settings now)) ≡ true
    → All (λ r. KeepsOrder (j ++ turn_of o.settings j (n.Got from frame)) r (objects_over (reports_at o.settings now)))
    (reports_at o.settings now)

-- a full round of one monitor, which ends in the turn that opens it, leaves none of its objects above a member there
abbrev pub LoneTurnLeavesOrder : Type 0
LoneTurnLeavesOrder =
    (o : Opening) (j : List Noted) (from : Mon) (border : ℤ) (failed : List ℕ) (values : List (ℕ × ℤ))
    → IsLoneTurn o j from border failed values
    → let frame = f.Report (assigns_sent from.0 j) border failed values in
    KeepsOrder (j ++ turn_of o.settings j (n.Got from frame)) (reported from.0 border values) (objects_of values)

-- a short round leaves none of its objects above a member at the reporter, at the values that it reported
abbrev pub ShortTurnLeavesOrder : Type 0
ShortTurnLeavesOrder =
    (o : Opening) (j : List Noted) (from : Mon) (border : ℤ) (failed : List ℕ) (values : List (ℕ × ℤ))
    → IsShortTurn o j from border failed values
    → let frame = f.Report (assigns_sent from.0 j) border failed values in
    KeepsOrder (j ++ turn_of o.settings j (n.Got from frame)) (reported from.0 border values) (objects_of values)

-- where what is reported to a short round are the reporter's values, nothing at all is broken there behind it
abbrev pub ShortTurnLeavesCalm : Type 0
ShortTurnLeavesCalm =
    (o : Opening) (j : List Noted) (from : Mon) (border : ℤ) (failed : List ℕ) (values : List (ℕ × ℤ))
    (value : ℕ → ℤ)
    → IsShortTurn o j from border failed values → AreSpokenOf o.settings j (reported from.0 border values) value
    → let after = j ++ turn_of o.settings j (n.Got from (f.Report (assigns_sent from.0 j) border failed values)) in
    is_strained (levels_with o.settings after from.0 value) (members_at after) ≡ false
