-- What a front of a trail says: the Assigns taken, the places reached, levels, and what is broken.
use Rattle.std.specs.Prelude.{ℕ, ◌+◌, ℤ, ◌+ℤ◌, Bool, true, false, ◌==◌, nat_lt, List, [], ◌∷◌, ◌++◌, length, map, filter_map, fold, count_by, Option, Some, None}
use Rattle.std.specs.List.{zip, enumerate_from, list_any, list_all}
use Rattle.tk_base.specs.Objects.{objects}
use Rattle.tk_frames.specs.declared.frame.Frame.{Frame}
use Rattle.tk_frames.specs.declared.frame.Frame.TheVariants as f
use Rattle.tk_input.specs.Logs.{value_of}
use Rattle.tk_border.specs.Levels.{broken}
use Rattle.tk_frames.specs.Assigns.{Assign, assign_in, row, members_of}
use Rattle.tk_trail.specs.Setup.{MonitorSetup}
use Rattle.tk_trail.specs.declared.entry.Entry.{Entry}
use Rattle.tk_trail.specs.declared.entry.Entry.TheVariants.{Raised, Took, Sent}

-- the frame that an entry took, if it took one
abbrev pub taken_in : Entry → Option Frame
taken_in (Raised g) = None
taken_in (Took frame) = Some frame
taken_in (Sent frame) = None

-- the frame that an entry sent, if it sent one
abbrev pub sent_in : Entry → Option Frame
sent_in (Raised g) = None
sent_in (Took frame) = None
sent_in (Sent frame) = Some frame

-- the frames taken
abbrev pub taken_by : List Entry → List Frame
taken_by trail = filter_map taken_in trail

-- the frames sent
abbrev pub sent_by : List Entry → List Frame
sent_by trail = filter_map sent_in trail

-- the Assigns taken
abbrev pub assigns_of : List Entry → List Assign
assigns_of trail = filter_map assign_in (taken_by trail)

-- how many Assigns were taken
abbrev pub seq_of : List Entry → ℕ
seq_of trail = length (assigns_of trail)

-- whether an entry raised a change of a feeder
abbrev pub is_raise_of : ℕ → Entry → Bool
is_raise_of g (Raised feeder) = feeder.0 == g
is_raise_of g (Took frame) = false
is_raise_of g (Sent frame) = false

-- how many changes of a feeder were raised
abbrev pub raised_of : ℕ → List Entry → ℕ
raised_of g trail = count_by (is_raise_of g) trail

-- the place of each feeder: where it started plus how many of its changes were raised
unfoldable pub places_at : MonitorSetup → List Entry → List ℕ
places_at setup trail = map (λ p. p.1 + raised_of p.0 trail) (enumerate_from 1 setup.from)

-- whether each part is at its end
unfoldable pub at_ends : MonitorSetup → List Entry → Bool
at_ends setup trail = list_all (λ p. p.1 == length p.0) (zip setup.parts (places_at setup trail))

-- the value of an object at the places reached
unfoldable pub value_of_object : MonitorSetup → List Entry → ℕ → ℤ
value_of_object setup trail o = value_of setup.parts (places_at setup trail) o

-- the level of an object: its value plus its factor
unfoldable pub level_of : MonitorSetup → List Entry → ℕ → ℤ
level_of setup trail o = value_of_object setup trail o +ℤ row (assigns_of trail) o

-- the value of each object
unfoldable pub values_of : MonitorSetup → List Entry → List ℤ
values_of setup trail = map (value_of_object setup trail) (objects setup.objects)

-- the level of each object
unfoldable pub levels_of : MonitorSetup → List Entry → List ℤ
levels_of setup trail = map (level_of setup trail) (objects setup.objects)

-- the members that the last Assign names
abbrev pub members_at : List Entry → List ℕ
members_at trail = members_of (assigns_of trail)

-- the broken outsiders; none before the first Assign, since there is no member then
unfoldable pub broken_at : MonitorSetup → List Entry → List ℕ
broken_at setup trail = broken (levels_of setup trail) (members_at trail)

-- whether something is broken
abbrev pub is_broken : MonitorSetup → List Entry → Bool
is_broken setup trail = nat_lt 0 (length (broken_at setup trail))

-- what stands behind the last taken Assign once one more entry is there
abbrev pub goes_on : List Entry → Entry → List Entry
goes_on after (Took (f.Assign seq members changes)) = []
goes_on after e = after ++ e ∷ []

-- the entries behind the last taken Assign; all of them where none was taken
abbrev pub since_assign : List Entry → List Entry
since_assign trail = fold goes_on [] trail

-- whether an entry sent a Report
abbrev pub is_report : Entry → Bool
is_report (Sent (f.Report seq border failed values)) = true
is_report e = false

-- whether an entry sent a Settled with `last`
abbrev pub is_end : Entry → Bool
is_end (Sent (f.Settled seq last places)) = last
is_end e = false

-- whether an entry took Stop
abbrev pub is_stop : Entry → Bool
is_stop (Took f.Stop) = true
is_stop e = false

-- whether a Report was sent since the last Assign
abbrev pub is_reported : List Entry → Bool
is_reported trail = list_any is_report (since_assign trail)

-- whether the end was told since the last Assign, by a Settled with `last`
abbrev pub is_end_told : List Entry → Bool
is_end_told trail = list_any is_end (since_assign trail)

-- whether Stop was taken
abbrev pub is_stopped : List Entry → Bool
is_stopped trail = list_any is_stop trail
