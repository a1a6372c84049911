-- What is read of a trail for settling.
use Rattle.std.specs.Prelude.{ℕ, ◌≡◌, Bool, true, false, not, ◌||◌, nat_lt, List, count_by}
use Rattle.std.specs.List.{list_any}
use Rattle.tk_trail.specs.Setup.{MonitorSetup}
use Rattle.tk_trail.specs.Readings.{assigns_of, places_at, seq_of, sent_by, since_assign}
use Rattle.tk_trail.specs.declared.entry.Entry.{Entry}
use Rattle.tk_trail.specs.declared.entry.Entry.TheVariants.{Raised, Took, Sent}
use Rattle.tk_frames.specs.Carried.{is_numbered}

-- whether an entry raised a change
abbrev pub is_raise : Entry → Bool
is_raise (Raised feeder) = true
is_raise (Took frame) = false
is_raise (Sent frame) = false

-- no change was raised since the last Assign that was taken
abbrev pub is_still : List Entry → Bool
is_still trail = not (list_any is_raise (since_assign trail))

-- where so many Assigns were sent to the monitor: whatever it sends, or has sent, under that number speaks of its present values
abbrev pub is_present : ℕ → List Entry → Bool
is_present sent trail = nat_lt (seq_of trail) sent || is_still trail

-- how many of them a trail sent
abbrev pub answers_under : ℕ → List Entry → ℕ
answers_under seq trail = count_by (is_numbered seq) (sent_by trail)

-- two trails with the same places and the same Assigns
pub record Same (setup : MonitorSetup) (a b : List Entry) : Type 0 where
  pub places : places_at setup a ≡ places_at setup b
  pub assigns : assigns_of a ≡ assigns_of b
