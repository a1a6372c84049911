-- Which refusal a frame meets at a monitor, over the trail before it.
use Rattle.std.specs.Prelude.{ℕ, ◌+◌, ◌^◌, ℤ, Bool, not, ◌&&◌, ◌||◌, ◌==◌, nat_lt, nat_le, unsigned_abs, List, length, find, Option, Some, None, if◌then◌else◌}
use Rattle.std.specs.List.{list_all}
use Rattle.std.specs.Option.{option_map}
use Rattle.tk_base.specs.Ascending.{ascends}
use Rattle.tk_base.specs.Objects.{is_in}
use Rattle.tk_frames.specs.declared.frame.Frame.{Frame}
use Rattle.tk_frames.specs.declared.frame.Frame.TheVariants as f
use Rattle.tk_frames.specs.declared.kind.Kind.TheVariants as k
use Rattle.tk_trail.specs.Setup.{MonitorSetup}
use Rattle.tk_trail.specs.Readings.{members_at, seq_of, is_end_told, is_stopped}
use Rattle.tk_trail.specs.declared.entry.Entry.{Entry}
use Rattle.tk_trail.specs.declared.refusal.MonitorRefusal.{MonitorRefusal}
use Rattle.tk_trail.specs.declared.refusal.MonitorRefusal.TheVariants.{AfterStop, NotForMonitor, WrongSequence, BadMembers, BadChange, BadCollect, EarlyStop}

-- some objects of a catalogue of n, ascending
abbrev pub are_some_of : ℕ → List ℕ → Bool
are_some_of n list = nat_lt 0 (length list) && ascends list && list_all (λ o. nat_le o n) list

-- members are 1 to 1,024 objects of the catalogue
abbrev pub are_members : ℕ → List ℕ → Bool
are_members n members = are_some_of n members && nat_le (length members) 1024

-- a change names an object past the catalogue, or a factor past its limit
abbrev pub is_bad_change : ℕ → ℕ × ℤ → Bool
is_bad_change n change = nat_lt n change.0 || nat_lt (2 ^ 112) (unsigned_abs change.1)

-- what the tests look at: the size of the catalogue, the Assigns taken, the members, whether the end is
-- told, and whether Stop was taken
pub record Shown : Type 0 where
  pub objects : ℕ
  pub seq : ℕ
  pub members : List ℕ
  pub told : Bool
  pub stopped : Bool

-- what a trail shows
abbrev pub shown_by : MonitorSetup → List Entry → Shown
shown_by setup trail = record {
  objects = setup.objects;
  seq = seq_of trail;
  members = members_at trail;
  told = is_end_told trail;
  stopped = is_stopped trail;
}

-- an Assign is the next one, has members, and no bad change
abbrev pub refusal_of_assign : Shown → ℕ → List ℕ → List (ℕ × ℤ) → Option MonitorRefusal
refusal_of_assign shown seq members changes =
    if not (seq == shown.seq + 1) then Some (WrongSequence shown.seq seq)
    else (if not (are_members shown.objects members) then Some BadMembers
    else option_map (λ change. BadChange (record { 0 = change.0 })) (find (is_bad_change shown.objects) changes))

-- a Collect comes after an Assign, and asks for some objects, the members among them
abbrev pub is_collect : Shown → List ℕ → Bool
is_collect shown asked = nat_lt 0 shown.seq && are_some_of shown.objects asked && list_all (is_in asked) shown.members

-- which refusal a frame meets where Stop was not taken
abbrev pub refusal_of_kind : Shown → Frame → Option MonitorRefusal
refusal_of_kind shown (f.Hello run version mon) = Some (NotForMonitor k.Hello)
refusal_of_kind shown (f.Report seq border failed values) = Some (NotForMonitor k.Report)
refusal_of_kind shown (f.Collect round asked) = if is_collect shown asked then None else Some BadCollect
refusal_of_kind shown (f.Values round seq border values) = Some (NotForMonitor k.Values)
refusal_of_kind shown (f.Assign seq members changes) = refusal_of_assign shown seq members changes
refusal_of_kind shown (f.Settled seq last places) = Some (NotForMonitor k.Settled)
refusal_of_kind shown f.Stop = if shown.told then None else Some EarlyStop

-- which refusal a frame meets by what the tests look at; after Stop every frame meets one
abbrev pub refusal_over : Shown → Frame → Option MonitorRefusal
refusal_over shown frame = if shown.stopped then Some AfterStop else refusal_of_kind shown frame

-- which refusal a frame meets over a trail, if it meets one
unfoldable pub refusal_of : MonitorSetup → List Entry → Frame → Option MonitorRefusal
refusal_of setup trail frame = refusal_over (shown_by setup trail) frame
