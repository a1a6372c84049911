-- Frames in words, in bytes.
use Rattle.std.specs.Prelude.{ℕ, ℤ, ◌++◌, Bool, true, false, nat_lt, if◌then◌else◌, List, [], ◌∷◌, length, flat_map, slice_index_or, codes, decimal}
use Rattle.std.specs.Fmt.{signed_decimal}
use Rattle.tk_frames.specs.declared.frame.Frame.{Frame}
use Rattle.tk_frames.specs.declared.frame.Frame.TheVariants as f

-- the name of an object behind a space; what is no object of the catalogue has none
abbrev pub name_text : List (List ℕ) → ℕ → List ℕ
name_text names o = codes " " ++ slice_index_or ([] ∷ names) o []

-- the names of some objects
abbrev pub objects_text : List (List ℕ) → List ℕ → List ℕ
objects_text names objects = flat_map (name_text names) objects

-- a number with the name of its object
abbrev pub pair_text : List (List ℕ) → ℕ × ℤ → List ℕ
pair_text names pair = name_text names pair.0 ++ codes " " ++ signed_decimal pair.1

-- values or factors, each with the name of its object
abbrev pub pairs_text : List (List ℕ) → List (ℕ × ℤ) → List ℕ
pairs_text names pairs = flat_map (pair_text names) pairs

-- a place in a log
abbrev pub place_text : ℕ → List ℕ
place_text place = codes " " ++ decimal place

-- the places of a monitor, feeders ascending
abbrev pub places_text : List ℕ → List ℕ
places_text places = flat_map place_text places

-- new factors, if there are any
abbrev pub factors_text : List (List ℕ) → List (ℕ × ℤ) → List ℕ
factors_text names changes = if nat_lt 0 (length changes) then codes " factors" ++ pairs_text names changes else []

-- whether all logs of a monitor are at their ends
abbrev pub last_text : Bool → List ℕ
last_text false = []
last_text true = codes " last"

-- under which Assign a Report is, and its border
abbrev pub report_title : ℕ → ℤ → List ℕ
report_title seq border = codes "report under " ++ decimal seq ++ codes " border " ++ signed_decimal border

-- the broken objects of a Report, and its values
abbrev pub broken_text : List (List ℕ) → List ℕ → List (ℕ × ℤ) → List ℕ
broken_text names failed values = codes " broken" ++ objects_text names failed ++ codes " values" ++ pairs_text names values

-- a frame: its kind, its number, and what it says. What a monitor says stands under the Assign of this number
abbrev pub frame_text : List (List ℕ) → Frame → List ℕ
frame_text names (f.Hello run version mon) = codes "hello " ++ decimal run ++ codes " version " ++ decimal version ++ codes " monitor " ++ decimal mon.0
frame_text names (f.Report seq border failed values) = report_title seq border ++ broken_text names failed values
frame_text names (f.Collect round asked) = codes "collect " ++ decimal round ++ codes " objects" ++ objects_text names asked
frame_text names (f.Values round seq border values) =
    codes "values " ++ decimal round ++ codes " under " ++ decimal seq ++ codes " border " ++ signed_decimal border
    ++ codes " of" ++ pairs_text names values
frame_text names (f.Assign seq members changes) =
    codes "assign " ++ decimal seq ++ codes " members" ++ objects_text names members ++ factors_text names changes
frame_text names (f.Settled seq last places) =
    codes "settled under " ++ decimal seq ++ codes " at" ++ places_text places ++ last_text last
frame_text names f.Stop = codes "stop"
