-- The printed line of a publication, in bytes.
use Rattle.std.specs.Prelude.{ℕ, ◌-◌, ◌++◌, Bool, true, false, List, [], length, flat_map, slice_index_or, codes, decimal}
use Rattle.std.specs.Fmt.{signed_decimal}
use Rattle.std.specs.List.{join_by, range_with_len}
use Rattle.tk_input.specs.Logs.{places_of}
use Rattle.tk_journal.specs.declared.publication.Publication.{Publication}

-- the places of a monitor, joined by commas
abbrev pub places_text : List ℕ → List ℕ
places_text places = join_by decimal (codes ",") places

-- a monitor with its places
abbrev pub monitor_text : List (List ℕ) → ℕ → List ℕ
monitor_text cut mon = codes " " ++ decimal mon ++ codes ":" ++ places_text (places_of cut mon)

-- all monitors of a cut, ascending
abbrev pub cut_text : List (List ℕ) → List ℕ
cut_text cut = flat_map (monitor_text cut) (range_with_len 1 (length cut))

-- the name of an object
abbrev pub name_text : List (List ℕ) → ℕ → List ℕ
name_text names o = codes " " ++ slice_index_or names (o - 1) []

-- the names of some members
abbrev pub names_text : List (List ℕ) → List ℕ → List ℕ
names_text names members = flat_map (name_text names) members

-- whether a set is the last one
abbrev pub kind_text : Bool → List ℕ
kind_text false = codes "set "
kind_text true = codes "final "

-- how many members there are, and within which epsilon, in a journal that was tuned
abbrev pub bounds_text : Bool → Publication → List ℕ
bounds_text false p = []
bounds_text true p = codes " k " ++ decimal p.k ++ codes " epsilon " ++ signed_decimal p.epsilon

-- the line, its line feed included
abbrev pub line_text : List (List ℕ) → Bool → Publication → List ℕ
line_text names tuned p =
    kind_text p.last ++ decimal p.number ++ bounds_text tuned p
    ++ codes " cut" ++ cut_text p.cut
    ++ codes " members" ++ names_text names p.members
    ++ codes "\n"
