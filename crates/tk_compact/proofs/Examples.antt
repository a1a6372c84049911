-- Monitors that begin anew, worked out: two objects; one stream that is told `a,5`, `b,3`, `a,-5`, and one that is told `a,1`, `b,1` as
-- the second of two.
use Rattle.std.proofs.Common.{◌≡◌, true, List, [], ◌∷◌, ◌++◌, refl}
use Rattle.std.specs.Prelude.{pos, negsuc}
use Rattle.tk_base.specs.Objects.{objects}
use Rattle.tk_input.specs.Changes.{closing}
use Rattle.tk_trail.specs.Readings.{places_at, value_of_object, values_of}
use Rattle.tk_trail.specs.Setup.{MonitorSetup}
use Rattle.tk_trail.specs.declared.entry.Entry.{Entry}
use Rattle.tk_trail.specs.declared.entry.Entry.TheVariants.{Raised}
use Rattle.tk_compact.specs.Anew.{anew, open_streams, size_of_values}
use Rattle.tk_compact.specs.Compacted.{compacted}
use Rattle.tk_compact.specs.Standing.{moved}

abbrev one : MonitorSetup
one = record { number = 1; objects = 2; parts = ((1, pos 5) ∷ (2, pos 3) ∷ (1, negsuc 4) ∷ closing ∷ []) ∷ []; from = 0 ∷ [] }

abbrev told : List Entry
told = Raised (record { 0 = 1 }) ∷ Raised (record { 0 = 1 }) ∷ Raised (record { 0 = 1 }) ∷ []

abbrev closed : List Entry
closed = told ++ Raised (record { 0 = 1 }) ∷ []

values-told : values_of one told ≡ pos 0 ∷ pos 3 ∷ []
unfolding values_of value_of_object places_at objects
values-told = refl

size-told : size_of_values one told ≡ 3
unfolding values_of value_of_object places_at objects
size-told = refl

-- it begins anew behind one change, with its closing record left
anew-told : anew one told (open_streams one told) ≡ record { number = 1; objects = 2; parts = ((2, pos 3) ∷ closing ∷ []) ∷ []; from = 1 ∷ [] }
unfolding values_of value_of_object places_at objects compacted
anew-told = refl

-- once the stream has ended there is no closing record any more
anew-closed : anew one closed (open_streams one closed) ≡ record { number = 1; objects = 2; parts = ((2, pos 3) ∷ []) ∷ []; from = 1 ∷ [] }
unfolding values_of value_of_object places_at objects compacted
anew-closed = refl

-- three changes were told, and the base has one: place 2 then is the fourth
fourth : moved (1 ∷ []) (3 ∷ []) (2 ∷ []) ≡ 4 ∷ []
fourth = refl

abbrev two : MonitorSetup
two = record { number = 1; objects = 2; parts = (closing ∷ []) ∷ ((1, pos 1) ∷ (2, pos 1) ∷ closing ∷ []) ∷ []; from = 0 ∷ 0 ∷ [] }

abbrev told_second : List Entry
told_second = Raised (record { 0 = 2 }) ∷ Raised (record { 0 = 2 }) ∷ []

open-second : open_streams two told_second ≡ true ∷ true ∷ []
unfolding places_at
open-second = refl

-- the values stand in the first part, and the second is empty
anew-second : anew two told_second (open_streams two told_second) ≡ record { number = 1; objects = 2; parts = ((1, pos 1) ∷ (2, pos 1) ∷ closing ∷ []) ∷ (closing ∷ []) ∷ []; from = 2 ∷ 0 ∷ [] }
unfolding values_of value_of_object places_at objects compacted
anew-second = refl
