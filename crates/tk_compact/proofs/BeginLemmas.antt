-- What the code that begins a monitor anew has made so far.
use Rattle.std.proofs.Common.{◌≡◌, ℕ, suc, zero, ◌+◌, ◌-◌, ◌<◌, ◌≤◌, List, [], ◌∷◌, ◌++◌, length, map, take, drop, get_or, refl, sym, ap, ap₂, ◌∙◌, arith}
use Rattle.std.specs.Prelude.{ℤ, pos, nat_lt, unsigned_abs, sum_by}
use Rattle.std.specs.List.{zip}
use Rattle.std.proofs.lemmas.List.{length-map, take_all, take_more}
use Rattle.std.proofs.lemmas.List.Sums.{sum_by_more}
use Rattle.std.proofs.lemmas.Slice.Zip.{length-zip}
use Rattle.tk_trail.specs.Legal.{part_length, place_of}
use Rattle.tk_trail.specs.Readings.{places_at, value_of_object, values_of}
use Rattle.tk_trail.specs.Setup.{IsSetup, MonitorSetup}
use Rattle.tk_trail.specs.declared.entry.Entry.{Entry}
use Rattle.tk_trail.proofs.LevelsLemmas.{level_at-values_of}
use Rattle.tk_trail.proofs.PlacesLemmas.{length-places_at}
use Rattle.tk_base.specs.Settings.{Setup}
use Rattle.tk_monitor.specs.Monitored.{MonitorView, made}
use Rattle.tk_compact.specs.Anew.{anew, base_of, closer, closers, open_streams}
use Rattle.tk_compact.specs.Begun.{begun}
use Rattle.tk_compact.specs.Compacted.{compacted}
use Rattle.tk_compact.specs.Standing.{behind, ends_of}
use Rattle.tk_compact.proofs.BaseLemmas.{length-base_of, length-values_of}
use Rattle.tk_compact.proofs.CompactedLemmas.{compacted_limits}
use Rattle.tk_compact.proofs.StandingLemmas.{length-behind, length-ends_of}

-- the value of an object stands in the list of all values
pub value_in : (setup : MonitorSetup) (trail : List Entry) (i : ℕ) → i < setup.objects → get_or (values_of setup trail) i (pos 0) ≡ value_of_object setup trail (i + 1)
value_in setup trail i within =
    let e : (i + 1) - 1 ≡ i = omega arith in
    ap (λ (k : ℕ). get_or (values_of setup trail) k (pos 0)) (sym e) ∙ level_at-values_of setup trail (i + 1) (omega arith) (omega (arith, within))

-- the sizes of one value more
pub sizes_more : (setup : MonitorSetup) (trail : List Entry) (i : ℕ) → i < setup.objects → sum_by (λ v. unsigned_abs v) (take (i + 1) (values_of setup trail)) ≡ sum_by (λ v. unsigned_abs v) (take i (values_of setup trail)) + unsigned_abs (value_of_object setup trail (i + 1))
sizes_more setup trail i within =
    let size : ℤ → ℕ = λ v. unsigned_abs v in
    sum_by_more size (values_of setup trail) i (pos 0) (omega (arith, within, length-values_of setup trail))
    ∙ ap (λ (v : ℤ). sum_by size (take i (values_of setup trail)) + size v) (value_in setup trail i within)

-- which streams are open, one by one
opened_at : (parts : List (List (ℕ × ℤ))) (places : List ℕ) (i : ℕ) → i < length parts → i < length places → get_or (closers (map (λ (p : List (ℕ × ℤ) × ℕ). nat_lt p.1 (length p.0)) (zip parts places))) i [] ≡ closer (nat_lt (get_or places i 0) (length (get_or parts i [])))
opened_at [] places i within inside = absurd (omega (arith, within))
opened_at (x ∷ parts) [] i within inside = absurd (omega (arith, inside))
opened_at (x ∷ parts) (p ∷ places) zero within inside = refl
opened_at (x ∷ parts) (p ∷ places) (suc i) within inside = opened_at parts places i (omega (arith, within)) (omega (arith, inside))

behind_at : (xs ys : List (List (ℕ × ℤ))) (i : ℕ) → i < length xs → i < length ys → get_or (behind xs ys) i [] ≡ get_or xs i [] ++ get_or ys i []
behind_at [] ys i within inside = absurd (omega (arith, within))
behind_at (x ∷ xs) [] i within inside = absurd (omega (arith, inside))
behind_at (x ∷ xs) (y ∷ ys) zero within inside = refl
behind_at (x ∷ xs) (y ∷ ys) (suc i) within inside = behind_at xs ys i (omega (arith, within)) (omega (arith, inside))

pub ends_at : (xs : List (List (ℕ × ℤ))) (i : ℕ) → i < length xs → get_or (ends_of xs) i 0 ≡ length (get_or xs i [])
ends_at [] i within = absurd (omega (arith, within))
ends_at (x ∷ xs) zero within = refl
ends_at (x ∷ xs) (suc i) within = ends_at xs i (omega (arith, within))

-- of another stream than the first the base is empty
blank_at : (rest : List (List (ℕ × ℤ))) (i : ℕ) → get_or {A = List (ℕ × ℤ)} (map (λ (part : List (ℕ × ℤ)). []) rest) i [] ≡ []
blank_at [] i = refl
blank_at (p ∷ rest) zero = refl
blank_at (p ∷ rest) (suc i) = blank_at rest i

pub base_blank : (setup : MonitorSetup) (trail : List Entry) (i : ℕ) → 0 < i → get_or (base_of setup trail) i [] ≡ []
base_blank setup trail zero some = absurd (omega (arith, some))
base_blank setup trail (suc i) some = blank_at (drop 1 setup.parts) i

pub base_few : (setup : MonitorSetup) (trail : List Entry) (i : ℕ) → IsSetup setup → length (get_or (base_of setup trail) i []) ≤ 65536
base_few setup trail zero is = omega (arith, (compacted_limits (values_of setup trail)).0, length-values_of setup trail, is.objects)
base_few setup trail (suc i) is =
    let none = ap (λ (cs : List (ℕ × ℤ)). length cs) (blank_at (drop 1 setup.parts) i) in
    omega (arith, none)

-- how many places there are
pub count_streams : (setup : MonitorSetup) (trail : List Entry) (n : ℕ) (places : List ℕ) → IsSetup setup → n ≡ length places → places ≡ places_at setup trail → n ≡ length setup.parts
count_streams setup trail n places is long same = long ∙ ap (λ (ps : List ℕ). length ps) same ∙ length-places_at setup trail ∙ is.from.shape

pub count_open : (setup : MonitorSetup) (trail : List Entry) → IsSetup setup → length (open_streams setup trail) ≡ length setup.parts
count_open setup trail is =
    omega (arith, length-map (zip setup.parts (places_at setup trail)) (λ (p : List (ℕ × ℤ) × ℕ). nat_lt p.1 (length p.0)), length-zip setup.parts (places_at setup trail), length-places_at setup trail, is.from.shape)

pub count_closers : (setup : MonitorSetup) (trail : List Entry) → IsSetup setup → length (closers (open_streams setup trail)) ≡ length (base_of setup trail)
count_closers setup trail is =
    omega (arith, length-map (open_streams setup trail) closer, count_open setup trail is, length-base_of setup trail is.parts.some_feeder)

pub count_anew : (setup : MonitorSetup) (trail : List Entry) → IsSetup setup → length (anew setup trail (open_streams setup trail)).parts ≡ length setup.parts
count_anew setup trail is =
    omega (arith, length-behind (base_of setup trail) (closers (open_streams setup trail)) (count_closers setup trail is), length-base_of setup trail is.parts.some_feeder)

pub count_starts : (setup : MonitorSetup) (trail : List Entry) → IsSetup setup → length (ends_of (base_of setup trail)) ≡ length setup.parts
count_starts setup trail is = length-ends_of (base_of setup trail) ∙ length-base_of setup trail is.parts.some_feeder

-- a part: its base, and the closing record where it is open
pub part_anew : (setup : MonitorSetup) (trail : List Entry) (i : ℕ) → IsSetup setup → i < length setup.parts → get_or (anew setup trail (open_streams setup trail)).parts i [] ≡ get_or (base_of setup trail) i [] ++ closer (nat_lt (get_or (places_at setup trail) i 0) (length (get_or setup.parts i [])))
part_anew setup trail i is within =
    let base = base_of setup trail in
    let ends = closers (open_streams setup trail) in
    let count = length-base_of setup trail is.parts.some_feeder in
    behind_at base ends i (omega (arith, within, count)) (omega (arith, within, count, count_closers setup trail is))
    ∙ ap (λ (cs : List (ℕ × ℤ)). get_or base i [] ++ cs) (opened_at setup.parts (places_at setup trail) i within (omega (arith, within, length-places_at setup trail, is.from.shape)))

-- one part more
pub parts_more : (setup : MonitorSetup) (trail : List Entry) (i : ℕ) → IsSetup setup → i < length setup.parts → take (i + 1) (anew setup trail (open_streams setup trail)).parts ≡ take i (anew setup trail (open_streams setup trail)).parts ++ (get_or (base_of setup trail) i [] ++ closer (nat_lt (place_of setup trail (i + 1)) (part_length setup (i + 1)))) ∷ []
parts_more setup trail i is within =
    let base = base_of setup trail in
    let whole = behind base (closers (open_streams setup trail)) in
    let e : i ≡ (i + 1) - 1 = omega arith in
    let one : get_or whole i [] ≡ get_or base i [] ++ closer (nat_lt (place_of setup trail (i + 1)) (part_length setup (i + 1))) =
    part_anew setup trail i is within
    ∙ ap (λ (k : ℕ). get_or base i [] ++ closer (nat_lt (get_or (places_at setup trail) k 0) (length (get_or setup.parts k [])))) e in
    take_more whole i [] (omega (arith, within, count_anew setup trail is)) ∙ ap (λ (part : List (ℕ × ℤ)). take i whole ++ part ∷ []) one

-- one start more
pub starts_more : (setup : MonitorSetup) (trail : List Entry) (i : ℕ) → IsSetup setup → i < length setup.parts → take (i + 1) (ends_of (base_of setup trail)) ≡ take i (ends_of (base_of setup trail)) ++ length (get_or (base_of setup trail) i []) ∷ []
starts_more setup trail i is within =
    let base = base_of setup trail in
    take_more (ends_of base) i 0 (omega (arith, within, count_starts setup trail is))
    ∙ ap (λ (n : ℕ). take i (ends_of base) ++ n ∷ []) (ends_at base i (omega (arith, within, length-base_of setup trail is.parts.some_feeder)))

-- of the first stream it is the values
pub base_first : (setup : MonitorSetup) (trail : List Entry) (i : ℕ) → i ≡ 0 → compacted (values_of setup trail) ≡ get_or (base_of setup trail) i []
base_first setup trail i first = rw first refl

-- all parts are made, and all starts
pub parts_whole : (setup : MonitorSetup) (trail : List Entry) (i : ℕ) (made_so_far : List (List (ℕ × ℤ))) → IsSetup setup → made_so_far ≡ take i (anew setup trail (open_streams setup trail)).parts → length setup.parts ≤ i → made_so_far ≡ (anew setup trail (open_streams setup trail)).parts
parts_whole setup trail i made_so_far is are all = are ∙ take_all i (anew setup trail (open_streams setup trail)).parts (omega (arith, all, count_anew setup trail is))

pub starts_whole : (setup : MonitorSetup) (trail : List Entry) (i : ℕ) (made_so_far : List ℕ) → IsSetup setup → made_so_far ≡ take i (ends_of (base_of setup trail)) → length setup.parts ≤ i → made_so_far ≡ ends_of (base_of setup trail)
starts_whole setup trail i made_so_far is are all = are ∙ take_all i (ends_of (base_of setup trail)) (omega (arith, all, count_starts setup trail is))

-- it, over so many objects
abbrev with_objects : MonitorView → ℕ → MonitorView
with_objects m n = record {
  settings = m.settings;
  setup = record { number = m.setup.number; objects = n; parts = (anew m.setup m.trail (open_streams m.setup m.trail)).parts; from = ends_of (base_of m.setup m.trail) };
  trail = [];
}

-- so the monitor that is made of them is the one that begins anew
pub begun_made : (m : MonitorView) (settings : Setup) (number : ℕ) (parts : List (List (ℕ × ℤ))) (from : List ℕ) → settings ≡ m.settings → m.setup.objects ≡ m.settings.objects → number ≡ m.setup.number → parts ≡ (anew m.setup m.trail (open_streams m.setup m.trail)).parts → from ≡ ends_of (base_of m.setup m.trail) → made settings number parts from ≡ begun m
begun_made m settings number parts from same objects own whole starts =
    ap₂ (λ (s : Setup) (n : ℕ). made s n parts from) same own
    ∙ ap₂ (λ (ps : List (List (ℕ × ℤ))) (fs : List ℕ). made m.settings m.setup.number ps fs) whole starts
    ∙ ap (with_objects m) (sym objects)
