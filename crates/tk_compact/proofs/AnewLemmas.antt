-- A monitor that begins anew is within its limits.
use Rattle.std.proofs.Common.{◌≡◌, ℕ, suc, zero, ◌+◌, ◌-◌, ◌<◌, ◌≤◌, ◌^◌, Bool, true, false, ◌==◌, cond, List, [], ◌∷◌, ◌++◌, length, map, drop, get_or, inl, inr, ◌⊎◌, Some, refl, ap, ◌∙◌, subst, arith, ne_eqb, eq-eqb, length-append}
use Rattle.std.specs.Prelude.{ℤ, pos, All, sum_by, unsigned_abs, slice_get}
use Rattle.std.specs.List.{enumerate_from, filter, range_with_len}
use Rattle.std.proofs.lemmas.Bool.{cases_eq, cases_lt}
use Rattle.std.proofs.lemmas.List.{length-map}
use Rattle.std.proofs.lemmas.Option.{slice_get-get_or}
use Rattle.std.proofs.Math.Seq.{get_or-append_seam}
use Rattle.std.proofs.lemmas.List.Elements.{All-append, All-cons, All-head, All-nil, All-tail}
use Rattle.std.proofs.lemmas.List.Sums.{sum_by-append, sum_by-cons, sum_by-le-sum_by}
use Rattle.tk_base.specs.Objects.{objects}
use Rattle.tk_input.specs.Logs.{IsObject, weight_for, weight_of}
use Rattle.tk_input.specs.Rows.{size_at}
use Rattle.tk_input.proofs.SumLemmas.{weight_for-all}
use Rattle.tk_trail.specs.Legal.{IsLegal, place_of}
use Rattle.tk_trail.specs.Readings.{value_of_object, values_of}
use Rattle.tk_trail.specs.Setup.{IsSetup, MonitorSetup}
use Rattle.tk_trail.specs.Slack.{sizes}
use Rattle.tk_trail.specs.declared.entry.Entry.{Entry}
use Rattle.tk_trail.proofs.BoundLemmas.{small_values}
use Rattle.tk_trail.proofs.LevelsLemmas.{level_at-values_of, value-small}
use Rattle.tk_trail.proofs.PlacesLemmas.{places_at-start}
use Rattle.tk_trail.proofs.ValuesLemmas.{weight_for-cons, weight_in}
use Rattle.tk_input.specs.Changes.{closing}
use Rattle.tk_compact.specs.Compacted.{changes_something, compacted}
use Rattle.tk_compact.specs.Standing.{behind, ends_of}
use Rattle.tk_compact.proofs.CompactedLemmas.{compacted_limits, compacted_sums}
use Rattle.tk_compact.proofs.StandingLemmas.{length-behind, length-ends_of}
use Rattle.tk_compact.specs.Room.{IsWaiting, IsWeighed, sizes_of}
use Rattle.tk_compact.specs.Anew.{anew, base_of, closer, closers, size_of_values}
use Rattle.tk_compact.proofs.BaseLemmas.{length-base_of, length-values_of}

-- ---- parts behind others

behind_all : (P Q R : List (ℕ × ℤ) → Type 0) → ((x y : List (ℕ × ℤ)) → P x → Q y → R (x ++ y)) → (xs ys : List (List (ℕ × ℤ))) → All P xs → All Q ys → All R (behind xs ys)
behind_all P Q R both [] ys left right = All-nil R
behind_all P Q R both (x ∷ xs) [] left right = All-nil R
behind_all P Q R both (x ∷ xs) (y ∷ ys) left right =
    All-cons R (x ++ y) (behind xs ys) (both x y (All-head P x xs left) (All-head Q y ys right))
    (behind_all P Q R both xs ys (All-tail P x xs left) (All-tail Q y ys right))

weight_for-append : (o : ℕ) (xs ys : List (ℕ × ℤ)) → weight_for o (xs ++ ys) ≡ weight_for o xs + weight_for o ys
weight_for-append o xs ys = omega (arith, weight_for-all o (xs ++ ys), weight_for-all o xs, weight_for-all o ys, sum_by-append (size_at o) xs ys)

weight_behind : (o : ℕ) (xs ys : List (List (ℕ × ℤ))) → weight_of (behind xs ys) o ≤ weight_of xs o + weight_of ys o
weight_behind o [] ys = omega arith
weight_behind o (x ∷ xs) [] = omega arith
weight_behind o (x ∷ xs) (y ∷ ys) =
    omega (
      arith,
      sum_by-cons (weight_for o) (x ++ y) (behind xs ys),
      sum_by-cons (weight_for o) x xs,
      sum_by-cons (weight_for o) y ys,
      weight_for-append o x y,
      weight_behind o xs ys,
    )

sizes_behind : (xs ys : List (List (ℕ × ℤ))) → sizes_of (behind xs ys) ≤ sizes_of xs + sizes_of ys
sizes_behind [] ys = omega arith
sizes_behind (x ∷ xs) [] = omega arith
sizes_behind (x ∷ xs) (y ∷ ys) =
    omega (
      arith,
      sum_by-cons sizes (x ++ y) (behind xs ys),
      sum_by-cons sizes x xs,
      sum_by-cons sizes y ys,
      sum_by-append (λ (c : ℕ × ℤ). unsigned_abs c.1) x y,
      sizes_behind xs ys,
    )

ends_within : (xs ys : List (List (ℕ × ℤ))) → length ys ≡ length xs → (i : ℕ) → get_or (ends_of xs) i 0 ≤ length (get_or (behind xs ys) i [])
ends_within [] ys same i = omega arith
ends_within (x ∷ xs) [] same i = absurd (omega (arith, same))
ends_within (x ∷ xs) (y ∷ ys) same zero = omega (arith, length-append x y)
ends_within (x ∷ xs) (y ∷ ys) same (suc i) = ends_within xs ys (omega (arith, same)) i

-- ---- closing records

closer_object : (n : ℕ) (b : Bool) → 1 ≤ n → All (λ (c : ℕ × ℤ). IsObject n c.0) (closer b)
closer_object n true some = All-cons (λ (c : ℕ × ℤ). IsObject n c.0) closing [] (omega arith, some) (All-nil (λ (c : ℕ × ℤ). IsObject n c.0))
closer_object n false some = All-nil (λ (c : ℕ × ℤ). IsObject n c.0)

closer_short : (b : Bool) → length (closer b) ≤ 1
closer_short true = omega arith
closer_short false = omega arith

zero_share : (b : Bool) → cond b (unsigned_abs (pos 0)) 0 + 0 ≡ 0
zero_share true = refl
zero_share false = refl

closer_light : (o : ℕ) (b : Bool) → weight_for o (closer b) ≡ 0
closer_light o true = weight_for-cons o closing [] ∙ zero_share (1 == o)
closer_light o false = refl

closer_small : (b : Bool) → sizes (closer b) ≡ 0
closer_small true = refl
closer_small false = refl

each_closer : (P : List (ℕ × ℤ) → Type 0) → ((b : Bool) → P (closer b)) → (bs : List Bool) → All P (closers bs)
each_closer P one [] = All-nil P
each_closer P one (b ∷ bs) = All-cons P (closer b) (closers bs) (one b) (each_closer P one bs)

closers_light : (o : ℕ) (bs : List Bool) → weight_of (closers bs) o ≡ 0
closers_light o [] = refl
closers_light o (b ∷ bs) = omega (arith, sum_by-cons (weight_for o) (closer b) (closers bs), closer_light o b, closers_light o bs)

closers_small : (bs : List Bool) → sizes_of (closers bs) ≡ 0
closers_small [] = refl
closers_small (b ∷ bs) = omega (arith, sum_by-cons sizes (closer b) (closers bs), closer_small b, closers_small bs)

-- ---- the base

-- a fact of an empty part and of the compacted one holds of the base
each_base : (P : List (ℕ × ℤ) → Type 0) → P [] → (first : List (ℕ × ℤ)) → P first → (rest : List (List (ℕ × ℤ))) → All P (first ∷ map (λ (part : List (ℕ × ℤ)). []) rest)
each_base P empty first here [] = All-cons P first [] here (All-nil P)
each_base P empty first here (p ∷ rest) = All-cons P first ([] ∷ map (λ (part : List (ℕ × ℤ)). []) rest) here (each_base P empty [] empty rest)

blanks_light : (f : List (ℕ × ℤ) → ℕ) → f [] ≡ 0 → (rest : List (List (ℕ × ℤ))) → sum_by f (map (λ (part : List (ℕ × ℤ)). []) rest) ≡ 0
blanks_light f none [] = refl
blanks_light f none (p ∷ rest) = omega (arith, sum_by-cons f [] (map (λ (part : List (ℕ × ℤ)). []) rest), none, blanks_light f none rest)

base_sum : (f : List (ℕ × ℤ) → ℕ) → f [] ≡ 0 → (setup : MonitorSetup) (trail : List Entry) → sum_by f (base_of setup trail) ≡ f (compacted (values_of setup trail))
base_sum f none setup trail =
    omega (arith, sum_by-cons f (compacted (values_of setup trail)) (map (λ (part : List (ℕ × ℤ)). []) (drop 1 setup.parts)), blanks_light f none (drop 1 setup.parts))

kept_size : (b : Bool) (c : ℕ × ℤ) (rest : List (ℕ × ℤ)) → sizes (cond b (c ∷ rest) rest) ≤ unsigned_abs c.1 + sizes rest
kept_size true c rest = omega (arith, sum_by-cons (λ (d : ℕ × ℤ). unsigned_abs d.1) c rest)
kept_size false c rest = omega arith

compacted_size : (a : ℕ) (values : List ℤ) → sizes (filter changes_something (enumerate_from a values)) ≤ sum_by (λ v. unsigned_abs v) values
compacted_size a [] = omega arith
compacted_size a (v ∷ values) =
    omega (
      arith,
      kept_size (changes_something (a, v)) (a, v) (filter changes_something (enumerate_from (a + 1) values)),
      sum_by-cons (λ (z : ℤ). unsigned_abs z) v values,
      compacted_size (a + 1) values,
    )

compacted_sizes : (values : List ℤ) → sizes (compacted values) ≤ sum_by (λ v. unsigned_abs v) values
unfolding compacted
compacted_sizes values = compacted_size 1 values

-- ---- the sizes of all values are at most those of all changes

sum_mapped : (f : ℤ → ℕ) (h : ℕ → ℤ) (os : List ℕ) → sum_by f (map h os) ≡ sum_by (λ o. f (h o)) os
sum_mapped f h [] = refl
sum_mapped f h (o ∷ os) = omega (arith, sum_by-cons f (h o) (map h os), sum_by-cons (λ q. f (h q)) o os, sum_mapped f h os)

sum_both : (f g : ℕ → ℕ) (os : List ℕ) → sum_by (λ o. f o + g o) os ≡ sum_by f os + sum_by g os
sum_both f g [] = refl
sum_both f g (o ∷ os) = omega (arith, sum_by-cons (λ q. f q + g q) o os, sum_by-cons f o os, sum_by-cons g o os, sum_both f g os)

sum_alike : (f g : ℕ → ℕ) → ((o : ℕ) → f o ≡ g o) → (os : List ℕ) → sum_by f os ≡ sum_by g os
sum_alike f g same [] = refl
sum_alike f g same (o ∷ os) = omega (arith, sum_by-cons f o os, sum_by-cons g o os, same o, sum_alike f g same os)

sum_none : (os : List ℕ) → sum_by (λ (o : ℕ). 0) os ≡ 0
sum_none [] = refl
sum_none (o ∷ os) = omega (arith, sum_by-cons (λ (q : ℕ). 0) o os, sum_none os)

-- one object alone has a share of a change
never : (c w a n : ℕ) → c < a → sum_by (λ o. cond (c == o) w 0) (range_with_len a n) ≡ 0
never c w a zero below = refl
never c w a (suc n) below =
    omega (
      arith,
      sum_by-cons (λ o. cond (c == o) w 0) a (range_with_len (a + 1) n),
      ap (λ b. cond b w 0) (ne_eqb c a (λ is. omega (arith, is, below))),
      never c w (a + 1) n (omega (arith, below)),
    )

once : (c w a n : ℕ) → sum_by (λ o. cond (c == o) w 0) (range_with_len a n) ≤ w
once c w a zero = omega arith
once c w a (suc n) =
    elim (cases_eq c a) [
      | inl is ↦ omega (arith, sum_by-cons (λ o. cond (c == o) w 0) a (range_with_len (a + 1) n), ap (λ b. cond b w 0) (eq-eqb c a is), never c w (a + 1) n (omega (arith, is)))
      | inr apart ↦ omega (arith, sum_by-cons (λ o. cond (c == o) w 0) a (range_with_len (a + 1) n), ap (λ b. cond b w 0) (ne_eqb c a apart), once c w (a + 1) n)
    ]

part_weights : (n : ℕ) (part : List (ℕ × ℤ)) → sum_by (λ o. weight_for o part) (range_with_len 1 n) ≤ sizes part
part_weights n [] = omega (arith, sum_none (range_with_len 1 n))
part_weights n (c ∷ part) =
    omega (
      arith,
      sum_alike (λ o. weight_for o (c ∷ part)) (λ o. weight_in o c + weight_for o part) (λ o. weight_for-cons o c part) (range_with_len 1 n),
      sum_both (λ o. weight_in o c) (λ o. weight_for o part) (range_with_len 1 n),
      once c.0 (unsigned_abs c.1) 1 n,
      part_weights n part,
      sum_by-cons (λ (d : ℕ × ℤ). unsigned_abs d.1) c part,
    )

all_weights : (n : ℕ) (parts : List (List (ℕ × ℤ))) → sum_by (λ o. weight_of parts o) (range_with_len 1 n) ≤ sizes_of parts
all_weights n [] = omega (arith, sum_none (range_with_len 1 n))
all_weights n (p ∷ parts) =
    omega (
      arith,
      sum_alike (λ o. weight_of (p ∷ parts) o) (λ o. weight_for o p + weight_of parts o) (λ o. sum_by-cons (weight_for o) p parts) (range_with_len 1 n),
      sum_both (λ o. weight_for o p) (λ o. weight_of parts o) (range_with_len 1 n),
      part_weights n p,
      all_weights n parts,
      sum_by-cons sizes p parts,
    )

values_small : (setup : MonitorSetup) (trail : List Entry) → IsSetup setup → size_of_values setup trail ≤ sizes_of setup.parts
unfolding values_of objects
values_small setup trail is =
    omega (
      arith,
      sum_mapped (λ z. unsigned_abs z) (value_of_object setup trail) (range_with_len 1 setup.objects),
      sum_by-le-sum_by (λ o. unsigned_abs (value_of_object setup trail o)) (λ o. weight_of setup.parts o) (range_with_len 1 setup.objects) (λ o. value-small setup is trail o),
      all_weights setup.objects setup.parts,
    )

-- ---- all of it

-- no object weighs more in the base than its value
base_weight : (setup : MonitorSetup) (trail : List Entry) (o : ℕ) → IsSetup setup → weight_for o (compacted (values_of setup trail)) ≤ 2 ^ 100
base_weight setup trail o is =
    let n = setup.objects in
    let values = values_of setup trail in
    let long = length-values_of setup trail in
    let outside : (IsObject n o → ⊥) → weight_for o (compacted values) ≤ 2 ^ 100 =
    λ out. let light = (compacted_limits values).1.1 o (λ own. out (own.0, omega (arith, own.1, long))) in omega (arith, light) in
    elim (cases_lt 0 o) [
      | inl low ↦
          elim (cases_lt n o) [
            | inl past ↦ outside (λ own. omega (arith, past, own.1))
            | inr high ↦
                let w = (compacted_sums values o (omega (arith, low)) (omega (arith, high, long))).1 in
                let v = ap (λ z. unsigned_abs z) (level_at-values_of setup trail o (omega (arith, low)) (omega (arith, high))) in
                let s = small_values setup trail o is in
                omega (arith, w, v, s)
          ]
      | inr none ↦ outside (λ own. omega (arith, none, own.0))
    ]

-- a stream waits behind its base
abbrev WaitsAt : List (List (ℕ × ℤ)) → List (List (ℕ × ℤ)) → ℕ → Type 0
WaitsAt xs ys i =
    ((get_or (ends_of xs) i 0 + 1 ≡ length (get_or (behind xs ys) i []))
    × (slice_get (get_or (behind xs ys) i []) (get_or (ends_of xs) i 0) ≡ Some closing))
    ⊎ (get_or (ends_of xs) i 0 ≡ length (get_or (behind xs ys) i []))

waits_at : (xs : List (List (ℕ × ℤ))) (bs : List Bool) (i : ℕ) → length bs ≡ length xs → i < length xs → WaitsAt xs (closers bs) i
waits_at [] bs i same within = absurd (omega (arith, within))
waits_at (x ∷ xs) [] i same within = absurd (omega (arith, same))
waits_at (x ∷ xs) (true ∷ bs) zero same within =
    let long = length-append x (closing ∷ []) in
    inl (omega (arith, long), slice_get-get_or (x ++ closing ∷ []) (length x) closing (omega (arith, long)) ∙ ap Some (get_or-append_seam x closing [] closing))
waits_at (x ∷ xs) (false ∷ bs) zero same within = (let none : List (ℕ × ℤ) = [] in inr (omega (arith, length-append x none)))
waits_at (x ∷ xs) (b ∷ bs) (suc i) same within = waits_at xs bs i (omega (arith, same)) (omega (arith, within))

-- behind its base a monitor is within its limits, whichever of its streams are open
pub anew_setup : (setup : MonitorSetup) (trail : List Entry) (bs : List Bool) → IsSetup setup → length bs ≡ length setup.parts → IsSetup (anew setup trail bs)
anew_setup setup trail bs is same =
    let n = setup.objects in
    let values = values_of setup trail in
    let base = base_of setup trail in
    let limits = compacted_limits values in
    let long = length-values_of setup trail in
    let count = length-base_of setup trail is.parts.some_feeder in
    let closed : length (closers bs) ≡ length base = omega (arith, count, same, length-map bs closer) in
    let parts = length-behind base (closers bs) closed in
    let Own : List (ℕ × ℤ) → Type 0 = λ p. All (λ (c : ℕ × ℤ). IsObject n c.0) p in
    record {
      some_object = is.some_object;
      objects = is.objects;
      parts = record {
        some_feeder = omega (arith, parts, count, is.parts.some_feeder);
        feeders = omega (arith, parts, count, is.parts.feeders);
        objects = behind_all Own Own Own (λ x y left right. All-append (λ (c : ℕ × ℤ). IsObject n c.0) x y left right) base (closers bs)
            (each_base Own (All-nil (λ (c : ℕ × ℤ). IsObject n c.0)) (compacted values) (subst (λ (k : ℕ). All (λ (c : ℕ × ℤ). IsObject k c.0) (compacted values)) long limits.1.0) (drop 1 setup.parts))
            (each_closer Own (λ b. closer_object n b is.some_object) bs);
        lengths = behind_all (λ p. length p ≤ 65536) (λ p. length p ≤ 1) (λ p. length p ≤ 1000000) (λ x y left right. omega (arith, left, right, length-append x y)) base (closers bs)
            (each_base (λ p. length p ≤ 65536) (omega arith) (compacted values) (omega (arith, limits.0, long, is.objects)) (drop 1 setup.parts))
            (each_closer (λ p. length p ≤ 1) closer_short bs);
        weights = λ o. omega (arith, weight_behind o base (closers bs), base_sum (weight_for o) refl setup trail, closers_light o bs, base_weight setup trail o is);
      };
      from = record { shape = omega (arith, length-ends_of base, parts); within = ends_within base (closers bs) closed };
    }

anew_waits : (setup : MonitorSetup) (trail : List Entry) (bs : List Bool) → IsSetup setup → length bs ≡ length setup.parts → IsWaiting (anew setup trail bs) []
anew_waits setup trail bs is same g low high =
    let new = anew setup trail bs in
    let base = base_of setup trail in
    let count = length-base_of setup trail is.parts.some_feeder in
    let closed : length (closers bs) ≡ length base = omega (arith, count, same, length-map bs closer) in
    let at : place_of new [] g ≡ get_or (ends_of base) (g - 1) 0 = ap (λ (ps : List ℕ). get_or ps (g - 1) 0) (places_at-start new) in
    elim (waits_at base bs (g - 1) (omega (arith, same, count)) (omega (arith, low, high, length-behind base (closers bs) closed))) [
      | inl opened ↦ inl (record {
        one_left = omega (arith, at, opened.0);
        closes = ap (λ (i : ℕ). slice_get (get_or new.parts (g - 1) []) i) at ∙ opened.1;
      })
      | inr done ↦ inr (at ∙ done)
    ]

-- and weighed by its values, with each stream waiting
pub begins_anew : (setup : MonitorSetup) (trail : List Entry) (weight : ℕ) (bs : List Bool) → IsSetup setup → IsLegal setup trail → IsWeighed setup weight → length bs ≡ length setup.parts → IsSetup (anew setup trail bs) × (IsWeighed (anew setup trail bs) (size_of_values setup trail) × IsWaiting (anew setup trail bs) [])
begins_anew setup trail weight bs is legal weighed same = (
  anew_setup setup trail bs is same,
  (
    record {
      weighed = omega (arith, sizes_behind (base_of setup trail) (closers bs), base_sum sizes refl setup trail, closers_small bs, compacted_sizes (values_of setup trail));
      bounded = omega (arith, values_small setup trail is, weighed.weighed, weighed.bounded);
    },
    anew_waits setup trail bs is same,
  ),
)
