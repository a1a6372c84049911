-- What stands for a log goes on as the log does.
use Rattle.std.proofs.Common.{◌≡◌, ℕ, suc, zero, ◌<◌, ◌≤◌, ◌+◌, ◌-◌, List, [], ◌∷◌, ◌++◌, length, map, take, get_or, refl, sym, ap, ap₂, ◌∙◌, subst, arith, length-append}
use Rattle.std.specs.Prelude.{ℤ, pos, ◌+ℤ◌, ◌-ℤ◌}
use Rattle.std.specs.List.{zip}
use Rattle.std.proofs.lemmas.Int.{ints}
use Rattle.std.proofs.lemmas.List.{length-map}
use Rattle.std.proofs.lemmas.Slice.Zip.{length-zip}
use Rattle.std.proofs.Math.Seq.{take-length}
use Rattle.tk_input.specs.Logs.{ArePlaces, IsValid, sum_for, total, value_of}
use Rattle.tk_base.proofs.SumLemmas.{int_sum-cons}
use Rattle.tk_trail.proofs.ValuesLemmas.{sum_for-cons}
use Rattle.tk_compact.specs.Standing.{ArePlacesBehind, StandForLogs, StandsFor, all_behind, behind, cut_moved, ends_of, further, moved, reached}

-- ---- sums

-- behind all of one part: its sum, and that of the other up to where one is there
sum_behind : (o : ℕ) (xs ys : List (ℕ × ℤ)) (s : ℕ) → sum_for o (take (length xs + s) (xs ++ ys)) ≡ sum_for o xs +ℤ sum_for o (take s ys)
sum_behind o [] ys s = let e : 0 + s ≡ s = omega arith in rw e (omega (arith, ints))
sum_behind o (x ∷ xs) ys s =
    let e : length (x ∷ xs) + s ≡ suc (length xs + s) = omega arith in
    rw e (omega (arith, ints, sum_for-cons o x (take (length xs + s) (xs ++ ys)), sum_for-cons o x xs, sum_behind o xs ys s))

-- the sums of one part, at a place of it
abbrev at_place : ℕ → List (ℕ × ℤ) × ℕ → ℤ
at_place o p = sum_for o (take p.1 p.0)

-- behind all of some parts: their values at the ends, and those of the others where these are
pub value_behind : (xs ys : List (List (ℕ × ℤ))) (steps : List ℕ) (o : ℕ) → length ys ≡ length xs → length steps ≡ length xs → value_of (behind xs ys) (further (ends_of xs) steps) o ≡ value_of xs (ends_of xs) o +ℤ value_of ys steps o
value_behind [] [] [] o same long = omega (arith, ints)
value_behind [] [] (s ∷ steps) o same long = absurd (omega (arith, long))
value_behind [] (y ∷ ys) steps o same long = absurd (omega (arith, same))
value_behind (x ∷ xs) [] steps o same long = absurd (omega (arith, same))
value_behind (x ∷ xs) (y ∷ ys) [] o same long = absurd (omega (arith, long))
value_behind (x ∷ xs) (y ∷ ys) (s ∷ steps) o same long =
    omega (
      arith,
      ints,
      int_sum-cons (sum_for o (take (length x + s) (x ++ y))) (map (at_place o) (zip (behind xs ys) (further (ends_of xs) steps))),
      int_sum-cons (sum_for o (take (length x) x)) (map (at_place o) (zip xs (ends_of xs))),
      int_sum-cons (sum_for o (take s y)) (map (at_place o) (zip ys steps)),
      ap (λ (cs : List (ℕ × ℤ)). sum_for o cs) (take-length x),
      sum_behind o x y s,
      value_behind xs ys steps o (omega (arith, same)) (omega (arith, long)),
    )

-- ---- places

abbrev pub beyond : List ℕ → List ℕ → List ℕ
beyond from places = map (λ p. p.1 - p.0) (zip from places)

pub length-beyond : (from places : List ℕ) → length places ≡ length from → length (beyond from places) ≡ length from
length-beyond from places same = omega (arith, length-map (zip from places) (λ (p : ℕ × ℕ). p.1 - p.0), length-zip from places, same)

pub further_beyond : (from places : List ℕ) → length places ≡ length from → ((i : ℕ) → get_or from i 0 ≤ get_or places i 0) → places ≡ further from (beyond from places)
further_beyond [] [] same below = refl
further_beyond [] (p ∷ places) same below = absurd (omega (arith, same))
further_beyond (a ∷ from) [] same below = absurd (omega (arith, same))
further_beyond (a ∷ from) (p ∷ places) same below =
    let first : p ≡ a + (p - a) = (let b = below 0 in omega (arith, b)) in
    let rest : places ≡ further from (beyond from places) = further_beyond from places (omega (arith, same)) (λ i. below (suc i)) in
    ap₂ (λ (x : ℕ) (xs : List ℕ). x ∷ xs) first rest

moved_further : (from counts places : List ℕ) → moved from counts places ≡ further counts (beyond from places)
moved_further [] [] places = refl
moved_further [] (c ∷ counts) places = refl
moved_further (a ∷ from) [] places = refl
moved_further (a ∷ from) (c ∷ counts) [] = refl
moved_further (a ∷ from) (c ∷ counts) (p ∷ places) = ap (λ (xs : List ℕ). (c + (p - a)) ∷ xs) (moved_further from counts places)

pub length-ends_of : (parts : List (List (ℕ × ℤ))) → length (ends_of parts) ≡ length parts
length-ends_of parts = length-map parts (λ (p : List (ℕ × ℤ)). length p)

pub length-behind : (xs ys : List (List (ℕ × ℤ))) → length ys ≡ length xs → length (behind xs ys) ≡ length xs
length-behind xs ys same = omega (arith, length-map (zip xs ys) (λ (p : List (ℕ × ℤ) × List (ℕ × ℤ)). p.0 ++ p.1), length-zip xs ys, same)

-- ---- what stands for a log

-- behind a base the values are those of the log
pub values_of_log : (base log more : List (List (ℕ × ℤ))) (places : List ℕ) (o : ℕ) → StandsFor base log → ArePlacesBehind base more places → value_of (behind base more) places o ≡ value_of (behind log more) (moved (ends_of base) (ends_of log) places) o
values_of_log base log more places o stands at =
    let many : length places ≡ length (ends_of base) = omega (arith, at.within.shape, length-behind base more at.shape, length-ends_of base) in
    let steps = beyond (ends_of base) places in
    let long : length steps ≡ length base = omega (arith, length-beyond (ends_of base) places many, length-ends_of base) in
    let here : value_of (behind base more) places o ≡ value_of base (ends_of base) o +ℤ value_of more steps o =
    ap (λ (ps : List ℕ). value_of (behind base more) ps o) (further_beyond (ends_of base) places many at.behind_base)
    ∙ value_behind base more steps o at.shape long in
    let there : value_of (behind log more) (moved (ends_of base) (ends_of log) places) o ≡ value_of log (ends_of log) o +ℤ value_of more steps o =
    ap (λ (ps : List ℕ). value_of (behind log more) ps o) (moved_further (ends_of base) (ends_of log) places)
    ∙ value_behind log more steps o (omega (arith, at.shape, stands.shape)) (omega (arith, long, stands.shape)) in
    here ∙ ap (λ (z : ℤ). z +ℤ value_of more steps o) (stands.sums o) ∙ sym there

-- ---- what stands for it later

pub reached_value : (parts : List (List (ℕ × ℤ))) (places : List ℕ) (o : ℕ) → value_of (reached parts places) (ends_of (reached parts places)) o ≡ value_of parts places o
reached_value [] places o = refl
reached_value (part ∷ parts) [] o = refl
reached_value (part ∷ parts) (place ∷ places) o =
    omega (
      arith,
      ints,
      int_sum-cons (sum_for o (take (length (take place part)) (take place part))) (map (at_place o) (zip (reached parts places) (ends_of (reached parts places)))),
      int_sum-cons (sum_for o (take place part)) (map (at_place o) (zip parts places)),
      ap (λ (cs : List (ℕ × ℤ)). sum_for o cs) (take-length (take place part)),
      reached_value parts places o,
    )

ends_behind : (xs ys : List (List (ℕ × ℤ))) → ends_of (behind xs ys) ≡ further (ends_of xs) (ends_of ys)
ends_behind [] ys = refl
ends_behind (x ∷ xs) [] = refl
ends_behind (x ∷ xs) (y ∷ ys) = ap₂ (λ (n : ℕ) (ns : List ℕ). n ∷ ns) (length-append x y) (ends_behind xs ys)

pub length-reached : (parts : List (List (ℕ × ℤ))) (places : List ℕ) → length places ≡ length parts → length (reached parts places) ≡ length parts
length-reached parts places same = omega (arith, length-map (zip parts places) (λ (p : List (ℕ × ℤ) × ℕ). take p.1 p.0), length-zip parts places, same)

length-further : (places steps : List ℕ) → length steps ≡ length places → length (further places steps) ≡ length places
length-further places steps same = omega (arith, length-map (zip places steps) (λ (p : ℕ × ℕ). p.0 + p.1), length-zip places steps, same)

-- what stands for the session later stands for the log with what was reached behind it
pub goes_on : (base log more next : List (List (ℕ × ℤ))) (steps : List ℕ) → StandsFor base log → length more ≡ length base → length steps ≡ length base → StandsFor next (reached (behind base more) (further (ends_of base) steps)) → StandsFor next (behind log (reached more steps))
goes_on base log more next steps stands same long later =
    let later_log = reached more steps in
    let many : length later_log ≡ length log = omega (arith, length-reached more steps (omega (arith, same, long)), same, stands.shape) in
    record {
      shape = omega (
        arith,
        later.shape,
        length-reached (behind base more) (further (ends_of base) steps) (omega (arith, length-further (ends_of base) steps (omega (arith, long, length-ends_of base)), length-ends_of base, length-behind base more same)),
        length-behind base more same,
        length-behind log later_log many,
        stands.shape,
      );
      sums = λ o.
          later.sums o
          ∙ reached_value (behind base more) (further (ends_of base) steps) o
          ∙ value_behind base more steps o same long
          ∙ ap₂ (λ (x y : ℤ). x +ℤ y) (stands.sums o) (sym (reached_value more steps o))
          ∙ sym (value_behind log later_log (ends_of later_log) o many (omega (arith, many, length-ends_of later_log)))
          ∙ ap (λ (ps : List ℕ). value_of (behind log later_log) ps o) (sym (ends_behind log later_log));
    }

-- ---- all monitors

-- places that are moved are places of the log
within_log : (base log more : List (List (ℕ × ℤ))) (places : List ℕ) → ((i : ℕ) → get_or places i 0 ≤ length (get_or (behind base more) i [])) → length base ≡ length log → length more ≡ length base → length places ≡ length base → (i : ℕ) → get_or (moved (ends_of base) (ends_of log) places) i 0 ≤ length (get_or (behind log more) i [])
within_log [] [] more places fits a b c i = omega arith
within_log [] (l ∷ log) more places fits a b c i = absurd (omega (arith, a))
within_log (x ∷ base) [] more places fits a b c i = absurd (omega (arith, a))
within_log (x ∷ base) (l ∷ log) [] places fits a b c i = absurd (omega (arith, b))
within_log (x ∷ base) (l ∷ log) (m ∷ more) [] fits a b c i = absurd (omega (arith, c))
within_log (x ∷ base) (l ∷ log) (m ∷ more) (p ∷ places) fits a b c zero = (let f = fits 0 in omega (arith, f, length-append x m, length-append l m))
within_log (x ∷ base) (l ∷ log) (m ∷ more) (p ∷ places) fits a b c (suc i) = within_log base log more places (λ k. fits (suc k)) (omega (arith, a)) (omega (arith, b)) (omega (arith, c)) i

length-moved : (from counts places : List ℕ) → length counts ≡ length from → length places ≡ length from → length (moved from counts places) ≡ length from
length-moved from counts places a b =
    omega (arith, length-map (zip from (zip counts places)) (λ (p : ℕ × (ℕ × ℕ)). p.1.0 + (p.1.1 - p.0)), length-zip from (zip counts places), length-zip counts places, a, b)

-- one monitor's base, log, what comes behind them, and places
record StandsAt (base log more : List (List (ℕ × ℤ))) (places : List ℕ) : Type 0 where
  stands : StandsFor base log
  at : ArePlacesBehind base more places

places_of_log : (base log more : List (List (ℕ × ℤ))) (places : List ℕ) → StandsAt base log more places → ArePlaces (behind log more) (moved (ends_of base) (ends_of log) places)
places_of_log base log more places h =
    let many : length places ≡ length base = omega (arith, h.at.within.shape, length-behind base more h.at.shape) in
    record {
      shape = omega (
        arith,
        length-moved (ends_of base) (ends_of log) places (omega (arith, length-ends_of base, length-ends_of log, h.stands.shape)) (omega (arith, many, length-ends_of base)),
        length-ends_of base,
        length-behind log more (omega (arith, h.at.shape, h.stands.shape)),
        h.stands.shape,
      );
      within = within_log base log more places h.at.within.within h.stands.shape h.at.shape many;
    }

-- so it is with each monitor
abbrev EachStandsAt : List (List (List (ℕ × ℤ))) → List (List (List (ℕ × ℤ))) → List (List (List (ℕ × ℤ))) → List (List ℕ) → Type 0
EachStandsAt bases logs more cut = (j : ℕ) → j < length bases → StandsAt (get_or bases j []) (get_or logs j []) (get_or more j []) (get_or cut j [])

totals : (bases logs more : List (List (List (ℕ × ℤ)))) (cut : List (List ℕ)) (o : ℕ) → length bases ≡ length logs → length more ≡ length bases → length cut ≡ length bases → EachStandsAt bases logs more cut → total (all_behind bases more) o cut ≡ total (all_behind logs more) o (cut_moved bases logs cut)
totals [] [] more cut o a b c each = refl
totals [] (l ∷ logs) more cut o a b c each = absurd (omega (arith, a))
totals (x ∷ bases) [] more cut o a b c each = absurd (omega (arith, a))
totals (x ∷ bases) (l ∷ logs) [] cut o a b c each = absurd (omega (arith, b))
totals (x ∷ bases) (l ∷ logs) (m ∷ more) [] o a b c each = absurd (omega (arith, c))
totals (x ∷ bases) (l ∷ logs) (m ∷ more) (p ∷ cut) o a b c each =
    let one = each 0 (omega arith) in
    omega (
      arith,
      ints,
      int_sum-cons (value_of (behind x m) p o) (map (λ (q : List (List (ℕ × ℤ)) × List ℕ). value_of q.0 q.1 o) (zip (all_behind bases more) cut)),
      int_sum-cons (value_of (behind l m) (moved (ends_of x) (ends_of l) p) o) (map (λ (q : List (List (ℕ × ℤ)) × List ℕ). value_of q.0 q.1 o) (zip (all_behind logs more) (cut_moved bases logs cut))),
      values_of_log x l m p o one.stands one.at,
      totals bases logs more cut o (omega (arith, a)) (omega (arith, b)) (omega (arith, c)) (λ j within. each (suc j) (omega (arith, within))),
    )

cut_of_logs : (bases logs more : List (List (List (ℕ × ℤ)))) (cut : List (List ℕ)) → length bases ≡ length logs → length more ≡ length bases → length cut ≡ length bases → EachStandsAt bases logs more cut → (j : ℕ) → ArePlaces (get_or (all_behind logs more) j []) (get_or (cut_moved bases logs cut) j [])
cut_of_logs [] [] more cut a b c each j = record { shape = refl; within = λ i. omega arith }
cut_of_logs [] (l ∷ logs) more cut a b c each j = absurd (omega (arith, a))
cut_of_logs (x ∷ bases) [] more cut a b c each j = absurd (omega (arith, a))
cut_of_logs (x ∷ bases) (l ∷ logs) [] cut a b c each j = absurd (omega (arith, b))
cut_of_logs (x ∷ bases) (l ∷ logs) (m ∷ more) [] a b c each j = absurd (omega (arith, c))
cut_of_logs (x ∷ bases) (l ∷ logs) (m ∷ more) (p ∷ cut) a b c each zero = places_of_log x l m p (each 0 (omega arith))
cut_of_logs (x ∷ bases) (l ∷ logs) (m ∷ more) (p ∷ cut) a b c each (suc j) =
    cut_of_logs bases logs more cut (omega (arith, a)) (omega (arith, b)) (omega (arith, c)) (λ k within. each (suc k) (omega (arith, within))) j

length-all_behind : (xs ys : List (List (List (ℕ × ℤ)))) → length ys ≡ length xs → length (all_behind xs ys) ≡ length xs
length-all_behind xs ys same = omega (arith, length-map (zip xs ys) (λ (p : List (List (ℕ × ℤ)) × List (List (ℕ × ℤ))). behind p.0 p.1), length-zip xs ys, same)

length-cut_moved : (bases logs : List (List (List (ℕ × ℤ)))) (cut : List (List ℕ)) → length bases ≡ length logs → length cut ≡ length bases → length (cut_moved bases logs cut) ≡ length bases
length-cut_moved bases logs cut a b =
    omega (arith, length-map (zip bases (zip logs cut)) (λ (p : List (List (ℕ × ℤ)) × (List (List (ℕ × ℤ)) × List ℕ)). moved (ends_of p.0) (ends_of p.1.0) p.1.1), length-zip bases (zip logs cut), length-zip logs cut, a, b)

get_or-all_behind : (xs ys : List (List (List (ℕ × ℤ)))) (j : ℕ) → length ys ≡ length xs → j < length xs → get_or (all_behind xs ys) j [] ≡ behind (get_or xs j []) (get_or ys j [])
get_or-all_behind [] ys j same within = absurd (omega (arith, within))
get_or-all_behind (x ∷ xs) [] j same within = absurd (omega (arith, same))
get_or-all_behind (x ∷ xs) (y ∷ ys) zero same within = refl
get_or-all_behind (x ∷ xs) (y ∷ ys) (suc j) same within = get_or-all_behind xs ys j (omega (arith, same)) (omega (arith, within))

-- a set that is valid over bases is valid over the logs
pub valid_moves : (bases logs more : List (List (List (ℕ × ℤ)))) (n k : ℕ) (epsilon : ℤ) (cut : List (List ℕ)) (set : List ℕ) → StandForLogs bases logs more → ((j i : ℕ) → get_or (ends_of (get_or bases j [])) i 0 ≤ get_or (get_or cut j []) i 0) → IsValid (all_behind bases more) n k epsilon cut set → IsValid (all_behind logs more) n k epsilon (cut_moved bases logs cut) set
valid_moves bases logs more n k epsilon cut set stand below valid =
    let b : length more ≡ length bases = omega (arith, stand.count, stand.count_more) in
    let c : length cut ≡ length bases = omega (arith, valid.is_cut.shape, length-all_behind bases more b) in
    let each : EachStandsAt bases logs more cut = λ j within. record {
      stands = stand.each j;
      at = record {
        shape = stand.shape j;
        within = subst (λ (ps : List (List (ℕ × ℤ))). ArePlaces ps (get_or cut j [])) (get_or-all_behind bases more j b within) (valid.is_cut.each j);
        behind_base = below j;
      };
    } in
    record {
      is_cut = record {
        shape = omega (arith, length-cut_moved bases logs cut stand.count c, length-all_behind logs more stand.count_more, stand.count);
        each = cut_of_logs bases logs more cut stand.count b c each;
      };
      size = valid.size;
      ascends = valid.ascends;
      within = valid.within;
      greatest = λ t s in' low high out.
          let old = valid.greatest t s in' low high out in
          omega (arith, ints, old, totals bases logs more cut s stand.count b c each, totals bases logs more cut t stand.count b c each);
    }

-- ---- printed places

-- a moved place is origin and place
pub moved_place : (from counts places : List ℕ) (i : ℕ) → length counts ≡ length from → length places ≡ length from → i < length from → get_or from i 0 ≤ get_or places i 0 → pos (get_or (moved from counts places) i 0) ≡ (pos (get_or counts i 0) -ℤ pos (get_or from i 0)) +ℤ pos (get_or places i 0)
moved_place [] counts places i a b within low = absurd (omega (arith, within))
moved_place (f ∷ from) [] places i a b within low = absurd (omega (arith, a))
moved_place (f ∷ from) (c ∷ counts) [] i a b within low = absurd (omega (arith, b))
moved_place (f ∷ from) (c ∷ counts) (p ∷ places) zero a b within low = omega (arith, ints, low)
moved_place (f ∷ from) (c ∷ counts) (p ∷ places) (suc i) a b within low = moved_place from counts places i (omega (arith, a)) (omega (arith, b)) (omega (arith, within)) low
