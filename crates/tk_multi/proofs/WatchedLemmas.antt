-- A query counts at its own cut what the common logs count at theirs, and each of its cuts is its own at one of these.
use Rattle.std.proofs.Common.{◌≡◌, ℕ, suc, zero, ◌≤◌, Bool, cond, List, [], ◌∷◌, ◌++◌, All, length, map, take, drop, get_or, Option, Some, None, option_map, sym, ap, subst, ◌∙◌, arith, refl, ⊎_elim}
use Rattle.std.specs.Prelude.{ℤ, pos}
use Rattle.std.specs.List.{cons_option, zip}
use Rattle.std.proofs.lemmas.Bool.{cases_eq, eq-eqb, ne_eqb}
use Rattle.std.proofs.lemmas.Int.{ints}
use Rattle.std.proofs.lemmas.List.{take-append-drop}
use Rattle.std.proofs.lemmas.List.Elements.{filter_map-append}
use Rattle.std.proofs.Math.Seq.{take-append_seam}
use Rattle.tk_base.proofs.SumLemmas.{int_sum-cons}
use Rattle.tk_input.specs.Catalog.{AreDifferent, names_with}
use Rattle.tk_input.specs.Logs.{AreLogs, ArePlaces, IsCut, IsValid, LogSet, sum_for, total, value_of}
use Rattle.tk_trail.proofs.ValuesLemmas.{share_of, sum_for-cons}
use Rattle.tk_multi.specs.Projection.{Numbers, anew, logs_for, seen_logs, watch_of, watched_change, watched_in}
use Rattle.tk_multi.specs.Watched.{HoldsOverTheLogs, watched_cut, watched_place, watched_places}
use Rattle.tk_multi.proofs.LogsLemmas.{seen_cons, seen_none}
use Rattle.tk_multi.proofs.WatchLemmas.{numbers}

-- ---- one part

-- each change is one of an object
abbrev AreNumbered : List (ℕ × ℤ) → Type 0
AreNumbered cs = All (λ c. 1 ≤ c.0) cs

-- one more change is counted of the object that it is of, by either number
sum_by : (watch : List (Option ℕ)) (count n o : ℕ) (c : ℕ × ℤ) (cs : List (ℕ × ℤ)) (m : Option ℕ) → anew watch c.0 ≡ m → Numbers count watch → 1 ≤ o → 1 ≤ c.0 → anew watch o ≡ Some n
    → sum_for n (watched_in watch cs) ≡ sum_for o cs → sum_for n (cons_option (option_map (λ k. (k, c.1)) m) (watched_in watch cs)) ≡ sum_for o (c ∷ cs)
sum_by watch count n o c cs None is numbers from low at same =
    let apart : c.0 ≡ o → ⊥ = λ it. let e = sym is ∙ ap (anew watch) it ∙ at in absurd (cc) in
    let e = sum_for-cons o c cs in
    let x : share_of o c ≡ pos 0 = ap (λ (b : Bool). cond b c.1 (pos 0)) (ne_eqb c.0 o apart) in
    omega (arith, ints, e, x, same)
sum_by watch count n o c cs (Some m) is numbers from low at same = ⊎_elim
    (λ (one : m ≡ n).
    let it : c.0 ≡ o = numbers.once c.0 o n low from (is ∙ ap (λ (k : ℕ). Some k) one) at in
    let e = sum_for-cons o c cs in
    let d = sum_for-cons n (m, c.1) (watched_in watch cs) in
    let x : share_of o c ≡ c.1 = ap (λ (b : Bool). cond b c.1 (pos 0)) (eq-eqb c.0 o it) in
    let y : share_of n (m, c.1) ≡ c.1 = ap (λ (b : Bool). cond b c.1 (pos 0)) (eq-eqb m n one) in
    omega (arith, ints, e, d, x, y, same))
    (λ (apart : m ≡ n → ⊥).
    let other : c.0 ≡ o → ⊥ = λ it. let e = sym is ∙ ap (anew watch) it ∙ at in let one : m ≡ n = cc in apart one in
    let e = sum_for-cons o c cs in
    let d = sum_for-cons n (m, c.1) (watched_in watch cs) in
    let x : share_of o c ≡ pos 0 = ap (λ (b : Bool). cond b c.1 (pos 0)) (ne_eqb c.0 o other) in
    let y : share_of n (m, c.1) ≡ pos 0 = ap (λ (b : Bool). cond b c.1 (pos 0)) (ne_eqb m n apart) in
    omega (arith, ints, e, d, x, y, same))
    (cases_eq m n)

sum_seen : (watch : List (Option ℕ)) (count n o : ℕ) (cs : List (ℕ × ℤ)) → Numbers count watch → 1 ≤ o → anew watch o ≡ Some n → AreNumbered cs → sum_for n (watched_in watch cs) ≡ sum_for o cs
sum_seen watch count n o [] numbers from at all = ap (sum_for n) (seen_none watch)
sum_seen watch count n o (c ∷ cs) numbers from at all =
    ap (sum_for n) (seen_cons watch c cs)
    ∙ sum_by watch count n o c cs (anew watch c.0) refl numbers from (all zero c (omega arith)) at
    (sum_seen watch count n o cs numbers from at (λ k d h. all (suc k) d (omega (arith, h))))

front_numbered : (cs : List (ℕ × ℤ)) (p : ℕ) → AreNumbered cs → AreNumbered (take p cs)
front_numbered cs zero all k d h = absurd (omega (arith, h))
front_numbered [] (suc p) all k d h = absurd (omega (arith, h))
front_numbered (c ∷ cs) (suc p) all zero d h = all zero d (omega arith)
front_numbered (c ∷ cs) (suc p) all (suc k) d h = front_numbered cs p (λ i e g. all (suc i) e (omega (arith, g))) k d (omega (arith, h))

seen_append : (watch : List (Option ℕ)) (xs ys : List (ℕ × ℤ)) → watched_in watch (xs ++ ys) ≡ watched_in watch xs ++ watched_in watch ys
unfolding watched_in
seen_append watch xs ys = filter_map-append (watched_change watch) xs ys

-- what a query sees of a front is the front of what it sees
front_seen : (watch : List (Option ℕ)) (part : List (ℕ × ℤ)) (p : ℕ) → take (watched_place watch part p) (watched_in watch part) ≡ watched_in watch (take p part)
front_seen watch part p =
    ap (λ (l : List (ℕ × ℤ)). take (watched_place watch part p) l) (ap (watched_in watch) (sym (take-append-drop p part)) ∙ seen_append watch (take p part) (drop p part))
    ∙ take-append_seam (watched_in watch (take p part)) (watched_in watch (drop p part))

part_counts : (watch : List (Option ℕ)) (count n o : ℕ) (part : List (ℕ × ℤ)) (p : ℕ) → Numbers count watch → 1 ≤ o → anew watch o ≡ Some n → AreNumbered part
    → sum_for n (take (watched_place watch part p) (watched_in watch part)) ≡ sum_for o (take p part)
part_counts watch count n o part p numbers from at all =
    ap (sum_for n) (front_seen watch part p) ∙ sum_seen watch count n o (take p part) numbers from at (front_numbered part p all)

-- ---- all parts, and all monitors

value_counts : (watch : List (Option ℕ)) (count n o : ℕ) (parts : List (List (ℕ × ℤ))) (places : List ℕ) → Numbers count watch → 1 ≤ o → anew watch o ≡ Some n → All AreNumbered parts
    → value_of (map (watched_in watch) parts) (watched_places watch parts places) n ≡ value_of parts places o
value_counts watch count n o [] places numbers from at all = refl
value_counts watch count n o (part ∷ parts) [] numbers from at all = refl
value_counts watch count n o (part ∷ parts) (p ∷ places) numbers from at all =
    let a = int_sum-cons (sum_for n (take (watched_place watch part p) (watched_in watch part))) (map (λ (q : List (ℕ × ℤ) × ℕ). sum_for n (take q.1 q.0)) (zip (map (watched_in watch) parts) (watched_places watch parts places))) in
    let b = int_sum-cons (sum_for o (take p part)) (map (λ (q : List (ℕ × ℤ) × ℕ). sum_for o (take q.1 q.0)) (zip parts places)) in
    let c = part_counts watch count n o part p numbers from at (all zero part (omega arith)) in
    let d = value_counts watch count n o parts places numbers from at (λ k e h. all (suc k) e (omega (arith, h))) in
    omega (arith, ints, a, b, c, d)

total_counts : (watch : List (Option ℕ)) (count n o : ℕ) (logs : List (List (List (ℕ × ℤ)))) (cut : List (List ℕ)) → Numbers count watch → 1 ≤ o → anew watch o ≡ Some n → All (λ parts. All AreNumbered parts) logs
    → total (seen_logs watch logs) n (watched_cut watch logs cut) ≡ total logs o cut
total_counts watch count n o [] cut numbers from at all = refl
total_counts watch count n o (parts ∷ logs) [] numbers from at all = refl
total_counts watch count n o (parts ∷ logs) (places ∷ cut) numbers from at all =
    let a = int_sum-cons (value_of (map (watched_in watch) parts) (watched_places watch parts places) n) (map (λ (q : List (List (ℕ × ℤ)) × List ℕ). value_of q.0 q.1 n) (zip (seen_logs watch logs) (watched_cut watch logs cut))) in
    let b = int_sum-cons (value_of parts places o) (map (λ (q : List (List (ℕ × ℤ)) × List ℕ). value_of q.0 q.1 o) (zip logs cut)) in
    let c = value_counts watch count n o parts places numbers from at (all zero parts (omega arith)) in
    let d = total_counts watch count n o logs cut numbers from at (λ k e h. all (suc k) e (omega (arith, h))) in
    omega (arith, ints, a, b, c, d)

all_numbered : (all : LogSet) → AreLogs all → All (λ parts. All AreNumbered parts) all.logs
all_numbered all h j parts within f part inside k c below = ((h.each j parts within).objects f part inside k c below).0

pub counts : (prefix : List ℕ) (names : List (List ℕ)) (all : LogSet) (cut : List (List ℕ)) (o n : ℕ) → AreDifferent names → AreLogs all → 1 ≤ o → anew (watch_of prefix names) o ≡ Some n
    → total (logs_for prefix names all).logs n (watched_cut (watch_of prefix names) all.logs cut) ≡ total all.logs o cut
counts prefix names all cut o n different logs from at =
    total_counts (watch_of prefix names) (length (names_with prefix names)) n o all.logs cut (numbers (names_with prefix names) names different) from at (all_numbered all logs)

-- ---- each cut of a query

record PartBack (watch : List (Option ℕ)) (part : List (ℕ × ℤ)) (seen : ℕ) : Type 0 where
  pub place : ℕ
  pub within : place ≤ length part
  pub is : watched_place watch part place ≡ seen

-- behind a change that is not watched, or that is, the place goes on
back_by : (watch : List (Option ℕ)) (c : ℕ × ℤ) (cs : List (ℕ × ℤ)) (q : ℕ) (o : Option (ℕ × ℤ)) → watched_change watch c ≡ o → ((r : ℕ) → r ≤ length (watched_in watch cs) → PartBack watch cs r)
    → suc q ≤ length (watched_in watch (c ∷ cs)) → PartBack watch (c ∷ cs) (suc q)
back_by watch c cs q None is further within =
    let same : (xs : List (ℕ × ℤ)) → watched_in watch (c ∷ xs) ≡ watched_in watch xs = λ xs. seen_cons watch c xs ∙ ap (λ (o : Option (ℕ × ℤ)). cons_option o (watched_in watch xs)) is in
    let back = further (suc q) (subst (λ (l : List (ℕ × ℤ)). suc q ≤ length l) (same cs) within) in
    record { place = suc back.place; within = (let b = back.within in omega (arith, b)); is = ap (λ (l : List (ℕ × ℤ)). length l) (same (take back.place cs)) ∙ back.is }
back_by watch c cs q (Some x) is further within =
    let same : (xs : List (ℕ × ℤ)) → watched_in watch (c ∷ xs) ≡ x ∷ watched_in watch xs = λ xs. seen_cons watch c xs ∙ ap (λ (o : Option (ℕ × ℤ)). cons_option o (watched_in watch xs)) is in
    let back = further q (let w = subst (λ (l : List (ℕ × ℤ)). suc q ≤ length l) (same cs) within in omega (arith, w)) in
    record { place = suc back.place; within = (let b = back.within in omega (arith, b)); is = ap (λ (l : List (ℕ × ℤ)). length l) (same (take back.place cs)) ∙ ap (λ (k : ℕ). suc k) back.is }

part_back : (watch : List (Option ℕ)) (part : List (ℕ × ℤ)) (seen : ℕ) → seen ≤ length (watched_in watch part) → PartBack watch part seen
part_back watch [] zero within = record { place = zero; within = omega arith; is = ap (λ (l : List (ℕ × ℤ)). length l) (seen_none watch) }
part_back watch [] (suc q) within = absurd (let w = subst (λ (l : List (ℕ × ℤ)). suc q ≤ length l) (seen_none watch) within in omega (arith, w))
part_back watch (c ∷ cs) zero within = record { place = zero; within = omega arith; is = ap (λ (l : List (ℕ × ℤ)). length l) (seen_none watch) }
part_back watch (c ∷ cs) (suc q) within = back_by watch c cs q (watched_change watch c) refl (part_back watch cs) within

record PlacesBack (watch : List (Option ℕ)) (parts : List (List (ℕ × ℤ))) (seen : List ℕ) : Type 0 where
  pub places : List ℕ
  pub are : ArePlaces parts places
  pub is : watched_places watch parts places ≡ seen

-- places of some parts, and of one more in front
more_places : (part : List (ℕ × ℤ)) (parts : List (List (ℕ × ℤ))) (p : ℕ) (places : List ℕ) → p ≤ length part → ArePlaces parts places → ArePlaces (part ∷ parts) (p ∷ places)
more_places part parts p places within are = record { shape = ap (λ (k : ℕ). suc k) are.shape; within = each }
  where
    each : (f : ℕ) → get_or (p ∷ places) f 0 ≤ length (get_or (part ∷ parts) f [])
    each zero = within
    each (suc f) = are.within f

places_back : (watch : List (Option ℕ)) (parts : List (List (ℕ × ℤ))) (seen : List ℕ) → ArePlaces (map (watched_in watch) parts) seen → PlacesBack watch parts seen
places_back watch [] [] are = record { places = []; are = record { shape = refl; within = λ f. omega arith }; is = refl }
places_back watch [] (q ∷ seen) are = absurd (let s = are.shape in omega (arith, s))
places_back watch (part ∷ parts) [] are = absurd (let s = are.shape in omega (arith, s))
places_back watch (part ∷ parts) (q ∷ seen) are =
    let here = part_back watch part q (are.within zero) in
    let rest = places_back watch parts seen (record { shape = (let s = are.shape in omega (arith, s)); within = λ f. are.within (suc f) }) in
    record { places = here.place ∷ rest.places; are = more_places part parts here.place rest.places here.within rest.are; is = ap (λ (k : ℕ). k ∷ watched_places watch parts rest.places) here.is ∙ ap (λ (l : List ℕ). q ∷ l) rest.is }

record CutBack (watch : List (Option ℕ)) (logs : List (List (List (ℕ × ℤ)))) (seen : List (List ℕ)) : Type 0 where
  pub cut : List (List ℕ)
  pub is_cut : IsCut logs cut
  pub is : watched_cut watch logs cut ≡ seen

more_cut : (parts : List (List (ℕ × ℤ))) (logs : List (List (List (ℕ × ℤ)))) (places : List ℕ) (cut : List (List ℕ)) → ArePlaces parts places → IsCut logs cut → IsCut (parts ∷ logs) (places ∷ cut)
more_cut parts logs places cut are is = record { shape = ap (λ (k : ℕ). suc k) is.shape; each = each }
  where
    each : (j : ℕ) → ArePlaces (get_or (parts ∷ logs) j []) (get_or (places ∷ cut) j [])
    each zero = are
    each (suc j) = is.each j

cut_back : (watch : List (Option ℕ)) (logs : List (List (List (ℕ × ℤ)))) (seen : List (List ℕ)) → IsCut (seen_logs watch logs) seen → CutBack watch logs seen
cut_back watch [] [] is = record { cut = []; is_cut = record { shape = refl; each = λ j. record { shape = refl; within = λ f. omega arith } }; is = refl }
cut_back watch [] (q ∷ seen) is = absurd (let s = is.shape in omega (arith, s))
cut_back watch (parts ∷ logs) [] is = absurd (let s = is.shape in omega (arith, s))
cut_back watch (parts ∷ logs) (q ∷ seen) is =
    let here = places_back watch parts q (is.each zero) in
    let rest = cut_back watch logs seen (record { shape = (let s = is.shape in omega (arith, s)); each = λ j. is.each (suc j) }) in
    record { cut = here.places ∷ rest.cut; is_cut = more_cut parts logs here.places rest.cut here.are rest.is_cut; is = ap (λ (k : List ℕ). k ∷ watched_cut watch logs rest.cut) here.is ∙ ap (λ (l : List (List ℕ)). q ∷ l) rest.is }

-- ---- a set that was published

pub holds : (prefix : List ℕ) (names : List (List ℕ)) (all : LogSet) (k : ℕ) (epsilon : ℤ) (seen : List (List ℕ)) (set : List ℕ) → AreDifferent names → AreLogs all
    → IsValid (logs_for prefix names all).logs (logs_for prefix names all).objects k epsilon seen set → HoldsOverTheLogs (watch_of prefix names) all epsilon seen set
holds prefix names all k epsilon seen set different logs valid =
    let watch = watch_of prefix names in
    let back = cut_back (watch_of prefix names) all.logs seen valid.is_cut in
    record {
      cut = back.cut;
      is_cut = back.is_cut;
      seen_is = back.is;
      greatest = λ a b t s low high here there in' out.
          let own = (numbers (names_with prefix names) names different).within b s there in
          let most = valid.greatest t s in' own.0 own.1 out in
          let mine = ap (λ (c : List (List ℕ)). total (logs_for prefix names all).logs t c) (sym back.is) ∙ counts prefix names all back.cut a t different logs low here in
          let theirs = ap (λ (c : List (List ℕ)). total (logs_for prefix names all).logs s c) (sym back.is) ∙ counts prefix names all back.cut b s different logs high there in
          omega (arith, ints, most, mine, theirs);
    }
