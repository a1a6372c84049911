-- The reader of logs is exact: rows of parts are logs where they are within the limits.
use Rattle.std.proofs.Common.{◌≡◌, ℕ, zero, suc, ◌+◌, ◌<◌, ◌≤◌, ◌^◌, ℤ, pos, negsuc, unsigned_abs, Bool, true, false, cond, All, get_or, List, [], ◌∷◌, ◌++◌, length, Option, Some, None, option_map, Result, Ok, refl, sym, ap, subst, ◌∙◌, ne_eqb, arith}
use Rattle.std.specs.Prelude.{FitsSigned, find, is_some, nat_le, nat_lt, position, sum_by, ◌==◌}
use Rattle.std.specs.Int.{w128}
use Rattle.std.specs.List.{flat_map, position_or_len}
use Rattle.std.proofs.lemmas.Bool.{eq-eqb, le-leb, le-ltb, leb-true, ltb-false}
use Rattle.std.proofs.lemmas.List.Elements.{All-weaker}
use Rattle.std.proofs.lemmas.List.{get_or_default}
use Rattle.std.proofs.lemmas.List.Sums.{position_or_len_is, sum_by-cons}
use Rattle.std.proofs.lemmas.Int.{ints}
use Rattle.tk_base.specs.Objects.{objects, IsOneOf}
use Rattle.tk_base.proofs.OptionLemmas.{unmapped}
use Rattle.tk_input.specs.Judged.{first_at, first_crowded, first_gap, Assigned, great_in, great_object, judged, logs_by_monitor, logs_of, unless, assigned_from}
use Rattle.tk_input.specs.Logs.{AreGathered, AreParts, IsObject, LogSet, updates_of, weight_for, weight_of}
use Rattle.tk_input.specs.declared.logs.LogsFault.{LogsFault}
use Rattle.tk_input.specs.declared.logs.LogsFault.TheVariants.{MonitorGap, TooManyFeeders, TooManyUpdates}
use Rattle.tk_input.proofs.LimitsLemmas.{passed as within}
use Rattle.tk_input.specs.Rows.{size_at}
use Rattle.tk_input.proofs.SumLemmas.{weight_for-all, weight_of-part}
use Rattle.tk_frames.specs.Reading.{◌>>=◌}
use Rattle.tk_frames.proofs.BytesLemmas.{IsBytes}
use Rattle.tk_frames.proofs.ExactLemmas.{IsExact, exact_both, exact_fact}
use Rattle.tk_frames.proofs.Steps.{bind_some, some_is}
use Rattle.tk_input.proofs.AssignedLemmas.{logs_again}
use Rattle.tk_trace.specs.declared.fault.ParseFault.{ParseFault}
use Rattle.tk_trace.specs.declared.fault.ParseFault.TheVariants as fault
use Rattle.tk_trace.specs.Reading.{Fails, change_at, if_ok, log_set, logs_at, number_at, part_at, row_at, tested_at, times_at}
use Rattle.tk_trace.specs.Spelling.{change, number, part, row}
use Rattle.tk_trace.proofs.AssignedLemmas.{are_monitors, are_parts}
use Rattle.tk_trace.proofs.ExactLemmas.{exact_behind, exact_number, exact_tested, exact_times}
use Rattle.tk_trace.proofs.FieldLemmas.{exact_one_of, exact_signed}
use Rattle.tk_input.proofs.CatalogLemmas.{ok_is}
use Rattle.tk_trace.proofs.NameLemmas.{made_ok}

-- ---- rows of parts

abbrev pub IsChange : ℕ → ℕ × ℤ → Type 0
IsChange objects c = IsOneOf objects c.0 × FitsSigned w128 c.1

abbrev pub IsPart : ℕ → List (ℕ × ℤ) → Type 0
IsPart objects part = (length part ≤ 1000000) × All (IsChange objects) part

abbrev pub IsRow : ℕ → List (List (ℕ × ℤ)) → Type 0
IsRow objects parts = IsOneOf 8 (length parts) × All (IsPart objects) parts

exact_change : (objects : ℕ) → objects ≤ 65536 → IsExact (IsChange objects) change (change_at objects)
unfolding change_at
exact_change objects few = exact_both (exact_one_of 4 objects (omega (arith, few))) exact_signed

exact_length : IsExact (λ n. n ≤ 1000000) (number 4) (tested_at (λ count. nat_le count 1000000) (number_at 4))
exact_length = exact_fact (λ n fact. fact.0) (λ n le. (le, omega (arith, le))) (exact_tested (λ count. nat_le count 1000000) (λ n e. leb-true n 1000000 e) (λ n le. le-leb n 1000000 le) (exact_number 4))

pub exact_part : (objects : ℕ) → objects ≤ 65536 → IsExact (IsPart objects) part (part_at objects)
unfolding part_at
exact_part objects few = exact_behind 4 exact_length (exact_change objects few)

pub exact_row : (objects : ℕ) → objects ≤ 65536 → IsExact (IsRow objects) row (row_at objects)
unfolding row_at
exact_row objects few = exact_behind 1 (exact_one_of 1 8 (omega arith)) (exact_part objects few)

-- ---- logs that pass every test

unless_ok : {A : Type 0} (fault : Option LogsFault) (r : Result A LogsFault) (x : A) → unless fault r ≡ Ok x → (fault ≡ None) × (r ≡ Ok x)
unless_ok None r x e = (refl, e)
unless_ok (Some fault) r x e = absurd cc

no_fault : (b : Bool) (fault : LogsFault) → cond b (Some fault) None ≡ None → b ≡ false
no_fault true fault e = absurd cc
no_fault false fault e = refl

-- what was judged is within the limits
pub judged_within : (s found : LogSet) → length s.logs ≤ 64 → All (IsRow s.objects) s.logs → judged s ≡ Ok found → (s ≡ found) × AreGathered s
judged_within s found few rows e =
    let a = unless_ok (option_map (λ mon. MonitorGap (record { 0 = mon })) (first_gap s.logs)) _ found e in
    let b = unless_ok (option_map (λ mon. TooManyFeeders (record { 0 = mon })) (first_crowded s.logs)) _ found a.1 in
    let c = unless_ok (cond (nat_lt 4000000 (sum_by updates_of s.logs)) (Some TooManyUpdates) None) _ found b.1 in
    let d = unless_ok (great_in s) (Ok s) found c.1 in
    let objects_in : All (λ parts. All (λ part. All (λ c. IsObject s.objects c.0) part) parts) s.logs =
    All-weaker (IsRow s.objects) (λ parts. All (λ part. All (λ c. IsObject s.objects c.0) part) parts)
    (λ parts fact. All-weaker (IsPart s.objects) (λ part. All (λ c. IsObject s.objects c.0) part)
    (λ part of. All-weaker (IsChange s.objects) (λ c. IsObject s.objects c.0) (λ c is. is.0) part of.1) parts fact.1) s.logs rows in
    let lengths : All (λ parts. All (λ part. length part ≤ 1000000) parts) s.logs =
    All-weaker (IsRow s.objects) (λ parts. All (λ part. length part ≤ 1000000) parts) (λ parts fact. All-weaker (IsPart s.objects) (λ part. length part ≤ 1000000) (λ part of. of.0) parts fact.1) s.logs rows in (
      ok_is s found d.1,
      within s few objects_in lengths
          (unmapped (λ mon. MonitorGap (record { 0 = mon })) (first_gap s.logs) a.0)
          (unmapped (λ mon. TooManyFeeders (record { 0 = mon })) (first_crowded s.logs) b.0)
          (ltb-false 4000000 (sum_by updates_of s.logs) (no_fault (nat_lt 4000000 (sum_by updates_of s.logs)) TooManyUpdates c.0)) d.0,
    )

-- ---- logs within the limits pass every test

none_before : {X : Type 0} (p : X → Bool) (xs : List X) → All (λ x. p x ≡ false) xs → position_or_len p xs ≡ length xs
none_before p [] fails = refl
none_before p (x ∷ xs) fails = position_or_len_is p (x ∷ xs) (length (x ∷ xs)) x (omega arith) (λ k within. fails k x within) (λ past. absurd (omega (arith, past)))

no_position : {X : Type 0} (p : X → Bool) (xs : List X) → All (λ x. p x ≡ false) xs → position p xs ≡ None
no_position p xs fails = rw (none_before p xs fails, le-ltb (length xs) (length xs) (omega arith)) refl

none_first : {X : Type 0} (p : X → Bool) (xs : List X) → All (λ x. p x ≡ false) xs → first_at p xs ≡ None
none_first p xs fails = ap (option_map (λ i. i + 1)) (no_position p xs fails)

none_found : {X : Type 0} (p : X → Bool) (xs : List X) → ((x : X) → p x ≡ false) → find p xs ≡ None
none_found p [] fails = refl
none_found p (x ∷ xs) fails = ap (λ (b : Bool). cond b (Some x) (find p xs)) (fails x) ∙ none_found p xs fails

-- none of the objects of a monitor is too great
none_great : (n : ℕ) (parts : List (List (ℕ × ℤ))) → AreParts n parts → great_object n parts ≡ None
none_great n parts h = none_found (λ o. nat_lt (2 ^ 100) (weight_of parts o)) (objects n) (λ o. le-ltb (2 ^ 100) (weight_of parts o) (h.weights o))

pub within_judged : (s : LogSet) → AreGathered s → judged s ≡ Ok s
within_judged s gathered =
    let h = gathered.limits in
    let some : (length s.logs == 0) ≡ false = ne_eqb (length s.logs) 0 (λ e. omega (arith, e, h.some_monitor)) in
    let full : first_at (λ parts. length parts == 0) s.logs ≡ None =
    none_first (λ parts. length parts == 0) s.logs (All-weaker (AreParts s.objects) (λ parts. (length parts == 0) ≡ false) (λ parts of. ne_eqb (length parts) 0 (λ e. omega (arith, e, of.some_feeder))) s.logs h.each) in
    let gap : first_gap s.logs ≡ None = rw some full in
    let crowded : first_crowded s.logs ≡ None =
    none_first (λ parts. nat_lt 8 (length parts)) s.logs (All-weaker (AreParts s.objects) (λ parts. nat_lt 8 (length parts) ≡ false) (λ parts of. le-ltb 8 (length parts) of.feeders) s.logs h.each) in
    let few : nat_lt 4000000 (sum_by updates_of s.logs) ≡ false = le-ltb 4000000 (sum_by updates_of s.logs) gathered.updates in
    let great : first_at (λ parts. is_some (great_object s.objects parts)) s.logs ≡ None =
    none_first (λ parts. is_some (great_object s.objects parts)) s.logs (All-weaker (AreParts s.objects) (λ parts. is_some (great_object s.objects parts) ≡ false) (λ parts of. ap is_some (none_great s.objects parts of)) s.logs h.each) in
    rw (gap, crowded, few, great) refl

-- ---- a change within the limits fits

size_within : (o : ℕ) (cs : List (ℕ × ℤ)) (k : ℕ) (d : ℕ × ℤ) → k < length cs → size_at o (get_or cs k d) ≤ sum_by (size_at o) cs
size_within o [] k d inside = absurd (omega (arith, inside))
size_within o (c ∷ cs) zero d inside = omega (arith, sum_by-cons (size_at o) c cs)
size_within o (c ∷ cs) (suc k) d inside = omega (arith, sum_by-cons (size_at o) c cs, size_within o cs k d (omega (arith, inside)))

own_size : (c : ℕ × ℤ) → size_at c.0 c ≡ unsigned_abs c.1
own_size c = ap (λ (b : Bool). cond b (unsigned_abs c.1) 0) (eq-eqb c.0 c.0 refl)

row_within : (n : ℕ) (parts : List (List (ℕ × ℤ))) → AreParts n parts → IsRow n parts
row_within n parts h = (
  (h.some_feeder, h.feeders),
  λ i d inside. (
    h.lengths i d inside,
    λ k c within.
        let part = get_or parts i d in
        let x = get_or part k c in
        let here : size_at x.0 x ≤ sum_by (size_at x.0) part = size_within x.0 part k c within in
        let all : weight_for x.0 part ≤ weight_of parts x.0 = subst (λ (p : List (ℕ × ℤ)). weight_for x.0 p ≤ weight_of parts x.0) (get_or_default parts i [] d inside) (weight_of-part parts x.0 i inside) in
        (h.objects i d inside k c within, small x.1 (omega (arith, here, all, own_size x, weight_for-all x.0 part, h.weights x.0))),
  ),
)
  where
    small : (z : ℤ) → unsigned_abs z ≤ 2 ^ 100 → FitsSigned w128 z
    small (pos n) le = omega (arith, ints, le)
    small (negsuc n) le = omega (arith, ints, le)

-- ---- the whole

pub exact_logs : (objects monitors : ℕ) → objects ≤ 65536 → monitors ≤ 64
    → IsExact (λ (s : LogSet). AreGathered s × ((s.objects ≡ objects) × (length s.logs ≡ monitors))) (λ s. flat_map row s.logs) (logs_at objects monitors)
unfolding logs_at
exact_logs objects monitors small few = record {
  takes = λ bytes s rest fits e.
      let a = bind_some (times_at (row_at objects) monitors bytes) (λ x. if_ok (judged (log_set objects x.0)) >>= λ logs. Some (logs, x.1)) (s, rest) e in
      let b = bind_some (if_ok (judged (log_set objects a.0.0))) (λ logs. Some (logs, a.0.1)) (s, rest) a.2 in
      let t = (exact_times monitors (exact_row objects small)).takes bytes a.0.0 a.0.1 fits a.1 in
      let j = judged_within (log_set objects a.0.0) b.0 (omega (arith, t.1.0, few)) t.1.1 (made_ok (judged (log_set objects a.0.0)) b.0 b.1) in
      let is = some_is (b.0, a.0.1) (s, rest) b.2 in
      let same : log_set objects a.0.0 ≡ s = j.0 ∙ ap (λ p. p.0) is in
      subst (λ (w : List ℕ). (bytes ≡ flat_map row s.logs ++ w) × (AreGathered s × ((s.objects ≡ objects) × (length s.logs ≡ monitors)))) (ap (λ p. p.1) is)
      (subst (λ (s : LogSet). (bytes ≡ flat_map row s.logs ++ a.0.1) × (AreGathered s × ((s.objects ≡ objects) × (length s.logs ≡ monitors)))) same (t.0, (j.1, (refl, t.1.0))));
  again = λ s rest fact.
      let rows : All (IsRow objects) s.logs = subst (λ (n : ℕ). All (IsRow n) s.logs) fact.1.0 (All-weaker (AreParts s.objects) (IsRow s.objects) (row_within s.objects) s.logs fact.0.limits.each) in
      let same : log_set objects s.logs ≡ s = ap (λ (n : ℕ). log_set n s.logs) (sym fact.1.0) in
      ap (λ r. r >>= λ x. if_ok (judged (log_set objects x.0)) >>= λ logs. Some (logs, x.1)) ((exact_times monitors (exact_row objects small)).again s.logs rest (fact.1.1, rows))
      ∙ ap (λ (s : LogSet). if_ok (judged s) >>= λ logs. Some (logs, rest)) same
      ∙ ap (λ r. if_ok r >>= λ logs. Some (logs, rest)) (within_judged s fact.0);
}

-- ---- as the code reads them

-- rows that were read
pub rows_read : (objects monitors : ℕ) (bytes : List ℕ) (rows : List (List (List (ℕ × ℤ)))) (rest : List ℕ) → objects ≤ 65536 → IsBytes bytes → times_at (row_at objects) monitors bytes ≡ Some (rows, rest)
    → (length rows ≡ monitors) × All (IsRow objects) rows
rows_read objects monitors bytes rows rest small fits e = ((exact_times monitors (exact_row objects small)).takes bytes rows rest fits e).1

-- what logs need of their parts
pub parts_read : (objects monitors : ℕ) (rows : List (List (List (ℕ × ℤ)))) (parts : Assigned) → monitors ≤ 64 → length rows ≡ monitors → All (IsRow objects) rows → parts ≡ assigned_from 1 rows
    → All (λ p. IsOneOf 64 p.0.0) parts × (All (λ p. All (λ c. IsObject objects c.0) p.1) parts × All (λ p. length p.1 ≤ 1000000) parts)
parts_read objects monitors rows parts few count facts is =
    let mons = are_monitors 1 rows (omega arith) (omega (arith, count, few)) in
    let objs = are_parts (λ part. All (λ c. IsObject objects c.0) part) 1 rows
    (All-weaker (IsRow objects) (λ parts. All (λ part. All (λ c. IsObject objects c.0) part) parts)
    (λ parts fact. All-weaker (IsPart objects) (λ part. All (λ c. IsObject objects c.0) part)
    (λ part of. All-weaker (IsChange objects) (λ c. IsObject objects c.0) (λ c is. is.0) part of.1) parts fact.1) rows facts) in
    let lens = are_parts (λ part. length part ≤ 1000000) 1 rows
    (All-weaker (IsRow objects) (λ parts. All (λ part. length part ≤ 1000000) parts) (λ parts fact. All-weaker (IsPart objects) (λ part. length part ≤ 1000000) (λ part of. of.0) parts fact.1) rows facts) in
    subst (λ (ps : Assigned). All (λ p. IsOneOf 64 p.0.0) ps × (All (λ p. All (λ c. IsObject objects c.0) p.1) ps × All (λ p. length p.1 ≤ 1000000) ps)) (sym is) (mons, (objs, lens))

-- the parts make the rows again
made_same : (objects : ℕ) (rows : List (List (List (ℕ × ℤ)))) (parts : Assigned) → All (IsRow objects) rows → parts ≡ assigned_from 1 rows → logs_of parts objects ≡ judged (log_set objects rows)
made_same objects rows parts facts is =
    let some : All (λ parts. 1 ≤ length parts) rows = All-weaker (IsRow objects) (λ parts. 1 ≤ length parts) (λ parts fact. fact.0.0) rows facts in
    ap (λ (logs : List (List (List (ℕ × ℤ)))). judged (log_set objects logs)) (ap logs_by_monitor is ∙ logs_again rows some)

pub logs_found : (objects monitors : ℕ) (bytes : List ℕ) (rows : List (List (List (ℕ × ℤ)))) (rest : List ℕ) (parts : Assigned) (s : LogSet) → times_at (row_at objects) monitors bytes ≡ Some (rows, rest)
    → All (IsRow objects) rows → parts ≡ assigned_from 1 rows → if_ok (logs_of parts objects) ≡ Some s → logs_at objects monitors bytes ≡ Some (s, rest)
unfolding logs_at
logs_found objects monitors bytes rows rest parts s read facts is made =
    ap (λ r. r >>= λ x. if_ok (judged (log_set objects x.0)) >>= λ logs. Some (logs, x.1)) read
    ∙ ap (λ r. if_ok r >>= λ logs. Some (logs, rest)) (sym (made_same objects rows parts facts is))
    ∙ ap (λ r. r >>= λ logs. Some (logs, rest)) made

-- a fault of a part is one of the whole
fails_then : {A B : Type 0} (e : ParseFault) (read : Option A) (next : A → Option B) → Fails e read → Fails e (read >>= next)
fails_then fault.NoMemory read next fails = tt
fails_then fault.NotATrace read next fails = ap (λ r. r >>= next) fails

pub rows_failed : (e : ParseFault) (objects monitors : ℕ) (bytes : List ℕ) → Fails e (times_at (row_at objects) monitors bytes) → Fails e (logs_at objects monitors bytes)
unfolding logs_at
rows_failed e objects monitors bytes fails = fails_then e (times_at (row_at objects) monitors bytes) (λ x. if_ok (judged (log_set objects x.0)) >>= λ logs. Some (logs, x.1)) fails

pub logs_failed : (e : ParseFault) (objects monitors : ℕ) (bytes : List ℕ) (rows : List (List (List (ℕ × ℤ)))) (rest : List ℕ) (parts : Assigned) → times_at (row_at objects) monitors bytes ≡ Some (rows, rest)
    → All (IsRow objects) rows → parts ≡ assigned_from 1 rows → Fails e (if_ok (logs_of parts objects)) → Fails e (logs_at objects monitors bytes)
unfolding logs_at
logs_failed e objects monitors bytes rows rest parts read facts is fails =
    let here : Fails e (if_ok (judged (log_set objects rows)) >>= λ logs. Some (logs, rest)) =
    fails_then e (if_ok (judged (log_set objects rows))) (λ logs. Some (logs, rest)) (subst (λ r. Fails e (if_ok r)) (made_same objects rows parts facts is) fails) in
    subst (Fails e) (sym (ap (λ r. r >>= λ x. if_ok (judged (log_set objects x.0)) >>= λ logs. Some (logs, x.1)) read)) here
