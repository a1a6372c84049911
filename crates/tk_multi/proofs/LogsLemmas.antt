-- The logs of a query pass every test, since the common ones do.
use Rattle.std.proofs.Common.{◌≡◌, ℕ, suc, zero, ℤ, ◌+◌, ◌-◌, ◌<◌, ◌≤◌, ◌^◌, Bool, true, false, cond, unsigned_abs, Option, Some, None, option_map, Result, Ok, List, [], ◌∷◌, All, length, map, get_or, ap, sym, subst, ◌∙◌, arith, refl, ⊎_elim}
use Rattle.std.specs.Prelude.{filter, is_some, nat_lt, option_and_then, sum_by, ◌==◌, ◌⊎◌, if◌then◌else◌}
use Rattle.std.specs.List.{cons_option, position_or_len}
use Rattle.std.proofs.Common.{inl, inr}
use Rattle.std.proofs.lemmas.Bool.{cases_eq, eq-eqb, le-ltb, ne_eqb}
use Rattle.std.proofs.lemmas.List.{get_or-map, length-map}
use Rattle.std.proofs.lemmas.List.Elements.{All-append, All-map}
use Rattle.std.proofs.lemmas.List.Sums.{position_or_len_is, sum_by-cons}
use Rattle.tk_base.specs.Objects.{objects}
use Rattle.tk_base.specs.declared.ids.Mon.{Mon}
use Rattle.tk_base.proofs.FindLemmas.{find_none}
use Rattle.tk_input.specs.Judged.{Assigned, first_at, first_crowded, first_gap, great_in, great_object, Refuses, judged, logs_by_monitor, logs_of, too_great, unless, under, assigned_from}
use Rattle.tk_input.specs.Logs.{AreGathered, AreLogs, AreParts, IsObject, LogSet, updates_of, weight_for, weight_of}
use Rattle.tk_input.specs.declared.logs.LogsFault.{LogsFault}
use Rattle.tk_input.proofs.AssignedLemmas.{logs_again}
use Rattle.tk_input.specs.declared.logs.LogsFault.TheVariants as f
use Rattle.tk_multi.specs.Projection.{Numbers, anew, seen_logs, watched_change, watched_in}

-- ---- what holds of each part

none_all : {X : Type 0} (P : X → Type 0) → All P []
none_all P k d h = absurd (omega (arith, h))

under_all : (P : Mon × List (ℕ × ℤ) → Type 0) (n : ℕ) (row : List (List (ℕ × ℤ))) → All (λ part. P (record { 0 = n }, part)) row → All P (under n row)
under_all P n row all = All-map P (λ (part : List (ℕ × ℤ)). (record { 0 = n }, part)) row all

pub assigned_each : (P : Mon × List (ℕ × ℤ) → Type 0) (n : ℕ) (logs : List (List (List (ℕ × ℤ)))) → ((j : ℕ) → j < length logs → All (λ part. P (record { 0 = n + j }, part)) (get_or logs j [])) → All P (assigned_from n logs)
assigned_each P n [] each = none_all P
assigned_each P n (row ∷ logs) each =
    All-append P (under n row) (assigned_from (n + 1) logs)
    (under_all P n row (subst (λ (k : ℕ). All (λ part. P (record { 0 = k }, part)) row) (let e : n + 0 ≡ n = omega arith in e) (each 0 (omega arith))))
    (assigned_each P (n + 1) logs (λ j h. subst (λ (k : ℕ). All (λ part. P (record { 0 = k }, part)) (get_or logs j [])) (let e : n + suc j ≡ n + 1 + j = omega arith in e) (each (suc j) (omega (arith, h)))))

-- ---- the changes that a query sees

pub seen_cons : (watch : List (Option ℕ)) (c : ℕ × ℤ) (cs : List (ℕ × ℤ)) → watched_in watch (c ∷ cs) ≡ cons_option (watched_change watch c) (watched_in watch cs)
unfolding watched_in
seen_cons watch c cs = refl

pub seen_none : (watch : List (Option ℕ)) → watched_in watch [] ≡ []
unfolding watched_in
seen_none watch = refl

shorter_by : (o : Option (ℕ × ℤ)) (rest : List (ℕ × ℤ)) (n : ℕ) → length rest ≤ n → length (cons_option o rest) ≤ suc n
shorter_by None rest n few = omega (arith, few)
shorter_by (Some x) rest n few = omega (arith, few)

pub seen_shorter : (watch : List (Option ℕ)) (cs : List (ℕ × ℤ)) → length (watched_in watch cs) ≤ length cs
seen_shorter watch [] = subst (λ (l : List (ℕ × ℤ)). length l ≤ 0) (sym (seen_none watch)) (omega arith)
seen_shorter watch (c ∷ cs) =
    subst (λ (l : List (ℕ × ℤ)). length l ≤ suc (length cs)) (sym (seen_cons watch c cs)) (shorter_by (watched_change watch c) (watched_in watch cs) (length cs) (seen_shorter watch cs))

within_by : (watch : List (Option ℕ)) (count : ℕ) (c : ℕ × ℤ) (rest : List (ℕ × ℤ)) (o : Option ℕ) → anew watch c.0 ≡ o → Numbers count watch → All (λ x. IsObject count x.0) rest
    → All (λ x. IsObject count x.0) (cons_option (option_map (λ n. (n, c.1)) o) rest)
within_by watch count c rest None is numbers all = all
within_by watch count c rest (Some n) is numbers all = All-append (λ (x : ℕ × ℤ). IsObject count x.0) ((n, c.1) ∷ []) rest (only (n, c.1) (numbers.within c.0 n is)) all
  where
    only : (x : ℕ × ℤ) → IsObject count x.0 → All (λ y. IsObject count y.0) (x ∷ [])
    only x here zero d h = here
    only x here (suc k) d h = absurd (omega (arith, h))

pub seen_within : (watch : List (Option ℕ)) (count : ℕ) (cs : List (ℕ × ℤ)) → Numbers count watch → All (λ x. IsObject count x.0) (watched_in watch cs)
seen_within watch count [] numbers = subst (λ (l : List (ℕ × ℤ)). All (λ x. IsObject count x.0) l) (sym (seen_none watch)) (none_all (λ (x : ℕ × ℤ). IsObject count x.0))
seen_within watch count (c ∷ cs) numbers =
    subst (λ (l : List (ℕ × ℤ)). All (λ x. IsObject count x.0) l) (sym (seen_cons watch c cs)) (within_by watch count c (watched_in watch cs) (anew watch c.0) refl numbers (seen_within watch count cs numbers))

-- ---- weights

weight_by : (o : ℕ) (c : ℕ × ℤ) (cs : List (ℕ × ℤ)) (b : Bool) → sum_by (λ x. unsigned_abs x.1) (cond b (c ∷ filter (λ x. x.0 == o) cs) (filter (λ x. x.0 == o) cs)) ≡ cond b (unsigned_abs c.1) 0 + weight_for o cs
weight_by o c cs true = sum_by-cons (λ (x : ℕ × ℤ). unsigned_abs x.1) c (filter (λ x. x.0 == o) cs)
weight_by o c cs false = omega arith

weight_cons : (o : ℕ) (c : ℕ × ℤ) (cs : List (ℕ × ℤ)) → weight_for o (c ∷ cs) ≡ cond (c.0 == o) (unsigned_abs c.1) 0 + weight_for o cs
weight_cons o c cs = weight_by o c cs (c.0 == o)

lighter_by : (watch : List (Option ℕ)) (count n o : ℕ) (c : ℕ × ℤ) (cs : List (ℕ × ℤ)) (m : Option ℕ) → anew watch c.0 ≡ m → Numbers count watch → 1 ≤ o → 1 ≤ c.0 → anew watch o ≡ Some n
    → weight_for n (watched_in watch cs) ≤ weight_for o cs → weight_for n (cons_option (option_map (λ k. (k, c.1)) m) (watched_in watch cs)) ≤ weight_for o (c ∷ cs)
lighter_by watch count n o c cs None is numbers from low at less = let e = weight_cons o c cs in omega (arith, e, less)
lighter_by watch count n o c cs (Some m) is numbers from low at less = ⊎_elim
    (λ (same : m ≡ n).
    let it : c.0 ≡ o = numbers.once c.0 o n low from (is ∙ ap (λ (k : ℕ). Some k) same) at in
    let e = weight_cons o c cs in
    let d = weight_cons n (m, c.1) (watched_in watch cs) in
    let x : cond (c.0 == o) (unsigned_abs c.1) 0 ≡ unsigned_abs c.1 = ap (λ (b : Bool). cond b (unsigned_abs c.1) 0) (eq-eqb c.0 o it) in
    let y : cond (m == n) (unsigned_abs c.1) 0 ≡ unsigned_abs c.1 = ap (λ (b : Bool). cond b (unsigned_abs c.1) 0) (eq-eqb m n same) in
    omega (arith, e, d, x, y, less))
    (λ (apart : m ≡ n → ⊥).
    let e = weight_cons o c cs in
    let d = weight_cons n (m, c.1) (watched_in watch cs) in
    let y : cond (m == n) (unsigned_abs c.1) 0 ≡ 0 = ap (λ (b : Bool). cond b (unsigned_abs c.1) 0) (ne_eqb m n apart) in
    omega (arith, e, d, y, less))
    (cases_eq m n)

-- the changes of a watched object weigh no more where they are seen
lighter : (watch : List (Option ℕ)) (count n o : ℕ) (cs : List (ℕ × ℤ)) → Numbers count watch → 1 ≤ o → anew watch o ≡ Some n → All (λ c. 1 ≤ c.0) cs → weight_for n (watched_in watch cs) ≤ weight_for o cs
lighter watch count n o [] numbers from at all = subst (λ (l : List (ℕ × ℤ)). weight_for n l ≤ 0) (sym (seen_none watch)) (omega arith)
lighter watch count n o (c ∷ cs) numbers from at all =
    subst (λ (l : List (ℕ × ℤ)). weight_for n l ≤ weight_for o (c ∷ cs)) (sym (seen_cons watch c cs))
    (lighter_by watch count n o c cs (anew watch c.0) refl numbers from (all 0 c (omega arith)) at (lighter watch count n o cs numbers from at (λ k d h. all (suc k) d (omega (arith, h)))))

-- an object that none becomes weighs nothing
no_weight_by : (watch : List (Option ℕ)) (n : ℕ) (c : ℕ × ℤ) (cs : List (ℕ × ℤ)) (m : Option ℕ) → anew watch c.0 ≡ m → ((o : ℕ) → anew watch o ≡ Some n → ⊥) → weight_for n (watched_in watch cs) ≡ 0
    → weight_for n (cons_option (option_map (λ k. (k, c.1)) m) (watched_in watch cs)) ≡ 0
no_weight_by watch n c cs None is none before = before
no_weight_by watch n c cs (Some m) is none before =
    let d = weight_cons n (m, c.1) (watched_in watch cs) in
    let y : cond (m == n) (unsigned_abs c.1) 0 ≡ 0 = ap (λ (b : Bool). cond b (unsigned_abs c.1) 0) (ne_eqb m n (λ same. none c.0 (is ∙ ap (λ (k : ℕ). Some k) same))) in
    omega (arith, d, y, before)

no_weight : (watch : List (Option ℕ)) (n : ℕ) (cs : List (ℕ × ℤ)) → ((o : ℕ) → anew watch o ≡ Some n → ⊥) → weight_for n (watched_in watch cs) ≡ 0
no_weight watch n [] none = ap (weight_for n) (seen_none watch)
no_weight watch n (c ∷ cs) none = ap (weight_for n) (seen_cons watch c cs) ∙ no_weight_by watch n c cs (anew watch c.0) refl none (no_weight watch n cs none)

-- which object becomes one
is_it : (o : Option ℕ) (n : ℕ) → (o ≡ Some n) ⊎ (o ≡ Some n → ⊥)
is_it None n = inr (λ same. absurd (cc))
is_it (Some m) n = ⊎_elim (λ (same : m ≡ n). inl (ap (λ (k : ℕ). Some k) same)) (λ (apart : m ≡ n → ⊥). inr (λ same. apart (cc))) (cases_eq m n)

none_of : (o : Option ℕ) (watch : List (Option ℕ)) (n : ℕ) → (o ≡ Some n → ⊥) → ((i : ℕ) → get_or watch i None ≡ Some n → ⊥) → (i : ℕ) → get_or (o ∷ watch) i None ≡ Some n → ⊥
none_of o watch n here later zero some = here some
none_of o watch n here later (suc i) some = later i some

seek : (watch : List (Option ℕ)) (n : ℕ) → ((i : ℕ) × (get_or watch i None ≡ Some n)) ⊎ ((i : ℕ) → get_or watch i None ≡ Some n → ⊥)
seek [] n = inr (λ i some. absurd (cc))
seek (o ∷ watch) n = ⊎_elim
    (λ (here : o ≡ Some n). inl (0, here))
    (λ (not_here : o ≡ Some n → ⊥). ⊎_elim
    (λ (later : (i : ℕ) × (get_or watch i None ≡ Some n)). inl (suc later.0, later.1))
    (λ (never : (i : ℕ) → get_or watch i None ≡ Some n → ⊥). inr (λ i some. none_of o watch n not_here never i some))
    (seek watch n))
    (is_it o n)

weights_less : (watch : List (Option ℕ)) (count n o : ℕ) (parts : List (List (ℕ × ℤ))) → Numbers count watch → 1 ≤ o → anew watch o ≡ Some n → All (λ part. All (λ c. 1 ≤ c.0) part) parts
    → weight_of (map (watched_in watch) parts) n ≤ weight_of parts o
weights_less watch count n o [] numbers from at all = omega arith
weights_less watch count n o (part ∷ parts) numbers from at all =
    let here = lighter watch count n o part numbers from at (all 0 part (omega arith)) in
    let later = weights_less watch count n o parts numbers from at (λ k d h. all (suc k) d (omega (arith, h))) in
    let x = sum_by-cons (weight_for n) (watched_in watch part) (map (watched_in watch) parts) in
    let y = sum_by-cons (weight_for o) part parts in
    omega (arith, x, y, here, later)

no_weights : (watch : List (Option ℕ)) (n : ℕ) (parts : List (List (ℕ × ℤ))) → ((o : ℕ) → anew watch o ≡ Some n → ⊥) → weight_of (map (watched_in watch) parts) n ≡ 0
no_weights watch n [] none = refl
no_weights watch n (part ∷ parts) none =
    let x = sum_by-cons (weight_for n) (watched_in watch part) (map (watched_in watch) parts) in
    let here = no_weight watch n part none in let later = no_weights watch n parts none in omega (arith, x, here, later)

pub seen_weight : (watch : List (Option ℕ)) (count n most : ℕ) (parts : List (List (ℕ × ℤ))) → Numbers count watch → All (λ part. All (λ c. 1 ≤ c.0) part) parts → ((o : ℕ) → weight_of parts o ≤ most)
    → weight_of (map (watched_in watch) parts) n ≤ most
seen_weight watch count n most parts numbers all light = ⊎_elim
    (λ (at : (i : ℕ) × (get_or watch i None ≡ Some n)).
    let place : suc at.0 - 1 ≡ at.0 = omega arith in
    let less = weights_less watch count n (suc at.0) parts numbers (omega arith) (ap (λ (k : ℕ). get_or watch k None) place ∙ at.1) all in
    let top = light (suc at.0) in omega (arith, less, top))
    (λ (none : (i : ℕ) → get_or watch i None ≡ Some n → ⊥). let e = no_weights watch n parts (λ o some. none (o - 1) some) in omega (arith, e))
    (seek watch n)

-- ---- the logs pass every test

nowhere : {X : Type 0} (p : X → Bool) (xs : List X) (d : X) → ((k : ℕ) → k < length xs → p (get_or xs k d) ≡ false) → first_at p xs ≡ None
nowhere p xs d fails =
    let at : position_or_len p xs ≡ length xs = position_or_len_is p xs (length xs) d (omega arith) fails (λ h. absurd (omega (arith, h))) in
    ap (λ (n : ℕ). option_map (λ i. i + 1) (cond (nat_lt n (length xs)) (Some n) None)) at
    ∙ ap (λ (b : Bool). option_map (λ i. i + 1) (cond b (Some (length xs)) None)) (le-ltb (length xs) (length xs) (omega arith))

seen_row : (watch : List (Option ℕ)) (logs : List (List (List (ℕ × ℤ)))) (j : ℕ) → j < length logs → get_or (seen_logs watch logs) j [] ≡ map (watched_in watch) (get_or logs j [])
seen_row watch logs j within = get_or-map (λ (parts : List (List (ℕ × ℤ))). map (watched_in watch) parts) logs j [] [] within

pub row_count : (watch : List (Option ℕ)) (logs : List (List (List (ℕ × ℤ)))) (j : ℕ) → j < length logs → length (get_or (seen_logs watch logs) j []) ≡ length (get_or logs j [])
row_count watch logs j within = ap (λ (l : List (List (ℕ × ℤ))). length l) (seen_row watch logs j within) ∙ length-map (get_or logs j []) (watched_in watch)

fewer_row : (watch : List (Option ℕ)) (parts : List (List (ℕ × ℤ))) → updates_of (map (watched_in watch) parts) ≤ updates_of parts
fewer_row watch [] = omega arith
fewer_row watch (part ∷ parts) =
    let here = seen_shorter watch part in let later = fewer_row watch parts in
    let x = sum_by-cons (λ (p : List (ℕ × ℤ)). length p) (watched_in watch part) (map (watched_in watch) parts) in
    let y = sum_by-cons (λ (p : List (ℕ × ℤ)). length p) part parts in omega (arith, x, y, here, later)

fewer : (watch : List (Option ℕ)) (logs : List (List (List (ℕ × ℤ)))) → sum_by updates_of (seen_logs watch logs) ≤ sum_by updates_of logs
fewer watch [] = omega arith
fewer watch (row ∷ logs) =
    let here = fewer_row watch row in let later = fewer watch logs in
    let x = sum_by-cons updates_of (map (watched_in watch) row) (seen_logs watch logs) in
    let y = sum_by-cons updates_of row logs in omega (arith, x, y, here, later)

no_great : (n : ℕ) (parts : List (List (ℕ × ℤ))) → ((o : ℕ) → weight_of parts o ≤ 2 ^ 100) → is_some (great_object n parts) ≡ false
no_great n parts light =
    ap (λ (o : Option ℕ). is_some o) (find_none (λ (o : ℕ). nat_lt (2 ^ 100) (weight_of parts o)) (objects n) (λ k d h. let w = light (get_or (objects n) k d) in le-ltb (2 ^ 100) (weight_of parts (get_or (objects n) k d)) w))

seen_parts : (watch : List (Option ℕ)) (count : ℕ) (all : LogSet) (j : ℕ) → AreLogs all → Numbers count watch → j < length all.logs → (o : ℕ) → weight_of (get_or (seen_logs watch all.logs) j []) o ≤ 2 ^ 100
seen_parts watch count all j logs numbers within o =
    let parts : AreParts all.objects (get_or all.logs j []) = logs.each j [] within in
    subst (λ (p : List (List (ℕ × ℤ))). weight_of p o ≤ 2 ^ 100) (sym (seen_row watch all.logs j within))
    (seen_weight watch count o (2 ^ 100) (get_or all.logs j []) numbers (λ k d h i e g. (parts.objects k d h i e g).0) parts.weights)

-- the logs of a query over so many objects are logs
pub judged_ok : (watch : List (Option ℕ)) (count : ℕ) (all : LogSet) → AreGathered all → Numbers count watch
    → judged (record { logs = seen_logs watch all.logs; objects = count }) ≡ Ok (record { logs = seen_logs watch all.logs; objects = count })
judged_ok watch count all gathered numbers =
    let logs = gathered.limits in
    let seen = seen_logs watch all.logs in
    let s : LogSet = record { logs = seen; objects = count } in
    let size : length seen ≡ length all.logs = length-map all.logs (λ (parts : List (List (ℕ × ℤ))). map (watched_in watch) parts) in
    let gap : first_gap seen ≡ None =
    ap (λ (b : Bool). if b then Some 1 else first_at (λ parts. length parts == 0) seen) (ne_eqb (length seen) 0 (λ none. let one = logs.some_monitor in omega (arith, size, none, one)))
    ∙ nowhere (λ (parts : List (List (ℕ × ℤ))). length parts == 0) seen [] (λ k h. ne_eqb (length (get_or seen k [])) 0 (λ none.
    let within : k < length all.logs = omega (arith, size, h) in
    let e = row_count watch all.logs k within in let one = (logs.each k [] within).some_feeder in omega (arith, e, none, one))) in
    let crowded : first_crowded seen ≡ None =
    nowhere (λ (parts : List (List (ℕ × ℤ))). nat_lt 8 (length parts)) seen [] (λ k h.
    let within : k < length all.logs = omega (arith, size, h) in
    let e = row_count watch all.logs k within in let few = (logs.each k [] within).feeders in le-ltb 8 (length (get_or seen k [])) (omega (arith, e, few))) in
    let updates : nat_lt 4000000 (sum_by updates_of seen) ≡ false =
    (let less = fewer watch all.logs in let most = gathered.updates in le-ltb 4000000 (sum_by updates_of seen) (omega (arith, less, most))) in
    let great : great_in s ≡ None =
    ap (option_and_then (too_great s)) (nowhere (λ (parts : List (List (ℕ × ℤ))). is_some (great_object count parts)) seen [] (λ k h.
    no_great count (get_or seen k []) (seen_parts watch count all k logs numbers (omega (arith, size, h))))) in
    ap (λ (o : Option ℕ). unless (option_map (λ mon. f.MonitorGap (record { 0 = mon })) o) (unless (option_map (λ mon. f.TooManyFeeders (record { 0 = mon })) (first_crowded seen))
    (unless (if nat_lt 4000000 (sum_by updates_of seen) then Some f.TooManyUpdates else None) (unless (great_in s) (Ok s))))) gap
    ∙ ap (λ (o : Option ℕ). unless (option_map (λ mon. f.TooManyFeeders (record { 0 = mon })) o)
    (unless (if nat_lt 4000000 (sum_by updates_of seen) then Some f.TooManyUpdates else None) (unless (great_in s) (Ok s)))) crowded
    ∙ ap (λ (b : Bool). unless (if b then Some f.TooManyUpdates else None) (unless (great_in s) (Ok s))) updates
    ∙ ap (λ (o : Option LogsFault). unless o (Ok s)) great

-- so a fault of theirs is want of memory
only_memory : (e : LogsFault) (s : LogSet) → Refuses {A = LogSet} e (Ok s) → e ≡ f.NoMemory
only_memory f.NoMemory s refused = refl
only_memory (f.MonitorGap mon) s refused = absurd (cc)
only_memory (f.TooManyFeeders mon) s refused = absurd (cc)
only_memory f.TooManyUpdates s refused = absurd (cc)
only_memory (f.TooGreat mon obj) s refused = absurd (cc)

some_rows : (watch : List (Option ℕ)) (all : LogSet) → AreLogs all → All (λ row. 1 ≤ length row) (seen_logs watch all.logs)
some_rows watch all logs = All-map (λ (row : List (List (ℕ × ℤ))). 1 ≤ length row) (λ (parts : List (List (ℕ × ℤ))). map (watched_in watch) parts) all.logs
    (λ k d h. let e = length-map (get_or all.logs k d) (watched_in watch) in let one = (logs.each k d h).some_feeder in omega (arith, e, one))

pub seen_made : (watch : List (Option ℕ)) (count : ℕ) (all : LogSet) → AreLogs all → logs_by_monitor (assigned_from 1 (seen_logs watch all.logs)) ≡ seen_logs watch all.logs
seen_made watch count all logs = logs_again (seen_logs watch all.logs) (some_rows watch all logs)

pub memory_alone : (watch : List (Option ℕ)) (count : ℕ) (all : LogSet) (parts : Assigned) (e : LogsFault) → AreGathered all → Numbers count watch → parts ≡ assigned_from 1 (seen_logs watch all.logs)
    → Refuses e (logs_of parts count) → e ≡ f.NoMemory
memory_alone watch count all parts e logs numbers are refused =
    only_memory e (record { logs = seen_logs watch all.logs; objects = count })
    (subst (λ (r : Result LogSet LogsFault). Refuses e r)
    (ap (λ (ls : List (List (List (ℕ × ℤ)))). judged (record { logs = ls; objects = count })) (ap logs_by_monitor are ∙ seen_made watch count all logs.limits) ∙ judged_ok watch count all logs numbers) refused)

-- what the parts are within
seen_each : (watch : List (Option ℕ)) (P : List (ℕ × ℤ) → Type 0) (parts : List (List (ℕ × ℤ))) → ((cs : List (ℕ × ℤ)) (k : ℕ) → k < length parts → P (watched_in watch (get_or parts k cs))) → All P (map (watched_in watch) parts)
seen_each watch P parts each = All-map P (watched_in watch) parts (λ k d h. each d k h)

pub parts_monitors : (watch : List (Option ℕ)) (all : LogSet) → AreLogs all → All (λ p. (1 ≤ p.0.0) × (p.0.0 ≤ 64)) (assigned_from 1 (seen_logs watch all.logs))
parts_monitors watch all logs = assigned_each (λ (p : Mon × List (ℕ × ℤ)). (1 ≤ p.0.0) × (p.0.0 ≤ 64)) 1 (seen_logs watch all.logs)
    (λ j h k d g. let size = length-map all.logs (λ (parts : List (List (ℕ × ℤ))). map (watched_in watch) parts) in let most = logs.monitors in (omega arith, omega (arith, size, most, h)))

pub parts_objects : (watch : List (Option ℕ)) (count : ℕ) (all : LogSet) → Numbers count watch → All (λ p. All (λ c. IsObject count c.0) p.1) (assigned_from 1 (seen_logs watch all.logs))
parts_objects watch count all numbers = assigned_each (λ (p : Mon × List (ℕ × ℤ)). All (λ c. IsObject count c.0) p.1) 1 (seen_logs watch all.logs)
    (λ j h. let size = length-map all.logs (λ (parts : List (List (ℕ × ℤ))). map (watched_in watch) parts) in
    subst (λ (row : List (List (ℕ × ℤ))). All (λ part. All (λ c. IsObject count c.0) part) row) (sym (seen_row watch all.logs j (omega (arith, size, h))))
    (seen_each watch (λ (part : List (ℕ × ℤ)). All (λ c. IsObject count c.0) part) (get_or all.logs j []) (λ cs k g. seen_within watch count (get_or (get_or all.logs j []) k cs) numbers)))

pub parts_lengths : (watch : List (Option ℕ)) (all : LogSet) → AreLogs all → All (λ p. length p.1 ≤ 1000000) (assigned_from 1 (seen_logs watch all.logs))
parts_lengths watch all logs = assigned_each (λ (p : Mon × List (ℕ × ℤ)). length p.1 ≤ 1000000) 1 (seen_logs watch all.logs)
    (λ j h. let size = length-map all.logs (λ (parts : List (List (ℕ × ℤ))). map (watched_in watch) parts) in
    let within : j < length all.logs = omega (arith, size, h) in
    subst (λ (row : List (List (ℕ × ℤ))). All (λ part. length part ≤ 1000000) row) (sym (seen_row watch all.logs j within))
    (seen_each watch (λ (part : List (ℕ × ℤ)). length part ≤ 1000000) (get_or all.logs j []) (λ cs k g.
    let less = seen_shorter watch (get_or (get_or all.logs j []) k cs) in let most = (logs.each j [] within).lengths k cs g in omega (arith, less, most))))
