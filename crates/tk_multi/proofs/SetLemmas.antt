-- The settings of some queries, and what each query runs over.
use Rattle.std.proofs.Common.{◌≡◌, ℕ, suc, zero, ℤ, ◌+◌, ◌<◌, ◌≤◌, Bool, true, false, List, [], ◌∷◌, ◌++◌, length, map, get_or, take, drop, Result, Ok, Err, ap, sym, subst, ◌∙◌, arith, refl}
use Rattle.std.specs.Prelude.{not, sum_by, nat_le, ◌^◌, if◌then◌else◌}
use Rattle.std.specs.List.{zip}
use Rattle.std.proofs.lemmas.Bool.{lt-ltb, le-ltb}
use Rattle.std.proofs.lemmas.List.{append_assoc, append-nil, drop_more, get_or-map, length-map}
use Rattle.std.proofs.lemmas.List.Sums.{sum_by-append, sum_by-take-le}
use Rattle.tk_base.specs.Settings.{Setup, are_counts, is_k, settings_of}
use Rattle.tk_base.specs.declared.settings.SettingFault.{SettingFault}
use Rattle.tk_base.specs.declared.settings.SettingFault.TheVariants.{BadCount, BadEpsilon, BadK, BadWeight}
use Rattle.tk_input.specs.Catalog.{names_with}
use Rattle.tk_input.specs.Logs.{IsCut, LogSet, beginnings, updates_of}
use Rattle.tk_input.specs.Records.{and_then, through}
use Rattle.tk_multi.specs.Alone.{AreOfOneSize, Refuses, all_settings, alone_with, alones_of, each_with, few_enough, settings_added, settings_at, settings_for, updates_together}
use Rattle.tk_multi.specs.Projection.{logs_for, watch_of, watched_in}
use Rattle.tk_multi.specs.Queries.{QueryView}
use Rattle.tk_multi.specs.declared.alone.Alone.{Alone}
use Rattle.tk_multi.specs.declared.fault.MultiFault.{MultiFault}
use Rattle.tk_multi.specs.declared.fault.MultiFault.TheVariants.{Bad, NoMemory, TooManyUpdates}
use Rattle.tk_multi.proofs.ListLemmas.{get_or_zip, length_zip}
use Rattle.tk_multi.proofs.ThroughLemmas.{through_first}
use Rattle.tk_input.proofs.ThroughLemmas.{through-none, through-some}

-- ---- settings in turn

-- one query more
pub settings_more : (names : List (List ℕ)) (monitors : ℕ) (before after : List Setup) (queries : List QueryView) (i : ℕ) (query : QueryView) (settings : Setup) (q : ℕ)
    → i < length queries → query ≡ get_or queries i query → q ≡ length before + 1 → settings_at q (settings_for names monitors query) ≡ Ok settings → after ≡ before ++ settings ∷ []
    → through (settings_added names monitors) after (drop (i + 1) queries) ≡ through (settings_added names monitors) before (drop i queries)
settings_more names monitors before after queries i query settings q within is number made next =
    let step : settings_added names monitors before query ≡ Ok after =
    ap (λ (k : ℕ). and_then (λ (s : Setup). Ok (before ++ s ∷ [])) (settings_at k (settings_for names monitors query))) (sym number)
    ∙ ap (and_then (λ (s : Setup). Ok (before ++ s ∷ []))) made ∙ ap (λ (l : List Setup). Ok l) (sym next) in
    sym (through-some (settings_added names monitors) before after query (drop (i + 1) queries) (drop i queries)
    (drop_more queries i query within ∙ ap (λ (x : QueryView). x ∷ drop (i + 1) queries) (sym is)) step)

pub refuses_on : {A B : Type 0} (e : MultiFault) (r : Result A MultiFault) (further : A → Result B MultiFault) → Refuses e r → Refuses e (and_then further r)
refuses_on (Bad q fault) r further is = ap (and_then further) is
refuses_on TooManyUpdates r further is = ap (and_then further) is
refuses_on NoMemory r further is = tt

-- the fault of a query is that of all
pub settings_fault : (names : List (List ℕ)) (monitors : ℕ) (before : List Setup) (queries : List QueryView) (i : ℕ) (query : QueryView) (e : MultiFault) (q : ℕ)
    → i < length queries → query ≡ get_or queries i query → q ≡ length before + 1 → Refuses e (settings_at q (settings_for names monitors query))
    → through (settings_added names monitors) before (drop i queries) ≡ all_settings names monitors queries → Refuses e (all_settings names monitors queries)
settings_fault names monitors before queries i query e q within is number fault same =
    subst (λ (r : Result (List Setup) MultiFault). Refuses e r)
    (sym (through_first (settings_added names monitors) before query (drop (i + 1) queries) (drop i queries) (drop_more queries i query within ∙ ap (λ (x : QueryView). x ∷ drop (i + 1) queries) (sym is))) ∙ same)
    (refuses_on e (settings_added names monitors before query) (λ after. through (settings_added names monitors) after (drop (i + 1) queries))
    (refuses_on e (settings_at (length before + 1) (settings_for names monitors query)) (λ (s : Setup). Ok (before ++ s ∷ []))
    (subst (λ (k : ℕ). Refuses e (settings_at k (settings_for names monitors query))) number fault)))

-- ---- each query has its settings

-- these settings are those of these queries
abbrev pub AreSet : List (List ℕ) → ℕ → List QueryView → List Setup → Type 0
AreSet names monitors [] [] = Unit {0}
AreSet names monitors [] (s ∷ settings) = ⊥
AreSet names monitors (query ∷ queries) [] = ⊥
AreSet names monitors (query ∷ queries) (s ∷ settings) = (settings_for names monitors query ≡ Ok s) × AreSet names monitors queries settings

same_ok : (x y : List Setup) (r : Result (List Setup) MultiFault) → r ≡ Ok x → r ≡ Ok y → x ≡ y
same_ok x y r a b = (cc)

record Spread (names : List (List ℕ)) (monitors : ℕ) (before : List Setup) (queries : List QueryView) (all : List Setup) : Type 0 where
  pub rest : List Setup
  pub whole : all ≡ before ++ rest
  pub are : AreSet names monitors queries rest

spread_by : (names : List (List ℕ)) (monitors : ℕ) (before : List Setup) (query : QueryView) (queries : List QueryView) (all : List Setup) (o : Result Setup SettingFault) → settings_for names monitors query ≡ o
    → and_then (λ after. through (settings_added names monitors) after queries) (and_then (λ (s : Setup). Ok (before ++ s ∷ [])) (settings_at (length before + 1) o)) ≡ Ok all
    → ((s : Setup) → through (settings_added names monitors) (before ++ s ∷ []) queries ≡ Ok all → Spread names monitors (before ++ s ∷ []) queries all)
    → Spread names monitors before (query ∷ queries) all
spread_by names monitors before query queries all (Err fault) is some on = absurd (cc)
spread_by names monitors before query queries all (Ok s) is some on =
    let next = on s some in record {
      rest = s ∷ next.rest;
      whole = next.whole ∙ append_assoc before (s ∷ []) next.rest;
      are = (is, next.are);
    }

spread : (names : List (List ℕ)) (monitors : ℕ) (before : List Setup) (queries : List QueryView) (all : List Setup) → through (settings_added names monitors) before queries ≡ Ok all → Spread names monitors before queries all
spread names monitors before [] all some = record {
  rest = [];
  whole = same_ok all before (through (settings_added names monitors) before []) some (through-none (settings_added names monitors) before [] refl) ∙ sym (append-nil before);
  are = tt;
}
spread names monitors before (query ∷ queries) all some =
    spread_by names monitors before query queries all (settings_for names monitors query) refl (sym (through_first (settings_added names monitors) before query queries (query ∷ queries) refl) ∙ some)
    (λ s more. spread names monitors (before ++ s ∷ []) queries all more)

pub are_set : (names : List (List ℕ)) (monitors : ℕ) (queries : List QueryView) (all : List Setup) → all_settings names monitors queries ≡ Ok all → AreSet names monitors queries all
are_set names monitors queries all some = let s = spread names monitors [] queries all some in subst (λ (l : List Setup). AreSet names monitors queries l) (sym s.whole) s.are

pub set_length : (names : List (List ℕ)) (monitors : ℕ) (queries : List QueryView) (all : List Setup) → AreSet names monitors queries all → length queries ≡ length all
set_length names monitors [] [] are = refl
set_length names monitors [] (s ∷ all) are = absurd are
set_length names monitors (query ∷ queries) [] are = absurd are
set_length names monitors (query ∷ queries) (s ∷ all) are = let rest = set_length names monitors queries all are.1 in ap (λ (n : ℕ). suc n) rest

pub set_at : (names : List (List ℕ)) (monitors : ℕ) (queries : List QueryView) (all : List Setup) (i : ℕ) (query : QueryView) (s : Setup) → AreSet names monitors queries all → i < length all
    → query ≡ get_or queries i query → s ≡ get_or all i s → settings_for names monitors query ≡ Ok s
set_at names monitors [] [] i query s are within a b = absurd (omega (arith, within))
set_at names monitors [] (x ∷ all) i query s are within a b = absurd are
set_at names monitors (y ∷ queries) [] i query s are within a b = absurd are
set_at names monitors (y ∷ queries) (x ∷ all) zero query s are within a b = ap (settings_for names monitors) a ∙ are.0 ∙ ap (λ (z : Setup). Ok z) (sym b)
set_at names monitors (y ∷ queries) (x ∷ all) (suc i) query s are within a b = set_at names monitors queries all i query s are.1 (omega (arith, within)) a b

-- ---- what each query runs over

-- that of one query
pub each_at : (names : List (List ℕ)) (all : LogSet) (queries : List QueryView) (settings : List Setup) (i : ℕ) (query : QueryView) (s : Setup) (d : Alone) → length queries ≡ length settings → i < length queries
    → query ≡ get_or queries i query → s ≡ get_or settings i s → get_or (each_with names all queries settings) i d ≡ alone_with names all query.prefix s
each_at names all queries settings i query s d same within a b =
    let pairs = zip queries settings in
    let count : length pairs ≡ length settings = length_zip queries settings same in
    get_or-map (λ (pair : QueryView × Setup). alone_with names all pair.0.prefix pair.1) pairs i (query, s) d (omega (arith, count, same, within))
    ∙ ap (λ (pair : QueryView × Setup). alone_with names all pair.0.prefix pair.1) (get_or_zip queries settings i query s (query, s) within same a b)

pub each_length : (names : List (List ℕ)) (all : LogSet) (queries : List QueryView) (settings : List Setup) → length queries ≡ length settings → length (each_with names all queries settings) ≡ length settings
each_length names all queries settings same = length-map (zip queries settings) (λ (pair : QueryView × Setup). alone_with names all pair.0.prefix pair.1) ∙ length_zip queries settings same

-- the changes of one query more
pub together_more : (alones : List Alone) (one : Alone) → updates_together (alones ++ one ∷ []) ≡ updates_together alones + sum_by updates_of one.logs.logs
together_more alones one = let joined = sum_by-append (λ (a : Alone). sum_by updates_of a.logs.logs) alones (one ∷ []) in omega (arith, joined)

-- all queries, or too many changes
pub all_made : (names : List (List ℕ)) (all : LogSet) (queries : List QueryView) (settings : List Setup) (list : List Alone) → all_settings names (length all.logs) queries ≡ Ok settings
    → list ≡ each_with names all queries settings → updates_together list ≤ 4000000 → alones_of names all queries ≡ Ok list
all_made names all queries settings list set made few =
    ap (and_then (λ s. few_enough (each_with names all queries s))) set
    ∙ ap few_enough (sym made)
    ∙ ap (λ (b : Bool). if b then Err TooManyUpdates else Ok list) (le-ltb 4000000 (updates_together list) few)

pub too_many : (names : List (List ℕ)) (all : LogSet) (queries : List QueryView) (settings : List Setup) (i : ℕ) → all_settings names (length all.logs) queries ≡ Ok settings
    → 4000000 < updates_together (take i (each_with names all queries settings)) → alones_of names all queries ≡ Err TooManyUpdates
too_many names all queries settings i set many =
    let whole = each_with names all queries settings in
    let part = sum_by-take-le (λ (a : Alone). sum_by updates_of a.logs.logs) whole i in
    ap (and_then (λ s. few_enough (each_with names all queries s))) set
    ∙ ap (λ (b : Bool). if b then Err TooManyUpdates else Ok whole) (lt-ltb 4000000 (updates_together whole) (omega (arith, part, many)))

-- ---- sizes

cond_ok : (b : Bool) (r : Result Setup SettingFault) (e : SettingFault) (s : Setup) → (if b then Err e else r) ≡ Ok s → r ≡ Ok s
cond_ok true r e s is = absurd (cc)
cond_ok false r e s is = is

ok_objects : (x s : Setup) → ◌≡◌ {A = Result Setup SettingFault} (Ok x) (Ok s) → x.objects ≡ s.objects
ok_objects x s is = (cc)

ok_monitors : (x s : Setup) → ◌≡◌ {A = Result Setup SettingFault} (Ok x) (Ok s) → x.monitors ≡ s.monitors
ok_monitors x s is = (cc)

-- settings that are given have these numbers of objects and monitors
settings_sizes : (k epsilon own objects monitors : ℕ) (s : Setup) → settings_of k epsilon own objects monitors ≡ Ok s → (s.objects ≡ objects) × (s.monitors ≡ monitors)
settings_sizes k epsilon own objects monitors s is =
    let a = cond_ok (not (are_counts objects monitors)) _ BadCount s is in
    let b = cond_ok (not (is_k k objects)) _ BadK s a in
    let d = cond_ok (not (nat_le epsilon (2 ^ 100))) _ BadEpsilon s b in
    let e = cond_ok (not (nat_le own 1000)) _ BadWeight s d in
    (sym (ok_objects _ s e), sym (ok_monitors _ s e))

-- what a query runs over is of one size
pub sizes_of : (names : List (List ℕ)) (all : LogSet) (query : QueryView) (s : Setup) → settings_for names (length all.logs) query ≡ Ok s
    → IsCut (logs_for query.prefix names all).logs (beginnings (logs_for query.prefix names all)) → AreOfOneSize (alone_with names all query.prefix s)
sizes_of names all query s is cut =
    let sizes = settings_sizes query.k query.epsilon 1 (length (names_with query.prefix names)) (length all.logs) s is in record {
      names = sym sizes.0;
      objects = sym sizes.0;
      monitors = length-map all.logs (λ (parts : List (List (ℕ × ℤ))). map (watched_in (watch_of query.prefix names)) parts) ∙ sym sizes.1;
      starts = cut;
    }
