-- How great what a legal trail holds can be.
use Rattle.std.proofs.Common.{◌≡◌, ◌==◌, ℕ, suc, zero, ◌+◌, ◌≤◌, ◌<◌, ◌&&◌, ◌||◌, ◌^◌, ℤ, Bool, true, false, not, List, [], ◌∷◌, ◌++◌, length, Contains, Some, None, refl, sym, ap, ◌∙◌, subst, arith}
use Rattle.std.specs.Prelude.{All, cond, filter, find, get_or, if◌then◌else◌, nat_le, nat_lt, unsigned_abs}
use Rattle.std.specs.List.{list_all, zip}
use Rattle.std.specs.Option.{option_map}
use Rattle.std.proofs.lemmas.Bool.{false≢true, leb-true, ltb-false, ltb-true, and_parts, or_parts}
use Rattle.std.proofs.lemmas.List.{length-map}
use Rattle.std.proofs.lemmas.List.Elements.{All-cons, All-head, All-nil, All-tail}
use Rattle.tk_base.specs.Ascending.{ascends}
use Rattle.tk_base.specs.Objects.{is_in, objects}
use Rattle.tk_border.specs.Levels.{broken, is_above, least_member, level_at, outside}
use Rattle.tk_border.proofs.RisingLemmas.{Rises, is_in-filter, is_in-objects}
use Rattle.tk_frames.specs.Size.{IsShort}
use Rattle.tk_frames.specs.declared.frame.Frame.{Frame}
use Rattle.tk_frames.specs.declared.frame.Frame.TheVariants as f
use Rattle.tk_input.specs.Logs.{ArePlaces}
use Rattle.tk_trail.specs.Bounds.{AreSomeOutsiders, AreSomePlaces, AreWithinLimits}
use Rattle.tk_trail.specs.Setup.{IsSetup, MonitorSetup}
use Rattle.tk_trail.specs.Legal.{Allowed, IsLegal}
use Rattle.tk_trail.specs.Frames.{report_at, resolution_at, settled_at, values_at, values_over}
use Rattle.tk_trail.specs.Readings.{broken_at, is_broken, levels_of, members_at, places_at, seq_of, value_of_object}
use Rattle.tk_trail.specs.Refusal.{are_some_of, are_members, is_bad_change, is_collect, refusal_of, shown_by}
use Rattle.tk_trail.specs.declared.entry.Entry.{Entry}
use Rattle.tk_trail.specs.declared.entry.Entry.TheVariants.{Sent, Took}
use Rattle.tk_trail.specs.declared.refusal.MonitorRefusal.TheVariants.{BadChange, BadMembers, BadCollect, WrongSequence}
use Rattle.tk_trail.proofs.LawLemmas.{allowed_at}
use Rattle.tk_trail.proofs.LegalLemmas.{legal_places, not_refused}
use Rattle.tk_trail.proofs.LevelsLemmas.{length-levels_of, value-small}
use Rattle.tk_trail.proofs.SaysLemmas.{law_report, law_settled}
use Rattle.tk_trail.proofs.SaysLemmas.{ends_in}
use Rattle.tk_trail.proofs.SendsLemmas.{Sends, sends, last_entry}
use Rattle.tk_trail.proofs.SendsLemmas.Sends.{Answered, Gathered, Reported, Ended}
use Rattle.tk_base.specs.History.{EachFrom}
use Rattle.tk_base.proofs.HistoryLemmas.{each_at, each_front}
use Rattle.tk_base.proofs.OptionLemmas.{unmapped, if_none, first_or}
use Rattle.tk_base.proofs.MemberLemmas.{contained_is_in, length-objects}

-- ---- values and changes

pub small_values : (setup : MonitorSetup) (trail : List Entry) (o : ℕ) → IsSetup setup → unsigned_abs (value_of_object setup trail o) ≤ 2 ^ 100
small_values setup trail o h = let a = value-small setup h trail o in let w = h.parts.weights o in omega (arith, a, w)

none_bad : (p : ℕ × ℤ → Bool) (xs : List (ℕ × ℤ)) → find p xs ≡ None → (c : ℕ × ℤ) → Contains xs c → p c ≡ false
none_bad p [] none c (k, below, is) = absurd (omega (arith, below))
none_bad p (x ∷ xs) none c (zero, below, is) = ap p (sym is) ∙ (first_or (p x) x (find p xs) none).0
none_bad p (x ∷ xs) none c (suc k, below, is) = none_bad p xs (first_or (p x) x (find p xs) none).1 c (k, omega (arith, below), is)

-- changes of which none is bad
pub good_changes : (setup : MonitorSetup) (changes : List (ℕ × ℤ)) → option_map (λ (change : ℕ × ℤ). BadChange (record { 0 = change.0 })) (find (is_bad_change setup.objects) changes) ≡ None → AreWithinLimits setup changes
good_changes setup changes none c in' =
    let good = none_bad (is_bad_change setup.objects) changes (unmapped (λ (change : ℕ × ℤ). BadChange (record { 0 = change.0 })) (find (is_bad_change setup.objects) changes) none) c in' in
    let both = or_parts (nat_lt setup.objects c.0) (nat_lt (2 ^ 112) (unsigned_abs c.1)) good in
    (ltb-false setup.objects c.0 both.0, ltb-false (2 ^ 112) (unsigned_abs c.1) both.1)

pub taken_within : (setup : MonitorSetup) (before after : List Entry) (seq : ℕ) (members : List ℕ) (changes : List (ℕ × ℤ)) → IsLegal setup (before ++ Took (f.Assign seq members changes) ∷ after) → AreWithinLimits setup changes
taken_within setup before after seq members changes legal =
    let none = (allowed_at setup before after (Took (f.Assign seq members changes)) legal).1 in
    let first = if_none (not (seq == seq_of before + 1)) (WrongSequence (seq_of before) seq) _ (not_refused setup before (f.Assign seq members changes) none).1 in
    let second = if_none (not (are_members setup.objects members)) BadMembers (option_map (λ (change : ℕ × ℤ). BadChange (record { 0 = change.0 })) (find (is_bad_change setup.objects) changes)) first.1 in
    good_changes setup changes second.1

-- ---- places

places_few : (places : List ℕ) (parts : List (List (ℕ × ℤ))) → length places ≡ length parts → All (λ part. length part ≤ 1000000) parts → ((g : ℕ) → get_or places g 0 ≤ length (get_or parts g [])) → All (λ place. place ≤ 1000000) places
places_few [] parts same lengths each = All-nil (λ place. place ≤ 1000000)
places_few (place ∷ places) [] same lengths each = absurd (omega (arith, same))
places_few (place ∷ places) (part ∷ parts) same lengths each =
    All-cons (λ p. p ≤ 1000000) place places (let a = each 0 in let b = All-head (λ (q : List (ℕ × ℤ)). length q ≤ 1000000) part parts lengths in omega (arith, a, b))
    (places_few places parts (omega (arith, same)) (All-tail (λ (q : List (ℕ × ℤ)). length q ≤ 1000000) part parts lengths) (λ g. each (suc g)))

pub places_within : (setup : MonitorSetup) (before after : List Entry) (seq : ℕ) (last : Bool) (places : List ℕ) → IsSetup setup → IsLegal setup (before ++ Sent (f.Settled seq last places) ∷ after) → AreSomePlaces places
places_within setup before after seq last places h legal =
    let says = law_settled setup before after seq last places legal in
    let are : ArePlaces setup.parts (places_at setup before) = legal_places setup h.from before (each_front (Allowed setup) [] before (Sent (f.Settled seq last places) ∷ after) legal.each) in
    let same = are.shape in
    subst AreSomePlaces (sym says.places_is) (record {
      some = (let a = h.parts.some_feeder in omega (arith, a, same));
      few = (let a = h.parts.feeders in omega (arith, a, same));
      within = places_few (places_at setup before) setup.parts same h.parts.lengths are.within;
    })

-- ---- objects

passed_here : (b x : ℕ) (xs : List ℕ) → list_all (λ (p : ℕ × ℕ). nat_lt p.0 p.1) (zip (b ∷ x ∷ xs) (x ∷ xs)) ≡ true → (b < x) × (list_all (λ (p : ℕ × ℕ). nat_lt p.0 p.1) (zip (x ∷ xs) xs) ≡ true)
passed_here b x xs e = let both = and_parts (nat_lt b x) (list_all (λ (p : ℕ × ℕ). nat_lt p.0 p.1) (zip (x ∷ xs) xs)) e in (ltb-true b x both.0, both.1)

pub passes_rise : (b : ℕ) (xs : List ℕ) → list_all (λ (p : ℕ × ℕ). nat_lt p.0 p.1) (zip (b ∷ xs) xs) ≡ true → Rises b xs
passes_rise b [] e = tt
passes_rise b (x ∷ xs) e = let h = passed_here b x xs e in (h.0, passes_rise x xs h.1)

few_rising : (b n : ℕ) (xs : List ℕ) → b ≤ n → Rises b xs → list_all (λ o. nat_le o n) xs ≡ true → b + length xs ≤ n
few_rising b n [] low up within = omega (arith, low)
few_rising b n (x ∷ xs) low up within =
    let both = and_parts (nat_le x n) (list_all (λ o. nat_le o n) xs) within in
    let rest = few_rising x n xs (leb-true x n both.0) up.1 both.1 in
    let here = up.0 in
    omega (arith, rest, here)

few_of : (n : ℕ) (list : List ℕ) → are_some_of n list ≡ true → length list ≤ n
few_of n list some =
    let both = and_parts (nat_lt 0 (length list) && ascends list) (list_all (λ o. nat_le o n) list) some in
    let up = (and_parts (nat_lt 0 (length list)) (ascends list) both.0).1 in
    let h = few_rising 0 n list (omega arith) (passes_rise 0 list up) both.1 in
    omega (arith, h)

less_filtered : {X : Type 0} (p : X → Bool) (xs : List X) → length (filter p xs) ≤ length xs
less_filtered p [] = omega arith
less_filtered p (x ∷ xs) = let h = less_filtered p xs in elim (p x) as (λ b. length (cond b (x ∷ filter p xs) (filter p xs)) ≤ length (x ∷ xs)) [
  | true ↦ omega (arith, h)
  | false ↦ omega (arith, h)
]

failed_few : (setup : MonitorSetup) (x : List Entry) → length (broken_at setup x) ≤ setup.objects
unfolding broken_at
failed_few setup x =
    let levels = levels_of setup x in
    let members = members_at x in
    let a = less_filtered (λ o. is_above (least_member levels members) (level_at levels o)) (outside (length levels) members) in
    let b = less_filtered (λ o. not (is_in members o)) (objects (length levels)) in
    let c = length-objects (length levels) in
    let d = length-levels_of setup x in
    omega (arith, a, b, c, d)

asked_few : (setup : MonitorSetup) (x : List Entry) → length (resolution_at setup x) ≤ setup.objects
asked_few setup x =
    let a = less_filtered (λ o. is_in (members_at x) o || is_in (broken_at setup x) o) (objects setup.objects) in
    let b = length-objects setup.objects in
    omega (arith, a, b)

values_few : (setup : MonitorSetup) (x : List Entry) (asked : List ℕ) → length (values_over setup x asked) ≡ length asked
values_few setup x asked = length-map asked (λ o. (o, value_of_object setup x o))

-- ---- a Report's outsiders

apart : (o : ℕ) (members : List ℕ) → not (is_in members o) ≡ true → Contains members o → ⊥
apart o members out in' = false≢true (sym (ap not (contained_is_in members o in')) ∙ out)

pub named_outsiders : (setup : MonitorSetup) (before after : List Entry) (seq : ℕ) (border : ℤ) (failed : List ℕ) (values : List (ℕ × ℤ)) → IsLegal setup (before ++ Sent (f.Report seq border failed values) ∷ after) → AreSomeOutsiders setup before failed
unfolding broken_at
named_outsiders setup before after seq border failed values legal =
    let says = law_report setup before after seq border failed values legal in
    let levels = levels_of setup before in
    let members = members_at before in
    let n = length-levels_of setup before in
    let inside = λ (o : ℕ) (in' : Contains (broken_at setup before) o).
    and_parts (is_in (outside (length levels) members) o) (is_above (least_member levels members) (level_at levels o))
    (sym (is_in-filter (λ q. is_above (least_member levels members) (level_at levels q)) (outside (length levels) members) o) ∙ contained_is_in (broken levels members) o in') in
    let both = λ (o : ℕ) (in' : Contains (broken_at setup before) o).
    and_parts (is_in (objects (length levels)) o) (not (is_in members o)) (sym (is_in-filter (λ q. not (is_in members q)) (objects (length levels)) o) ∙ (inside o in').0) in
    let ranged = λ (o : ℕ) (in' : Contains (broken_at setup before) o).
    and_parts (Rattle.std.specs.Prelude.ltb 0 o) (Rattle.std.specs.Prelude.leb o (length levels)) (sym (is_in-objects (length levels) o) ∙ (both o in').0) in
    subst (AreSomeOutsiders setup before) (sym says.failed_is) (record {
      some = ltb-true 0 (length (broken_at setup before)) says.broken;
      positive = λ o in'. ltb-true 0 o (ranged o in').0;
      within = λ o in'. (let w = leb-true o (length levels) (ranged o in').1 in omega (arith, w, n));
      outside = λ o in'. apart o members (both o in').1;
    })

-- ---- every sent frame

collect_passes : (b : Bool) → (if b then None else Some BadCollect) ≡ None → b ≡ true
collect_passes true none = refl
collect_passes false none = cc

report_short : (setup : MonitorSetup) (x : List Entry) → IsSetup setup → IsShort (report_at setup x)
unfolding report_at
report_short setup x h =
    let n = h.objects in
    let a = failed_few setup x in
    let b = asked_few setup x in
    let c = values_few setup x (resolution_at setup x) in
    (omega (arith, n, a), omega (arith, n, b, c))

settled_short : (setup : MonitorSetup) (x : List Entry) → length (places_at setup x) ≤ 65536 → IsShort (settled_at setup x)
unfolding settled_at
settled_short setup x few = few

values_short : (setup : MonitorSetup) (x : List Entry) → IsSetup setup → (round : ℕ) (asked : List ℕ) → length asked ≤ setup.objects → IsShort (values_at setup x round asked)
unfolding values_at
values_short setup x h round asked few =
    let n = h.objects in
    let c = values_few setup x asked in
    omega (arith, n, few, c)

answer_short : (setup : MonitorSetup) (x : List Entry) → IsSetup setup → length (places_at setup x) ≤ 65536 → (b : Bool) → IsShort (if b then report_at setup x else settled_at setup x)
answer_short setup x h few true = report_short setup x h
answer_short setup x h few false = settled_short setup x few

asked_passed : (setup : MonitorSetup) (x : List Entry) (round : ℕ) (asked : List ℕ) → refusal_of setup x (f.Collect round asked) ≡ None → length asked ≤ setup.objects
asked_passed setup x round asked none =
    let passes = collect_passes (is_collect (shown_by setup x) asked) (not_refused setup x (f.Collect round asked) none).1 in
    let front = (and_parts (nat_lt 0 (seq_of x) && are_some_of setup.objects asked) (list_all (is_in asked) (members_at x)) passes).0 in
    few_of setup.objects asked (and_parts (nat_lt 0 (seq_of x)) (are_some_of setup.objects asked) front).1

allowed_in : (setup : MonitorSetup) (x : List Entry) (e : Entry) → EachFrom (Allowed setup) [] (x ++ e ∷ []) → Allowed setup x e
allowed_in setup x e each = each_at (Allowed setup) [] x e [] each

sent_by_kind : (setup : MonitorSetup) (x : List Entry) (frame : Frame) → IsSetup setup → ((round : ℕ) (asked : List ℕ) → last_entry x ≡ Some (Took (f.Collect round asked)) → length asked ≤ setup.objects) → length (places_at setup x) ≤ 65536 → Sends setup x frame → IsShort frame
sent_by_kind setup x frame h asked_least places (Answered seq members changes last is) = subst IsShort (sym is) (answer_short setup x h places (is_broken setup x))
sent_by_kind setup x frame h asked_least places (Gathered round asked last is) = subst IsShort (sym is) (values_short setup x h round asked (asked_least round asked last))
sent_by_kind setup x frame h asked_least places (Reported owed none broken is) = subst IsShort (sym is) (report_short setup x h)
sent_by_kind setup x frame h asked_least places (Ended owed none calm ends untold is) = subst IsShort (sym is) (settled_short setup x places)

pub sent_short : (setup : MonitorSetup) (before after : List Entry) (frame : Frame) → IsSetup setup → IsLegal setup (before ++ Sent frame ∷ after) → IsShort frame
sent_short setup before after frame h legal =
    let front = each_front (Allowed setup) [] before (Sent frame ∷ after) legal.each in
    let count = (legal_places setup h.from before front).shape in
    let few = h.parts.feeders in
    sent_by_kind setup before frame h
    (λ round asked last.
    let e = ends_in before (Took (f.Collect round asked)) last in
    asked_passed setup e.front round asked (allowed_in setup e.front (Took (f.Collect round asked)) (subst (λ xs. EachFrom (Allowed setup) [] xs) e.is front)).1)
    (omega (arith, count, few))
    (sends setup before frame (allowed_at setup before after (Sent frame) legal))
