-- After any list of events each query is where a world of it alone is after the projection.
use Rattle.std.proofs.Common.{◌≡◌, ℕ, suc, zero, ℤ, ◌+◌, ◌-◌, ◌≤◌, min, Bool, true, false, cond, List, [], ◌∷◌, ◌++◌, Option, Some, None, option_map, length, map, get_or, ap, sym, ◌∙◌, arith, refl}
use Rattle.std.specs.Prelude.{slice_get, count_by, option_to_list, option_and_then, ◌==◌, nat_le, if◌then◌else◌, ◌&&◌}
use Rattle.std.proofs.lemmas.Bool.{leb-true, eqb-true, eq-eqb, and_from, and_parts, false≢true}
use Rattle.std.proofs.lemmas.List.{length-map}
use Rattle.std.proofs.lemmas.List.Sums.{fold-append, sum_by-append}
use Rattle.std.proofs.lemmas.Option.{slice_get-map, slice_get_within}
use Rattle.std.specs.List.{zip}
use Rattle.tk_base.specs.declared.ids.Feeder.{Feeder}
use Rattle.tk_base.specs.declared.ids.Mon.{Mon}
use Rattle.tk_drain.specs.Drive.{keep, keep_all}
use Rattle.tk_input.specs.Logs.{LogSet, part_of, parts_of}
use Rattle.tk_input.specs.declared.event.Event.TheVariants as alone
use Rattle.tk_story.specs.Kept.{KeptStory}
use Rattle.tk_multi.specs.Front.{HasPlace, place_of, raised}
use Rattle.tk_multi.specs.Multi.{MultiView, begun, begun_over, left_by, moved_at, next_change, passed, passed_all, with_raise}
use Rattle.tk_multi.specs.Projection.{change_raised, is_feeder, is_raise_of, is_watched, only_if, projected, projected_from, seen_by}
use Rattle.tk_multi.specs.Queries.{entry_at}
use Rattle.tk_multi.specs.declared.alone.Alone.{Alone}
use Rattle.tk_multi.specs.declared.event.MultiEvent.{MultiEvent}
use Rattle.tk_multi.specs.declared.event.MultiEvent.TheVariants.{Raise, Check, Up, Down}
use Rattle.tk_multi.proofs.ListLemmas.{length_zip}
use Rattle.tk_multi.proofs.FrontLemmas.{at_most, raised_here, raised_length, raised_row, raised_there}
use Rattle.tk_multi.proofs.PassLemmas.{AreAlike, alike_in, entry_from, entry_is, seen_in_one, seen_raise}

-- how many raises of a feeder are in front
abbrev raises : ℕ → ℕ → List MultiEvent → ℕ
raises mon f events = count_by (is_raise_of mon f) events

abbrev one_if : Bool → ℕ
one_if holds = cond holds 1 0

raises_more : (mon f : ℕ) (before : List MultiEvent) (e : MultiEvent) → raises mon f (before ++ e ∷ []) ≡ raises mon f before + one_if (is_raise_of mon f e)
raises_more mon f before e =
    let joined = sum_by-append (λ (x : MultiEvent). cond (is_raise_of mon f x) 1 0) before (e ∷ []) in omega (arith, joined)

-- what a test for a feeder tells
record Feeds (all : LogSet) (mon f : ℕ) : Type 0 where
  pub from_one : 1 ≤ mon
  pub monitor : mon ≤ length all.logs
  pub some : 1 ≤ f
  pub within : f ≤ length (parts_of all.logs mon)

feeds : (all : LogSet) (mon f : ℕ) → is_feeder all mon f ≡ true → Feeds all mon f
feeds all mon f holds =
    let a = and_parts (nat_le 1 mon && nat_le mon (length all.logs) && nat_le 1 f) (nat_le f (length (parts_of all.logs mon))) holds in
    let b = and_parts (nat_le 1 mon && nat_le mon (length all.logs)) (nat_le 1 f) a.0 in
    let c = and_parts (nat_le 1 mon) (nat_le mon (length all.logs)) b.0 in record {
      from_one = leb-true 1 mon c.0;
      monitor = leb-true mon (length all.logs) c.1;
      some = leb-true 1 f b.1;
      within = leb-true f (length (parts_of all.logs mon)) a.1;
    }

-- the state behind some events, from a beginning: each part is raised as often as the events say, up to its end
record Stands (b m : MultiView) (before : List MultiEvent) : Type 0 where
  logs : m.logs ≡ b.logs
  watches : m.watches ≡ b.watches
  count : length m.worlds ≡ length b.worlds
  paired : length b.watches ≡ length b.worlds
  size : length m.places ≡ length b.logs.logs
  rows : (j : ℕ) → length (get_or m.places j []) ≡ length (get_or b.logs.logs j [])
  reached : (mon f : ℕ) → is_feeder b.logs mon f ≡ true → place_of m.places mon f ≡ min (raises mon f before) (length (part_of b.logs mon f))

has_place : (b m : MultiView) (before : List MultiEvent) (mon f : ℕ) → Stands b m before → is_feeder b.logs mon f ≡ true → HasPlace m.places mon f
has_place b m before mon f s holds =
    let x = feeds b.logs mon f holds in record {
      from_one = x.from_one;
      monitor = let a = x.monitor in let e = s.size in omega (arith, a, e);
      some = x.some;
      within = let a = x.within in let e = s.rows (mon - 1) in omega (arith, a, e);
    }

-- the next common change is the one that the events say
next_by : (b m : MultiView) (before : List MultiEvent) (mon f : ℕ) (there : Bool) → is_feeder b.logs mon f ≡ there → Stands b m before
    → (if there then slice_get (part_of b.logs mon f) (place_of m.places mon f) else None) ≡ (if there then slice_get (part_of b.logs mon f) (raises mon f before) else None)
next_by b m before mon f true is s = ap (slice_get (part_of b.logs mon f)) (s.reached mon f is) ∙ at_most (part_of b.logs mon f) (raises mon f before)
next_by b m before mon f false is s = refl

next_is : (b m : MultiView) (before : List MultiEvent) (mon f : ℕ) → Stands b m before → next_change m mon f ≡ change_raised b.logs before mon f
next_is b m before mon f s =
    ap (λ (all : LogSet). if is_feeder all mon f then slice_get (part_of all mon f) (place_of m.places mon f) else None) s.logs
    ∙ next_by b m before mon f (is_feeder b.logs mon f) refl s

-- ---- one more event

-- an event of one query raises nothing
stands_alike : (b m n : MultiView) (before : List MultiEvent) (e : MultiEvent) → AreAlike m n → ((mon f : ℕ) → is_raise_of mon f e ≡ false) → Stands b m before → Stands b n (before ++ e ∷ [])
stands_alike b m n before e alike none s = record {
  logs = alike.logs ∙ s.logs;
  watches = alike.watches ∙ s.watches;
  count = alike.count ∙ s.count;
  paired = s.paired;
  size = ap (λ (p : List (List ℕ)). length p) alike.places ∙ s.size;
  rows = λ j. ap (λ (p : List (List ℕ)). length (get_or p j [])) alike.places ∙ s.rows j;
  reached = λ mon f holds.
      let same : raises mon f (before ++ e ∷ []) ≡ raises mon f before = (let more = raises_more mon f before e in let zero = ap one_if (none mon f) in omega (arith, more, zero)) in
      ap (λ (p : List (List ℕ)). place_of p mon f) alike.places ∙ s.reached mon f holds ∙ ap (λ (k : ℕ). min k (length (part_of b.logs mon f))) (sym same);
}

-- whether a raise is of a part, by its numbers
is_it : (m g mon f : ℕ) → (m == mon && g == f) ≡ true → (m ≡ mon) × (g ≡ f)
is_it m g mon f is = let both = and_parts (m == mon) (g == f) is in (eqb-true m mon both.0, eqb-true g f both.1)

is_not : (m g mon f : ℕ) → (m == mon && g == f) ≡ false → m ≡ mon → g ≡ f → ⊥
is_not m g mon f is a b = false≢true (sym is ∙ and_from (m == mon) (g == f) (eq-eqb m mon a) (eq-eqb g f b))

-- the change that is raised stands in the part, or the part is at its end
raised_is : (all : LogSet) (before : List MultiEvent) (mon f : ℕ) (next : Option (ℕ × ℤ)) → is_feeder all mon f ≡ true → change_raised all before mon f ≡ next
    → slice_get (part_of all mon f) (raises mon f before) ≡ next
raised_is all before mon f next there is = sym (ap (λ (b : Bool). if b then slice_get (part_of all mon f) (raises mon f before) else None) there) ∙ is

there_by : (b : Bool) (o : Option (ℕ × ℤ)) (c : ℕ × ℤ) → (if b then o else None) ≡ Some c → b ≡ true
there_by true o c some = refl
there_by false o c some = (cc)

raised_there_is : (all : LogSet) (before : List MultiEvent) (mon f : ℕ) (c : ℕ × ℤ) → change_raised all before mon f ≡ Some c → is_feeder all mon f ≡ true
raised_there_is all before mon f c some = there_by (is_feeder all mon f) (slice_get (part_of all mon f) (raises mon f before)) c some

past_end : {A : Type 0} (xs : List A) (i : ℕ) → slice_get xs i ≡ None → length xs ≤ i
past_end [] i none = (omega arith)
past_end (x ∷ xs) zero none = (cc)
past_end (x ∷ xs) (suc i) none = let rest = past_end xs i none in omega (arith, rest)

-- a raise of a part that is at its end leaves its place
still_ended : (b m : MultiView) (before : List MultiEvent) (mon : Mon) (f : Feeder) (j g : ℕ) (same : Bool) → Stands b m before → change_raised b.logs before mon.0 f.0 ≡ None
    → is_feeder b.logs j g ≡ true → is_raise_of j g (Raise mon f) ≡ same → place_of m.places j g ≡ min (raises j g (before ++ Raise mon f ∷ [])) (length (part_of b.logs j g))
still_ended b m before mon f j g false s none there is =
    let more : raises j g (before ++ Raise mon f ∷ []) ≡ raises j g before = (let e = raises_more j g before (Raise mon f) in let z = ap one_if is in omega (arith, e, z)) in
    s.reached j g there ∙ ap (λ (k : ℕ). min k (length (part_of b.logs j g))) (sym more)
still_ended b m before mon f j g true s none there is =
    let it = is_it mon.0 f.0 j g is in
    let here : change_raised b.logs before j g ≡ None = ap (λ (x : ℕ). change_raised b.logs before x g) (sym it.0) ∙ ap (change_raised b.logs before mon.0) (sym it.1) ∙ none in
    let past = past_end (part_of b.logs j g) (raises j g before) (raised_is b.logs before j g None there here) in
    let more : raises j g (before ++ Raise mon f ∷ []) ≡ raises j g before + 1 = (let e = raises_more j g before (Raise mon f) in let z = ap one_if is in omega (arith, e, z)) in
    let at = s.reached j g there in
    omega (arith, past, more, at)

-- a raise of a part that goes on moves its place, and no other
still_more : (b m : MultiView) (before : List MultiEvent) (mon : Mon) (f : Feeder) (c : ℕ × ℤ) (j g : ℕ) (same : Bool) → Stands b m before → change_raised b.logs before mon.0 f.0 ≡ Some c
    → is_feeder b.logs j g ≡ true → is_raise_of j g (Raise mon f) ≡ same
    → place_of (raised m.places mon.0 f.0) j g ≡ min (raises j g (before ++ Raise mon f ∷ [])) (length (part_of b.logs j g))
still_more b m before mon f c j g false s some there is =
    let more : raises j g (before ++ Raise mon f ∷ []) ≡ raises j g before = (let e = raises_more j g before (Raise mon f) in let z = ap one_if is in omega (arith, e, z)) in
    let x = feeds b.logs j g there in
    let has = has_place b m before mon.0 f.0 s (raised_there_is b.logs before mon.0 f.0 c some) in
    raised_there m.places mon.0 f.0 j g has x.from_one x.some (λ p q. is_not mon.0 f.0 j g is (sym p) (sym q))
    ∙ s.reached j g there ∙ ap (λ (k : ℕ). min k (length (part_of b.logs j g))) (sym more)
still_more b m before mon f c j g true s some there is =
    let it = is_it mon.0 f.0 j g is in
    let here : change_raised b.logs before j g ≡ Some c = ap (λ (x : ℕ). change_raised b.logs before x g) (sym it.0) ∙ ap (change_raised b.logs before mon.0) (sym it.1) ∙ some in
    let below = slice_get_within (part_of b.logs j g) (raises j g before) c (raised_is b.logs before j g (Some c) there here) in
    let more : raises j g (before ++ Raise mon f ∷ []) ≡ raises j g before + 1 = (let e = raises_more j g before (Raise mon f) in let z = ap one_if is in omega (arith, e, z)) in
    let at = s.reached j g there in
    ap (λ (x : ℕ). place_of (raised m.places x f.0) j g) it.0 ∙ ap (λ (y : ℕ). place_of (raised m.places j y) j g) it.1
    ∙ raised_here m.places j g (has_place b m before j g s there) ∙ omega (arith, below, more, at)

stands_raise : (b m : MultiView) (before : List MultiEvent) (mon : Mon) (f : Feeder) (next : Option (ℕ × ℤ)) → Stands b m before → change_raised b.logs before mon.0 f.0 ≡ next
    → Stands b (left_by m (option_map (λ change. with_raise m mon.0 f.0 (alone.Raise mon f) change.0) next)) (before ++ Raise mon f ∷ [])
stands_raise b m before mon f None s is = record {
  logs = s.logs;
  watches = s.watches;
  count = s.count;
  paired = s.paired;
  size = s.size;
  rows = s.rows;
  reached = λ j g there. still_ended b m before mon f j g (is_raise_of j g (Raise mon f)) s is there refl;
}
stands_raise b m before mon f (Some c) s is = record {
  logs = s.logs;
  watches = s.watches;
  count = length-map (zip m.watches m.worlds) (moved_at (alone.Raise mon f) c.0) ∙ length_zip m.watches m.worlds (ap (λ (w : List (List (Option ℕ))). length w) s.watches ∙ s.paired ∙ sym s.count) ∙ s.count;
  paired = s.paired;
  size = raised_length m.places mon.0 f.0 ∙ s.size;
  rows = λ j. raised_row m.places mon.0 f.0 j (has_place b m before mon.0 f.0 s (raised_there_is b.logs before mon.0 f.0 c is)) ∙ s.rows j;
  reached = λ j g there. still_more b m before mon f c j g (is_raise_of j g (Raise mon f)) s is there refl;
}

-- behind one more event
stands_more : (b m : MultiView) (before : List MultiEvent) (e : MultiEvent) → Stands b m before → Stands b (passed m e) (before ++ e ∷ [])
stands_more b m before (Raise mon f) s =
    stands_raise b m before mon f (next_change m mon.0 f.0) s (sym (next_is b m before mon.0 f.0 s))
stands_more b m before (Check p mon) s = stands_alike b m (passed m (Check p mon)) before (Check p mon) (alike_in m p (alone.Check mon)) (λ j g. refl) s
stands_more b m before (Up p mon) s = stands_alike b m (passed m (Up p mon)) before (Up p mon) (alike_in m p (alone.Up mon)) (λ j g. refl) s
stands_more b m before (Down p mon) s = stands_alike b m (passed m (Down p mon)) before (Down p mon) (alike_in m p (alone.Down mon)) (λ j g. refl) s

-- what the event is to a query is what its story takes of it
seen_more : (b m : MultiView) (before : List MultiEvent) (e : MultiEvent) (q : ℕ) (watch : List (Option ℕ)) (kept : KeptStory) → Stands b m before
    → entry_at b.watches q ≡ Some watch → entry_at m.worlds q ≡ Some kept → entry_at (passed m e).worlds q ≡ Some (keep_all kept (option_to_list (seen_by b.logs watch q before e)))
seen_more b m before (Raise mon f) q watch kept s has some =
    seen_raise m mon.0 f.0 (alone.Raise mon f) q watch kept (next_change m mon.0 f.0) (ap (λ (w : List (List (Option ℕ))). entry_at w q) s.watches ∙ has) some
    ∙ ap (λ (next : Option (ℕ × ℤ)). Some (keep_all kept (option_to_list (option_and_then (λ change. only_if (is_watched watch change.0) (alone.Raise mon f)) next)))) (next_is b m before mon.0 f.0 s)
seen_more b m before (Check p mon) q watch kept s has some = seen_in_one m p q (alone.Check mon) kept some
seen_more b m before (Up p mon) q watch kept s has some = seen_in_one m p q (alone.Up mon) kept some
seen_more b m before (Down p mon) q watch kept s has some = seen_in_one m p q (alone.Down mon) kept some

-- ---- any events

alone_from : (b m : MultiView) (before events : List MultiEvent) (q : ℕ) (watch : List (Option ℕ)) (kept : KeptStory) → Stands b m before
    → entry_at b.watches q ≡ Some watch → entry_at m.worlds q ≡ Some kept
    → entry_at (passed_all m events).worlds q ≡ Some (keep_all kept (projected_from b.logs watch q before events))
alone_from b m before [] q watch kept s has some = some
alone_from b m before (e ∷ events) q watch kept s has some =
    let seen = option_to_list (seen_by b.logs watch q before e) in
    alone_from b (passed m e) (before ++ e ∷ []) events q watch (keep_all kept seen) (stands_more b m before e s) has (seen_more b m before e q watch kept s has some)
    ∙ ap (λ (k : KeptStory). Some k) (sym (fold-append keep kept seen (projected_from b.logs watch q (before ++ e ∷ []) events)))

counted : (b m : MultiView) (before events : List MultiEvent) → Stands b m before → length (passed_all m events).worlds ≡ length b.worlds
counted b m before [] s = s.count
counted b m before (e ∷ events) s = counted b (passed m e) (before ++ e ∷ []) events (stands_more b m before e s)

-- ---- from the beginning

zeros_row : (parts : List (List (ℕ × ℤ))) (i : ℕ) → get_or (map {B = ℕ} (λ part. 0) parts) i 0 ≡ zero
zeros_row [] i = refl
zeros_row (part ∷ parts) zero = refl
zeros_row (part ∷ parts) (suc i) = zeros_row parts i

begun_row : (logs : List (List (List (ℕ × ℤ)))) (j : ℕ) → get_or (map (λ parts. map {B = ℕ} (λ part. 0) parts) logs) j [] ≡ map {B = ℕ} (λ part. 0) (get_or logs j [])
begun_row [] j = refl
begun_row (parts ∷ logs) zero = refl
begun_row (parts ∷ logs) (suc j) = begun_row logs j

stands_begun : (all : LogSet) (alones : List Alone) → Stands (begun_over all alones) (begun_over all alones) []
stands_begun all alones = record {
  logs = refl;
  watches = refl;
  count = refl;
  paired = length-map alones (λ (one : Alone). one.watch) ∙ sym (length-map alones begun);
  size = length-map all.logs (λ (parts : List (List (ℕ × ℤ))). map {B = ℕ} (λ part. 0) parts);
  rows = λ j. ap (λ (r : List ℕ). length r) (begun_row all.logs j) ∙ length-map {B = ℕ} (get_or all.logs j []) (λ (part : List (ℕ × ℤ)). 0);
  reached = λ mon f there. ap (λ (r : List ℕ). get_or r (f - 1) 0) (begun_row all.logs (mon - 1)) ∙ zeros_row (parts_of all.logs mon) (f - 1) ∙ (let len = length (part_of all mon f) in let none : zero ≡ min 0 len = omega arith in none);
}

entry_map : {A B : Type 0} (f : A → B) (xs : List A) (q : ℕ) (x : A) → entry_at xs q ≡ Some x → entry_at (map f xs) q ≡ Some (f x)
entry_map f xs q x some =
    let at = entry_from xs q x some in
    entry_is (map f xs) q at.0 ∙ slice_get-map f xs (q - 1) ∙ ap (option_map f) at.1

pub as_alone : (all : LogSet) (alones : List Alone) (events : List MultiEvent) (q : ℕ) (one : Alone) → entry_at alones q ≡ Some one
    → entry_at (passed_all (begun_over all alones) events).worlds q ≡ Some (keep_all (begun one) (projected all one.watch q events))
as_alone all alones events q one some =
    let b = begun_over all alones in
    alone_from b b [] events q one.watch (begun one) (stands_begun all alones) (entry_map (λ (x : Alone). x.watch) alones q one some) (entry_map begun alones q one some)

pub as_many : (all : LogSet) (alones : List Alone) (events : List MultiEvent) → length (passed_all (begun_over all alones) events).worlds ≡ length alones
as_many all alones events = counted (begun_over all alones) (begun_over all alones) [] events (stands_begun all alones) ∙ length-map alones begun
