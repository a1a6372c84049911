-- What an event leaves of the common places and of the story of each query.
use Rattle.std.proofs.Common.{◌≡◌, ℕ, suc, zero, ℤ, ◌-◌, ◌≤◌, Bool, true, false, List, [], ◌∷◌, ◌++◌, Option, Some, None, option_map, length, map, set, ap, sym, subst, ◌∙◌, arith, refl}
use Rattle.std.specs.Prelude.{slice_get, option_to_list, option_and_then, ◌==◌, nat_le, if◌then◌else◌}
use Rattle.std.specs.List.{zip}
use Rattle.std.proofs.Math.ListN.{length-set}
use Rattle.std.proofs.lemmas.Bool.{leb-true, le-leb, eqb-true, eqb-false}
use Rattle.std.proofs.lemmas.List.{get_or-set_same, get_or-set_other}
use Rattle.std.proofs.lemmas.Option.{slice_get-map, slice_get_within, slice_get-get_or, get_or_from_slice_get}
use Rattle.tk_drain.specs.Drive.{keep, keep_all}
use Rattle.tk_input.specs.declared.event.Event.{Event}
use Rattle.tk_story.specs.Kept.{KeptStory}
use Rattle.tk_story.specs.Story.{StoryView}
use Rattle.tk_world.specs.Events.{next_of}
use Rattle.tk_multi.specs.Multi.{MultiView, left_by, moved_at, next_in, with_raise, with_world}
use Rattle.tk_multi.specs.Projection.{is_watched, only_if}
use Rattle.tk_multi.specs.Queries.{entry_at}
use Rattle.tk_drain.proofs.KeepLemmas.{keep_none, keep_some}

-- the common part of two states is one, and they have as many worlds
pub record AreAlike (m n : MultiView) : Type 0 where
  pub logs : n.logs ≡ m.logs
  pub places : n.places ≡ m.places
  pub watches : n.watches ≡ m.watches
  pub count : length n.worlds ≡ length m.worlds

alike_self : (m : MultiView) → AreAlike m m
alike_self m = record { logs = refl; places = refl; watches = refl; count = refl }

alike_by : (m : MultiView) (q : ℕ) (e : Event) (kept : KeptStory) (next : Option StoryView) → AreAlike m (left_by m (option_map (with_world m q kept e) next))
alike_by m q e kept None = alike_self m
alike_by m q e kept (Some story) = record { logs = refl; places = refl; watches = refl; count = length-set m.worlds (q - 1) (record { story = story; events = kept.events ++ e ∷ [] }) }

alike_at : (m : MultiView) (q : ℕ) (e : Event) (entry : Option KeptStory)
    → AreAlike m (left_by m (option_and_then (λ kept. option_map (with_world m q kept e) (next_of kept.story e)) entry))
alike_at m q e None = alike_self m
alike_at m q e (Some kept) = alike_by m q e kept (next_of kept.story e)

-- an event of one query leaves the common part
pub alike_in : (m : MultiView) (q : ℕ) (e : Event) → AreAlike m (left_by m (next_in m q e))
alike_in m q e = alike_at m q e (entry_at m.worlds q)

-- ---- entries of lists by the numbers of queries

pub entry_is : {A : Type 0} (xs : List A) (q : ℕ) → 1 ≤ q → entry_at xs q ≡ slice_get xs (q - 1)
entry_is xs q from = ap (λ (b : Bool). if b then slice_get xs (q - 1) else None) (le-leb 1 q from)

entry_by : {A : Type 0} (o : Option A) (b : Bool) (x : A) → (if b then o else None) ≡ Some x → (b ≡ true) × (o ≡ Some x)
entry_by o true x some = (refl, some)
entry_by o false x some = (cc)

pub entry_from : {A : Type 0} (xs : List A) (q : ℕ) (x : A) → entry_at xs q ≡ Some x → (1 ≤ q) × (slice_get xs (q - 1) ≡ Some x)
entry_from xs q x some = let both = entry_by (slice_get xs (q - 1)) (nat_le 1 q) x some in (leb-true 1 q both.0, both.1)

slice_set : {A : Type 0} (xs : List A) (i : ℕ) (x y : A) → slice_get xs i ≡ Some y → slice_get (set xs i x) i ≡ Some x
slice_set xs i x y some =
    let within = slice_get_within xs i y some in
    slice_get-get_or (set xs i x) i x (let e = length-set xs i x in omega (arith, e, within)) ∙ ap (λ (z : _). Some z) (get_or-set_same xs i x x within)

-- slice_get reads past a write elsewhere
slice_other : {A : Type 0} (xs : List A) (i j : ℕ) (x y : A) → (j ≡ i → ⊥) → slice_get xs j ≡ Some y → slice_get (set xs i x) j ≡ Some y
slice_other xs i j x y apart some =
    let within = slice_get_within xs j y some in
    slice_get-get_or (set xs i x) j y (let e = length-set xs i x in omega (arith, e, within))
    ∙ ap (λ (z : _). Some z) (get_or-set_other xs i j x y apart ∙ get_or_from_slice_get xs j y y some)

pub slice_zip : {A B : Type 0} (xs : List A) (ys : List B) (i : ℕ) (x : A) (y : B) → slice_get xs i ≡ Some x → slice_get ys i ≡ Some y → slice_get (zip xs ys) i ≡ Some (x, y)
slice_zip [] ys i x y a b = (cc)
slice_zip (z ∷ xs) [] i x y a b = (cc)
slice_zip (z ∷ xs) (w ∷ ys) zero x y a b = (cc)
slice_zip (z ∷ xs) (w ∷ ys) (suc i) x y a b = slice_zip xs ys i x y a b

-- ---- the story of a query after an event of one query

-- of the query itself
own_by : (m : MultiView) (q : ℕ) (e : Event) (kept : KeptStory) (next : Option StoryView) → 1 ≤ q → slice_get m.worlds (q - 1) ≡ Some kept → next_of kept.story e ≡ next
    → entry_at (left_by m (option_map (with_world m q kept e) next)).worlds q ≡ Some (keep kept e)
own_by m q e kept None from some is = entry_is m.worlds q from ∙ some ∙ ap (λ (k : KeptStory). Some k) (sym (keep_none kept e is))
own_by m q e kept (Some story) from some is =
    let new : KeptStory = record { story = story; events = kept.events ++ e ∷ [] } in
    entry_is (set m.worlds (q - 1) new) q from ∙ slice_set m.worlds (q - 1) new kept some ∙ ap (λ (k : KeptStory). Some k) (sym (keep_some kept e story is))

pub own_moves : (m : MultiView) (q : ℕ) (e : Event) (kept : KeptStory) → entry_at m.worlds q ≡ Some kept → entry_at (left_by m (next_in m q e)).worlds q ≡ Some (keep kept e)
own_moves m q e kept some =
    let at = entry_from m.worlds q kept some in
    subst (λ (o : Option KeptStory). entry_at (left_by m (option_and_then (λ k. option_map (with_world m q k e) (next_of k.story e)) o)).worlds q ≡ Some (keep kept e)) (sym some)
    (own_by m q e kept (next_of kept.story e) at.0 at.1 refl)

-- of another query
other_by : (m : MultiView) (p q : ℕ) (e : Event) (kept at : KeptStory) (next : Option StoryView) → 1 ≤ p → (p ≡ q → ⊥) → entry_at m.worlds q ≡ Some kept
    → entry_at (left_by m (option_map (with_world m p at e) next)).worlds q ≡ Some kept
other_by m p q e kept at None from apart some = some
other_by m p q e kept at (Some story) from apart some =
    let here = entry_from m.worlds q kept some in
    let new : KeptStory = record { story = story; events = at.events ++ e ∷ [] } in
    entry_is (set m.worlds (p - 1) new) q here.0 ∙ slice_other m.worlds (p - 1) (q - 1) new kept (λ same. apart (let a = here.0 in omega (arith, a, from, same))) here.1

other_at : (m : MultiView) (p q : ℕ) (e : Event) (kept : KeptStory) (entry : Option KeptStory) → entry_at m.worlds p ≡ entry → (p ≡ q → ⊥) → entry_at m.worlds q ≡ Some kept
    → entry_at (left_by m (option_and_then (λ k. option_map (with_world m p k e) (next_of k.story e)) entry)).worlds q ≡ Some kept
other_at m p q e kept None is apart some = some
other_at m p q e kept (Some at) is apart some = other_by m p q e kept at (next_of at.story e) (entry_from m.worlds p at is).0 apart some

pub other_stays : (m : MultiView) (p q : ℕ) (e : Event) (kept : KeptStory) → (p ≡ q → ⊥) → entry_at m.worlds q ≡ Some kept → entry_at (left_by m (next_in m p e)).worlds q ≡ Some kept
other_stays m p q e kept apart some = other_at m p q e kept (entry_at m.worlds p) refl apart some

-- the story of a query after an event of one query, by which query it is
in_one : (m : MultiView) (p q : ℕ) (e : Event) (kept : KeptStory) (same : Bool) → (p == q) ≡ same → entry_at m.worlds q ≡ Some kept
    → entry_at (left_by m (next_in m p e)).worlds q ≡ Some (keep_all kept (option_to_list (only_if same e)))
in_one m p q e kept true is some = subst (λ (x : ℕ). entry_at (left_by m (next_in m x e)).worlds q ≡ Some (keep kept e)) (sym (eqb-true p q is)) (own_moves m q e kept some)
in_one m p q e kept false is some = other_stays m p q e kept (eqb-false p q is) some

pub seen_in_one : (m : MultiView) (p q : ℕ) (e : Event) (kept : KeptStory) → entry_at m.worlds q ≡ Some kept
    → entry_at (left_by m (next_in m p e)).worlds q ≡ Some (keep_all kept (option_to_list (only_if (p == q) e)))
seen_in_one m p q e kept some = in_one m p q e kept (p == q) refl some

-- ---- the story of a query after a raise

raise_at : (e : Event) (o : ℕ) (watch : List (Option ℕ)) (kept : KeptStory) (watched : Bool) → (if watched then keep kept e else kept) ≡ keep_all kept (option_to_list (only_if watched e))
raise_at e o watch kept true = refl
raise_at e o watch kept false = refl

pub seen_raise : (m : MultiView) (mon f : ℕ) (e : Event) (q : ℕ) (watch : List (Option ℕ)) (kept : KeptStory) (next : Option (ℕ × ℤ))
    → entry_at m.watches q ≡ Some watch → entry_at m.worlds q ≡ Some kept
    → entry_at (left_by m (option_map (λ change. with_raise m mon f e change.0) next)).worlds q
    ≡ Some (keep_all kept (option_to_list (option_and_then (λ change. only_if (is_watched watch change.0) e) next)))
seen_raise m mon f e q watch kept None a b = b
seen_raise m mon f e q watch kept (Some change) a b =
    let w = entry_from m.watches q watch a in
    let k = entry_from m.worlds q kept b in
    entry_is (map (moved_at e change.0) (zip m.watches m.worlds)) q w.0
    ∙ slice_get-map (moved_at e change.0) (zip m.watches m.worlds) (q - 1)
    ∙ ap (λ (o : Option (List (Option ℕ) × KeptStory)). option_map (moved_at e change.0) o) (slice_zip m.watches m.worlds (q - 1) watch kept w.1 k.1)
    ∙ ap (λ (x : KeptStory). Some x) (raise_at e change.0 watch kept (is_watched watch change.0))
