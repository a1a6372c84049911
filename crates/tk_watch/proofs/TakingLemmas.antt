-- What a window makes of what a stream gives, one by one, and of the end of a tick.
use Rattle.std.proofs.Common.{◌≡◌, ℕ, zero, suc, ◌+◌, ◌-◌, ◌<◌, ◌≤◌, List, [], ◌∷◌, ◌++◌, length, get_or, set, take, drop, None, Some, refl, sym, ap, ◌∙◌, subst, arith, inl, inr, append_assoc}
use Rattle.std.specs.Prelude.{ℤ, fold, slice_get}
use Rattle.std.proofs.lemmas.Bool.{cases_lt}
use Rattle.std.proofs.lemmas.List.{append-nil, get_or-set_same, get_or_past, set-get_or, set_past, take-append-drop, take_all, take_more}
use Rattle.std.proofs.lemmas.List.Sums.{fold_push}
use Rattle.tk_base.specs.declared.ids.Feeder.{Feeder}
use Rattle.tk_base.specs.declared.ids.Obj.{Obj}
use Rattle.tk_input.specs.declared.change.Change.{Change}
use Rattle.tk_recent.specs.Kept.{Kept, fresh, noted, opposite, taken, ticked}
use Rattle.tk_recent.specs.Run.{Run}
use Rattle.tk_compact.specs.Compacted.{compacted}
use Rattle.tk_stream.specs.declared.item.Item.{Item}
use Rattle.tk_stream.specs.declared.item.Item.TheVariants as i
use Rattle.tk_compact.specs.Room.{IsClosedAt}
use Rattle.tk_watch.specs.Each.{CountsOnce, IsUntold, Rises, Stops, TellsEach}
use Rattle.tk_watch.specs.Feeding.{TakesEach}
use Rattle.tk_watch.specs.Told.{Tells}
use Rattle.tk_watch.specs.Untold.{untold_by}
use Rattle.tk_watch.specs.Watch.{IsWatch, WatchView}
use Rattle.tk_watch.specs.Windows.{Notes, Takes, TellsWithin, after_tick, ended_in, noted_in, run_on, settled_in, taken_in, taking, ticked_in, told_at_tick, window_of}
use Rattle.tk_watch.specs.declared.told.Told.{Told}
use Rattle.tk_watch.specs.declared.told.Told.TheVariants as t
use Rattle.tk_watch.specs.declared.untold.Untold.{Untold}
use Rattle.tk_watch.specs.declared.untold.Untold.TheVariants as u
use Rattle.tk_watch.proofs.EachLemmas.{each_behind, each_more, rises_each}

-- ---- windows

set_twice : {A : Type 0} (xs : List A) (i : ℕ) (a b : A) → set (set xs i a) i b ≡ set xs i b
set_twice [] i a b = refl
set_twice (x ∷ xs) zero a b = refl
set_twice (x ∷ xs) (suc i) a b = ap (λ (ys : List _). x ∷ ys) (set_twice xs i a b)

-- where a stream has no window, nothing is kept of it
idle_taking : (r : Run) (item : Item) → r.kept ≡ fresh 0 0 → (taking r item).kept ≡ fresh 0 0
idle_taking r (i.Record c) is = ap (λ (k : Kept). noted k (c.obj.0, c.by)) is
idle_taking r i.Tick is = ap after_tick is

idle_run : (items : List Item) (r : Run) → r.kept ≡ fresh 0 0 → (fold taking r items).kept ≡ fresh 0 0
idle_run [] r is = is
idle_run (item ∷ items) r is = idle_run items (taking r item) (idle_taking r item is)

-- the window of a stream behind what it gave
window_then : (ks : List Kept) (g : ℕ) (items : List Item) → window_of (set ks (g - 1) (run_on (window_of ks g) items).kept) g ≡ (run_on (window_of ks g) items).kept
window_then ks g items =
    let then = (run_on (window_of ks g) items).kept in
    elim (cases_lt (g - 1) (length ks)) [
      | inl within ↦ get_or-set_same ks (g - 1) then (fresh 0 0) within
      | inr past ↦
          let none : window_of ks g ≡ fresh 0 0 = get_or_past ks (g - 1) (fresh 0 0) (omega (arith, past)) in
          ap (λ (ws : List Kept). get_or ws (g - 1) (fresh 0 0)) (set_past ks (g - 1) then (omega (arith, past)))
          ∙ none
          ∙ sym (idle_run items (record { kept = window_of ks g; told = [] }) none)
    ]

-- one record or tick more
taking_from : (r : Run) (item : Item) → taking r item ≡ record { kept = (run_on r.kept (item ∷ [])).kept; told = r.told ++ (run_on r.kept (item ∷ [])).told }
taking_from r (i.Record c) = refl
taking_from r i.Tick = refl

pub run_more : (k : Kept) (items : List Item) (item : Item) → run_on k (items ++ item ∷ []) ≡ taking (run_on k items) item
run_more k items item = fold_push taking (record { kept = k; told = [] }) items item

pub takes_more : {W : Type 0} (old now new : WatchView W) (ks mid after : List Kept) (f : Feeder) (items : List Item) (item : Item)
    → TakesEach old ks f items mid now → TakesEach now mid f (item ∷ []) after new → TakesEach old ks f (items ++ item ∷ []) after new
takes_more old now new ks mid after f items item first last =
    let g : ℕ = f.0 in
    let r : Run = run_on (window_of ks g) items in
    let there : window_of mid g ≡ r.kept = ap (λ (ws : List Kept). window_of ws g) first.noted ∙ window_then ks g items in
    let next : Run = run_on r.kept (item ∷ []) in
    let all : run_on (window_of ks g) (items ++ item ∷ []) ≡ record { kept = next.kept; told = r.told ++ next.told } = run_more (window_of ks g) items item ∙ taking_from r item in
    record {
      told = subst (λ (s : Run). TellsEach old f s.told new) (sym all) (each_behind old now new f r.told next.told first.told (subst (λ (k : Kept). TellsEach now f (run_on k (item ∷ [])).told new) there last.told));
      noted =
          last.noted
          ∙ ap (λ (k : Kept). set mid (g - 1) (run_on k (item ∷ [])).kept) there
          ∙ ap (λ (ws : List Kept). set ws (g - 1) next.kept) first.noted
          ∙ set_twice ks (g - 1) r.kept next.kept
          ∙ ap (λ (s : Run). set ks (g - 1) s.kept) (sym all);
    }

-- of nothing
pub takes_none : {W : Type 0} (w : WatchView W) (ks : List Kept) (f : Feeder) → TakesEach w ks f [] ks w
takes_none w ks f = record { told = refl; noted = sym (set-get_or ks (f.0 - 1) (fresh 0 0)) }

-- ---- up to what does not count

-- what is told only grows
record Grows (r new : Run) : Type 0 where
  more : List (ℕ × ℤ)
  is : new.told ≡ r.told ++ more

grows_one : (r : Run) (item : Item) → Grows r (taking r item)
grows_one r (i.Record c) = record { more = (c.obj.0, c.by) ∷ []; is = refl }
grows_one r i.Tick = record { more = told_at_tick r.kept; is = refl }

grows : (items : List Item) (r : Run) → Grows r (fold taking r items)
grows [] r = record { more = []; is = sym (append-nil r.told) }
grows (item ∷ items) r =
    let first = grows_one r item in
    let rest = grows items (taking r item) in
    record { more = first.more ++ rest.more; is = rest.is ∙ ap (λ (cs : List (ℕ × ℤ)). cs ++ rest.more) first.is ∙ append_assoc r.told first.more rest.more }

untold_further : {W : Type 0} (untold : Untold) (old new : WatchView W) (f : Feeder) (rest more : List (ℕ × ℤ)) (ks : List Kept) → IsUntold untold old f rest ks new → IsUntold untold old f (rest ++ more) ks new
untold_further u.Closed old new f rest more ks is = is
untold_further (u.TooGreat obj) old new f rest more ks is =
    let great = is.0 in
    (record { next = great.next; behind = great.behind ++ more; parted = ap (λ (cs : List (ℕ × ℤ)). cs ++ more) great.parted; object = great.object; great = great.great }, is.1)
untold_further u.NoMemory old new f rest more ks is = is

-- where more was due
pub stops_further : {W : Type 0} (old new : WatchView W) (f : Feeder) (due more : List (ℕ × ℤ)) (untold : Untold) (ks : List Kept) → Stops old f due untold ks new → Stops old f (due ++ more) untold ks new
stops_further old new f due more untold ks stops = record {
  front = stops.front;
  rest = stops.rest ++ more;
  parted = ap (λ (cs : List (ℕ × ℤ)). cs ++ more) stops.parted ∙ append_assoc stops.front stops.rest more;
  behind = stops.behind;
  each = stops.each;
  why = untold_further untold stops.behind new f stops.rest more ks stops.why;
}

-- behind others that were told
pub stops_behind : {W : Type 0} (old now new : WatchView W) (f : Feeder) (told due : List (ℕ × ℤ)) (untold : Untold) (ks : List Kept) → TellsEach old f told now → Stops now f due untold ks new → Stops old f (told ++ due) untold ks new
stops_behind old now new f told due untold ks each stops = record {
  front = told ++ stops.front;
  rest = stops.rest;
  parted = ap (λ (cs : List (ℕ × ℤ)). told ++ cs) stops.parted ∙ sym (append_assoc told stops.front stops.rest);
  behind = stops.behind;
  each = each_behind old now stops.behind f told stops.front each stops.each;
  why = stops.why;
}

folds : (xs ys : List Item) (r : Run) → fold taking r (xs ++ ys) ≡ fold taking (fold taking r xs) ys
folds [] ys r = refl
folds (x ∷ xs) ys r = folds xs ys (taking r x)

pub stops_in : {W : Type 0} (old now new : WatchView W) (ks mid after : List Kept) (f : Feeder) (items rest : List Item) (item : Item) (untold : Untold)
    → TakesEach old ks f items mid now → Stops now f (run_on (window_of mid f.0) (item ∷ [])).told untold after new → Stops old f (run_on (window_of ks f.0) (items ++ item ∷ rest)).told untold after new
stops_in old now new ks mid after f items rest item untold first stops =
    let g : ℕ = f.0 in
    let r : Run = run_on (window_of ks g) items in
    let there : window_of mid g ≡ r.kept = ap (λ (ws : List Kept). window_of ws g) first.noted ∙ window_then ks g items in
    let next : Run = run_on r.kept (item ∷ []) in
    let here : run_on (window_of ks g) (items ++ item ∷ []) ≡ record { kept = next.kept; told = r.told ++ next.told } = run_more (window_of ks g) items item ∙ taking_from r item in
    let more = grows rest (run_on (window_of ks g) (items ++ item ∷ [])) in
    let start : Run = record { kept = window_of ks g; told = [] } in
    let all : (run_on (window_of ks g) (items ++ item ∷ rest)).told ≡ (r.told ++ next.told) ++ more.more =
    ap (λ (xs : List Item). (fold taking start xs).told) (sym (append_assoc items (item ∷ []) rest))
    ∙ ap (λ (s : Run). s.told) (folds (items ++ item ∷ []) rest start)
    ∙ more.is
    ∙ ap (λ (s : Run). s.told ++ more.more) here in
    subst (λ (cs : List (ℕ × ℤ)). Stops old f cs untold after new) (sym all)
    (stops_further old new f (r.told ++ next.told) more.more untold after
    (stops_behind old now new f r.told next.told untold after first.told (subst (λ (k : Kept). Stops now f (run_on k (item ∷ [])).told untold after new) there stops)))

-- ---- the end of a tick

-- what is to be taken back of a stream, told one by one
pub record Settling {W : Type 0} (old now : WatchView W) (ks then : List Kept) (f : Feeder) : Type 0 where
  pub front : List (ℕ × ℤ)
  pub each : TellsEach old f front now
  pub parted : (window_of ks f.0).back ≡ front ++ (window_of then f.0).back
  pub others : settled_in then f.0 ≡ settled_in ks f.0
  pub kept : IsWatch now

pub settling_first : {W : Type 0} (w : WatchView W) (ks : List Kept) (f : Feeder) → IsWatch w → Settling w w ks ks f
settling_first w ks f is = record { front = []; each = refl; parted = refl; others = refl; kept = is }

pub first_back : (back : List (ℕ × ℤ)) (c : ℕ × ℤ) → Some c ≡ slice_get back 0 → back ≡ c ∷ drop 1 back
first_back [] c is = absurd (cc)
first_back (d ∷ back) c is = let same : d ≡ c = cc in ap (λ (x : ℕ × ℤ). x ∷ back) same

none_back : (back : List (ℕ × ℤ)) → None ≡ slice_get back 0 → back ≡ []
none_back [] is = refl
none_back (d ∷ back) is = absurd (cc)

-- one change more
pub settling_next : {W : Type 0} (old now new : WatchView W) (ks then after : List Kept) (f : Feeder) (c : ℕ × ℤ) → Settling old now ks then f
    → f.0 - 1 < length then → Some c ≡ slice_get (window_of then f.0).back 0 → CountsOnce now f c new → after ≡ taken_in then f.0 → Settling old new ks after f
settling_next old now new ks then after f c so within first once is =
    let i : ℕ = f.0 - 1 in
    let k = window_of then f.0 in
    let there : window_of after f.0 ≡ taken k = ap (λ (ws : List Kept). window_of ws f.0) is ∙ get_or-set_same then i (taken k) (fresh 0 0) within in
    record {
      front = so.front ++ c ∷ [];
      each = each_more old now new f so.front c so.each once;
      parted =
          so.parted
          ∙ ap (λ (cs : List (ℕ × ℤ)). so.front ++ cs) (first_back k.back c first)
          ∙ sym (append_assoc so.front (c ∷ []) (drop 1 k.back))
          ∙ ap (λ (w : Kept). (so.front ++ c ∷ []) ++ w.back) (sym there);
      others =
          ap (λ (w : Kept). set after i (record w { back = [] })) there
          ∙ ap (λ (ws : List Kept). set ws i (record k { back = [] })) is
          ∙ set_twice then i (taken k) (record k { back = [] })
          ∙ so.others;
      kept = once.kept;
    }

-- fewer are left then
pub fewer_left : (then after : List Kept) (g : ℕ) (c : ℕ × ℤ) → g - 1 < length then → Some c ≡ slice_get (window_of then g).back 0 → after ≡ taken_in then g → length (window_of after g).back < length (window_of then g).back
fewer_left then after g c within first is =
    let k = window_of then g in
    let there : window_of after g ≡ taken k = ap (λ (ws : List Kept). window_of ws g) is ∙ get_or-set_same then (g - 1) (taken k) (fresh 0 0) within in
    omega (arith, ap (λ (w : Kept). length w.back) there, ap (λ (cs : List (ℕ × ℤ)). length cs) (first_back k.back c first))

-- nothing is left
pub settled_told : {W : Type 0} (old now : WatchView W) (ks then : List Kept) (f : Feeder) → Settling old now ks then f → None ≡ slice_get (window_of then f.0).back 0 → TellsEach old f (window_of ks f.0).back now
settled_told old now ks then f so none =
    subst (λ (cs : List (ℕ × ℤ)). TellsEach old f cs now) (sym (so.parted ∙ ap (λ (cs : List (ℕ × ℤ)). so.front ++ cs) (none_back (window_of then f.0).back none) ∙ append-nil so.front)) so.each

pub settled_windows : {W : Type 0} (old now : WatchView W) (ks then : List Kept) (f : Feeder) → Settling old now ks then f → None ≡ slice_get (window_of then f.0).back 0 → then ≡ settled_in ks f.0
settled_windows old now ks then f so none =
    let i : ℕ = f.0 - 1 in
    let k = window_of then f.0 in
    sym (set-get_or then i (fresh 0 0)) ∙ ap (λ (cs : List (ℕ × ℤ)). set then i (record k { back = cs })) (none_back k.back none) ∙ so.others

-- the next change does not count
pub settling_stops : {W : Type 0} (old now new : WatchView W) (ks then after : List Kept) (f : Feeder) (untold : Untold) → Settling old now ks then f
    → IsUntold untold now f (window_of then f.0).back after new → Stops old f (window_of ks f.0).back untold after new
settling_stops old now new ks then after f untold so why = record {
  front = so.front;
  rest = (window_of then f.0).back;
  parted = so.parted;
  behind = now;
  each = so.each;
  why = why;
}

-- a tick that ended where all was settled
nothing_back : (ticked (fresh 0 0)).back ≡ []
unfolding opposite compacted
nothing_back = refl

pub ticked_back : (ks : List Kept) (g : ℕ) → (window_of (ticked_in (settled_in ks g) g) g).back ≡ (ticked (window_of ks g)).back
ticked_back ks g =
    let j : ℕ = g - 1 in
    let k = window_of ks g in
    let settled : Kept = record k { back = [] } in
    elim (cases_lt j (length ks)) [
      | inl within ↦
          let at : window_of (settled_in ks g) g ≡ settled = get_or-set_same ks j settled (fresh 0 0) within in
          ap (λ (w : Kept). (get_or (set (settled_in ks g) j (ticked w)) j (fresh 0 0)).back) at
          ∙ ap (λ (ws : List Kept). (get_or ws j (fresh 0 0)).back) (set_twice ks j settled (ticked settled))
          ∙ ap (λ (w : Kept). w.back) (get_or-set_same ks j (ticked settled) (fresh 0 0) within)
      | inr past ↦
          let far : length ks ≤ j = omega (arith, past) in
          let same : settled_in ks g ≡ ks = set_past ks j settled far in
          let none : k ≡ fresh 0 0 = get_or_past ks j (fresh 0 0) far in
          ap (λ (ws : List Kept). (window_of (ticked_in ws g) g).back) same
          ∙ ap (λ (ws : List Kept). (window_of ws g).back) (set_past ks j (ticked k) far)
          ∙ ap (λ (w : Kept). w.back) none
          ∙ sym nothing_back
          ∙ sym (ap (λ (w : Kept). (ticked w).back) none)
    ]

pub ended_windows : (ks : List Kept) (g : ℕ) → settled_in (ticked_in (settled_in ks g) g) g ≡ ended_in ks g
ended_windows ks g =
    let j : ℕ = g - 1 in
    let k = window_of ks g in
    let settled : Kept = record k { back = [] } in
    elim (cases_lt j (length ks)) [
      | inl within ↦
          let at : window_of (settled_in ks g) g ≡ settled = get_or-set_same ks j settled (fresh 0 0) within in
          let then : ticked_in (settled_in ks g) g ≡ set ks j (ticked settled) = ap (λ (w : Kept). set (settled_in ks g) j (ticked w)) at ∙ set_twice ks j settled (ticked settled) in
          ap (λ (ws : List Kept). settled_in ws g) then
          ∙ ap (λ (w : Kept). set (set ks j (ticked settled)) j (record w { back = [] })) (get_or-set_same ks j (ticked settled) (fresh 0 0) within)
          ∙ set_twice ks j (ticked settled) (after_tick k)
      | inr past ↦
          let far : length ks ≤ j = omega (arith, past) in
          ap (λ (ws : List Kept). settled_in (ticked_in ws g) g) (set_past ks j settled far)
          ∙ ap (λ (ws : List Kept). settled_in ws g) (set_past ks j (ticked k) far)
          ∙ set_past ks j settled far
          ∙ sym (set_past ks j (after_tick k) far)
    ]

pub settled_back : (ks : List Kept) (g : ℕ) → (window_of (settled_in ks g) g).back ≡ []
settled_back ks g =
    let j : ℕ = g - 1 in
    let settled : Kept = record (window_of ks g) { back = [] } in
    elim (cases_lt j (length ks)) [
      | inl within ↦ ap (λ (w : Kept). w.back) (get_or-set_same ks j settled (fresh 0 0) within)
      | inr past ↦
          let far : length ks ≤ j = omega (arith, past) in
          ap (λ (ws : List Kept). (window_of ws g).back) (set_past ks j settled far) ∙ ap (λ (w : Kept). w.back) (get_or_past ks j (fresh 0 0) far)
    ]

-- all of it was told
pub tick_told : {W : Type 0} (old mid new : WatchView W) (ks then after : List Kept) (f : Feeder) → TellsEach old f (window_of ks f.0).back mid → then ≡ settled_in ks f.0 → after ≡ ticked_in then f.0
    → TellsEach mid f (window_of after f.0).back new → TellsEach old f (told_at_tick (window_of ks f.0)) new
tick_told old mid new ks then after f first settled is last =
    let k = window_of ks f.0 in
    let due : (window_of after f.0).back ≡ (ticked k).back = ap (λ (ws : List Kept). (window_of ws f.0).back) (is ∙ ap (λ (ws : List Kept). ticked_in ws f.0) settled) ∙ ticked_back ks f.0 in
    each_behind old mid new f k.back (ticked k).back first (subst (λ (cs : List (ℕ × ℤ)). TellsEach mid f cs new) due last)

pub tick_ended : (ks then after last : List Kept) (g : ℕ) → then ≡ settled_in ks g → after ≡ ticked_in then g → last ≡ settled_in after g → last ≡ ended_in ks g
tick_ended ks then after last g settled is over =
    over ∙ ap (λ (ws : List Kept). settled_in ws g) (is ∙ ap (λ (ws : List Kept). ticked_in ws g) settled) ∙ ended_windows ks g

-- or a front of it
pub tick_stops : {W : Type 0} (old mid new : WatchView W) (ks then after last : List Kept) (f : Feeder) (untold : Untold) → TellsEach old f (window_of ks f.0).back mid → then ≡ settled_in ks f.0 → after ≡ ticked_in then f.0
    → Stops mid f (window_of after f.0).back untold last new → Stops old f (told_at_tick (window_of ks f.0)) untold last new
tick_stops old mid new ks then after last f untold first settled is stops =
    let k = window_of ks f.0 in
    let due : (window_of after f.0).back ≡ (ticked k).back = ap (λ (ws : List Kept). (window_of ws f.0).back) (is ∙ ap (λ (ws : List Kept). ticked_in ws f.0) settled) ∙ ticked_back ks f.0 in
    stops_behind old mid new f k.back (ticked k).back untold last first (subst (λ (cs : List (ℕ × ℤ)). Stops mid f cs untold last new) due stops)

pub tick_shut : {W : Type 0} (w : WatchView W) (f : Feeder) (due : List (ℕ × ℤ)) (ks : List Kept) → IsClosedAt w.monitor.setup w.monitor.trail f.0 → Stops w f due u.Closed ks w
tick_shut w f due ks shut = record { front = []; rest = due; parted = refl; behind = w; each = refl; why = (shut, refl) }

-- ---- one by one

-- a change that does not count
pub untold_told : {W : Type 0} (now new : WatchView W) (ks : List Kept) (f : Feeder) (c : ℕ × ℤ) (obj : Obj) (told : Told) (untold : Untold) (rest : List (ℕ × ℤ)) → untold_by told obj ≡ Some untold → c.0 ≡ obj.0 → rest ≡ c ∷ drop 1 rest
    → TellsWithin ks now f c told new → IsUntold untold now f rest ks new
untold_told now new ks f c obj (t.Done broken fresh) untold rest is same first tells = absurd (cc)
untold_told now new ks f c obj t.Closed untold rest is same first tells = let why : u.Closed ≡ untold = cc in subst (λ (v : Untold). IsUntold v now f rest ks new) why tells
untold_told now new ks f c obj t.TooGreat untold rest is same first tells =
    let why : u.TooGreat obj ≡ untold = cc in
    subst (λ (v : Untold). IsUntold v now f rest ks new) why (elim tells [
      | inl great ↦ (record { next = c; behind = drop 1 rest; parted = first; object = same; great = inl great.1.0 }, great.1.1)
      | inr great ↦ (record { next = c; behind = drop 1 rest; parted = first; object = same; great = inr great.0 }, great.1)
    ])
untold_told now new ks f c obj t.NoMemory untold rest is same first tells = let why : u.NoMemory ≡ untold = cc in subst (λ (v : Untold). IsUntold v now f rest ks new) why tells

-- what is taken back is told as any change
pub told_within : {W : Type 0} (now new : WatchView W) (ks : List Kept) (f : Feeder) (c : ℕ × ℤ) (told : Told) → Tells now f c told new → TellsWithin ks now f c told new
told_within now new ks f c (t.Done broken fresh) tells = tells
told_within now new ks f c t.Closed tells = tells
told_within now new ks f c t.TooGreat tells = inl tells
told_within now new ks f c t.NoMemory tells = tells

pub within_counts : {W : Type 0} (old new : WatchView W) (ks : List Kept) (f : Feeder) (c : ℕ × ℤ) (told : Told) (obj : Obj) → untold_by told obj ≡ None → TellsWithin ks old f c told new → IsWatch new → CountsOnce old f c new
within_counts old new ks f c (t.Done broken fresh) obj is tells kept = record { broken = broken; fresh = fresh; tells = tells; kept = kept }
within_counts old new ks f c t.Closed obj is tells kept = absurd (cc)
within_counts old new ks f c t.TooGreat obj is tells kept = absurd (cc)
within_counts old new ks f c t.NoMemory obj is tells kept = absurd (cc)

counted_notes : (ks after : List Kept) (g : ℕ) (c : ℕ × ℤ) (told : Told) (obj : Obj) → untold_by told obj ≡ None → Notes ks g c told after → after ≡ noted_in ks g c
counted_notes ks after g c (t.Done broken fresh) obj is notes = notes
counted_notes ks after g c t.Closed obj is notes = absurd (cc)
counted_notes ks after g c t.TooGreat obj is notes = absurd (cc)
counted_notes ks after g c t.NoMemory obj is notes = absurd (cc)

pub counted_takes : (ks after : List Kept) (g : ℕ) (told : Told) (obj : Obj) → untold_by told obj ≡ None → Takes ks g told after → after ≡ taken_in ks g
counted_takes ks after g (t.Done broken fresh) obj is takes = takes
counted_takes ks after g t.Closed obj is takes = absurd (cc)
counted_takes ks after g t.TooGreat obj is takes = absurd (cc)
counted_takes ks after g t.NoMemory obj is takes = absurd (cc)

pub untold_takes : (ks after : List Kept) (g : ℕ) (told : Told) (obj : Obj) (untold : Untold) → untold_by told obj ≡ Some untold → Takes ks g told after → after ≡ ks
untold_takes ks after g (t.Done broken fresh) obj untold is takes = absurd (cc)
untold_takes ks after g t.Closed obj untold is takes = takes
untold_takes ks after g t.TooGreat obj untold is takes = takes
untold_takes ks after g t.NoMemory obj untold is takes = takes

untold_notes : (ks after : List Kept) (g : ℕ) (c : ℕ × ℤ) (told : Told) (obj : Obj) (untold : Untold) → untold_by told obj ≡ Some untold → Notes ks g c told after → after ≡ ks
untold_notes ks after g c (t.Done broken fresh) obj untold is notes = absurd (cc)
untold_notes ks after g c t.Closed obj untold is notes = notes
untold_notes ks after g c t.TooGreat obj untold is notes = notes
untold_notes ks after g c t.NoMemory obj untold is notes = notes

pub takes_record : {W : Type 0} (old new : WatchView W) (ks after : List Kept) (f : Feeder) (c : Change) (told : Told) → untold_by told c.obj ≡ None → TellsWithin ks old f (c.obj.0, c.by) told new → Notes ks f.0 (c.obj.0, c.by) told after → IsWatch new
    → TakesEach old ks f (i.Record c ∷ []) after new
takes_record old new ks after f c told is tells notes kept = record {
  told = (new, (within_counts old new ks f (c.obj.0, c.by) told c.obj is tells kept, refl));
  noted = counted_notes ks after f.0 (c.obj.0, c.by) told c.obj is notes;
}

pub stops_record : {W : Type 0} (old new : WatchView W) (ks after : List Kept) (f : Feeder) (c : Change) (told : Told) (untold : Untold) → untold_by told c.obj ≡ Some untold → TellsWithin ks old f (c.obj.0, c.by) told new → Notes ks f.0 (c.obj.0, c.by) told after
    → Stops old f (run_on (window_of ks f.0) (i.Record c ∷ [])).told untold after new
stops_record old new ks after f c told untold is tells notes =
    let change : ℕ × ℤ = (c.obj.0, c.by) in
    let same : after ≡ ks = untold_notes ks after f.0 change told c.obj untold is notes in
    record {
      front = [];
      rest = change ∷ [];
      parted = refl;
      behind = old;
      each = refl;
      why = subst (λ (ws : List Kept). IsUntold untold old f (change ∷ []) ws new) (sym same) (untold_told old new ks f change c.obj told untold (change ∷ []) is refl refl tells);
    }

pub takes_tick : {W : Type 0} (old new : WatchView W) (ks after : List Kept) (f : Feeder) → TellsEach old f (told_at_tick (window_of ks f.0)) new → after ≡ ended_in ks f.0 → TakesEach old ks f (i.Tick ∷ []) after new
takes_tick old new ks after f told ended = record { told = told; noted = ended }

-- memory is wanted before anything was told
pub wants_none : {W : Type 0} (w : WatchView W) (f : Feeder) (due : List (ℕ × ℤ)) (ks : List Kept) → Stops w f due u.NoMemory ks w
wants_none w f due ks = record { front = []; rest = due; parted = refl; behind = w; each = refl; why = inl refl }

-- ---- a batch, one by one

pub takes_next : {W : Type 0} (old now new : WatchView W) (ks mid after : List Kept) (f : Feeder) (batch : List Item) (n : ℕ) (d : Item) → n < length batch
    → TakesEach old ks f (take n batch) mid now → TakesEach now mid f (get_or batch n d ∷ []) after new → TakesEach old ks f (take (n + 1) batch) after new
takes_next old now new ks mid after f batch n d within first last =
    subst (λ (items : List Item). TakesEach old ks f items after new) (sym (take_more batch n d within)) (takes_more old now new ks mid after f (take n batch) (get_or batch n d) first last)

pub stops_next : {W : Type 0} (old now new : WatchView W) (ks mid after : List Kept) (f : Feeder) (batch : List Item) (n : ℕ) (d : Item) (untold : Untold) → n < length batch
    → TakesEach old ks f (take n batch) mid now → Stops now f (run_on (window_of mid f.0) (get_or batch n d ∷ [])).told untold after new → Stops old f (run_on (window_of ks f.0) batch).told untold after new
stops_next old now new ks mid after f batch n d untold within first stops =
    let whole : take n batch ++ get_or batch n d ∷ drop (n + 1) batch ≡ batch =
    sym (append_assoc (take n batch) (get_or batch n d ∷ []) (drop (n + 1) batch))
    ∙ ap (λ (items : List Item). items ++ drop (n + 1) batch) (sym (take_more batch n d within))
    ∙ take-append-drop (n + 1) batch in
    subst (λ (items : List Item). Stops old f (run_on (window_of ks f.0) items).told untold after new) whole
    (stops_in old now new ks mid after f (take n batch) (drop (n + 1) batch) (get_or batch n d) untold first stops)

pub rises_taken : {W : Type 0} (old new : WatchView W) (ks after : List Kept) (f : Feeder) (batch : List Item) (n : ℕ) → length batch ≤ n → IsWatch old → TakesEach old ks f (take n batch) after new
    → Rises old f (run_on (window_of ks f.0) batch).told new
rises_taken old new ks after f batch n all is takes =
    rises_each old new f (run_on (window_of ks f.0) batch).told is (subst (λ (items : List Item). TellsEach old f (run_on (window_of ks f.0) items).told new) (take_all n batch all) takes.told)
