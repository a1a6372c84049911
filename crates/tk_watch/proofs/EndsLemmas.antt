-- Where the ticks of streams ended, whatever is told, taken back or begun anew.
use Rattle.std.proofs.Common.{◌≡◌, ℕ, zero, suc, ◌-◌, ◌<◌, ◌≤◌, List, [], ◌∷◌, ◌++◌, length, map, get_or, set, inl, inr, None, Option, Some, refl, sym, ap, ◌∙◌, subst, arith}
use Rattle.std.specs.Prelude.{ℤ, Err, IfOk, IfSome, Ok, Result, replicate}
use Rattle.std.proofs.Math.Logic.{∥∥₁_map}
use Rattle.std.proofs.lemmas.Bool.{cases_eq}
use Rattle.std.proofs.lemmas.List.{get_or-set_other, get_or-set_same, get_or-replicate, length-append, length-replicate, length-set, map-append}
use Rattle.std.proofs.lemmas.List.Elements.{All-nil, All-push}
use Rattle.tk_input.specs.Logs.{IsObject}
use Rattle.tk_input.specs.declared.change.Change.{Change}
use Rattle.tk_recent.specs.Kept.{Kept, fresh, noted, taken, ticked}
use Rattle.tk_recent.specs.Run.{Run}
use Rattle.tk_stream.specs.Line.{entry_of}
use Rattle.tk_stream.specs.declared.item.Item.{Item}
use Rattle.tk_stream.specs.declared.item.Item.TheVariants as i
use Rattle.tk_window.specs.Ticks.{Entry, in_first, ticks_of}
use Rattle.tk_window.specs.Ticks.Entry.{Made, Mark}
use Rattle.tk_wire.specs.Meanings.{raised_by}
use Rattle.tk_watch.specs.Each.{risen}
use Rattle.tk_watch.specs.Ends.{AreEnds, HasRun, HasTicked, HaveTicked, IsAtEnd, TickEndView, TickEndsView, counted_in, ends_for, noted_at}
use Rattle.tk_watch.specs.Fresh.{windows_for}
use Rattle.tk_watch.specs.Laws.{ticks_in}
use Rattle.tk_watch.specs.Watch.{IsWatch, Named, WatchView, named_of}
use Rattle.tk_watch.specs.Windows.{AreBalanced, AreWindows, IsItemIn, Notes, Takes, after_tick, ended_in, run_on, ticked_in, window_of}
use Rattle.tk_watch.specs.declared.plan.Window.{Window}
use Rattle.tk_watch.specs.declared.told.Told.{Told}
use Rattle.tk_watch.specs.declared.told.Told.TheVariants as t
use Rattle.tk_watch.proofs.TakingLemmas.{run_more}

-- ---- the ticks of what was given

length_first : (c : ℕ × ℤ) (ticks : List (List (ℕ × ℤ))) → 1 ≤ length ticks → length (in_first c ticks) ≡ length ticks
length_first c [] some = absurd (omega (arith, some))
length_first c (tick ∷ rest) some = refl

some_tick : (entries : List Entry) → 1 ≤ length (ticks_of entries)
some_tick [] = omega arith
some_tick (Mark ∷ rest) = omega arith
some_tick (Made c ∷ rest) = let more = some_tick rest in omega (arith, more, length_first c (ticks_of rest) more)

in_first_mark : (c : ℕ × ℤ) (ticks : List (List (ℕ × ℤ))) → 1 ≤ length ticks → in_first c (ticks ++ [] ∷ []) ≡ in_first c ticks ++ [] ∷ []
in_first_mark c [] some = absurd (omega (arith, some))
in_first_mark c (tick ∷ rest) some = refl

-- a mark more
ticks_mark : (entries : List Entry) → ticks_of (entries ++ Mark ∷ []) ≡ ticks_of entries ++ [] ∷ []
ticks_mark [] = refl
ticks_mark (Mark ∷ rest) = ap (λ (ts : List (List (ℕ × ℤ))). [] ∷ ts) (ticks_mark rest)
ticks_mark (Made c ∷ rest) = ap (in_first c) (ticks_mark rest) ∙ in_first_mark c (ticks_of rest) (some_tick rest)

-- a change more
ticks_made : (entries : List Entry) (c : ℕ × ℤ) → length (ticks_of (entries ++ Made c ∷ [])) ≡ length (ticks_of entries)
ticks_made [] c = refl
ticks_made (Mark ∷ rest) c = ap suc (ticks_made rest c)
ticks_made (Made d ∷ rest) c =
    length_first d (ticks_of (rest ++ Made c ∷ [])) (some_tick (rest ++ Made c ∷ []))
    ∙ ticks_made rest c
    ∙ sym (length_first d (ticks_of rest) (some_tick rest))

ticks_more : (items : List Item) → ticks_in (items ++ i.Tick ∷ []) ≡ ticks_in items ++ [] ∷ []
ticks_more items = ap ticks_of (map-append entry_of items (i.Tick ∷ [])) ∙ ticks_mark (map entry_of items)

ticks_same : (items : List Item) (c : Change) → length (ticks_in (items ++ i.Record c ∷ [])) ≡ length (ticks_in items)
ticks_same items c =
    ap (λ (es : List Entry). length (ticks_of es)) (map-append entry_of items (i.Record c ∷ []))
    ∙ ticks_made (map entry_of items) (c.obj.0, c.by)

-- ---- one window

risen_more : (n count : ℕ) → risen (suc n) count ≡ raised_by 1 (risen n count)
risen_more zero count = refl
risen_more (suc n) count = risen_more n (raised_by 1 count)

run_first : (objects width : ℕ) → HasRun objects (fresh objects width) 0
run_first objects width = record { items = []; known = All-nil (IsItemIn objects); window = refl; count = refl }

run_noted : (objects ended : ℕ) (k : Kept) (c : Change) → IsObject objects c.obj.0 → HasRun objects k ended → HasRun objects (noted k (c.obj.0, c.by)) ended
run_noted objects ended k c is run = record {
  items = run.items ++ i.Record c ∷ [];
  known = All-push (IsItemIn objects) run.items (i.Record c) run.known is;
  window =
      ap (λ (w : Kept). noted w (c.obj.0, c.by)) run.window
      ∙ sym (ap (λ (r : Run). r.kept) (run_more (fresh objects k.width) run.items (i.Record c)));
  count = run.count ∙ ap (λ n. risen (n - 1) 0) (sym (ticks_same run.items c));
}

run_taken : (objects ended : ℕ) (k : Kept) → HasRun objects k ended → HasRun objects (taken k) ended
run_taken objects ended k run = record { items = run.items; known = run.known; window = run.window; count = run.count }

-- a tick ends
window_ticked : (objects : ℕ) (k : Kept) (items : List Item) → record k { back = [] } ≡ (run_on (fresh objects k.width) items).kept → after_tick k ≡ (run_on (fresh objects k.width) (items ++ i.Tick ∷ [])).kept
window_ticked objects k items is = ap after_tick is ∙ sym (ap (λ (r : Run). r.kept) (run_more (fresh objects k.width) items i.Tick))

count_ticked : (ended : ℕ) (items : List Item) → ended ≡ risen (length (ticks_in items) - 1) 0 → raised_by 1 ended ≡ risen (length (ticks_in items)) 0
count_ticked ended items is =
    let n : ℕ = length (ticks_in items) - 1 in
    let some = some_tick (map entry_of items) in
    let whole : suc n ≡ length (ticks_in items) = omega (arith, some) in
    ap (raised_by 1) is ∙ sym (risen_more n 0) ∙ ap (λ m. risen m 0) whole

run_ticked : (objects ended : ℕ) (k : Kept) → HasRun objects k ended → HasRun objects (ticked k) (raised_by 1 ended)
run_ticked objects ended k run =
    let size : length (ticks_in (run.items ++ i.Tick ∷ [])) - 1 ≡ length (ticks_in run.items) =
    ap (λ (ts : List (List (ℕ × ℤ))). length ts - 1) (ticks_more run.items) ∙ omega (arith, length-append (ticks_in run.items) ([] ∷ [])) in
    record {
      items = run.items ++ i.Tick ∷ [];
      known = All-push (IsItemIn objects) run.items i.Tick run.known tt;
      window = window_ticked objects k run.items run.window;
      count = count_ticked ended run.items run.count ∙ ap (λ n. risen n 0) (sym size);
    }

-- and what it moved out of the window was taken back
end_ticked : (objects ended : ℕ) (k : Kept) → HasRun objects k ended → IsAtEnd objects (after_tick k) (raised_by 1 ended)
end_ticked objects ended k run = record {
  items = run.items ++ i.Tick ∷ [];
  known = All-push (IsItemIn objects) run.items i.Tick run.known tt;
  window = window_ticked objects k run.items run.window;
  ticks = ticks_in run.items;
  parted = ticks_more run.items;
  count = count_ticked ended run.items run.count;
}

end_first : (objects width : ℕ) → IsAtEnd objects (fresh objects width) 0
end_first objects width = record { items = []; known = All-nil (IsItemIn objects); window = refl; ticks = []; parted = refl; count = refl }

-- ---- those of all streams

-- another window in the place of one
ends_set : (W : Type 0) (named : Named) (ks : List Kept) (ends : TickEndsView) (g : ℕ) (k : Kept) → 1 ≤ g → AreEnds W named ks ends → (g ≤ length ks → ∥ HasRun named.objects k (get_or ends.ended (g - 1) 0) ∥₁) → AreEnds W named (set ks (g - 1) k) ends
ends_set W named ks ends g k low are is =
    let size : length (set ks (g - 1) k) ≡ length ks = length-set ks (g - 1) k in
    record {
      ended = are.ended ∙ sym size;
      ticks = are.ticks ∙ sym size;
      places = are.places ∙ sym size;
      runs = λ j from within. (
          let inside : j ≤ length ks = omega (arith, within, size) in
          elim (cases_eq j g) [
            | inl same ↦
                let here : ∥ HasRun named.objects k (get_or ends.ended (g - 1) 0) ∥₁ = is (omega (arith, same, inside)) in
                let at : window_of (set ks (g - 1) k) g ≡ k = get_or-set_same ks (g - 1) k (fresh 0 0) (omega (arith, same, inside, low)) in
                subst (λ n. ∥ HasRun named.objects (window_of (set ks (g - 1) k) n) (get_or ends.ended (n - 1) 0) ∥₁) (sym same) (subst (λ (w : Kept). ∥ HasRun named.objects w (get_or ends.ended (g - 1) 0) ∥₁) (sym at) here)
            | inr apart ↦
                let at : window_of (set ks (g - 1) k) j ≡ window_of ks j = get_or-set_other ks (g - 1) (j - 1) k (fresh 0 0) (λ e. apart (omega (arith, e, from, low))) in
                subst (λ (w : Kept). ∥ HasRun named.objects w (get_or ends.ended (j - 1) 0) ∥₁) (sym at) (are.runs j from inside)
          ]);
      each = λ j from within. are.each j from (omega (arith, within, size));
    }

pub ends_noted : (W : Type 0) (named : Named) (ks new : List Kept) (ends : TickEndsView) (g : ℕ) (c : Change) (told : Told) → 1 ≤ g → IsObject named.objects c.obj.0 → AreEnds W named ks ends → Notes ks g (c.obj.0, c.by) told new → AreEnds W named new ends
ends_noted W named ks new ends g c (t.Done broken anew) low is are notes =
    let k = window_of ks g in
    subst (λ (ws : List Kept). AreEnds W named ws ends) (sym notes)
    (ends_set W named ks ends g (noted k (c.obj.0, c.by)) low are (λ within. ∥∥₁_map (are.runs g low within) (run_noted named.objects (get_or ends.ended (g - 1) 0) k c is)))
ends_noted W named ks new ends g c t.Closed low is are notes = subst (λ (ws : List Kept). AreEnds W named ws ends) (sym notes) are
ends_noted W named ks new ends g c t.TooGreat low is are notes = subst (λ (ws : List Kept). AreEnds W named ws ends) (sym notes) are
ends_noted W named ks new ends g c t.NoMemory low is are notes = subst (λ (ws : List Kept). AreEnds W named ws ends) (sym notes) are

pub ends_taken : (W : Type 0) (named : Named) (ks new : List Kept) (ends : TickEndsView) (g : ℕ) (told : Told) → 1 ≤ g → AreEnds W named ks ends → Takes ks g told new → AreEnds W named new ends
ends_taken W named ks new ends g (t.Done broken anew) low are takes =
    let k = window_of ks g in
    subst (λ (ws : List Kept). AreEnds W named ws ends) (sym takes)
    (ends_set W named ks ends g (taken k) low are (λ within. ∥∥₁_map (are.runs g low within) (run_taken named.objects (get_or ends.ended (g - 1) 0) k)))
ends_taken W named ks new ends g t.Closed low are takes = subst (λ (ws : List Kept). AreEnds W named ws ends) (sym takes) are
ends_taken W named ks new ends g t.TooGreat low are takes = subst (λ (ws : List Kept). AreEnds W named ws ends) (sym takes) are
ends_taken W named ks new ends g t.NoMemory low are takes = subst (λ (ws : List Kept). AreEnds W named ws ends) (sym takes) are

-- a tick was counted
pub ends_ticked : (W : Type 0) (named : Named) (ks new : List Kept) (ends then : TickEndsView) (g : ℕ) → 1 ≤ g → AreEnds W named ks ends → new ≡ ticked_in ks g → then ≡ counted_in ends g → AreEnds W named new then
ends_ticked W named ks new ends then g low are ticks counts =
    let k = window_of ks g in
    let n = get_or ends.ended (g - 1) 0 in
    let next : List Kept = ticked_in ks g in
    let size : length next ≡ length ks = length-set ks (g - 1) (ticked k) in
    let counted_ : TickEndsView = counted_in ends g in
    let number : length counted_.ended ≡ length ends.ended = length-set ends.ended (g - 1) (raised_by 1 n) in
    subst (λ (ws : List Kept). AreEnds W named ws then) (sym ticks)
    (subst (λ (e : TickEndsView). AreEnds W named next e) (sym counts)
    (record {
      ended = number ∙ are.ended ∙ sym size;
      ticks = are.ticks ∙ sym size;
      places = are.places ∙ sym size;
      runs = λ j from within. (
          let inside : j ≤ length ks = omega (arith, within, size) in
          elim (cases_eq j g) [
            | inl same ↦
                let within_ : g - 1 < length ks = omega (arith, same, inside, low) in
                let at : window_of next g ≡ ticked k = get_or-set_same ks (g - 1) (ticked k) (fresh 0 0) within_ in
                let count : get_or counted_.ended (g - 1) 0 ≡ raised_by 1 n = get_or-set_same ends.ended (g - 1) (raised_by 1 n) 0 (omega (arith, within_, are.ended)) in
                let here : ∥ HasRun named.objects (ticked k) (raised_by 1 n) ∥₁ = ∥∥₁_map (are.runs g low (omega (arith, same, inside))) (run_ticked named.objects n k) in
                subst (λ m. ∥ HasRun named.objects (window_of next m) (get_or counted_.ended (m - 1) 0) ∥₁) (sym same)
                (subst (λ (w : Kept). ∥ HasRun named.objects w (get_or counted_.ended (g - 1) 0) ∥₁) (sym at) (subst (λ m. ∥ HasRun named.objects (ticked k) m ∥₁) (sym count) here))
            | inr apart ↦
                let other : j - 1 ≡ g - 1 → ⊥ = λ e. apart (omega (arith, e, from, low)) in
                let at : window_of next j ≡ window_of ks j = get_or-set_other ks (g - 1) (j - 1) (ticked k) (fresh 0 0) other in
                let count : get_or counted_.ended (j - 1) 0 ≡ get_or ends.ended (j - 1) 0 = get_or-set_other ends.ended (g - 1) (j - 1) (raised_by 1 n) 0 other in
                subst (λ (w : Kept). ∥ HasRun named.objects w (get_or counted_.ended (j - 1) 0) ∥₁) (sym at) (subst (λ m. ∥ HasRun named.objects (window_of ks j) m ∥₁) (sym count) (are.runs j from inside))
          ]);
      each = λ j from within. are.each j from (omega (arith, within, size));
    }))

-- at the end of that tick
pub end_of : (W : Type 0) (named : Named) (ks new : List Kept) (ends then : TickEndsView) (g : ℕ) → 1 ≤ g → AreEnds W named ks ends → new ≡ ended_in ks g → then ≡ counted_in ends g
    → g ≤ length new → ∥ IsAtEnd named.objects (window_of new g) (get_or then.ended (g - 1) 0) ∥₁
end_of W named ks new ends then g low are ended counts within =
    let k = window_of ks g in
    let n = get_or ends.ended (g - 1) 0 in
    let size : length new ≡ length ks = ap (λ (ws : List Kept). length ws) ended ∙ length-set ks (g - 1) (after_tick k) in
    let inside : g - 1 < length ks = omega (arith, within, size, low) in
    let at : window_of new g ≡ after_tick k = ap (λ (ws : List Kept). window_of ws g) ended ∙ get_or-set_same ks (g - 1) (after_tick k) (fresh 0 0) inside in
    let count : get_or then.ended (g - 1) 0 ≡ raised_by 1 n = ap (λ (e : TickEndsView). get_or e.ended (g - 1) 0) counts ∙ get_or-set_same ends.ended (g - 1) (raised_by 1 n) 0 (omega (arith, inside, are.ended)) in
    subst (λ (w : Kept). ∥ IsAtEnd named.objects w (get_or then.ended (g - 1) 0) ∥₁) (sym at)
    (subst (λ m. ∥ IsAtEnd named.objects (after_tick k) m ∥₁) (sym count) (∥∥₁_map (are.runs g low (omega (arith, inside, low))) (end_ticked named.objects n k)))

-- it was noted
pub ends_at : {W : Type 0} (named : Named) (w : WatchView W) (ks : List Kept) (ends then : TickEndsView) (g place : ℕ) → 1 ≤ g
    → named_of w ≡ named → IsWatch w → AreWindows named ks → AreBalanced w.monitor ks → AreEnds W named ks ends
    → (g ≤ length ks → ∥ IsAtEnd named.objects (window_of ks g) (get_or ends.ended (g - 1) 0) ∥₁) → get_or w.counts (g - 1) 0 ≡ place → then ≡ noted_at ends g place → AreEnds W named ks then
ends_at {W} named w ks ends then g place low is kept are balanced have at_end at notes =
    let n = get_or ends.ended (g - 1) 0 in
    let ticks : List ℕ = set ends.last.ticks (g - 1) n in
    let places : List ℕ = set ends.last.places (g - 1) place in
    subst (λ (e : TickEndsView). AreEnds W named ks e) (sym notes)
    (record {
      ended = have.ended;
      ticks = length-set ends.last.ticks (g - 1) n ∙ have.ticks;
      places = length-set ends.last.places (g - 1) place ∙ have.places;
      runs = have.runs;
      each = λ j from within. (elim (cases_eq j g) [
        | inl same ↦
            let there : g ≤ length ks = omega (arith, same, within) in
            let tick_at : get_or ticks (g - 1) 0 ≡ n = get_or-set_same ends.last.ticks (g - 1) n 0 (omega (arith, there, low, have.ticks)) in
            let place_at : get_or places (g - 1) 0 ≡ place = get_or-set_same ends.last.places (g - 1) place 0 (omega (arith, there, low, have.places)) in
            let here : ∥ HasTicked W named g n place ∥₁ = ∥∥₁_map (at_end there) (λ so. record { watch = w; named_is = is; kept = kept; windows = ks; are = are; balanced = balanced; within = there; at_end = so; place_is = at }) in
            subst (λ m. ∥ HasTicked W named m (get_or ticks (m - 1) 0) (get_or places (m - 1) 0) ∥₁) (sym same)
            (subst (λ m. ∥ HasTicked W named g m (get_or places (g - 1) 0) ∥₁) (sym tick_at) (subst (λ p. ∥ HasTicked W named g n p ∥₁) (sym place_at) here))
        | inr apart ↦
            let other : j - 1 ≡ g - 1 → ⊥ = λ e. apart (omega (arith, e, from, low)) in
            let tick_at : get_or ticks (j - 1) 0 ≡ get_or ends.last.ticks (j - 1) 0 = get_or-set_other ends.last.ticks (g - 1) (j - 1) n 0 other in
            let place_at : get_or places (j - 1) 0 ≡ get_or ends.last.places (j - 1) 0 = get_or-set_other ends.last.places (g - 1) (j - 1) place 0 other in
            subst (λ m. ∥ HasTicked W named j m (get_or places (j - 1) 0) ∥₁) (sym tick_at) (subst (λ p. ∥ HasTicked W named j (get_or ends.last.ticks (j - 1) 0) p ∥₁) (sym place_at) (have.each j from within))
      ]);
    })

-- none has ended yet
pub ends_first : {W : Type 0} (named : Named) (w : WatchView W) (window : Option Window) (ks : List Kept) (ends : TickEndsView) → ks ≡ windows_for window named.streams named.objects → ends ≡ ends_for window w.counts
    → named_of w ≡ named → IsWatch w → length w.counts ≡ named.streams → AreWindows named ks → AreBalanced w.monitor ks → AreEnds W named ks ends
ends_first {W} named w None ks ends windows_are ends_are is kept counts are balanced =
    subst (λ (e : TickEndsView). AreEnds W named ks e) (sym ends_are)
    (let none : length ks ≡ 0 = ap (λ (ws : List Kept). length ws) windows_are in
    record {
      ended = sym none;
      ticks = sym none;
      places = sym none;
      runs = λ g from within. absurd (omega (arith, from, within, none));
      each = λ g from within. absurd (omega (arith, from, within, none));
    })
ends_first {W} named w (Some window) ks ends windows_are ends_are is kept counts are balanced =
    let k = fresh named.objects window.width in
    let zeros : List ℕ = replicate (length w.counts) 0 in
    let size : length ks ≡ named.streams = ap (λ (ws : List Kept). length ws) windows_are ∙ length-replicate named.streams k in
    let number : length zeros ≡ length ks = length-replicate (length w.counts) 0 ∙ counts ∙ sym size in
    let at : (g : ℕ) → 1 ≤ g → g ≤ length ks → window_of ks g ≡ k = λ g from within. ap (λ (ws : List Kept). window_of ws g) windows_are ∙ get_or-replicate named.streams (g - 1) k (fresh 0 0) (omega (arith, from, within, size)) in
    let nothing : (g : ℕ) → 1 ≤ g → g ≤ length ks → get_or zeros (g - 1) 0 ≡ 0 = λ g from within. get_or-replicate (length w.counts) (g - 1) 0 0 (omega (arith, from, within, size, counts)) in
    subst (λ (e : TickEndsView). AreEnds W named ks e) (sym ends_are)
    (record {
      ended = number;
      ticks = number;
      places = counts ∙ sym size;
      runs = λ g from within. ∣ subst (λ (x : Kept). HasRun named.objects x (get_or zeros (g - 1) 0)) (sym (at g from within)) (subst (HasRun named.objects k) (sym (nothing g from within)) (run_first named.objects window.width)) ∣₁;
      each = λ g from within. ∣ record {
        watch = w;
        named_is = is;
        kept = kept;
        windows = ks;
        are = are;
        balanced = balanced;
        within = within;
        at_end = subst (λ (x : Kept). IsAtEnd named.objects x (get_or zeros (g - 1) 0)) (sym (at g from within)) (subst (IsAtEnd named.objects k) (sym (nothing g from within)) (end_first named.objects window.width));
        place_is = refl;
      } ∣₁;
    })

-- those that are told
have_ticked : (W : Type 0) (named : Named) (ks : List Kept) (ends : TickEndsView) (end : TickEndView) → AreWindows named ks → AreEnds W named ks ends → end ≡ ends.last → 0 < length ends.ended → HaveTicked W named end
have_ticked W named ks ends end are have is some =
    let size : length ks ≡ named.streams = are.streams (omega (arith, some, have.ended)) in
    subst (λ (e : TickEndView). HaveTicked W named e) (sym is) (record {
      ticks = have.ticks ∙ size;
      places = have.places ∙ size;
      each = λ g from within. have.each g from (omega (arith, within, size));
    })

pub told_ticked : {E : Type 0} (W : Type 0) (named : Named) (ks : List Kept) (ends : TickEndsView) (result : Result (Option TickEndView) E) → AreWindows named ks → AreEnds W named ks ends
    → IfOk result (λ told. IfSome told (λ end. end ≡ ends.last)) → IfOk result (λ told. IfSome told (λ end. 0 < length ends.ended)) → IfOk result (λ told. IfSome told (λ end. HaveTicked W named end))
told_ticked W named ks ends (Ok None) are have is some = tt
told_ticked W named ks ends (Ok (Some end)) are have is some = have_ticked W named ks ends end are have is some
told_ticked W named ks ends (Err e) are have is some = tt
