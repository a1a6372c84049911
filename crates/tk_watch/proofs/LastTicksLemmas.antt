-- What a window holds is the sum over the last ticks of what its stream gave.
use Rattle.std.proofs.Common.{◌≡◌, ℕ, ◌+◌, ◌-◌, ℤ, pos, ◌+ℤ◌, List, [], ◌∷◌, ◌++◌, length, map, get_or, set, take, drop, refl, sym, ap, ◌∙◌, arith, append_assoc}
use Rattle.std.specs.Prelude.{neg_ℤ, flat_map, fold, replicate, All}
use Rattle.std.proofs.lemmas.Int.{ints}
use Rattle.std.proofs.lemmas.List.{append-nil, drop-append-le, drop-drop, drop-map, length-append, length-drop, length-map, map-append, take_all}
use Rattle.std.proofs.lemmas.List.Concat.{flat_map-append}
use Rattle.std.proofs.lemmas.List.Elements.{All-head, All-tail}
use Rattle.tk_input.specs.Logs.{IsObject, sum_for}
use Rattle.tk_stream.specs.Line.{entry_of}
use Rattle.tk_stream.specs.declared.item.Item.{Item}
use Rattle.tk_stream.specs.declared.item.Item.TheVariants as i
use Rattle.tk_window.specs.Ticks.{Entry, in_first, ticks_of}
use Rattle.tk_window.specs.Ticks.Entry.{Made, Mark}
use Rattle.tk_window.specs.Window.{window_sum}
use Rattle.tk_window.proofs.SumLemmas.{sum_for-append}
use Rattle.tk_recent.specs.Kept.{Kept, fresh, noted, opposite, staying, sum_with, sums_of, with_last}
use Rattle.tk_recent.specs.Run.{Run}
use Rattle.tk_recent.proofs.RunLemmas.{undone}
use Rattle.tk_recent.proofs.SumsLemmas.{length-sums_of, sum_for-opposite, sums_at, sums_more, sums_none}
use Rattle.tk_watch.specs.Laws.{WindowsHoldTheLastTicks, ticks_in}
use Rattle.tk_watch.specs.Windows.{IsItemIn, after_tick, held, run_on, taking}

-- ---- the ticks of what was given

-- the ticks that ended, and the one that runs
record Read : Type 0 where
  closed : List (List (ℕ × ℤ))
  last : List (ℕ × ℤ)

abbrev reading : Read → Item → Read
reading r (i.Record c) = record { closed = r.closed; last = r.last ++ (c.obj.0, c.by) ∷ [] }
reading r i.Tick = record { closed = r.closed ++ r.last ∷ []; last = [] }

-- changes in front of the first of some ticks
abbrev ahead : List (ℕ × ℤ) → List (List (ℕ × ℤ)) → List (List (ℕ × ℤ))
ahead last [] = last ∷ []
ahead last (tick ∷ rest) = (last ++ tick) ∷ rest

ahead_first : (last : List (ℕ × ℤ)) (c : ℕ × ℤ) (ticks : List (List (ℕ × ℤ))) → ahead last (in_first c ticks) ≡ ahead (last ++ c ∷ []) ticks
ahead_first last c [] = refl
ahead_first last c (tick ∷ rest) = ap (λ (t : List (ℕ × ℤ)). t ∷ rest) (sym (append_assoc last (c ∷ []) tick))

none_first : (c : ℕ × ℤ) (ticks : List (List (ℕ × ℤ))) → ahead [] (in_first c ticks) ≡ in_first c ticks
none_first c [] = refl
none_first c (tick ∷ rest) = refl

ahead_none : (entries : List Entry) → ahead [] (ticks_of entries) ≡ ticks_of entries
ahead_none [] = refl
ahead_none (Mark ∷ rest) = refl
ahead_none (Made c ∷ rest) = none_first c (ticks_of rest)

reads : (items : List Item) (r : Read) → r.closed ++ ahead r.last (ticks_of (map entry_of items)) ≡ (fold reading r items).closed ++ (fold reading r items).last ∷ []
reads [] r = ap (λ (t : List (ℕ × ℤ)). r.closed ++ t ∷ []) (append-nil r.last)
reads (i.Record c ∷ items) r =
    ap (λ (ticks : List (List (ℕ × ℤ))). r.closed ++ ticks) (ahead_first r.last (c.obj.0, c.by) (ticks_of (map entry_of items)))
    ∙ reads items (reading r (i.Record c))
reads (i.Tick ∷ items) r =
    let rest = ticks_of (map entry_of items) in
    ap (λ (t : List (ℕ × ℤ)). r.closed ++ t ∷ rest) (append-nil r.last)
    ∙ sym (append_assoc r.closed (r.last ∷ []) rest)
    ∙ ap (λ (ticks : List (List (ℕ × ℤ))). (r.closed ++ r.last ∷ []) ++ ticks) (sym (ahead_none (map entry_of items)))
    ∙ reads items (reading r i.Tick)

-- ---- what is kept of them

-- what is kept behind these ticks
record Stands (n wide : ℕ) (r : Read) (k : Kept) : Type 0 where
  width : k.width ≡ wide
  ended : k.ended ≡ map (undone n) (drop (length r.closed - wide) r.closed)
  sums : k.sums ≡ sums_of n r.last
  back : k.back ≡ []

stands_first : (n wide : ℕ) → Stands n wide (record { closed = []; last = [] }) (fresh n wide)
stands_first n wide =
    let none : 0 - wide ≡ 0 = omega arith in
    record { width = refl; ended = ap (λ m. map (undone n) (drop m [])) (sym none); sums = sums_none n; back = refl }

stands_record : (n wide : ℕ) (r : Read) (k : Kept) (c : ℕ × ℤ) → IsObject n c.0 → Stands n wide r k → Stands n wide (record { closed = r.closed; last = r.last ++ c ∷ [] }) (noted k c)
stands_record n wide r k c is so = record {
  width = so.width;
  ended = so.ended;
  sums = ap (λ (sums : List ℤ). set sums (c.0 - 1) (sum_with sums c)) so.sums ∙ sums_more n r.last c is;
  back = so.back;
}

stands_tick : (n wide : ℕ) (r : Read) (k : Kept) → Stands n wide r k → Stands n wide (record { closed = r.closed ++ r.last ∷ []; last = [] }) (after_tick k)
stands_tick n wide r k so =
    let m : ℕ = length r.closed in
    let all : List (List (ℕ × ℤ)) = r.closed ++ r.last ∷ [] in
    let size : length all ≡ m + 1 = length-append r.closed (r.last ∷ []) in
    let within : List (List (ℕ × ℤ)) = map (undone n) (drop (m - wide) all) in
    let joined : with_last k ≡ within =
    ap (λ (xs : List (List (ℕ × ℤ))). xs ++ opposite k.sums ∷ []) so.ended
    ∙ ap (λ (sums : List ℤ). map (undone n) (drop (m - wide) r.closed) ++ opposite sums ∷ []) so.sums
    ∙ sym (map-append (undone n) (drop (m - wide) r.closed) (r.last ∷ []))
    ∙ ap (map (undone n)) (sym (drop-append-le (m - wide) r.closed (r.last ∷ []) (omega arith))) in
    let long : length within ≡ (m + 1) - (m - wide) = length-map (drop (m - wide) all) (undone n) ∙ length-drop (m - wide) all ∙ ap (λ l. l - (m - wide)) size in
    let over : ℕ = ((m + 1) - (m - wide)) - wide in
    let number : (m - wide) + over ≡ length all - wide = omega (arith, size) in
    record {
      width = so.width;
      ended =
          ap (λ w. staying w (with_last k)) so.width
          ∙ ap (staying wide) joined
          ∙ ap (λ l. drop (l - wide) within) long
          ∙ drop-map (undone n) over (drop (m - wide) all)
          ∙ ap (map (undone n)) (drop-drop over (m - wide) all)
          ∙ ap (λ l. map (undone n) (drop l all)) number;
      sums = ap (λ (sums : List ℤ). replicate (length sums) (pos 0)) so.sums ∙ ap (λ l. replicate l (pos 0)) (length-sums_of n r.last) ∙ sums_none n;
      back = refl;
    }

stands_then : (n wide : ℕ) (items : List Item) (r : Read) (s : Run) → All (IsItemIn n) items → Stands n wide r s.kept → Stands n wide (fold reading r items) (fold taking s items).kept
stands_then n wide [] r s are so = so
stands_then n wide (i.Record c ∷ items) r s are so =
    stands_then n wide items (reading r (i.Record c)) (taking s (i.Record c)) (All-tail (IsItemIn n) (i.Record c) items are)
    (stands_record n wide r s.kept (c.obj.0, c.by) (All-head (IsItemIn n) (i.Record c) items are) so)
stands_then n wide (i.Tick ∷ items) r s are so =
    stands_then n wide items (reading r i.Tick) (taking s i.Tick) (All-tail (IsItemIn n) i.Tick items are) (stands_tick n wide r s.kept so)

-- ---- what it sums to

opposites : (n o : ℕ) (ticks : List (List (ℕ × ℤ))) → IsObject n o → sum_for o (flat_map (λ (tick : List (ℕ × ℤ)). tick) (map (undone n) ticks)) ≡ neg_ℤ (sum_for o (flat_map (λ (tick : List (ℕ × ℤ)). tick) ticks))
opposites n o [] is = refl
opposites n o (tick ∷ ticks) is =
    let rest = opposites n o ticks is in
    let one = sum_for-opposite n tick o is in
    let left = sum_for-append o (undone n tick) (flat_map (λ (t : List (ℕ × ℤ)). t) (map (undone n) ticks)) in
    let right = sum_for-append o tick (flat_map (λ (t : List (ℕ × ℤ)). t) ticks) in
    omega (arith, ints, rest, one, left, right)

held_stands : (n wide o : ℕ) (r : Read) (k : Kept) (all : List (List (ℕ × ℤ))) → IsObject n o → Stands n wide r k → all ≡ r.closed ++ r.last ∷ []
    → held o k ≡ window_sum (wide + 1) all (length all) o
held_stands n wide o r k all is so same =
    let low = is.0 in
    let high = is.1 in
    let m : ℕ = length r.closed in
    let size : length all ≡ m + 1 = ap (λ (xs : List (List (ℕ × ℤ))). length xs) same ∙ length-append r.closed (r.last ∷ []) in
    let inside : List (List (ℕ × ℤ)) = drop (m - wide) r.closed in
    let number : length all - (wide + 1) ≡ m - wide = omega (arith, size) in
    let window : drop (length all - (wide + 1)) (take (length all) all) ≡ inside ++ r.last ∷ [] =
    ap (drop (length all - (wide + 1))) (take_all (length all) all (omega arith))
    ∙ ap (λ l. drop l all) number
    ∙ ap (drop (m - wide)) same
    ∙ drop-append-le (m - wide) r.closed (r.last ∷ []) (omega arith) in
    let sums : sum_for o (flat_map (λ (tick : List (ℕ × ℤ)). tick) (inside ++ r.last ∷ [])) ≡ sum_for o (flat_map (λ (tick : List (ℕ × ℤ)). tick) inside) +ℤ sum_for o r.last =
    ap (sum_for o) (flat_map-append (λ (tick : List (ℕ × ℤ)). tick) inside (r.last ∷ []) ∙ ap (λ (cs : List (ℕ × ℤ)). flat_map (λ (tick : List (ℕ × ℤ)). tick) inside ++ cs) (append-nil r.last))
    ∙ sum_for-append o (flat_map (λ (tick : List (ℕ × ℤ)). tick) inside) r.last in
    let right = ap (λ (ticks : List (List (ℕ × ℤ))). sum_for o (flat_map (λ (tick : List (ℕ × ℤ)). tick) ticks)) window ∙ sums in
    let runs : get_or k.sums (o - 1) (pos 0) ≡ sum_for o r.last = ap (λ (xs : List ℤ). get_or xs (o - 1) (pos 0)) so.sums ∙ sums_at n r.last (o - 1) o (omega (arith, low, high)) (omega (arith, low)) in
    let past : sum_for o (flat_map (λ (tick : List (ℕ × ℤ)). tick) k.ended) ≡ neg_ℤ (sum_for o (flat_map (λ (tick : List (ℕ × ℤ)). tick) inside)) =
    ap (λ (ticks : List (List (ℕ × ℤ))). sum_for o (flat_map (λ (tick : List (ℕ × ℤ)). tick) ticks)) so.ended ∙ opposites n o inside is in
    let none : sum_for o k.back ≡ pos 0 = ap (sum_for o) so.back in
    omega (arith, ints, right, runs, past, none)

pub hold_the_last_ticks : WindowsHoldTheLastTicks
hold_the_last_ticks n width o items are is =
    let start : Read = record { closed = []; last = [] } in
    let r = fold reading start items in
    held_stands n width o r (run_on (fresh n width) items).kept (ticks_in items) is
    (stands_then n width items start (record { kept = fresh n width; told = [] }) are (stands_first n width))
    (sym (ahead_none (map entry_of items)) ∙ reads items start)
