-- What is kept and what was told at the end of each tick of a stream.
use Rattle.std.proofs.Common.{◌≡◌, ℕ, zero, suc, ◌+◌, ◌-◌, ◌<◌, ◌≤◌, ℤ, pos, ◌+ℤ◌, List, [], ◌∷◌, ◌++◌, length, map, get_or, set, take, drop, refl, sym, ap, ◌∙◌, subst, arith, inl, inr, append_assoc}
use Rattle.std.specs.Prelude.{neg_ℤ, replicate, flat_map, fold, All}
use Rattle.std.specs.List.{range_with_len}
use Rattle.std.proofs.lemmas.Bool.{cases_lt}
use Rattle.std.proofs.lemmas.Int.{ints}
use Rattle.std.proofs.lemmas.List.{append-nil, drop-append-le, drop-drop, drop-map, get_or-take, length-drop, length-map, length-take-le, map-append, take_all, take_more}
use Rattle.std.proofs.lemmas.List.Concat.{flat_map-append}
use Rattle.std.proofs.lemmas.List.Elements.{All-head, All-tail}
use Rattle.std.proofs.lemmas.List.Sums.{fold_push}
use Rattle.std.proofs.Math.Seq.{drop-cons}
use Rattle.tk_input.specs.Logs.{IsObject, sum_for}
use Rattle.tk_window.specs.Ticks.{AreOver}
use Rattle.tk_window.specs.Window.{changes_at, step_to, up_to, withdrawn}
use Rattle.tk_window.proofs.SumLemmas.{sum_for-append, sum_for-withdrawn}
use Rattle.tk_window.proofs.WindowLemmas.{moved_is_window, range_more, up_to_more, up_to_none}
use Rattle.tk_recent.specs.Kept.{fresh, leaving, opposite, staying, sum_with, sums_of, ticked, with_last}
use Rattle.tk_recent.specs.Laws.{SumsAreThoseOfTheExpandedLog, TicksAreToldInOrder, ValuesAreThoseOfTheWindow}
use Rattle.tk_recent.specs.Run.{Run, given, run, tick_given, told_in, told_to}
use Rattle.tk_recent.proofs.SumsLemmas.{length-sums_of, opposite_none, sum_for-opposite, sums_more, sums_none}

-- what takes a tick back
abbrev pub undone : ℕ → List (ℕ × ℤ) → List (ℕ × ℤ)
undone n changes = opposite (sums_of n changes)

-- what is told of one tick more
told_to_more : (n width : ℕ) (ticks : List (List (ℕ × ℤ))) (t : ℕ) → told_to n width ticks (suc t) ≡ told_to n width ticks t ++ told_in n width ticks (suc t)
unfolding told_to
told_to_more n width ticks t =
    let next : t + 1 ≡ suc t = omega arith in
    let number : 1 + t ≡ suc t = omega arith in
    let tell : ℕ → List (ℕ × ℤ) = told_in n width ticks in
    ap (λ k. flat_map tell (range_with_len 1 k)) (sym next)
    ∙ ap (λ (ts : List ℕ). flat_map tell ts) (range_more 1 t)
    ∙ flat_map-append tell (range_with_len 1 t) ((1 + t) ∷ [])
    ∙ ap (λ (cs : List (ℕ × ℤ)). flat_map tell (range_with_len 1 t) ++ cs) (append-nil (tell (1 + t)))
    ∙ ap (λ k. flat_map tell (range_with_len 1 t) ++ tell k) number

told_to_none : (n width : ℕ) (ticks : List (List (ℕ × ℤ))) → told_to n width ticks 0 ≡ []
unfolding told_to
told_to_none n width ticks = refl

-- ---- a tick's records

-- so a run is, whose tick has these changes behind another's
record Goes (n : ℕ) (changes : List (ℕ × ℤ)) (more : List (ℕ × ℤ)) (old new : Run) : Type 0 where
  width : new.kept.width ≡ old.kept.width
  ended : new.kept.ended ≡ old.kept.ended
  sums : new.kept.sums ≡ sums_of n (changes ++ more)
  told : new.told ≡ old.told ++ more

goes : (n : ℕ) (changes more : List (ℕ × ℤ)) (r : Run) → AreOver n more → r.kept.sums ≡ sums_of n changes → Goes n changes more r (fold given r more)
goes n changes [] r over is = record {
  width = refl;
  ended = refl;
  sums = is ∙ ap (sums_of n) (sym (append-nil changes));
  told = sym (append-nil r.told);
}
goes n changes (c ∷ more) r over is =
    let P : ℕ × ℤ → Type 0 = λ c. IsObject n c.0 in
    let now : (given r c).kept.sums ≡ sums_of n (changes ++ c ∷ []) =
    ap (λ (sums : List ℤ). set sums (c.0 - 1) (sum_with sums c)) is ∙ sums_more n changes c (All-head P c more over) in
    let rest = goes n (changes ++ c ∷ []) more (given r c) (All-tail P c more over) now in
    record {
      width = rest.width;
      ended = rest.ended;
      sums = rest.sums ∙ ap (sums_of n) (append_assoc changes (c ∷ []) more);
      told = rest.told ∙ append_assoc r.told (c ∷ []) more;
    }

-- ---- the end of a tick

-- those of the first t ticks that are in the window, as they are kept
abbrev within_to : ℕ → ℕ → List (List (ℕ × ℤ)) → ℕ → List (List (ℕ × ℤ))
within_to n width ticks t = map (undone n) (drop (t - width) (take t ticks))

next_take : (ticks : List (List (ℕ × ℤ))) (t : ℕ) → t < length ticks → take (suc t) ticks ≡ take t ticks ++ changes_at ticks (suc t) ∷ []
next_take ticks t inside = let next : suc t ≡ t + 1 = omega arith in ap (λ k. take k ticks) next ∙ take_more ticks t [] inside

-- one tick more, before the oldest leaves
one_more_within : (n width : ℕ) (ticks : List (List (ℕ × ℤ))) (t : ℕ) → t < length ticks
    → within_to n width ticks t ++ undone n (changes_at ticks (suc t)) ∷ [] ≡ map (undone n) (drop (t - width) (take (suc t) ticks))
one_more_within n width ticks t inside =
    let last = changes_at ticks (suc t) in
    let size : length (take t ticks) ≡ t = length-take-le t ticks (omega (arith, inside)) in
    sym (map-append (undone n) (drop (t - width) (take t ticks)) (last ∷ []))
    ∙ ap (map (undone n)) (sym (drop-append-le (t - width) (take t ticks) (last ∷ []) (omega (arith, size))))
    ∙ ap (λ (xs : List (List (ℕ × ℤ))). map (undone n) (drop (t - width) xs)) (sym (next_take ticks t inside))

-- how many those are
length_within : (n width : ℕ) (ticks : List (List (ℕ × ℤ))) (t : ℕ) → t < length ticks → length (map (undone n) (drop (t - width) (take (suc t) ticks))) ≡ suc t - (t - width)
length_within n width ticks t inside =
    length-map (drop (t - width) (take (suc t) ticks)) (undone n)
    ∙ length-drop (t - width) (take (suc t) ticks)
    ∙ ap (λ k. k - (t - width)) (length-take-le (suc t) ticks (omega (arith, inside)))

-- those that stay
stay : (n width : ℕ) (ticks : List (List (ℕ × ℤ))) (t : ℕ) → t < length ticks → staying width (map (undone n) (drop (t - width) (take (suc t) ticks))) ≡ within_to n width ticks (suc t)
stay n width ticks t inside =
    let xs = take (suc t) ticks in
    let over : ℕ = (suc t - (t - width)) - width in
    let number : (t - width) + over ≡ suc t - width = omega arith in
    ap (λ k. drop (k - width) (map (undone n) (drop (t - width) xs))) (length_within n width ticks t inside)
    ∙ drop-map (undone n) over (drop (t - width) xs)
    ∙ ap (map (undone n)) (drop-drop over (t - width) xs)
    ∙ ap (λ k. map (undone n) (drop k xs)) number

-- the one that leaves, if one does
leave_one : (n width : ℕ) (ticks : List (List (ℕ × ℤ))) (t : ℕ) → t < length ticks → width ≤ t
    → flat_map (λ (tick : List (ℕ × ℤ)). tick) (take 1 (map (undone n) (drop (t - width) (take (suc t) ticks)))) ≡ undone n (changes_at ticks (suc (t - width)))
leave_one n width ticks t inside low =
    let xs = take (suc t) ticks in
    let behind : ℕ = t - width in
    let size : length xs ≡ suc t = length-take-le (suc t) ticks (omega (arith, inside)) in
    ap (λ (ys : List (List (ℕ × ℤ))). flat_map (λ (tick : List (ℕ × ℤ)). tick) (take 1 (map (undone n) ys))) (drop-cons xs behind [] (omega (arith, size)))
    ∙ append-nil (undone n (get_or xs behind []))
    ∙ ap (undone n) (get_or-take (suc t) ticks behind [] (omega arith))

leave : (n width : ℕ) (ticks : List (List (ℕ × ℤ))) (t : ℕ) → t < length ticks
    → flat_map (λ (tick : List (ℕ × ℤ)). tick) (leaving width (map (undone n) (drop (t - width) (take (suc t) ticks)))) ≡ undone n (changes_at ticks (suc t - width))
leave n width ticks t inside =
    let all = map (undone n) (drop (t - width) (take (suc t) ticks)) in
    ap (λ k. flat_map (λ (tick : List (ℕ × ℤ)). tick) (take (k - width) all)) (length_within n width ticks t inside)
    ∙ elim (cases_lt t width) [
      | inl early ↦
          let none : (suc t - (t - width)) - width ≡ 0 = omega (arith, early) in
          let first : suc t - width ≡ 0 = omega (arith, early) in
          ap (λ k. flat_map (λ (tick : List (ℕ × ℤ)). tick) (take k all)) none
          ∙ sym (opposite_none n)
          ∙ ap (λ k. undone n (changes_at ticks k)) (sym first)
      | inr late ↦
          let one : (suc t - (t - width)) - width ≡ 1 = omega (arith, late) in
          let first : suc t - width ≡ suc (t - width) = omega (arith, late) in
          ap (λ k. flat_map (λ (tick : List (ℕ × ℤ)). tick) (take k all)) one
          ∙ leave_one n width ticks t inside late
          ∙ ap (λ k. undone n (changes_at ticks k)) (sym first)
    ]

-- ---- a run

-- so it stands at the end of tick t
record Stands (n wide : ℕ) (ticks : List (List (ℕ × ℤ))) (t : ℕ) (r : Run) : Type 0 where
  width : r.kept.width ≡ wide
  ended : r.kept.ended ≡ within_to n wide ticks t
  sums : r.kept.sums ≡ sums_of n []
  told : r.told ≡ told_to n wide ticks t

stands_first : (n width : ℕ) (ticks : List (List (ℕ × ℤ))) → Stands n width ticks 0 (record { kept = fresh n width; told = [] })
stands_first n width ticks =
    let none : 0 - width ≡ 0 = omega arith in
    record {
      width = refl;
      ended = ap (λ k. map (undone n) (drop k (take 0 ticks))) (sym none);
      sums = sums_none n;
      told = sym (told_to_none n width ticks);
    }

stands_next : (n width : ℕ) (ticks : List (List (ℕ × ℤ))) (t : ℕ) (r : Run) → All (AreOver n) ticks → t < length ticks → Stands n width ticks t r
    → Stands n width ticks (suc t) (tick_given r (changes_at ticks (suc t)))
stands_next n width ticks t r over inside old =
    let last = changes_at ticks (suc t) in
    let gone = goes n [] last r (over t [] inside) old.sums in
    let mid = fold given r last in
    let all : with_last mid.kept ≡ map (undone n) (drop (t - width) (take (suc t) ticks)) =
    ap (λ (xs : List (List (ℕ × ℤ))). xs ++ opposite mid.kept.sums ∷ []) (gone.ended ∙ old.ended)
    ∙ ap (λ (sums : List ℤ). within_to n width ticks t ++ opposite sums ∷ []) gone.sums
    ∙ one_more_within n width ticks t inside in
    let wide : mid.kept.width ≡ width = gone.width ∙ old.width in
    let back : (ticked mid.kept).back ≡ undone n (changes_at ticks (suc t - width)) =
    ap (λ k. flat_map (λ (tick : List (ℕ × ℤ)). tick) (leaving k (with_last mid.kept))) wide
    ∙ ap (λ (xs : List (List (ℕ × ℤ))). flat_map (λ (tick : List (ℕ × ℤ)). tick) (leaving width xs)) all
    ∙ leave n width ticks t inside in
    record {
      width = wide;
      ended = ap (λ k. staying k (with_last mid.kept)) wide ∙ ap (staying width) all ∙ stay n width ticks t inside;
      sums = ap (λ (sums : List ℤ). replicate (length sums) (pos 0)) gone.sums ∙ ap (λ k. replicate k (pos 0)) (length-sums_of n last) ∙ sums_none n;
      told =
          ap (λ (cs : List (ℕ × ℤ)). cs ++ (ticked mid.kept).back) (gone.told ∙ ap (λ (cs : List (ℕ × ℤ)). cs ++ last) old.told)
          ∙ ap (λ (cs : List (ℕ × ℤ)). (told_to n width ticks t ++ last) ++ cs) back
          ∙ append_assoc (told_to n width ticks t) last (undone n (changes_at ticks (suc t - width)))
          ∙ sym (told_to_more n width ticks t);
    }

stands : (n width : ℕ) (ticks : List (List (ℕ × ℤ))) (t : ℕ) → All (AreOver n) ticks → t ≤ length ticks → Stands n width ticks t (run n width (take t ticks))
unfolding run
stands n width ticks zero over inside = stands_first n width ticks
stands n width ticks (suc t) over inside =
    let start : Run = record { kept = fresh n width; told = [] } in
    let low : t < length ticks = omega (arith, inside) in
    subst (Stands n width ticks (suc t)) (sym (ap (fold tick_given start) (next_take ticks t low) ∙ fold_push tick_given start (take t ticks) (changes_at ticks (suc t))))
    (stands_next n width ticks t (fold tick_given start (take t ticks)) over low (stands n width ticks t over (omega (arith, inside))))

-- what is told, tick by tick
pub told_in_order : TicksAreToldInOrder
told_in_order n width ticks over =
    ap (λ (ts : List (List (ℕ × ℤ))). (run n width ts).told) (sym (take_all (length ticks) ticks (omega arith)))
    ∙ (stands n width ticks (length ticks) over (omega arith)).told

-- ---- sums

turned : (old other coming going : ℤ) → old ≡ other → old +ℤ (coming +ℤ neg_ℤ going) ≡ other +ℤ (neg_ℤ going +ℤ coming)
turned old other coming going is = omega (arith, ints, is)

told_sums : (n width o : ℕ) (ticks : List (List (ℕ × ℤ))) (t : ℕ) → IsObject n o → sum_for o (told_to n width ticks t) ≡ sum_for o (up_to width ticks t)
told_sums n width o ticks zero is = ap (sum_for o) (told_to_none n width ticks ∙ sym (up_to_none width ticks))
told_sums n width o ticks (suc t) is =
    let coming = changes_at ticks (suc t) in
    let going = changes_at ticks (suc t - width) in
    ap (sum_for o) (told_to_more n width ticks t)
    ∙ sum_for-append o (told_to n width ticks t) (told_in n width ticks (suc t))
    ∙ ap (λ s. sum_for o (told_to n width ticks t) +ℤ s) (sum_for-append o coming (undone n going) ∙ ap (λ s. sum_for o coming +ℤ s) (sum_for-opposite n going o is))
    ∙ turned (sum_for o (told_to n width ticks t)) (sum_for o (up_to width ticks t)) (sum_for o coming) (sum_for o going) (told_sums n width o ticks t is)
    ∙ sym (ap (λ s. sum_for o (up_to width ticks t) +ℤ s) (sum_for-append o (withdrawn going) coming ∙ ap (λ s. s +ℤ sum_for o coming) (sum_for-withdrawn o going)))
    ∙ sym (sum_for-append o (up_to width ticks t) (step_to width ticks (suc t)))
    ∙ sym (ap (sum_for o) (up_to_more width ticks t))

-- they are those of the expanded log
pub sums_expanded : SumsAreThoseOfTheExpandedLog
sums_expanded n width o ticks over is = ap (sum_for o) (told_in_order n width ticks over) ∙ told_sums n width o ticks (length ticks) is

-- and those of the window
pub sums_of_window : ValuesAreThoseOfTheWindow
sums_of_window n width o ticks over is = sums_expanded n width o ticks over is ∙ moved_is_window width ticks o (length ticks)
