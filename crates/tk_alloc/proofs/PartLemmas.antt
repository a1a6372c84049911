-- Reading values at places, and building lists of pairs.
use Rattle.std.proofs.Common.{◌≡◌, ℕ, suc, zero, ◌+◌, ◌<◌, ◌≤◌, ◌^◌, ℤ, pos, ◌+ℤ◌, ◌-ℤ◌, unsigned_abs, List, [], ◌∷◌, ◌++◌, length, map, take, get_or, Option, Some, refl, sym, ap, ◌∙◌, subst, add-one, arith}
use Rattle.std.specs.Prelude.{unwrap_or, slice_get}
use Rattle.std.proofs.lemmas.List.{length-map, get_or-map, map-append, take_more, take_all}
use Rattle.std.proofs.lemmas.List.Sums.{fold_push}
use Rattle.std.proofs.lemmas.Option.{get_or_from_slice_get}
use Rattle.tk_base.specs.Ascending.{IsAscending}
use Rattle.tk_base.specs.Pairs.{objects_of}
use Rattle.tk_base.proofs.AscendingLemmas.{ascending_positive}
use Rattle.tk_base.proofs.PairsLemmas.{value_at-found, objects_paired}
use Rattle.tk_share.specs.Shares.{share}
use Rattle.tk_base.specs.Sum.{int_sum}
use Rattle.tk_rows.specs.Factors.{Grid, factor_at}
use Rattle.tk_alloc.specs.declared.reported.Reported.{Reported}
use Rattle.tk_alloc.specs.declared.terms.Terms.{Terms}
use Rattle.tk_alloc.specs.Parts.{Part, monitor, above, value_of}
use Rattle.tk_alloc.specs.Rounds.{AreValues, total}
use Rattle.tk_alloc.specs.Terms.{dealt_by, border_by, parts_of}

-- what a pair at a place of some values tells
pub record IsRead (values : List (ℕ × ℤ)) (objects : List ℕ) (i o : ℕ) (v : ℤ) : Type 0 where
  pub at : get_or objects i 0 ≡ o
  pub value : value_of values o ≡ v
  pub positive : 0 < o
  pub small : unsigned_abs v ≤ 2 ^ 100

pub is_read : (values : List (ℕ × ℤ)) (objects : List ℕ) (i o : ℕ) (v : ℤ) → AreValues objects values → IsAscending (objects_of values) → i < length objects → slice_get values i ≡ Some (o, v)
    → IsRead values objects i o v
is_read values objects i o v are up within read =
    let long : i < length values = omega (arith, ap length are.same, length-map values (λ (p : ℕ × ℤ). p.0)) in
    let pair : get_or values i (0, pos 0) ≡ (o, v) = get_or_from_slice_get values i (o, v) (0, pos 0) read in
    let here : get_or (objects_of values) i 0 ≡ o = get_or-map (λ (p : ℕ × ℤ). p.0) values i (0, pos 0) 0 long ∙ ap (λ (p : ℕ × ℤ). p.0) pair in
    let up_here = ascending_positive (objects_of values) up i (omega (arith, length-map values (λ (p : ℕ × ℤ). p.0))) in
    record {
      at = sym (ap (λ (xs : List ℕ). get_or xs i 0) are.same) ∙ here;
      value = ap (λ (z : Option ℤ). unwrap_or z (pos 0)) (value_at-found values o i (0, pos 0) up long (ap (λ (p : ℕ × ℤ). p.0) pair)) ∙ ap (λ (p : ℕ × ℤ). p.1) pair;
      positive = omega (arith, here, up_here);
      small = subst (λ (p : ℕ × ℤ). unsigned_abs p.1 ≤ 2 ^ 100) pair (are.small i (0, pos 0) long);
    }

-- one more object is dealt to
pub dealt_more : (values : List (ℕ × ℤ)) (border : ℤ) (weights : List ℕ) (p : ℕ) (objects : List ℕ) (leeways : List ℤ) (i : ℕ) → i < length objects → i < length leeways
    → dealt_by values border weights p (take (i + 1) objects) (take (i + 1) leeways)
    ≡ dealt_by values border weights p (take i objects) (take i leeways) ++ (get_or objects i 0, border -ℤ value_of values (get_or objects i 0) +ℤ share weights p (get_or leeways i (pos 0))) ∷ []
dealt_more values border weights p [] leeways i within long = absurd (omega arith)
dealt_more values border weights p (o ∷ objects) [] i within long = absurd (omega arith)
dealt_more values border weights p (o ∷ objects) (z ∷ leeways) zero within long = refl
dealt_more values border weights p (o ∷ objects) (z ∷ leeways) (suc i) within long =
    simp add-one
    (ap (λ (xs : List (ℕ × ℤ)). (o, border -ℤ value_of values o +ℤ share weights p z) ∷ xs) (simp add-one at (dealt_more values border weights p objects leeways i (omega arith) (omega arith))))

pub objects_dealt : (values : List (ℕ × ℤ)) (border : ℤ) (weights : List ℕ) (p : ℕ) (objects : List ℕ) (leeways : List ℤ) → length leeways ≡ length objects → objects_of (dealt_by values border weights p objects leeways) ≡ objects
objects_dealt values border weights p [] leeways same = refl
objects_dealt values border weights p (o ∷ objects) [] same = absurd (omega arith)
objects_dealt values border weights p (o ∷ objects) (z ∷ leeways) same = ap (λ (xs : List ℕ). o ∷ xs) (objects_dealt values border weights p objects leeways (omega arith))

-- a map over one more object
pub map_more : {X : Type 0} (f : ℕ → X) (objects : List ℕ) (i : ℕ) → i < length objects → map f (take (i + 1) objects) ≡ map f (take i objects) ++ f (get_or objects i 0) ∷ []
map_more f objects i within = ap (map f) (take_more objects i 0 within) ∙ map-append f (take i objects) (get_or objects i 0 ∷ [])

-- ---- lists of numbers put under the objects of some pairs

pub object_read : (pairs : List (ℕ × ℤ)) (i o : ℕ) (v : ℤ) → i < length pairs → slice_get pairs i ≡ Some (o, v) → get_or (objects_of pairs) i 0 ≡ o
object_read pairs i o v within read = get_or-map (λ (p : ℕ × ℤ). p.0) pairs i (0, pos 0) 0 within ∙ ap (λ (p : ℕ × ℤ). p.0) (get_or_from_slice_get pairs i (o, v) (0, pos 0) read)

pub put_more : (g : ℕ → ℤ) (pairs : List (ℕ × ℤ)) (i o : ℕ) (v z : ℤ) (xs ys : List (ℕ × ℤ)) → i < length pairs → slice_get pairs i ≡ Some (o, v) → z ≡ g o → ys ≡ xs ++ (o, z) ∷ []
    → xs ≡ map (λ q. (q, g q)) (take i (objects_of pairs)) → ys ≡ map (λ q. (q, g q)) (take (i + 1) (objects_of pairs))
put_more g pairs i o v z xs ys within read value more before =
    let f : ℕ → ℕ × ℤ = λ q. (q, g q) in
    let obj = object_read pairs i o v within read in
    more ∙ ap (λ (ps : List (ℕ × ℤ)). ps ++ (o, z) ∷ []) before ∙ ap (λ (n : ℤ). map f (take i (objects_of pairs)) ++ (o, n) ∷ []) value
    ∙ ap (λ (q : ℕ). map f (take i (objects_of pairs)) ++ f q ∷ []) (sym obj)
    ∙ sym (map_more f (objects_of pairs) i (omega (arith, length-map pairs (λ (p : ℕ × ℤ). p.0))))

pub put_done : (g : ℕ → ℤ) (pairs : List (ℕ × ℤ)) (n : ℕ) (ys : List (ℕ × ℤ)) → length pairs ≤ n → ys ≡ map (λ q. (q, g q)) (take n (objects_of pairs)) → ys ≡ map (λ q. (q, g q)) (objects_of pairs)
put_done g pairs n ys whole e =
    e ∙ ap (map (λ (q : ℕ). (q, g q))) (take_all n (objects_of pairs) (omega (arith, length-map pairs (λ (p : ℕ × ℤ). p.0))))

pub put_ascends : (g : ℕ → ℤ) (pairs : List (ℕ × ℤ)) (n : ℕ) (ys : List (ℕ × ℤ)) → length pairs ≤ n → IsAscending (objects_of pairs) → ys ≡ map (λ q. (q, g q)) (take n (objects_of pairs)) → IsAscending (objects_of ys)
put_ascends g pairs n ys whole up e = subst IsAscending (sym (ap objects_of (put_done g pairs n ys whole e) ∙ objects_paired g (objects_of pairs))) up

-- ---- leeways

pub above_is : (grid : Grid) (part : Part) (at o : ℕ) (v f b : ℤ) → at ≡ o → value_of part.values o ≡ v → f ≡ factor_at grid part.node o → b ≡ part.border → v +ℤ f -ℤ b ≡ above grid at part
above_is grid part at o v f b e value factor border =
    subst (λ (q : ℕ). v +ℤ f -ℤ b ≡ above grid q part) (sym e)
    (ap (λ (z : ℤ). z +ℤ f -ℤ b) (sym value)
    ∙ ap (λ (z : ℤ). value_of part.values o +ℤ z -ℤ b) factor
    ∙ ap (λ (z : ℤ). value_of part.values o +ℤ factor_at grid part.node o -ℤ z) border)

pub leeway_more : (grid : Grid) (o : ℕ) (terms : Terms) (reports : List Reported) (i : ℕ) (report : Reported) (sum gap : ℤ) → i < length reports → report ≡ get_or reports i report
    → sum ≡ int_sum (map (above grid o) (parts_of terms (take i reports))) → gap ≡ above grid o (monitor (border_by terms.borders report) report)
    → sum +ℤ gap ≡ int_sum (map (above grid o) (parts_of terms (take (i + 1) reports)))
leeway_more grid o terms reports i report sum gap within is before one =
    let f : Reported → Part = λ r. monitor (border_by terms.borders r) r in
    let g : Part → ℤ = above grid o in
    let own : Part = record { node = 0; weight = terms.own_weight; border = terms.own_border; values = terms.own_values } in
    let more : map f (take (i + 1) reports) ≡ map f (take i reports) ++ f report ∷ [] =
    ap (map f) (take_more reports i report within) ∙ map-append f (take i reports) (get_or reports i report ∷ []) ∙ ap (λ (r : Reported). map f (take i reports) ++ f r ∷ []) (sym is) in
    let whole : map g (own ∷ map f (take (i + 1) reports)) ≡ map g (own ∷ map f (take i reports)) ++ g (f report) ∷ [] =
    ap (λ (ps : List Part). map g (own ∷ ps)) more ∙ map-append g (own ∷ map f (take i reports)) (f report ∷ []) in
    ap (λ (z : ℤ). z +ℤ gap) before ∙ ap (λ (z : ℤ). int_sum (map g (own ∷ map f (take i reports))) +ℤ z) one
    ∙ sym (fold_push ◌+ℤ◌ (pos 0) (map g (own ∷ map f (take i reports))) (g (f report)))
    ∙ sym (ap int_sum whole)

-- ---- factors dealt by leeways

pub dealt_next : (values : List (ℕ × ℤ)) (border : ℤ) (weights : List ℕ) (p : ℕ) (leeways : List ℤ) (i o : ℕ) (v z n : ℤ) (xs ys : List (ℕ × ℤ)) → i < length values → length leeways ≡ length values → IsRead values (objects_of values) i o v
    → z ≡ share weights p (get_or leeways i (pos 0)) → n ≡ border -ℤ v +ℤ z → ys ≡ xs ++ (o, n) ∷ []
    → xs ≡ dealt_by values border weights p (take i (objects_of values)) (take i leeways) → ys ≡ dealt_by values border weights p (take (i + 1) (objects_of values)) (take (i + 1) leeways)
dealt_next values border weights p leeways i o v z n xs ys within same read dealt value more before =
    let objects = objects_of values in
    let done = dealt_by values border weights p (take i objects) (take i leeways) in
    more ∙ ap (λ (ps : List (ℕ × ℤ)). ps ++ (o, n) ∷ []) before
    ∙ ap (λ (m : ℤ). done ++ (o, m) ∷ []) (value ∙ ap (λ (w : ℤ). border -ℤ w +ℤ z) (sym read.value) ∙ ap (λ (w : ℤ). border -ℤ value_of values o +ℤ w) dealt)
    ∙ ap (λ (q : ℕ). done ++ (q, border -ℤ value_of values q +ℤ share weights p (get_or leeways i (pos 0))) ∷ []) (sym read.at)
    ∙ sym (dealt_more values border weights p objects leeways i (omega (arith, length-map values (λ (q : ℕ × ℤ). q.0))) (omega arith))

pub dealt_done : (values : List (ℕ × ℤ)) (border : ℤ) (weights : List ℕ) (p : ℕ) (leeways : List ℤ) (n : ℕ) (ys : List (ℕ × ℤ)) → length values ≤ n → length leeways ≡ length values
    → ys ≡ dealt_by values border weights p (take n (objects_of values)) (take n leeways) → ys ≡ dealt_by values border weights p (objects_of values) leeways
dealt_done values border weights p leeways n ys whole same e =
    e ∙ ap (λ (os : List ℕ). dealt_by values border weights p os (take n leeways)) (take_all n (objects_of values) (omega (arith, length-map values (λ (q : ℕ × ℤ). q.0))))
    ∙ ap (dealt_by values border weights p (objects_of values)) (take_all n leeways (omega arith))

pub dealt_ascends : (values : List (ℕ × ℤ)) (border : ℤ) (weights : List ℕ) (p : ℕ) (leeways : List ℤ) (n : ℕ) (ys : List (ℕ × ℤ)) → length values ≤ n → length leeways ≡ length values → IsAscending (objects_of values)
    → ys ≡ dealt_by values border weights p (take n (objects_of values)) (take n leeways) → IsAscending (objects_of ys)
dealt_ascends values border weights p leeways n ys whole same up e =
    subst IsAscending (sym (ap objects_of (dealt_done values border weights p leeways n ys whole same e) ∙ objects_dealt values border weights p (objects_of values) leeways (omega (arith, length-map values (λ (q : ℕ × ℤ). q.0))))) up

-- one more report in a total
pub total_more : (reports : List Reported) (i o : ℕ) (report : Reported) (sum v : ℤ) → i < length reports → report ≡ get_or reports i report → sum ≡ total (take i reports) o → v ≡ value_of report.values o
    → sum +ℤ v ≡ total (take (i + 1) reports) o
total_more reports i o report sum v within is before value =
    let f : Reported → ℤ = λ r. value_of r.values o in
    let more : map f (take (i + 1) reports) ≡ map f (take i reports) ++ f report ∷ [] =
    ap (map f) (take_more reports i report within) ∙ map-append f (take i reports) (get_or reports i report ∷ []) ∙ ap (λ (r : Reported). map f (take i reports) ++ f r ∷ []) (sym is) in
    ap (λ (z : ℤ). z +ℤ v) before ∙ ap (λ (z : ℤ). int_sum (map f (take i reports)) +ℤ z) value
    ∙ sym (fold_push ◌+ℤ◌ (pos 0) (map f (take i reports)) (f report)) ∙ sym (ap int_sum more)
