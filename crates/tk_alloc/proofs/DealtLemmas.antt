-- The factors that a round deals, participant by participant.
use Rattle.std.proofs.Common.{◌≡◌, ℕ, suc, zero, ◌+◌, ◌<◌, ℤ, ◌+ℤ◌, ◌-ℤ◌, List, [], ◌∷◌, ◌++◌, length, map, take, get_or, replicate, refl, sym, ap, ◌∙◌, add-one, arith}
use Rattle.std.specs.List.{enumerate_from}
use Rattle.std.proofs.lemmas.List.{map-append, length-map, get_or-map}
use Rattle.tk_base.specs.Pairs.{objects_of}
use Rattle.tk_rows.specs.declared.mon_change.MonChange.{MonChange}
use Rattle.tk_rows.specs.Factors.{Grid}
use Rattle.tk_share.specs.Shares.{share}
use Rattle.tk_alloc.specs.declared.reported.Reported.{Reported}
use Rattle.tk_alloc.specs.declared.terms.Terms.{Terms}
use Rattle.tk_alloc.specs.Parts.{Part, monitor, value_of, leeway, new_factor, dealt_from, by_monitor}
use Rattle.tk_alloc.specs.Terms.{border_by, monitors_in, parts_of, dealt_by}

pub dealt_by_is : (values : List (ℕ × ℤ)) (border : ℤ) (weights : List ℕ) (p : ℕ) (f : ℕ → ℤ) (objects : List ℕ) → dealt_by values border weights p objects (map f objects) ≡ map (λ o. (o, border -ℤ value_of values o +ℤ share weights p (f o))) objects
dealt_by_is values border weights p f [] = refl
dealt_by_is values border weights p f (o ∷ objects) = ap (λ (xs : List (ℕ × ℤ)). (o, border -ℤ value_of values o +ℤ share weights p (f o)) ∷ xs) (dealt_by_is values border weights p f objects)

ones : (terms : Terms) (reports : List Reported) → map (λ (q : Part). q.weight) (monitors_in terms reports) ≡ replicate (length reports) 1
ones terms [] = refl
ones terms (r ∷ reports) = ap (λ (xs : List ℕ). 1 ∷ xs) (ones terms reports)

pub weights_are : (terms : Terms) (reports : List Reported) (weights : List ℕ) → weights ≡ terms.own_weight ∷ replicate (length reports) 1 → weights ≡ map (λ q. q.weight) (parts_of terms reports)
weights_are terms reports weights e = e ∙ ap (λ (xs : List ℕ). terms.own_weight ∷ xs) (sym (ones terms reports))

-- the factors of one participant
pub dealt_to : (grid : Grid) (terms : Terms) (reports : List Reported) (part : Part) (p : ℕ) (weights : List ℕ) (leeways : List ℤ) (changes : List (ℕ × ℤ)) → weights ≡ map (λ q. q.weight) (parts_of terms reports)
    → leeways ≡ map (leeway grid (parts_of terms reports)) (objects_of terms.own_values) → changes ≡ dealt_by part.values part.border weights p (objects_of terms.own_values) leeways
    → changes ≡ map (λ o. (o, new_factor grid (parts_of terms reports) p part o)) (objects_of terms.own_values)
dealt_to grid terms reports part p weights leeways changes w l c =
    c ∙ ap (λ (ws : List ℕ). dealt_by part.values part.border ws p (objects_of terms.own_values) leeways) w
    ∙ ap (dealt_by part.values part.border (map (λ (q : Part). q.weight) (parts_of terms reports)) p (objects_of terms.own_values)) l
    ∙ dealt_by_is part.values part.border (map (λ (q : Part). q.weight) (parts_of terms reports)) p (leeway grid (parts_of terms reports)) (objects_of terms.own_values)

enumerate_suc : {X : Type 0} (n : ℕ) (xs : List X) (i : ℕ) (d : X) → i < length xs → enumerate_from n (take (suc i) xs) ≡ enumerate_from n (take i xs) ++ (n + i, get_or xs i d) ∷ []
enumerate_suc n [] i d h = absurd (omega arith)
enumerate_suc n (x ∷ xs) zero d h = let e : n ≡ n + 0 = omega arith in ap (λ (m : ℕ). (m, x) ∷ []) e
enumerate_suc n (x ∷ xs) (suc i) d h =
    let e : n + 1 + i ≡ n + suc i = omega arith in
    ap (λ ys. (n, x) ∷ ys) (enumerate_suc (n + 1) xs i d (omega arith) ∙ ap (λ (m : ℕ). enumerate_from (n + 1) (take i xs) ++ (m, get_or xs i d) ∷ []) e)

-- one more monitor has its changes
pub changes_more : (grid : Grid) (terms : Terms) (reports : List Reported) (at more : List MonChange) (i : ℕ) (report : Reported) (c : MonChange) → i < length reports → report ≡ get_or reports i report
    → c.mon.0 ≡ report.mon.0 → c.changes ≡ map (λ o. (o, new_factor grid (parts_of terms reports) (i + 1) (monitor (border_by terms.borders report) report) o)) (objects_of terms.own_values)
    → more ≡ at ++ c ∷ [] → by_monitor at ≡ dealt_from grid (parts_of terms reports) (objects_of terms.own_values) 1 (take i (monitors_in terms reports))
    → by_monitor more ≡ dealt_from grid (parts_of terms reports) (objects_of terms.own_values) 1 (take (i + 1) (monitors_in terms reports))
changes_more grid terms reports at more i report c within is mon changes pushed before =
    let objects = objects_of terms.own_values in
    let f : Reported → Part = λ r. monitor (border_by terms.borders r) r in
    let ms = monitors_in terms reports in
    let g : ℕ × Part → ℕ × List (ℕ × ℤ) = λ e. (e.1.node, map (λ o. (o, new_factor grid (parts_of terms reports) e.0 e.1 o)) objects) in
    let read : get_or ms i (f report) ≡ f report = get_or-map f reports i report (f report) within ∙ ap f (sym is) in
    let place : i + 1 ≡ 1 + i = omega arith in
    let entry : (c.mon.0, c.changes) ≡ g (1 + i, f report) =
    ap (λ (m : ℕ). (m, c.changes)) mon ∙ ap (λ (xs : List (ℕ × ℤ)). (report.mon.0, xs)) changes ∙ ap (λ (p : ℕ). g (p, f report)) place in
    let longer : enumerate_from 1 (take (i + 1) ms) ≡ enumerate_from 1 (take i ms) ++ (1 + i, f report) ∷ [] =
    ap (λ (m : ℕ). enumerate_from 1 (take m ms)) (add-one i) ∙ enumerate_suc 1 ms i (f report) (omega (arith, length-map reports f)) ∙ ap (λ (q : Part). enumerate_from 1 (take i ms) ++ (1 + i, q) ∷ []) read in
    ap by_monitor pushed ∙ map-append (λ (d : MonChange). (d.mon.0, d.changes)) at (c ∷ [])
    ∙ ap (λ xs. xs ++ (c.mon.0, c.changes) ∷ []) before
    ∙ ap (λ x. map g (enumerate_from 1 (take i ms)) ++ x ∷ []) entry
    ∙ sym (map-append g (enumerate_from 1 (take i ms)) ((1 + i, f report) ∷ []))
    ∙ sym (ap (map g) longer)

pub joined : (own own' : List (ℕ × ℤ)) (at at' : List (ℕ × List (ℕ × ℤ))) → own ≡ own' → at ≡ at' → (0, own) ∷ at ≡ (0, own') ∷ at'
joined own own' at at' e f = ap (λ xs. (0, xs) ∷ at) e ∙ ap (λ xs. (0, own') ∷ xs) f
