-- From session to session.
use Rattle.std.proofs.Common.{◌≡◌, ℕ, suc, zero, ◌+◌, ◌-◌, ◌<◌, ◌≤◌, Bool, List, [], ◌∷◌, ◌++◌, length, take, drop, get_or, set, refl, ap, ap₂, ◌∙◌, subst, arith, append_assoc, length-append}
use Rattle.std.specs.Prelude.{ℤ}
use Rattle.std.proofs.lemmas.List.{length-map}
use Rattle.std.proofs.Math.Seq.{drop-append-add, take-append-add}
use Rattle.tk_trail.specs.Legal.{IsLegal}
use Rattle.tk_trail.specs.Readings.{places_at}
use Rattle.tk_trail.specs.Setup.{IsSetup, MonitorSetup}
use Rattle.tk_trail.specs.declared.entry.Entry.{Entry}
use Rattle.tk_trail.proofs.PlacesLemmas.{length-places_at, places_at-start}
use Rattle.tk_trail.proofs.SlackLemmas.{places_rise}
use Rattle.tk_trail.specs.Growing.{grown, grown_parts}
use Rattle.tk_input.specs.Changes.{grown_by}
use Rattle.tk_trail.proofs.GrowingLemmas.{length-grown_parts}
use Rattle.tk_compact.specs.Standing.{StandsFor, behind, ends_of, further, reached}
use Rattle.tk_compact.proofs.StandingLemmas.{further_beyond, goes_on, length-beyond, length-ends_of}
use Rattle.tk_compact.specs.Anew.{StartsBehind, anew, base_of, closer, closers, raised_since}
use Rattle.tk_compact.proofs.BaseLemmas.{base_stands, length-base_of}

-- a monitor that begins anew starts behind its base
pub anew_behind : (setup : MonitorSetup) (trail : List Entry) (bs : List Bool) → IsSetup setup → length bs ≡ length setup.parts → StartsBehind (anew setup trail bs) (base_of setup trail) (closers bs)
anew_behind setup trail bs is same = record {
  parts = refl;
  from = refl;
  shape = omega (arith, same, length-map bs closer, length-base_of setup trail is.parts.some_feeder);
}

-- what is put in front of the last record behind a base stands behind the base
grown_behind : (c : ℕ × ℤ) (x y : List (ℕ × ℤ)) → 0 < length y → grown_by c (x ++ y) ≡ x ++ grown_by c y
grown_behind c x y some =
    let n = length y - 1 in
    let e : length (x ++ y) - 1 ≡ length x + n = omega (arith, length-append x y, some) in
    ap (λ k. take k (x ++ y) ++ (c ∷ drop k (x ++ y))) e
    ∙ ap₂ (λ a b. a ++ (c ∷ b)) (take-append-add x y n) (drop-append-add x y n)
    ∙ append_assoc x (take n y) (c ∷ drop n y)

set_behind : (xs ys : List (List (ℕ × ℤ))) (i : ℕ) (c : ℕ × ℤ) → length ys ≡ length xs → 0 < length (get_or ys i []) → set (behind xs ys) i (grown_by c (get_or (behind xs ys) i [])) ≡ behind xs (set ys i (grown_by c (get_or ys i [])))
set_behind [] [] i c same some = refl
set_behind [] (y ∷ ys) i c same some = absurd (omega (arith, same))
set_behind (x ∷ xs) [] i c same some = absurd (omega (arith, same))
set_behind (x ∷ xs) (y ∷ ys) zero c same some = ap (λ p. p ∷ behind xs ys) (grown_behind c x y some)
set_behind (x ∷ xs) (y ∷ ys) (suc i) c same some = ap (λ ps. (x ++ y) ∷ ps) (set_behind xs ys i c (omega (arith, same)) some)

-- and so it does with a record more
pub grown_starts : (setup : MonitorSetup) (base more : List (List (ℕ × ℤ))) (g : ℕ) (c : ℕ × ℤ) → StartsBehind setup base more → 0 < length (get_or more (g - 1) []) → StartsBehind (grown setup g c) base (grown_parts more g c)
unfolding grown_parts
grown_starts setup base more g c starts some = record {
  parts = ap (λ (ps : List (List (ℕ × ℤ))). set ps (g - 1) (grown_by c (get_or ps (g - 1) []))) starts.parts ∙ set_behind base more (g - 1) c starts.shape some;
  from = starts.from;
  shape = length-grown_parts more g c ∙ starts.shape;
}

-- the chain
pub bases_stand : (setup : MonitorSetup) (trail : List Entry) (base log more : List (List (ℕ × ℤ))) → IsSetup setup → IsLegal setup trail → StartsBehind setup base more → StandsFor base log → StandsFor (base_of setup trail) (behind log (reached more (raised_since base setup trail)))
bases_stand setup trail base log more is legal starts stands =
    let places = places_at setup trail in
    let many : length places ≡ length (ends_of base) = length-places_at setup trail ∙ ap (λ (ps : List ℕ). length ps) starts.from in
    let low : (i : ℕ) → get_or (ends_of base) i 0 ≤ get_or places i 0 =
    λ i.
    let rise = (places_rise setup [] trail).each i in
    let begin = ap (λ (ps : List ℕ). get_or ps i 0) (places_at-start setup ∙ starts.from) in
    omega (arith, rise, begin) in
    let is_further : places ≡ further (ends_of base) (raised_since base setup trail) = further_beyond (ends_of base) places many low in
    let stood : StandsFor (base_of setup trail) (reached setup.parts places) = base_stands setup trail is legal in
    let at : StandsFor (base_of setup trail) (reached (behind base more) places) = subst (λ (ps : List (List (ℕ × ℤ))). StandsFor (base_of setup trail) (reached ps places)) starts.parts stood in
    goes_on base log more (base_of setup trail) (raised_since base setup trail) stands starts.shape
    (omega (arith, length-beyond (ends_of base) places many, length-ends_of base))
    (subst (λ (ps : List ℕ). StandsFor (base_of setup trail) (reached (behind base more) ps)) is_further at)
