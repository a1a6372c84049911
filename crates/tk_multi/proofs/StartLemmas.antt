-- The places before the first change of each log, monitor by monitor.
use Rattle.std.proofs.Common.{◌≡◌, ℕ, ◌+◌, ◌<◌, ℤ, List, [], ◌∷◌, ◌++◌, length, get_or, replicate, map, take, add-one, refl, sym, ap, ◌∙◌}
use Rattle.std.proofs.lemmas.List.{map-append}
use Rattle.std.proofs.Math.Seq.{take-length, take-suc}

-- the beginnings of the parts of a monitor
abbrev beginning : List (List (ℕ × ℤ)) → List ℕ
beginning parts = map (λ (part : List (ℕ × ℤ)). 0) parts

beginning_is : (parts : List (List (ℕ × ℤ))) → replicate (length parts) 0 ≡ beginning parts
beginning_is [] = refl
beginning_is (part ∷ parts) = ap (λ (l : List ℕ). 0 ∷ l) (beginning_is parts)

-- those of one monitor more
pub begin_one : (logs : List (List (List (ℕ × ℤ)))) (n : ℕ) (cut : List (List ℕ)) (places : List ℕ) → n < length logs → cut ≡ map beginning (take n logs) → places ≡ replicate (length (get_or logs n [])) 0
    → cut ++ places ∷ [] ≡ map beginning (take (n + 1) logs)
begin_one logs n cut places within before is =
    ap (λ (c : List (List ℕ)). c ++ places ∷ []) before
    ∙ ap (λ (p : List ℕ). map beginning (take n logs) ++ p ∷ []) (is ∙ beginning_is (get_or logs n []))
    ∙ sym (map-append beginning (take n logs) (get_or logs n [] ∷ []))
    ∙ ap (λ (l : List (List (List (ℕ × ℤ)))). map beginning l) (sym (take-suc logs n [] within))
    ∙ ap (λ (k : ℕ). map beginning (take k logs)) (sym (add-one n))

-- those of all
pub begin_all : (logs : List (List (List (ℕ × ℤ)))) (n : ℕ) (cut : List (List ℕ)) → n ≡ length logs → cut ≡ map beginning (take n logs) → cut ≡ map beginning logs
begin_all logs n cut at is = is ∙ ap (λ (k : ℕ). map beginning (take k logs)) at ∙ ap (λ (l : List (List (List (ℕ × ℤ)))). map beginning l) (take-length logs)
