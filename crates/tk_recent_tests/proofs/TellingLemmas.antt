-- What is to be taken back, told one by one.
use Rattle.std.proofs.Common.{◌≡◌, ℕ, List, [], ◌∷◌, ◌++◌, drop, Some, None, refl, sym, ap, ◌∙◌, append_assoc}
use Rattle.std.specs.Prelude.{ℤ, slice_get}
use Rattle.std.proofs.lemmas.List.{append-nil}
use Rattle.tk_recent.specs.Kept.{Kept, taken}

-- what was told and what is left to tell are together what they were, and nothing else changed
pub record Tells (told now : List (ℕ × ℤ)) (old new : Kept) : Type 0 where
  pub together : now ++ new.back ≡ told ++ old.back
  pub others : record new { back = [] } ≡ record old { back = [] }

first_left : (back : List (ℕ × ℤ)) (c : ℕ × ℤ) → Some c ≡ slice_get back 0 → c ∷ drop 1 back ≡ back
first_left [] c is = absurd (cc)
first_left (d ∷ back) c is = let same : c ≡ d = cc in ap (λ (x : ℕ × ℤ). x ∷ back) same

-- one more
pub tells_more : (told now next : List (ℕ × ℤ)) (c : ℕ × ℤ) (old mid new : Kept) → Tells told now old mid → Some c ≡ slice_get mid.back 0 → next ≡ now ++ c ∷ [] → new ≡ taken mid → Tells told next old new
tells_more told now next c old mid new so first more left = record {
  together =
      ap (λ (k : Kept). next ++ k.back) left
      ∙ ap (λ (cs : List (ℕ × ℤ)). cs ++ drop 1 mid.back) more
      ∙ append_assoc now (c ∷ []) (drop 1 mid.back)
      ∙ ap (λ (cs : List (ℕ × ℤ)). now ++ cs) (first_left mid.back c first)
      ∙ so.together;
  others = ap (λ (k : Kept). record k { back = [] }) left ∙ so.others;
}

none_left : (back : List (ℕ × ℤ)) → None ≡ slice_get back 0 → back ≡ []
none_left [] is = refl
none_left (c ∷ back) is = absurd (cc)

-- all of it
pub told_all : (told now : List (ℕ × ℤ)) (old new : Kept) → Tells told now old new → None ≡ slice_get new.back 0 → (now ≡ told ++ old.back) × (new ≡ record old { back = [] })
told_all told now old new so none =
    let empty = none_left new.back none in (
      sym (append-nil now) ∙ ap (λ (cs : List (ℕ × ℤ)). now ++ cs) (sym empty) ∙ so.together,
      ap (λ (cs : List (ℕ × ℤ)). record new { back = cs }) empty ∙ so.others,
    )
