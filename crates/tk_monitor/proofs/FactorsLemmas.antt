-- Factors by slots, and what one more of them changes.
use Rattle.std.proofs.Common.{◌≡◌, ◌≤◌, ℕ, List, [], ◌∷◌, ◌++◌, Some, None, cond, refl, ap, ◌∙◌, inl, inr, Bool, true, false, arith, sym, take, get_or, length, map, set, subst, suc, zero, ◌+◌, ◌-◌, ◌<◌, ◌^◌}
use Rattle.std.specs.Prelude.{ℤ, ◌==◌, Option, pos, unsigned_abs, slice_get, IsSome, unwrap_or, All, replicate}
use Rattle.std.proofs.lemmas.Bool.{cases_eq}
use Rattle.std.proofs.lemmas.List.{map-append, length-append, length-set, get_or_append_left, get_or-append_right, get_or-replicate, get_or-set_same, get_or-set_other}
use Rattle.std.proofs.lemmas.List.Elements.{All-map, All-push, All-set}
use Rattle.tk_base.specs.Pairs.{objects_of}
use Rattle.tk_monitor.specs.Factors.{AreFactors, HasGot, factor_at, factor_in, factors_over, kept_at, kept_by, HasFactor, IsWithFactor}

-- ---- factors by slots

-- what is kept for an object stands in its slot
pub kept_is : (slots : List ℕ) (list : List ℤ) (o : ℕ) → kept_at (kept_by slots list) o ≡ factor_at list (get_or slots o 0)
unfolding kept_by
kept_is [] list o = refl
kept_is (slot ∷ slots) list zero = refl
kept_is (slot ∷ slots) list (suc o) = kept_is slots list o

-- of the object of a slot
pub kept_in : (slots : List ℕ) (list : List ℤ) (o place : ℕ) → get_or slots o 0 ≡ suc place → kept_at (kept_by slots list) o ≡ Some (get_or list place (pos 0))
kept_in slots list o place is = kept_is slots list o ∙ ap (factor_at list) is

-- an object without a slot has none
pub kept_none : (slots : List ℕ) (list : List ℤ) (o : ℕ) → get_or slots o 0 ≡ 0 → kept_at (kept_by slots list) o ≡ None
kept_none slots list o is = kept_is slots list o ∙ ap (factor_at list) is

-- who has a factor has a slot
pub slot_there : (slots : List ℕ) (list : List ℤ) (o : ℕ) → HasFactor (kept_by slots list) o → 0 < get_or slots o 0
slot_there slots list o there = slot_some (get_or slots o 0) list (subst (λ (r : Option ℤ). IsSome r) (kept_is slots list o) there)
  where
    slot_some : (slot : ℕ) (list : List ℤ) → IsSome (factor_at list slot) → 0 < slot
    slot_some zero list there = absurd (cc)
    slot_some (suc place) list there = omega arith

-- a slot with a place
pub one_more : (slot : ℕ) → 0 < slot → slot ≡ suc (slot - 1)
one_more slot some = omega (arith, some)

-- each factor is within the limit
pub factor_small : (slots : List ℕ) (list : List ℤ) (o : ℕ) → AreFactors slots list → unsigned_abs (factor_in (kept_by slots list) o) ≤ 2 ^ 112
factor_small slots list o are = subst (λ (r : Option ℤ). unsigned_abs (unwrap_or r (pos 0)) ≤ 2 ^ 112) (sym (kept_is slots list o)) (slot_small (get_or slots o 0) (are.within o))
  where
    slot_small : (slot : ℕ) → slot ≤ length list → unsigned_abs (unwrap_or (factor_at list slot) (pos 0)) ≤ 2 ^ 112
    slot_small zero low = omega arith
    slot_small (suc place) low = are.small place (pos 0) (omega (arith, low))

-- other slots of the same objects keep the same factors
pub same_slots : (old new : List ℕ) (list : List ℤ) → ((q : ℕ) → get_or new q 0 ≡ get_or old q 0) → AreFactors old list → AreFactors new list
same_slots old new list same are = record {
  within = λ o. omega (arith, same o, are.within o);
  apart = λ o q some is. are.apart o q (omega (arith, same o, some)) (sym (same q) ∙ is ∙ same o);
  small = are.small;
}

pub same_kept : (old new : List ℕ) (list : List ℤ) (q : ℕ) → get_or new q 0 ≡ get_or old q 0 → kept_at (kept_by new list) q ≡ kept_at (kept_by old list) q
same_kept old new list q same = kept_is new list q ∙ ap (factor_at list) same ∙ sym (kept_is old list q)

pub still_kept : (old new : List ℕ) (list others : List ℤ) (q : ℕ) → others ≡ list → get_or new q 0 ≡ get_or old q 0 → kept_at (kept_by new others) q ≡ kept_at (kept_by old list) q
still_kept old new list others q is same = ap (λ (zs : List ℤ). kept_at (kept_by new zs) q) is ∙ same_kept old new list q same

-- zeros behind the slots are no slots
pub padded : (slots : List ℕ) (n q : ℕ) → get_or (slots ++ replicate n 0) q 0 ≡ get_or slots q 0
padded [] n q = zeros n q
  where
    zeros : (n q : ℕ) → ◌≡◌ {A = ℕ} (get_or (replicate n 0) q 0) 0
    zeros zero q = refl
    zeros (suc n) zero = refl
    zeros (suc n) (suc q) = zeros n q
padded (slot ∷ slots) n zero = refl
padded (slot ∷ slots) n (suc q) = padded slots n q

-- one slot more
pub added : (old new : List ℕ) (list : List ℤ) (o : ℕ) → AreFactors old list → HasGot old new o (length list + 1) → AreFactors new (list ++ pos 0 ∷ [])
added old new list o are got =
    let size = length-append list (pos 0 ∷ []) in
    record {
      within = λ q. elim (cases_eq q o) [
        | inl same ↦ let own : get_or new q 0 ≡ length list + 1 = ap (λ k. get_or new k 0) same ∙ got.own in omega (arith, own, size)
        | inr other ↦ omega (arith, got.others q other, are.within q, size)
      ];
      apart = λ p q some is. elim (cases_eq p o) [
        | inl same ↦
            let own : get_or new p 0 ≡ length list + 1 = ap (λ k. get_or new k 0) same ∙ got.own in
            elim (cases_eq q o) [
              | inl too ↦ too ∙ sym same
              | inr other ↦ absurd (omega (arith, own, is, got.others q other, are.within q))
            ]
        | inr other ↦
            elim (cases_eq q o) [
              | inl same ↦
                  let own : get_or new q 0 ≡ length list + 1 = ap (λ k. get_or new k 0) same ∙ got.own in
                  absurd (omega (arith, own, is, got.others p other, are.within p))
              | inr too ↦ are.apart p q (omega (arith, some, got.others p other)) (sym (got.others q too) ∙ is ∙ got.others p other)
            ]
      ];
      small = All-push (λ (z : ℤ). unsigned_abs z ≤ 2 ^ 112) list (pos 0) are.small (omega arith);
    }

-- its factor is zero, and the others stay
pub added_zero : (old new : List ℕ) (list : List ℤ) (o : ℕ) → AreFactors old list → HasGot old new o (length list + 1) → IsWithFactor (kept_by old list) o (pos 0) (kept_by new (list ++ pos 0 ∷ []))
added_zero old new list o are got q = elim (cases_eq q o) [
  | inl same ↦
      let own : get_or new q 0 ≡ suc (length list) = ap (λ k. get_or new k 0) same ∙ got.own ∙ (let e : length list + 1 ≡ suc (length list) = omega arith in e) in
      let test : (q == o) ≡ true = grind (arith, same) in
      kept_in new (list ++ pos 0 ∷ []) q (length list) own
      ∙ ap Some (get_or-append_right list (pos 0 ∷ []) (length list) (length list) (pos 0) refl (omega arith) ∙ ap (λ k. get_or (pos 0 ∷ []) k (pos 0)) (let e : length list - length list ≡ 0 = omega arith in e))
      ∙ sym (ap (λ (b : Bool). cond b (Some (pos 0)) (kept_at (kept_by old list) q)) test)
  | inr other ↦
      let test : (q == o) ≡ false = grind (arith, other) in
      kept_is new (list ++ pos 0 ∷ []) q ∙ ap (factor_at (list ++ pos 0 ∷ [])) (got.others q other) ∙ longer (get_or old q 0) (are.within q) ∙ sym (kept_is old list q)
      ∙ sym (ap (λ (b : Bool). cond b (Some (pos 0)) (kept_at (kept_by old list) q)) test)
]
  where
    longer : (slot : ℕ) → slot ≤ length list → factor_at (list ++ pos 0 ∷ []) slot ≡ factor_at list slot
    longer zero low = refl
    longer (suc place) low = ap Some (get_or_append_left list (pos 0 ∷ []) (pos 0) place (omega (arith, low)))

-- another factor in a slot
pub replaced : (slots : List ℕ) (list : List ℤ) (o place : ℕ) (factor : ℤ) → AreFactors slots list → get_or slots o 0 ≡ suc place → IsWithFactor (kept_by slots list) o factor (kept_by slots (set list place factor))
replaced slots list o place factor are is q = elim (cases_eq q o) [
  | inl same ↦
      let test : (q == o) ≡ true = grind (arith, same) in
      let within : place < length list = omega (arith, is, are.within o) in
      kept_in slots (set list place factor) q place (ap (λ k. get_or slots k 0) same ∙ is)
      ∙ ap Some (get_or-set_same list place factor (pos 0) within)
      ∙ sym (ap (λ (b : Bool). cond b (Some factor) (kept_at (kept_by slots list) q)) test)
  | inr other ↦
      let test : (q == o) ≡ false = grind (arith, other) in
      kept_is slots (set list place factor) q ∙ left (get_or slots q 0) (λ e. other (are.apart o q (omega (arith, is)) (e ∙ sym is))) ∙ sym (kept_is slots list q)
      ∙ sym (ap (λ (b : Bool). cond b (Some factor) (kept_at (kept_by slots list) q)) test)
]
  where
    left : (slot : ℕ) → (slot ≡ suc place → ⊥) → factor_at (set list place factor) slot ≡ factor_at list slot
    left zero apart = refl
    left (suc k) apart = ap Some (get_or-set_other list place k factor (pos 0) (λ e. apart (ap suc e)))

pub replaced_are : (slots : List ℕ) (list : List ℤ) (place : ℕ) (factor : ℤ) → AreFactors slots list → unsigned_abs factor ≤ 2 ^ 112 → AreFactors slots (set list place factor)
replaced_are slots list place factor are small = record {
  within = λ o. omega (arith, are.within o, length-set list place factor);
  apart = are.apart;
  small = All-set (λ (z : ℤ). unsigned_abs z ≤ 2 ^ 112) list place factor small are.small;
}

-- ---- one factor more

either : (b : Bool) (P : Option ℤ → Type 0) (x y : Option ℤ) → P x → P y → P (cond b x y)
either true P x y one two = one
either false P x y one two = two

-- to keep a zero changes no factor
with_zero_at : (q o : ℕ) (r : Option ℤ) → (q ≡ o → r ≡ None) → unwrap_or (cond (q == o) (Some (pos 0)) r) (pos 0) ≡ unwrap_or r (pos 0)
with_zero_at q o r none = elim (cases_eq q o) [
  | inl same ↦ rw (none same) (either (q == o) (λ (s : Option ℤ). unwrap_or s (pos 0) ≡ pos 0) (Some (pos 0)) None refl refl)
  | inr apart ↦ let e : (q == o) ≡ false = grind (arith, apart) in rw e refl
]

pub with_zero : (old new : List (Option ℤ)) (o : ℕ) → kept_at old o ≡ None → IsWithFactor old o (pos 0) new → (q : ℕ) → factor_in new q ≡ factor_in old q
with_zero old new o none is q =
    ap (λ (r : Option ℤ). unwrap_or r (pos 0)) (is q) ∙ with_zero_at q o (kept_at old q) (λ same. ap (kept_at old) same ∙ none)

-- the object has a factor
with_own : (o : ℕ) (factor : ℤ) (r : Option ℤ) → cond (o == o) (Some factor) r ≡ Some factor
with_own o factor r = let e : (o == o) ≡ true = grind arith in rw e refl

pub with_kept : (old new : List (Option ℤ)) (o : ℕ) (factor : ℤ) → IsWithFactor old o factor new → HasFactor new o
with_kept old new o factor is = subst (λ (r : Option ℤ). IsSome r) (sym (is o ∙ with_own o factor (kept_at old o))) refl

-- so have all that had one
pub with_still : (old new : List (Option ℤ)) (o : ℕ) (factor : ℤ) → IsWithFactor old o factor new → (q : ℕ) → HasFactor old q → HasFactor new q
with_still old new o factor is q there = subst (λ (r : Option ℤ). IsSome r) (sym (is q)) (either (q == o) (λ (r : Option ℤ). IsSome r) (Some factor) (kept_at old q) refl there)

-- the change at a place of a list
pub got_within : (changes : List (ℕ × ℤ)) (i : ℕ) (c : ℕ × ℤ) → slice_get changes i ≡ Some c → i < length changes
got_within [] i c got = cc
got_within (x ∷ xs) zero c got = omega arith
got_within (x ∷ xs) (suc i) c got = omega (arith, got_within xs i c got)

pub got_pair : (changes : List (ℕ × ℤ)) (i : ℕ) (c d : ℕ × ℤ) → slice_get changes i ≡ Some c → get_or changes i d ≡ c
got_pair [] i c d got = cc
got_pair (x ∷ xs) zero c d got = cc
got_pair (x ∷ xs) (suc i) c d got = got_pair xs i c d got

pub take_got : (changes : List (ℕ × ℤ)) (i : ℕ) (c : ℕ × ℤ) → slice_get changes i ≡ Some c → take (suc i) changes ≡ take i changes ++ c ∷ []
take_got [] i c got = cc
take_got (x ∷ xs) zero c got = cc
take_got (x ∷ xs) (suc i) c got = ap (λ (rest : List (ℕ × ℤ)). x ∷ rest) (take_got xs i c got)

-- the factors of one more object
pub factors_more : (kept : List (Option ℤ)) (changes : List (ℕ × ℤ)) (i : ℕ) (c : ℕ × ℤ) → slice_get changes i ≡ Some c → factors_over kept (take (i + 1) changes) ≡ factors_over kept (take i changes) ++ (c.0, factor_in kept c.0) ∷ []
factors_more kept changes i c got =
    ap (factors_over kept) (ap (λ n. take n changes) (let e : i + 1 ≡ suc i = omega arith in e) ∙ take_got changes i c got)
    ∙ map-append (λ (p : ℕ × ℤ). (p.0, factor_in kept p.0)) (take i changes) (c ∷ [])

-- they stand under the objects of the changes
pub objects-factors : (kept : List (Option ℤ)) (changes : List (ℕ × ℤ)) → objects_of (factors_over kept changes) ≡ objects_of changes
objects-factors kept [] = refl
objects-factors kept (c ∷ changes) = ap (λ (rest : List ℕ). c.0 ∷ rest) (objects-factors kept changes)

-- the factor that was set, and the others
pub own_factor : (old new : List (Option ℤ)) (o : ℕ) (factor : ℤ) → IsWithFactor old o factor new → factor_in new o ≡ factor
own_factor old new o factor is = ap (λ (r : Option ℤ). unwrap_or r (pos 0)) (is o ∙ with_own o factor (kept_at old o))

pub other_factor : (old new : List (Option ℤ)) (o q : ℕ) (factor : ℤ) → IsWithFactor old o factor new → (q ≡ o → ⊥) → factor_in new q ≡ factor_in old q
other_factor old new o q factor is apart =
    let e : (q == o) ≡ false = grind (arith, apart) in
    ap (λ (r : Option ℤ). unwrap_or r (pos 0)) (is q ∙ ap (λ (b : Bool). cond b (Some factor) (kept_at old q)) e)

-- what holds of all changes holds of one
pub got_all : (P : ℕ × ℤ → Type 0) (changes : List (ℕ × ℤ)) (i : ℕ) (c : ℕ × ℤ) → All P changes → slice_get changes i ≡ Some c → P c
got_all P changes i c all got = subst P (got_pair changes i c c got) (all i c (got_within changes i c got))

-- what holds of the objects of changes holds of those of their factors
pub factors_over-all : (P : ℕ → Type 0) (kept : List (Option ℤ)) (changes : List (ℕ × ℤ)) → All (λ c. P c.0) changes → All (λ c. P c.0) (factors_over kept changes)
factors_over-all P kept changes all = All-map (λ (p : ℕ × ℤ). P p.0) (λ (c : ℕ × ℤ). (c.0, factor_in kept c.0)) changes all

-- they are as small as all factors
pub factors_over-small : (kept : List (Option ℤ)) (changes : List (ℕ × ℤ)) (m : ℕ) → ((o : ℕ) → unsigned_abs (factor_in kept o) ≤ m) → All (λ c. unsigned_abs c.1 ≤ m) (factors_over kept changes)
factors_over-small kept changes m small = All-map (λ (p : ℕ × ℤ). unsigned_abs p.1 ≤ m) (λ (c : ℕ × ℤ). (c.0, factor_in kept c.0)) changes (λ k d below. small (get_or changes k d).0)
