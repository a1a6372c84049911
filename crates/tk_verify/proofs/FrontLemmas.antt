-- Fronts of legal histories, and nodes that are driven over a record.
use Rattle.std.proofs.Common.{◌≡◌, ℕ, zero, suc, ◌+◌, ◌≤◌, ◌<◌, List, [], ◌∷◌, ◌++◌, length, take, Some, None, Option, Bool, false, refl, sym, ap, ◌∙◌, subst, arith, inl, inr, append_assoc, append-nil}
use Rattle.std.specs.Prelude.{IsTrue, slice_get}
use Rattle.std.proofs.lemmas.Bool.{cases_lt, false≢true}
use Rattle.std.proofs.lemmas.List.{length-append}
use Rattle.std.proofs.lemmas.Option.{same_Some}
use Rattle.tk_base.proofs.ListLemmas.{get_behind, take_next}
use Rattle.tk_verify.specs.Driving.{GoesOn, IsDriven, Leads}
use Rattle.tk_verify.specs.Faults.{IsFirstFault, IsFrontOf}
use Rattle.tk_story.proofs.JoiningLemmas.{take-all}

-- ---- lists

one_more : {A : Type 0} (xs : List A) (e : A) (rest : List A) → (xs ++ e ∷ []) ++ rest ≡ xs ++ e ∷ rest
one_more xs e rest = append_assoc xs (e ∷ []) rest

get_front : {A : Type 0} (xs more : List A) (n : ℕ) (e : A) → n < length xs → slice_get (xs ++ more) n ≡ Some e → slice_get xs n ≡ Some e
get_front [] more n e less at = absurd (omega (arith, less))
get_front (x ∷ xs) more zero e less at = at
get_front (x ∷ xs) more (suc n) e less at = get_front xs more n e (omega (arith, less)) at

pub get_within : {A : Type 0} (xs : List A) (n : ℕ) (e : A) → slice_get xs n ≡ Some e → n < length xs
get_within [] n e at = absurd (cc)
get_within (x ∷ xs) zero e at = omega arith
get_within (x ∷ xs) (suc n) e at = let h = get_within xs n e at in omega (arith, h)

take_to : {A : Type 0} (xs : List A) (n : ℕ) (e : A) → slice_get xs n ≡ Some e → take (n + 1) xs ≡ take n xs ++ e ∷ []
take_to xs n e at = ap (λ k. take k xs) (let is : n + 1 ≡ suc n = omega arith in is) ∙ take_next xs n e at

pub length_take : {A : Type 0} (xs : List A) (n : ℕ) → n ≤ length xs → length (take n xs) ≡ n
length_take xs zero few = refl
length_take [] (suc n) few = absurd (omega (arith, few))
length_take (x ∷ xs) (suc n) few = let h = length_take xs n (omega (arith, few)) in omega (arith, h)

-- what stands behind a list in a longer one
next_in : {A : Type 0} (xs more : List A) (e : A) → slice_get (xs ++ more) (length xs) ≡ Some e → (rest : List A) × (more ≡ e ∷ rest)
next_in [] [] e at = absurd (cc)
next_in [] (x ∷ more) e at = (more, ap (λ y. y ∷ more) (same_Some x e at))
next_in (x ∷ xs) more e at = next_in xs more e at

goes_one : {A : Type 0} (seen now : List A) (e : A) → GoesOn seen now → slice_get now (length seen) ≡ Some e → GoesOn (seen ++ e ∷ []) now
goes_one seen now e g at =
    let n = next_in seen g.more e (ap (λ xs. slice_get xs (length seen)) (sym g.is) ∙ at) in
    record { more = n.0; is = g.is ∙ ap (λ xs. seen ++ xs) n.1 ∙ sym (one_more seen e n.0) }

take_goes : {A : Type 0} (xs : List A) (n m : ℕ) → n ≤ m → GoesOn (take n xs) (take m xs)
take_goes xs zero m less = record { more = take m xs; is = refl }
take_goes xs (suc n) zero less = absurd (omega (arith, less))
take_goes [] (suc n) (suc m) less = record { more = []; is = refl }
take_goes (x ∷ xs) (suc n) (suc m) less = let h = take_goes xs n m (omega (arith, less)) in record { more = h.more; is = ap (λ ys. x ∷ ys) h.is }

front_goes : {A : Type 0} (xs : List A) (n : ℕ) → GoesOn (take n xs) xs
front_goes xs zero = record { more = xs; is = refl }
front_goes [] (suc n) = record { more = []; is = refl }
front_goes (x ∷ xs) (suc n) = let h = front_goes xs n in record { more = h.more; is = ap (λ ys. x ∷ ys) h.is }

-- ---- fronts of legal histories

front_of_front : {A : Type 0} (Legal : List A → Type 0) (front whole : List A) → GoesOn front whole → IsFrontOf Legal whole → IsFrontOf Legal front
front_of_front Legal front whole g h =
    (g.more ++ h.0, subst Legal (ap (λ xs. xs ++ h.0) g.is ∙ append_assoc front g.more h.0) h.1)

legal_front : {A : Type 0} (Legal : List A → Type 0) (front whole : List A) → GoesOn front whole → Legal whole → IsFrontOf Legal front
legal_front Legal front whole g legal = (g.more, subst Legal g.is legal)

-- a legal history has no fault
pub legal_has_none : {A : Type 0} (Legal : List A → Type 0) (history : List A) (place : ℕ) → Legal history → IsFirstFault Legal history place → ⊥
legal_has_none Legal history place legal fault = elim (cases_lt place (length history)) [
  | inl less ↦ fault.further less (legal_front Legal (take (place + 1) history) history (front_goes history (place + 1)) legal)
  | inr not' ↦ let w = fault.within in fault.missing (omega (arith, w, not')) legal
]

not_before : {A : Type 0} (Legal : List A → Type 0) (history : List A) (p q : ℕ) → IsFirstFault Legal history p → IsFirstFault Legal history q → p < q → ⊥
not_before Legal history p q a b less =
    let w = b.within in
    a.further (omega (arith, w, less)) (front_of_front Legal (take (p + 1) history) (take q history) (take_goes history (p + 1) q (omega (arith, less))) b.front)

-- a history has one first fault
pub one_fault : {A : Type 0} (Legal : List A → Type 0) (history : List A) (p q : ℕ) → IsFirstFault Legal history p → IsFirstFault Legal history q → p ≡ q
one_fault Legal history p q a b = elim (cases_lt p q) [
  | inl less ↦ absurd (not_before Legal history p q a b less)
  | inr not' ↦ elim (cases_lt q p) [
    | inl less ↦ absurd (not_before Legal history q p b a less)
    | inr neither ↦ omega (arith, not', neither)
  ]
]

-- ---- a node that is driven

-- a fresh node, with whose history every legal one begins
pub driven_fresh : {A : Type 0} (Legal : List A → Type 0) (now : List A) → Legal now → ((whole : List A) → Legal whole → GoesOn now whole) → IsDriven Legal [] now
driven_fresh Legal now legal all = record { legal = legal; ahead = record { more = now; is = refl }; forced = all }

-- the node did what stands there
pub leads_on : {A : Type 0} (Legal : List A → Type 0) (seen : List A) (e : A) (now : List A) → Leads Legal seen e now → slice_get now (length seen) ≡ Some e → IsDriven Legal (seen ++ e ∷ []) now
leads_on Legal seen e now h at = record {
  legal = h.legal;
  ahead = goes_one seen now e h.ahead at;
  forced = λ rest legal.
      let g = (h.moved rest (subst Legal (one_more seen e rest) legal)).whole_is in
      record { more = g.more; is = one_more seen e rest ∙ g.is };
}

-- it did something else, so that nothing legal goes on like this
leads_nowhere : {A : Type 0} (Legal : List A → Type 0) (seen : List A) (e : A) (now : List A) → Leads Legal seen e now → (slice_get now (length seen) ≡ Some e → ⊥) → IsFrontOf Legal (seen ++ e ∷ []) → ⊥
leads_nowhere Legal seen e now h other front =
    let m = h.moved front.0 (subst Legal (one_more seen e front.0) front.1) in
    other (get_front now m.whole_is.more (length seen) e m.longer (ap (λ xs. slice_get xs (length seen)) (sym m.whole_is.is) ∙ get_behind seen e front.0))

-- ---- over a record

-- one entry further
pub driven_on : {A : Type 0} (Legal : List A → Type 0) (history : List A) (place : ℕ) (e : A) (now : List A) → Leads Legal (take place history) e now → slice_get history place ≡ Some e → slice_get now place ≡ Some e
    → IsDriven Legal (take (place + 1) history) now
driven_on Legal history place e now h here at =
    let less = get_within history place e here in
    let size = length_take history place (omega (arith, less)) in
    subst (λ xs. IsDriven Legal xs now) (sym (take_to history place e here)) (leads_on Legal (take place history) e now h (ap (slice_get now) size ∙ at))

-- the entry there is not allowed
pub fault_here : {A : Type 0} (Legal : List A → Type 0) (history : List A) (place : ℕ) (e : A) (now : List A) → Leads Legal (take place history) e now → slice_get history place ≡ Some e → (slice_get now place ≡ Some e → ⊥)
    → IsFirstFault Legal history place
fault_here Legal history place e now h here other =
    let less = get_within history place e here in
    let size = length_take history place (omega (arith, less)) in
    record {
      within = omega (arith, less);
      front = legal_front Legal (take place history) now h.ahead h.legal;
      further = λ _ front. leads_nowhere Legal (take place history) e now h (λ at. other (ap (slice_get now) (sym size) ∙ at)) (subst (IsFrontOf Legal) (take_to history place e here) front);
      missing = λ is legal. absurd (omega (arith, less, is));
    }

-- an entry is missing at the end
pub fault_at_end : {A : Type 0} (Legal : List A → Type 0) (history now : List A) → IsDriven Legal history now → length history < length now → IsFirstFault Legal history (length history)
fault_at_end Legal history now d less = record {
  within = omega arith;
  front = subst (IsFrontOf Legal) (sym (take-all history)) (legal_front Legal history now d.ahead d.legal);
  further = λ past front. absurd (omega (arith, past));
  missing = λ is legal.
      let g = d.forced [] (subst Legal (sym (append-nil history)) legal) in
      let l = ap (λ xs. length xs) (sym (append-nil history) ∙ g.is) in
      let m = length-append now g.more in
      absurd (omega (arith, l, m, less));
}

-- ---- what a node does where an entry is handed in

-- it does exactly that
pub one_leads : {A : Type 0} (Legal : List A → Type 0) (old : List A) (e : A) (new : List A) → Legal new → new ≡ old ++ e ∷ [] → Leads Legal old e new
one_leads Legal old e new legal is = record {
  legal = legal;
  ahead = record { more = e ∷ []; is = is };
  moved = λ rest _. record {
    longer = (let l = ap (λ xs. length xs) is in let m = length-append old (e ∷ []) in omega (arith, l, m));
    whole_is = record { more = rest; is = sym (one_more old e rest) ∙ ap (λ xs. xs ++ rest) (sym is) };
  };
}

-- it does nothing, since the entry is not allowed
pub still_leads : {A : Type 0} (Legal : List A → Type 0) (old : List A) (e : A) → Legal old → ((rest : List A) → Legal (old ++ e ∷ rest) → ⊥) → Leads Legal old e old
still_leads Legal old e legal never = record {
  legal = legal;
  ahead = record { more = []; is = sym (append-nil old) };
  moved = λ rest whole. absurd (never rest whole);
}

-- it does that and more, which every legal history does that goes on so
pub more_leads : {A : Type 0} (Legal : List A → Type 0) (old : List A) (e : A) (turn : List A) → Legal (old ++ turn) → ((rest : List A) → Legal (old ++ e ∷ rest) → (length turn ≡ 0 → ⊥) × GoesOn turn (e ∷ rest)) → Leads Legal old e (old ++ turn)
more_leads Legal old e turn legal all = record {
  legal = legal;
  ahead = record { more = turn; is = refl };
  moved = λ rest whole.
      let h = all rest whole in
      record {
        longer = (let m = length-append old turn in let none = h.0 in omega (arith, m, none));
        whole_is = record { more = h.1.more; is = ap (λ xs. old ++ xs) h.1.is ∙ sym (append_assoc old turn h.1.more) };
      };
}

-- a list goes on from what it begins with
pub goes_on_front : {A : Type 0} (front whole : List A) → front ≡ take (length front) whole → GoesOn front whole
goes_on_front front whole is = subst (λ xs. GoesOn xs whole) (sym is) (front_goes whole (length front))

-- ---- what stands at a place

pub did_some : {X : Type 0} (o : Option X) (x y : X) (b : Bool) → o ≡ Some x → (IsTrue b → x ≡ y) × (x ≡ y → IsTrue b) → (IsTrue b → o ≡ Some y) × (o ≡ Some y → IsTrue b)
did_some o x y b at is = (λ holds. at ∙ ap Some (is.0 holds), λ same. is.1 (same_Some x y (sym at ∙ same)))

none_some : {X : Type 0} (y : X) → None ≡ Some y → ⊥
none_some y is = absurd (cc)

pub did_none : {X : Type 0} (o : Option X) (y : X) → o ≡ None → (IsTrue false → o ≡ Some y) × (o ≡ Some y → IsTrue false)
did_none o y none = (λ holds. absurd (false≢true holds), λ same. absurd (none_some y (sym none ∙ same)))
