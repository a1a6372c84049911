-- One more change of a log.
use Rattle.std.proofs.Common.{◌≡◌, ℕ, ℤ, List, [], ◌∷◌, ◌++◌, length, Some, None, Result, Ok, Err, sym, ap, subst, ◌∙◌, arith, Option, Bor}
use Rattle.csv.specs.Records.{field_at}
use Rattle.std.specs.Prelude.{option_map}
use Rattle.tk_input.specs.Log.{IsFault, both_fields, change_added, next_change}
use Rattle.tk_input.specs.Records.{and_then, through}
use Rattle.tk_input.specs.declared.part.PartFault.{PartFault}
use Rattle.tk_input.specs.declared.part.PartFault.TheVariants.{BadNumber, BadRow, NoMemory, TooMany, UnknownName}

-- a record of two fields has its first one
pub no_first : (fields : List (List ℕ)) → length fields ≡ 2 → field_at fields 0 ≡ None → ⊥
unfolding field_at
no_first [] two none = absurd (omega (arith, two))
no_first (name ∷ rest) two none = absurd (cc)

-- and its second one
pub no_second : (fields : List (List ℕ)) → length fields ≡ 2 → field_at fields 1 ≡ None → ⊥
unfolding field_at
no_second [] two none = absurd (omega (arith, two))
no_second (name ∷ []) two none = absurd (omega (arith, two))
no_second (name ∷ text ∷ rest) two none = absurd (cc)

-- the two fields of a record that has two
pub both_found : (fields : List (List ℕ)) (name text : List ℕ) → length fields ≡ 2 → Some name ≡ field_at fields 0 → Some text ≡ field_at fields 1 → Some (name, text) ≡ both_fields fields
unfolding field_at
both_found [] name text two first second = absurd (omega (arith, two))
both_found (a ∷ []) name text two first second = absurd (omega (arith, two))
both_found (a ∷ b ∷ []) name text two first second = let x : name ≡ a = cc in let y : text ≡ b = cc in ap (λ (n : List ℕ). Some (n, text)) x ∙ ap (λ (t : List ℕ). Some (a, t)) y
both_found (a ∷ b ∷ c ∷ rest) name text two first second = absurd (omega (arith, two))

-- a record that is a change adds it
pub change_next : (names : List (List ℕ)) (before : List (ℕ × ℤ)) (change : ℕ × ℤ) (n : ℕ) (fields : List (List ℕ)) → n ≡ length before → next_change names n fields ≡ Ok change → change_added names before fields ≡ Ok (before ++ change ∷ [])
change_next names before change n fields so_many read =
    ap (λ (k : ℕ). and_then (λ more. Ok (before ++ more ∷ [])) (next_change names k fields)) (sym so_many)
    ∙ ap (and_then (λ more. Ok (before ++ more ∷ []))) read

-- what comes of a fault is the fault
pub fault_ends : {A B : Type 0} (r : Result A PartFault) (e : PartFault) (further : A → Result B PartFault) → IsFault e r → IsFault e (and_then further r)
fault_ends r TooMany further is = ap (and_then further) is
fault_ends r (BadRow n) further is = ap (and_then further) is
fault_ends r (UnknownName n) further is = ap (and_then further) is
fault_ends r (BadNumber n) further is = ap (and_then further) is
fault_ends r NoMemory further is = tt

-- a result that is a fault has that fault
pub meant_is : {A : Type 0} (r : Result A PartFault) (e : PartFault) → r ≡ Err e → IsFault e r
meant_is r TooMany is = is
meant_is r (BadRow n) is = is
meant_is r (UnknownName n) is = is
meant_is r (BadNumber n) is = is
meant_is r NoMemory is = tt

-- the fault of a record is that of them all
pub log_fault : (names : List (List ℕ)) (all : Result (List (ℕ × ℤ)) PartFault) (before : List (ℕ × ℤ)) (n : ℕ) (fields : List (List ℕ)) (rest rows : List (List (List ℕ))) (e : PartFault) → through (change_added names) before rows ≡ all → rows ≡ fields ∷ rest → n ≡ length before → next_change names n fields ≡ Err e → IsFault e all
unfolding through
log_fault names all before n fields rest rows e same is so_many fault =
    let here : IsFault e (next_change names (length before) fields) = subst (λ (k : ℕ). IsFault e (next_change names k fields)) so_many (meant_is (next_change names n fields) e fault) in
    subst (λ (r : Result (List (ℕ × ℤ)) PartFault). IsFault e r) same
    (rw is (fault_ends (change_added names before fields) e (λ after. through (change_added names) after rest) (fault_ends (next_change names (length before) fields) e (λ change. Ok (before ++ change ∷ [])) here)))

-- the bytes that are lent, if any
abbrev pub bytes_of : Option (Bor (List ℕ)) → Option (List ℕ)
bytes_of o = option_map (λ s. s.now) o
