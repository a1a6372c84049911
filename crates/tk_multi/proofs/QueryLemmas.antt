-- One more query of a file.
use Rattle.std.proofs.Common.{◌≡◌, ℕ, suc, zero, ◌<◌, List, [], ◌∷◌, length, Some, None, Result, Ok, Err, refl, sym, ap, subst, ◌∙◌, arith}
use Rattle.csv.specs.Records.{field_at}
use Rattle.tk_input.specs.Records.{and_then, records_in, through}
use Rattle.tk_input.specs.declared.catalog.CatalogFault.{CatalogFault}
use Rattle.tk_input.specs.declared.catalog.CatalogFault.TheVariants.{BadName, BadRow, Empty, NoMemory, Repeated, TooMany}
use Rattle.tk_multi.specs.Queries.{IsFault, QueryView, queries_of, query_added, some_queries}
use Rattle.tk_multi.proofs.ThroughLemmas.{through_first}
use Rattle.tk_input.proofs.ThroughLemmas.{through-none}

-- a record has its fields at their places
pub has_field : (fields : List (List ℕ)) (i : ℕ) → i < length fields → None ≡ field_at fields i → ⊥
unfolding field_at
has_field [] i within none = omega (arith, within)
has_field (f ∷ fields) zero within none = absurd (cc)
has_field (f ∷ fields) (suc i) within none = has_field fields i (omega (arith, within)) none

-- the fields of a record of four
pub four_fields : (fields : List (List ℕ)) (a b c d : List ℕ) → length fields ≡ 4 → Some a ≡ field_at fields 0 → Some b ≡ field_at fields 1 → Some c ≡ field_at fields 2 → Some d ≡ field_at fields 3
    → fields ≡ a ∷ b ∷ c ∷ d ∷ []
unfolding field_at
four_fields [] a b c d four p q r s = absurd (omega (arith, four))
four_fields (w ∷ []) a b c d four p q r s = absurd (omega (arith, four))
four_fields (w ∷ x ∷ []) a b c d four p q r s = absurd (omega (arith, four))
four_fields (w ∷ x ∷ y ∷ []) a b c d four p q r s = absurd (omega (arith, four))
four_fields (w ∷ x ∷ y ∷ z ∷ []) a b c d four p q r s = cc
four_fields (w ∷ x ∷ y ∷ z ∷ more ∷ rest) a b c d four p q r s = absurd (omega (arith, four))

fault_ends : (r : Result (List QueryView) CatalogFault) (e : CatalogFault) (further : List QueryView → Result (List QueryView) CatalogFault) → IsFault e r → IsFault e (and_then further r)
fault_ends r Empty further is = ap (and_then further) is
fault_ends r TooMany further is = ap (and_then further) is
fault_ends r (BadRow n) further is = ap (and_then further) is
fault_ends r (BadName n) further is = ap (and_then further) is
fault_ends r (Repeated n) further is = ap (and_then further) is
fault_ends r NoMemory further is = tt

-- the fault of a record is that of the file
pub record_fault : (bytes : List ℕ) (before : List QueryView) (fields : List (List ℕ)) (rest rows : List (List (List ℕ))) (e : CatalogFault)
    → through query_added before rows ≡ through query_added [] (records_in bytes) → rows ≡ fields ∷ rest → IsFault e (query_added before fields) → IsFault e (queries_of bytes)
record_fault bytes before fields rest rows e same is fault =
    subst (λ (r : Result (List QueryView) CatalogFault). IsFault e (and_then some_queries r)) (sym (through_first query_added before fields rest rows is) ∙ same)
    (fault_ends (and_then (λ after. through query_added after rest) (query_added before fields)) e some_queries
    (fault_ends (query_added before fields) e (λ after. through query_added after rest) fault))

-- after the last record the queries so far are all
pub read_all : (bytes : List ℕ) (before : List QueryView) (rows : List (List (List ℕ))) → through query_added before rows ≡ through query_added [] (records_in bytes) → rows ≡ [] → queries_of bytes ≡ some_queries before
read_all bytes before rows same is = ap (and_then some_queries) (sym same ∙ through-none query_added before rows is)

pub some_is : (queries : List QueryView) → (length queries ≡ 0 → ⊥) → some_queries queries ≡ Ok queries
some_is [] some = absurd (some refl)
some_is (query ∷ queries) some = refl

pub none_is : (queries : List QueryView) → length queries ≡ 0 → some_queries queries ≡ Err Empty
none_is [] none = refl
none_is (query ∷ queries) none = absurd (omega (arith, none))
