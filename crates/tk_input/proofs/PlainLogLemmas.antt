-- The changes of a plain text, line by line.
use Rattle.std.proofs.Common.{◌≡◌, ℕ, ℤ, ◌<◌, true, List, [], ◌∷◌, ◌++◌, length, Option, Result, Ok, Err, refl, sym, ap, subst, ◌∙◌, arith}
use Rattle.tk_input.specs.Log.{IsFault, both_fields, change_added, change_behind, log_of, next_change}
use Rattle.tk_input.specs.Plain.{cut_fields, cut_records, is_plain, with_line}
use Rattle.tk_input.specs.Records.{and_then, through}
use Rattle.tk_input.specs.declared.part.PartFault.{PartFault}
use Rattle.tk_input.proofs.PlainLemmas.{plain_records}
use Rattle.tk_input.proofs.LogLemmas.{change_next, fault_ends, meant_is}

and_then_ok : {A E : Type 0} (r : Result A E) → and_then (λ x. Ok x) r ≡ r
and_then_ok (Ok x) = refl
and_then_ok (Err e) = refl

-- an empty line adds nothing
pub empty_line : {A E : Type 0} (step : A → List (List ℕ) → Result A E) (before : A) (line : List ℕ) → length line ≡ 0 → through step before (with_line line []) ≡ Ok before
unfolding through
empty_line step before [] none = refl
empty_line step before (b ∷ line) none = absurd (omega (arith, none))

-- another adds its record
pub filled_line : {A E : Type 0} (step : A → List (List ℕ) → Result A E) (before : A) (line : List ℕ) → 0 < length line → through step before (with_line line []) ≡ step before (cut_fields line)
unfolding through
filled_line step before [] some = absurd (omega (arith, some))
filled_line step before (b ∷ line) some = and_then_ok (step before (cut_fields (b ∷ line)))

line_then : {A E : Type 0} (step : A → List (List ℕ) → Result A E) (before : A) (line : List ℕ) (rows : List (List (List ℕ)))
    → through step before (with_line line rows) ≡ and_then (λ after. through step after rows) (through step before (with_line line []))
unfolding through
line_then step before [] rows = refl
line_then step before (b ∷ line) rows = ap (and_then (λ after. through step after rows)) (sym (and_then_ok (step before (cut_fields (b ∷ line)))))

-- what follows a line goes on behind it
pub line_taken : {A E : Type 0} (step : A → List (List ℕ) → Result A E) (before after : A) (line : List ℕ) (rows : List (List (List ℕ))) → through step before (with_line line []) ≡ Ok after
    → through step before (with_line line rows) ≡ through step after rows
line_taken step before after line rows is = line_then step before line rows ∙ ap (and_then (λ more. through step more rows)) is

-- the fault of a line is that of them all
pub line_fault : {A : Type 0} (step : A → List (List ℕ) → Result A PartFault) (before : A) (line : List ℕ) (rows : List (List (List ℕ))) (e : PartFault) → IsFault e (through step before (with_line line []))
    → IsFault e (through step before (with_line line rows))
line_fault {A} step before line rows e is =
    subst (λ (r : Result A PartFault). IsFault e r) (sym (line_then step before line rows)) (fault_ends (through step before (with_line line [])) e (λ after. through step after rows) is)

-- the change of a line comes behind the others
pub filled_taken : (names : List (List ℕ)) (before : List (ℕ × ℤ)) (change : ℕ × ℤ) (n : ℕ) (line : List ℕ) (fields : Option (List ℕ × List ℕ)) → 0 < length line → n ≡ length before → fields ≡ both_fields (cut_fields line) → change_behind names n fields ≡ Ok change
    → through (change_added names) before (with_line line []) ≡ Ok (before ++ change ∷ [])
filled_taken names before change n line fields some so_many two read =
    filled_line (change_added names) before line some
    ∙ change_next names before change n (cut_fields line) so_many (ap (change_behind names n) (sym two) ∙ read)

-- or its fault is the first
pub filled_fault : (names : List (List ℕ)) (before : List (ℕ × ℤ)) (n : ℕ) (line : List ℕ) (fields : Option (List ℕ × List ℕ)) (e : PartFault) → 0 < length line → n ≡ length before → fields ≡ both_fields (cut_fields line) → change_behind names n fields ≡ Err e
    → IsFault e (through (change_added names) before (with_line line []))
filled_fault names before n line fields e some so_many two fault =
    let here : next_change names (length before) (cut_fields line) ≡ Err e = ap (λ (k : ℕ). next_change names k (cut_fields line)) (sym so_many) ∙ ap (change_behind names n) (sym two) ∙ fault in
    subst (λ (r : Result (List (ℕ × ℤ)) PartFault). IsFault e r) (sym (filled_line (change_added names) before line some))
    (fault_ends (next_change names (length before) (cut_fields line)) e (λ change. Ok (before ++ change ∷ [])) (meant_is (next_change names (length before) (cut_fields line)) e here))

-- behind the last line there is nothing
pub nothing_left : {A E : Type 0} (step : A → List (List ℕ) → Result A E) (before : A) (text : List ℕ) → length text ≡ 0 → through step before (cut_records text) ≡ Ok before
unfolding through
nothing_left step before [] none = refl
nothing_left step before (b ∷ text) none = absurd (omega (arith, none))

-- the changes of a plain log are those of its lines
pub log_cut : (names : List (List ℕ)) (before : List (ℕ × ℤ)) (bytes : List ℕ) → before ≡ [] → is_plain bytes ≡ true → through (change_added names) before (cut_records bytes) ≡ log_of names bytes
log_cut names before bytes none plain =
    ap (λ (xs : List (ℕ × ℤ)). through (change_added names) xs (cut_records bytes)) none
    ∙ ap (through (change_added names) []) (sym (plain_records bytes plain))
