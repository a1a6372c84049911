-- What csv reads of a plain line.
use Rattle.std.proofs.Common.{◌≡◌, ◌≢◌, ◌==◌, ◌++◌, ◌∷◌, ◌∙◌, [], ℕ, ℤ, suc, ◌+◌, ◌<◌, List, Bool, Option, Some, None, Ok, Err, Result, refl, sym, ap, true, false, not, cond, append_assoc, arith, length, take, drop, get_or}
use Rattle.std.specs.Prelude.{◌||◌, position}
use Rattle.std.specs.List.{list_any, position_or_len}
use Rattle.std.proofs.lemmas.List.{append-nil, take-append-drop, length-take-le}
use Rattle.std.proofs.lemmas.Bool.{ne_eqb}
use Rattle.std.proofs.Math.Seq.{drop-cons}
use Rattle.csv.specs.Machine.{next_record}
use Rattle.csv.specs.Reading.{default_config, records, records_from, strip_bom}
use Rattle.csv.specs.declared.parser.State.TheVariants as st
use Rattle.tk_base.proofs.BoolLemmas.{neither_right}
use Rattle.tk_input.proofs.CountLemmas.{position_found}
use Rattle.tk_input.specs.Catalog.{object_of}
use Rattle.tk_input.specs.Log.{change_added, change_of}
use Rattle.tk_input.specs.Number.{whole_number}
use Rattle.tk_input.specs.Records.{and_then, records_in, through}
use Rattle.tk_stream.specs.Line.{are_tick, line_change, meant_by}
use Rattle.tk_stream.specs.Plain.{IsPlain, is_mark}
use Rattle.tk_stream.specs.declared.line_fault.LineFault.{LineFault}
use Rattle.tk_stream.specs.declared.line_fault.LineFault.TheVariants as l

or_left : (a b : Bool) → (a || b) ≡ false → a ≡ false
or_left false b e = refl
or_left true b e = absurd (cc)

-- a byte that is no mark
plain_byte : (b : ℕ) → is_mark b ≡ false → ((b == 44) ≡ false) × ((b == 34) ≡ false) × ((b == 13) ≡ false) × ((b == 10) ≡ false)
plain_byte b e =
    let three = or_left (b == 44 || b == 34 || b == 13) (b == 10) e in
    let two = or_left (b == 44 || b == 34) (b == 13) three in
    (or_left (b == 44) (b == 34) two, neither_right (b == 44) (b == 34) two, neither_right (b == 44 || b == 34) (b == 13) three, neither_right (b == 44 || b == 34 || b == 13) (b == 10) e)

-- bytes that are no marks join the field at hand
plain_run : (fields : List (List ℕ)) (field x tail : List ℕ) → list_any is_mark x ≡ false → next_record default_config st.InField fields field (x ++ tail) ≡ next_record default_config st.InField fields (field ++ x) tail
unfolding next_record
plain_run fields field [] tail e = rw (append-nil field) refl
plain_run fields field (b ∷ rest) tail e =
    let q = plain_byte b (or_left (is_mark b) (list_any is_mark rest) e) in
    rw (q.0, q.2, q.3) (plain_run fields (field ++ (b ∷ [])) rest tail (neither_right (is_mark b) (list_any is_mark rest) e)
    ∙ ap (λ (f : List ℕ). next_record default_config st.InField fields f tail) (append_assoc field (b ∷ []) rest))

-- such a byte begins a field
field_starts : (fields : List (List ℕ)) (b : ℕ) (rest : List ℕ) → is_mark b ≡ false → next_record default_config st.StartField fields [] (b ∷ rest) ≡ next_record default_config st.InField fields (b ∷ []) rest
unfolding next_record
field_starts fields b rest e = let q = plain_byte b e in rw (q.0, q.1, q.2, q.3) refl

-- and a record
record_starts : (b : ℕ) (rest : List ℕ) → is_mark b ≡ false → next_record default_config st.StartRecord [] [] (b ∷ rest) ≡ next_record default_config st.InField [] (b ∷ []) rest
unfolding next_record
record_starts b rest e = let q = plain_byte b e in rw (q.0, q.1, q.2, q.3) refl

-- a comma ends a field
field_ends : (fields : List (List ℕ)) (x u : List ℕ) → next_record default_config st.InField fields x (44 ∷ u) ≡ next_record default_config st.StartField (fields ++ (x ∷ [])) [] u
unfolding next_record
field_ends fields x u = refl

-- the end of the text ends the last field
last_ends : (fields : List (List ℕ)) (x : List ℕ) → next_record default_config st.InField fields x [] ≡ Some (fields ++ (x ∷ []), st.StartRecord, [])
unfolding next_record
last_ends fields x = refl

last_empty : (fields : List (List ℕ)) → next_record default_config st.StartField fields [] [] ≡ Some (fields ++ ([] ∷ []), st.StartRecord, [])
unfolding next_record
last_empty fields = refl

last_field : (fields : List (List ℕ)) (text : List ℕ) → list_any is_mark text ≡ false → next_record default_config st.StartField fields [] text ≡ Some (fields ++ (text ∷ []), st.StartRecord, [])
last_field fields [] e = last_empty fields
last_field fields (b ∷ text) e =
    field_starts fields b text (or_left (is_mark b) (list_any is_mark text) e)
    ∙ ap (λ (xs : List ℕ). next_record default_config st.InField fields (b ∷ []) xs) (sym (append-nil text))
    ∙ plain_run fields (b ∷ []) text [] (neither_right (is_mark b) (list_any is_mark text) e)
    ∙ last_ends fields (b ∷ text)

both_read : (b : ℕ) (name text : List ℕ) → is_mark b ≡ false → list_any is_mark name ≡ false → list_any is_mark text ≡ false → next_record default_config st.StartRecord [] [] (b ∷ (name ++ (44 ∷ text))) ≡ Some ((b ∷ name) ∷ text ∷ [], st.StartRecord, [])
both_read b name text first front back =
    record_starts b (name ++ (44 ∷ text)) first
    ∙ plain_run [] (b ∷ []) name (44 ∷ text) front
    ∙ field_ends [] (b ∷ name) text
    ∙ last_field ((b ∷ name) ∷ []) text back

-- no byte order mark is dropped
keeps_start : (b : ℕ) (rest : List ℕ) → (b == 239) ≡ false → strip_bom (b ∷ rest) ≡ b ∷ rest
unfolding strip_bom
keeps_start b [] other = refl
keeps_start b (c ∷ []) other = refl
keeps_start b (c ∷ d ∷ rest) other = rw other refl

one_record : (k : ℕ) (bytes : List ℕ) (fields : List (List ℕ)) → next_record default_config st.StartRecord [] [] bytes ≡ Some (fields, st.StartRecord, []) → records_from default_config (suc (suc k)) st.StartRecord bytes ≡ fields ∷ []
unfolding records_from next_record
one_record k bytes fields is = rw is refl

-- the fields of a plain line
fields_of_plain : (front text line : List ℕ) → line ≡ front ++ (44 ∷ text) → 0 < length front → get_or line 0 0 ≢ 239 → list_any is_mark front ≡ false → list_any is_mark text ≡ false → records_in line ≡ (front ∷ text ∷ []) ∷ []
fields_of_plain [] text line is some start name back = absurd (omega arith)
fields_of_plain (b ∷ name) text line is some start front back =
    let rest : List ℕ = name ++ (44 ∷ text) in
    let size : length (b ∷ rest) + 1 ≡ suc (suc (length rest)) = omega arith in
    ap records_in is
    ∙ ap (records default_config) (keeps_start b rest (ne_eqb b 239 (λ same. start (ap (λ xs. get_or xs 0 0) is ∙ same))))
    ∙ ap (λ n. records_from default_config n st.StartRecord (b ∷ rest)) size
    ∙ one_record (length rest) (b ∷ rest) ((b ∷ name) ∷ text ∷ []) (both_read b name text (or_left (is_mark b) (list_any is_mark name) front) (neither_right (is_mark b) (list_any is_mark name) front) back)

-- the change of an object by a number, or what forbids it
abbrev pub plain_of : Option ℕ → Option ℤ → Result (ℕ × ℤ) LineFault
plain_of None by = Err l.UnknownName
plain_of (Some o) None = Err l.BadNumber
plain_of (Some o) (Some by) = Ok (o, by)

meant : (o : Option ℕ) (z : Option ℤ) → meant_by (and_then (λ after. Ok after) (and_then (λ change. Ok (change ∷ [])) (change_of 1 o z))) ≡ plain_of o z
meant None z = refl
meant (Some o) None = refl
meant (Some o) (Some by) = refl

log_of_one : (names : List (List ℕ)) (name text : List ℕ) → meant_by (through (change_added names) [] ((name ∷ text ∷ []) ∷ [])) ≡ plain_of (object_of names name) (whole_number text)
unfolding through
log_of_one names name text = meant (object_of names name) (whole_number text)

-- the one record of a plain line
plain_records : (line : List ℕ) (place : ℕ) → IsPlain line place → records_in line ≡ (take place line ∷ drop (place + 1) line ∷ []) ∷ []
plain_records line place is =
    let next : suc place ≡ place + 1 = omega arith in
    let behind : drop place line ≡ 44 ∷ drop (place + 1) line =
    drop-cons line place 0 is.within ∙ ap (λ b. b ∷ drop (suc place) line) is.comma ∙ ap (λ n. 44 ∷ drop n line) next in
    let whole : line ≡ take place line ++ (44 ∷ drop (place + 1) line) =
    sym (take-append-drop place line) ∙ ap (λ xs. take place line ++ xs) behind in
    let some : 0 < length (take place line) = omega (arith, length-take-le place line (omega (arith, is.within)), is.some) in
    fields_of_plain (take place line) (drop (place + 1) line) line whole some is.start is.name is.text

-- what a plain line is
pub plain_line : (names : List (List ℕ)) (line : List ℕ) (place : ℕ) → IsPlain line place → line_change names line ≡ plain_of (object_of names (take place line)) (whole_number (drop (place + 1) line))
plain_line names line place is =
    ap (λ rows. meant_by (through (change_added names) [] rows)) (plain_records line place is)
    ∙ log_of_one names (take place line) (drop (place + 1) line)

-- it is no tick
pub plain_is_no_tick : (line : List ℕ) (place : ℕ) → IsPlain line place → are_tick (records_in line) ≡ false
plain_is_no_tick line place is = ap are_tick (plain_records line place is)

-- in front of the first mark there is none
none_before : (p : ℕ → Bool) (xs : List ℕ) → list_any p (take (position_or_len p xs) xs) ≡ false
none_before p [] = refl
none_before p (x ∷ xs) = by (p x) refl (none_before p xs) where
  by : (b : Bool) → p x ≡ b → list_any p (take (position_or_len p xs) xs) ≡ false → list_any p (take (cond (not b) (1 + position_or_len p xs) 0) (x ∷ xs)) ≡ false
  by true is more = refl
  by false is more =
      let same : 1 + position_or_len p xs ≡ suc (position_or_len p xs) = omega arith in
      ap (λ n. list_any p (take n (x ∷ xs))) same ∙ ap (λ b. b || list_any p (take (position_or_len p xs) xs)) is ∙ more

-- the place of the first mark
pub first_mark : (line : List ℕ) (place : ℕ) → position is_mark line ≡ Some place → (place < length line) × (list_any is_mark (take place line) ≡ false)
first_mark line place is =
    let at = position_found is_mark line place is in
    (at.within, ap (λ n. list_any is_mark (take n line)) at.first ∙ none_before is_mark line)

-- what is no value is none
pub none_of : {A : Type 0} (o : Option A) → ((x : A) → o ≡ Some x → ⊥) → o ≡ None
none_of None other = refl
none_of (Some x) other = absurd (other x refl)
