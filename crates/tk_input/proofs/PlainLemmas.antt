-- csv reads a text without quotes and carriage returns as it is cut at line feeds and commas.
use Rattle.std.proofs.Common.{◌≡◌, ℕ, zero, suc, ◌+◌, ◌<◌, ◌≤◌, Bool, true, false, List, [], ◌∷◌, ◌++◌, length, Option, Some, None, refl, sym, ap, subst, ◌∙◌, arith, inl, inr, append_assoc, length-append}
use Rattle.std.specs.Prelude.{◌==◌, ◌||◌}
use Rattle.std.specs.List.{list_any, onto_first, slice_split}
use Rattle.std.proofs.lemmas.Bool.{cases_Bool, eqb-true}
use Rattle.std.proofs.lemmas.List.{append-nil}
use Rattle.std.proofs.lemmas.List.Folds.{list_any-append}
use Rattle.std.proofs.lemmas.List.Splits.{length-slice_split, slice_split-cons_no, slice_split-cons_yes}
use Rattle.csv.specs.Machine.{next_record}
use Rattle.csv.specs.Reading.{default_config, records, records_from, strip_bom}
use Rattle.csv.specs.declared.parser.State.TheVariants as st
use Rattle.csv.proofs.RoundTrip.{record-same, start-same}
use Rattle.tk_base.proofs.BoolLemmas.{neither_right, not_true}
use Rattle.tk_input.specs.Plain.{cut_fields, cut_records, is_apart, is_plain, rows_of}
use Rattle.tk_input.specs.Records.{records_in}
use Rattle.tk_input.proofs.ReadingLemmas.{enough, first_found, no_record}

or_left : (a b : Bool) → (a || b) ≡ false → a ≡ false
or_left false b e = refl
or_left true b e = absurd (cc)

-- such a byte in front of such a text
plain_byte : (b : ℕ) (text : List ℕ) → list_any is_apart (b ∷ text) ≡ false → ((b == 34) ≡ false) × ((b == 13) ≡ false) × ((b == 239) ≡ false)
plain_byte b text plain =
    let all = or_left (is_apart b) (list_any is_apart text) plain in
    let two = or_left (b == 34 || b == 13) (b == 239) all in
    (or_left (b == 34) (b == 13) two, neither_right (b == 34) (b == 13) two, neither_right (b == 34 || b == 13) (b == 239) all)

abbrev is_feed : ℕ → Bool
is_feed b = b == 10

-- what stands behind a line: nothing, or a line feed and the rest
abbrev ended : Option (List ℕ) → List ℕ
ended None = []
ended (Some rest) = 10 ∷ rest

-- the rest alone
abbrev left : Option (List ℕ) → List ℕ
left None = []
left (Some rest) = rest

-- the lines of the rest
abbrev lines_in : Option (List ℕ) → List (List ℕ)
lines_in None = []
lines_in (Some rest) = slice_split (λ b. b == 10) rest

-- the parts behind a front that the first of them goes on with
abbrev begun : List ℕ → List (List ℕ) → List (List ℕ)
begun front [] = front ∷ []
begun front (part ∷ parts) = (front ++ part) ∷ parts

begun_nothing : (parts : List (List ℕ)) → 0 < length parts → begun [] parts ≡ parts
begun_nothing [] some = absurd (omega arith)
begun_nothing (part ∷ parts) some = refl

begun_more : (front : List ℕ) (c : ℕ) (parts : List (List ℕ)) → begun (front ++ (c ∷ [])) parts ≡ begun front (onto_first c parts)
begun_more front c [] = refl
begun_more front c (part ∷ parts) = ap (λ (p : List ℕ). p ∷ parts) (append_assoc front (c ∷ []) part)

some_field : (line : List ℕ) → 0 < length (cut_fields line)
some_field line = omega (arith, length-slice_split (λ b. b == 44) line)

-- a field begins as it goes on
field_starts : (fields : List (List ℕ)) (line : List ℕ) (behind : Option (List ℕ)) → list_any is_apart line ≡ false
    → next_record default_config st.StartField fields [] (line ++ ended behind) ≡ next_record default_config st.InField fields [] (line ++ ended behind)
unfolding next_record
field_starts fields [] None plain = refl
field_starts fields [] (Some rest) plain = start-same fields [] 10 rest refl
field_starts fields (c ∷ line) behind plain = start-same fields [] c (line ++ ended behind) (plain_byte c line plain).0

-- the rest of a line, inside a field
line_read : (fields : List (List ℕ)) (field line : List ℕ) (behind : Option (List ℕ)) → list_any is_apart line ≡ false → list_any is_feed line ≡ false
    → next_record default_config st.InField fields field (line ++ ended behind) ≡ Some (fields ++ begun field (cut_fields line), st.StartRecord, left behind)
unfolding next_record
line_read fields field [] None plain one = rw (append-nil field) refl
line_read fields field [] (Some rest) plain one = rw (append-nil field) refl
line_read fields field (c ∷ line) behind plain one =
    let others = neither_right (is_apart c) (list_any is_apart line) plain in
    let none = neither_right (is_feed c) (list_any is_feed line) one in
    elim (cases_Bool (c == 44)) [
      | inl comma ↦
          subst (λ (z : ℕ). next_record default_config st.InField fields field ((z ∷ line) ++ ended behind) ≡ Some (fields ++ begun field (cut_fields (z ∷ line)), st.StartRecord, left behind)) (sym (eqb-true c 44 comma))
          (field_starts (fields ++ (field ∷ [])) line behind others
          ∙ line_read (fields ++ (field ∷ [])) [] line behind others none
          ∙ ap (λ (fs : List (List ℕ)). Some (fs, st.StartRecord, left behind))
          (append_assoc fields (field ∷ []) (begun [] (cut_fields line))
          ∙ ap (λ (fs : List (List ℕ)). fields ++ (field ∷ fs)) (begun_nothing (cut_fields line) (some_field line))
          ∙ ap (λ (f : List ℕ). fields ++ (f ∷ cut_fields line)) (sym (append-nil field))))
      | inr other ↦
          let return = (plain_byte c line plain).1 in
          let feed = or_left (is_feed c) (list_any is_feed line) one in
          rw (other, return, feed)
          (line_read fields (field ++ (c ∷ [])) line behind others none
          ∙ ap (λ (fs : List (List ℕ)). Some (fields ++ fs, st.StartRecord, left behind)) (begun_more field c (cut_fields line)))
    ]

-- a line that is not empty is a record of its fields
record_read : (b : ℕ) (line : List ℕ) (behind : Option (List ℕ)) → list_any is_apart (b ∷ line) ≡ false → list_any is_feed (b ∷ line) ≡ false
    → next_record default_config st.StartRecord [] [] ((b ∷ line) ++ ended behind) ≡ Some (cut_fields (b ∷ line), st.StartRecord, left behind)
record_read b line behind plain one =
    let first = plain_byte b line plain in
    record-same [] [] b (line ++ ended behind) first.1 (or_left (is_feed b) (list_any is_feed line) one)
    ∙ start-same [] [] b (line ++ ended behind) first.0
    ∙ line_read [] [] (b ∷ line) behind plain one
    ∙ ap (λ (fs : List (List ℕ)). Some (fs, st.StartRecord, left behind)) (begun_nothing (cut_fields (b ∷ line)) (some_field (b ∷ line)))

-- an empty line is no record
feed_passed : (rest : List ℕ) → records default_config (10 ∷ rest) ≡ records default_config rest
unfolding next_record records_from
feed_passed rest =
    let size : length (10 ∷ rest) + 1 ≡ suc (suc (length rest)) = omega arith in
    ap (λ (n : ℕ). records_from default_config n st.StartRecord (10 ∷ rest)) size
    ∙ enough default_config (suc (suc (length rest))) (length rest + 1) st.StartRecord rest (omega arith) (omega arith)

end_passed : (behind : Option (List ℕ)) → records default_config (ended behind) ≡ records default_config (left behind)
end_passed None = refl
end_passed (Some rest) = feed_passed rest

-- a text is its first line and what follows
record FirstLine (text : List ℕ) : Type 0 where
  line : List ℕ
  behind : Option (List ℕ)
  whole : text ≡ line ++ ended behind
  one : list_any is_feed line ≡ false
  lines : slice_split (λ b. b == 10) text ≡ line ∷ lines_in behind

first_line : (text : List ℕ) → FirstLine text
first_line [] = record { line = []; behind = None; whole = refl; one = refl; lines = refl }
first_line (c ∷ text) = elim (cases_Bool (c == 10)) [
  | inl feed ↦ record {
    line = [];
    behind = Some text;
    whole = ap (λ (z : ℕ). z ∷ text) (eqb-true c 10 feed);
    one = refl;
    lines = slice_split-cons_yes (λ b. b == 10) c text feed;
  }
  | inr other ↦
      let more = first_line text in
      record {
        line = c ∷ more.line;
        behind = more.behind;
        whole = ap (λ (xs : List ℕ). c ∷ xs) more.whole;
        one = ap (λ (b : Bool). b || list_any is_feed more.line) other ∙ more.one;
        lines = slice_split-cons_no (λ b. b == 10) c text other ∙ ap (onto_first c) more.lines;
      }
]

-- what is meant holds of all shorter plain texts
abbrev Below : ℕ → Type 0
Below size = (text : List ℕ) → length text < size → list_any is_apart text ≡ false → records default_config text ≡ cut_records text

rest_read : (size : ℕ) (line : List ℕ) (behind : Option (List ℕ)) → Below size → length (line ++ ended behind) ≤ size → list_any is_apart (ended behind) ≡ false
    → records default_config (left behind) ≡ rows_of (lines_in behind)
rest_read size line None below small plain = no_record default_config 1
rest_read size line (Some rest) below small plain =
    let within : length (line ++ (10 ∷ rest)) ≤ size = small in
    below rest (omega (arith, within, length-append line (10 ∷ rest))) plain

line_first : (size : ℕ) (line : List ℕ) (behind : Option (List ℕ)) → Below size → length (line ++ ended behind) ≤ size → list_any is_apart (line ++ ended behind) ≡ false → list_any is_feed line ≡ false
    → records default_config (line ++ ended behind) ≡ rows_of (line ∷ lines_in behind)
line_first size [] behind below small plain one = end_passed behind ∙ rest_read size [] behind below small plain
line_first size (b ∷ line) behind below small plain one =
    let parted = sym (list_any-append is_apart (b ∷ line) (ended behind)) ∙ plain in
    first_found default_config st.StartRecord st.StartRecord ((b ∷ line) ++ ended behind) (left behind) (cut_fields (b ∷ line)) (Some (cut_fields (b ∷ line), st.StartRecord, left behind))
    (record_read b line behind (or_left (list_any is_apart (b ∷ line)) (list_any is_apart (ended behind)) parted) one) (refl, refl, refl, refl)
    ∙ ap (λ (rows : List (List (List ℕ))). cut_fields (b ∷ line) ∷ rows)
    (rest_read size (b ∷ line) behind below small (neither_right (list_any is_apart (b ∷ line)) (list_any is_apart (ended behind)) parted))

all_read : (size : ℕ) (text : List ℕ) → Below size → length text ≤ size → list_any is_apart text ≡ false → records default_config text ≡ cut_records text
all_read size text below small plain =
    let first = first_line text in
    ap (records default_config) first.whole
    ∙ line_first size first.line first.behind below (subst (λ (xs : List ℕ). length xs ≤ size) first.whole small) (ap (list_any is_apart) (sym first.whole) ∙ plain) first.one
    ∙ ap rows_of (sym first.lines)

by_size : (size : ℕ) (text : List ℕ) → length text < size → list_any is_apart text ≡ false → records default_config text ≡ cut_records text
by_size zero text shorter plain = absurd (omega (arith, shorter))
by_size (suc size) text shorter plain = all_read size text (by_size size) (omega (arith, shorter)) plain

-- no byte order mark is dropped
no_mark : (text : List ℕ) → list_any is_apart text ≡ false → strip_bom text ≡ text
unfolding strip_bom
no_mark [] plain = refl
no_mark (a ∷ []) plain = refl
no_mark (a ∷ b ∷ []) plain = refl
no_mark (a ∷ b ∷ c ∷ rest) plain = rw (plain_byte a (b ∷ c ∷ rest) plain).2 refl

-- the records that csv reads of a plain text
pub plain_records : (text : List ℕ) → is_plain text ≡ true → records_in text ≡ cut_records text
plain_records text is =
    let plain = not_true (list_any is_apart text) (is_plain text) refl is in
    ap (λ (xs : List ℕ). records default_config xs) (no_mark text plain) ∙ by_size (suc (length text)) text (omega arith) plain
