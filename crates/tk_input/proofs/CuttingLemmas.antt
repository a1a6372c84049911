-- A line in front of the records of a plain text, and the two fields of a line.
use Rattle.std.proofs.Common.{◌≡◌, ℕ, ◌+◌, ◌-◌, ◌<◌, true, false, List, [], ◌∷◌, length, take, drop, Option, Some, None, refl, sym, ap, ◌∙◌, arith}
use Rattle.std.specs.Prelude.{◌==◌, position}
use Rattle.std.specs.List.{slice_split}
use Rattle.std.specs.Option.{is_some}
use Rattle.std.proofs.lemmas.List.Splits.{length-slice_split}
use Rattle.tk_input.specs.Log.{both_fields}
use Rattle.tk_input.specs.Plain.{cut_fields, cut_records, rows_of, with_line}
use Rattle.tk_input.proofs.LinesLemmas.{none_after, split_found, split_missing}

line_before : (line : List ℕ) (lines : List (List ℕ)) → rows_of (line ∷ lines) ≡ with_line line (rows_of lines)
line_before [] lines = refl
line_before (b ∷ line) lines = refl

-- what stands behind a place, as a slice
abbrev behind : ℕ → List ℕ → List ℕ
behind i text = take (length text - (i + 1)) (drop (i + 1) text)

-- a line that ends with a line feed
pub first_cut : (text : List ℕ) (i : ℕ) → position (λ b. b == 10) text ≡ Some i → cut_records text ≡ with_line (take i text) (cut_records (take (length text - (i + 1)) (drop (i + 1) text)))
first_cut text i is =
    ap rows_of (split_found (λ b. b == 10) text i is)
    ∙ line_before (take i text) (slice_split (λ b. b == 10) (behind i text))

-- a last line without one
pub last_cut : (text : List ℕ) → position (λ b. b == 10) text ≡ None → cut_records text ≡ with_line text (cut_records (take (length text - length text) (drop (length text) text)))
last_cut text is =
    ap rows_of (split_missing (λ b. b == 10) text is)
    ∙ line_before text []
    ∙ ap (λ (rest : List ℕ). with_line text (cut_records rest)) (sym (none_after text))

-- a line without a comma has one field
pub no_comma : (line : List ℕ) → position (λ b. b == 44) line ≡ None → both_fields (cut_fields line) ≡ None
no_comma line is = ap both_fields (split_missing (λ b. b == 44) line is)

third_field : (name text : List ℕ) (more : List (List ℕ)) → 0 < length more → both_fields (name ∷ text ∷ more) ≡ None
third_field name text [] some = absurd (omega arith)
third_field name text (field ∷ more) some = refl

-- a line with more than one comma has more than two
pub two_commas : (line : List ℕ) (i : ℕ) (next : Option ℕ) → position (λ b. b == 44) line ≡ Some i → next ≡ position (λ b. b == 44) (take (length line - (i + 1)) (drop (i + 1) line)) → is_some next ≡ true → both_fields (cut_fields line) ≡ None
two_commas line i None is at some = absurd (cc)
two_commas line i (Some j) is at some =
    ap both_fields (split_found (λ b. b == 44) line i is ∙ ap (λ (fields : List (List ℕ)). take i line ∷ fields) (split_found (λ b. b == 44) (behind i line) j (sym at)))
    ∙ third_field (take i line) (take j (behind i line)) (cut_fields (behind j (behind i line))) (omega (arith, length-slice_split (λ b. b == 44) (behind j (behind i line))))

-- a line with one comma has two
pub one_comma : (line : List ℕ) (i : ℕ) (next : Option ℕ) → position (λ b. b == 44) line ≡ Some i → next ≡ position (λ b. b == 44) (take (length line - (i + 1)) (drop (i + 1) line)) → is_some next ≡ false
    → Some (take i line, take (length line - (i + 1)) (drop (i + 1) line)) ≡ both_fields (cut_fields line)
one_comma line i (Some j) is at none = absurd (cc)
one_comma line i None is at none =
    sym (ap both_fields (split_found (λ b. b == 44) line i is ∙ ap (λ (fields : List (List ℕ)). take i line ∷ fields) (split_missing (λ b. b == 44) (behind i line) (sym at))))
