-- The lines of the entries that were passed, and of those behind them.
use Rattle.std.proofs.Common.{◌≡◌, ℕ, ◌+◌, ◌-◌, ◌≤◌, ◌<◌, ◌||◌, false, List, [], ◌∷◌, ◌++◌, length, take, drop, get_or, Option, Some, None, refl, sym, ap, subst, ◌∙◌, append_assoc, append-nil, arith, length-append, length-drop, zero-add}
use Rattle.std.specs.Prelude.{unwrap_or}
use Rattle.std.specs.List.{concat, cons_option, list_any, slice_range}
use Rattle.std.proofs.lemmas.List.{drop-append-le, take-append-drop, take-take, take_at, take_more, take_rest}
use Rattle.std.proofs.Math.Seq.{take-length}
use Rattle.std.proofs.lemmas.List.Folds.{concat-append, drop_split, list_any-append}
use Rattle.tk_base.specs.History.{IsFront}
use Rattle.tk_input.specs.Sink.{Grows, GrowsByFront}
use Rattle.tk_journal.proofs.Appends.{walk-append}
use Rattle.tk_journal.specs.Publishing.{publications}
use Rattle.tk_journal.specs.Walks.{walk}
use Rattle.tk_journal.specs.declared.noted.Noted.{Noted}
use Rattle.tk_journal.specs.declared.noted.Noted.TheVariants as n
use Rattle.tk_ledger.specs.Text.{is_tuned, line_at, lines_in, lines_of}
use Rattle.tk_hub.specs.Lines.{IsAt, IsCutShort, text_between, text_from, text_written, written_in}
use Rattle.tk_hub.specs.declared.lines.Lines.{Lines}
use Rattle.tk_ledger.proofs.SinkLemmas.{grows_more}
use Rattle.tk_ledger.proofs.LineLemmas.{or_one}

-- ---- what is written piece by piece

-- a text, and a front of what was due behind it
pub cut_short : (a b c : Option (List ℕ)) (done line rest due : List ℕ) → due ≡ line ++ rest → Grows a b done → GrowsByFront b c line → IsCutShort done due a c
cut_short a b c done line rest due is grown (front, back, parts, more) = record {
  front = front;
  back = back ++ rest;
  parts = is ∙ ap (λ xs. xs ++ rest) parts ∙ append_assoc front back rest;
  grown = grows_more a b c done front grown more;
}

-- a text that was cut short is a front of it and what was due
pub cut_is_front : (done due : List ℕ) (a b : Option (List ℕ)) → IsCutShort done due a b → GrowsByFront a b (done ++ due)
cut_is_front done due a b cut = (done ++ cut.front, cut.back, ap (λ xs. done ++ xs) cut.parts ∙ sym (append_assoc done cut.front cut.back), cut.grown)

-- ---- the lines of a front of a journal

walked : (names : List (List ℕ)) (before : List Noted) (lines : List (List ℕ)) (after : List Noted)
    → (rest : List (List ℕ)) × (walk (λ b l e. l ++ lines_in names b e) before lines after ≡ lines ++ rest)
walked names before lines [] = ([], sym (append-nil lines))
walked names before lines (e ∷ after) =
    let (rest, is) = walked names (before ++ e ∷ []) (lines ++ lines_in names before e) after in
    (lines_in names before e ++ rest, is ∙ append_assoc lines (lines_in names before e) rest)

-- the lines of more entries begin with those of the first
pub lines_grow : (names : List (List ℕ)) (before after : List Noted) → (rest : List (List ℕ)) × (lines_of names (before ++ after) ≡ lines_of names before ++ rest)
unfolding lines_of
lines_grow names before after =
    let (rest, is) = walked names before (lines_of names before) after in
    (rest, walk-append (λ b l e. l ++ lines_in names b e) [] [] before after ∙ is)

-- one more entry adds its line, if it has one
pub lines_next : (names : List (List ℕ)) (before : List Noted) (e : Noted) → lines_of names (before ++ e ∷ []) ≡ lines_of names before ++ lines_in names before e
unfolding lines_of
lines_next names before e = walk-append (λ b l e. l ++ lines_in names b e) [] [] before (e ∷ [])

count_walked : (names : List (List ℕ)) (before : List Noted) (lines : List (List ℕ)) (after : List Noted)
    → length (walk (λ b l e. l ++ lines_in names b e) before lines after) ≡ length lines + length (publications after)
count_walked names before lines [] = omega arith
count_walked names before lines (n.Got from frame ∷ after) =
    let rest = count_walked names (before ++ n.Got from frame ∷ []) (lines ++ []) after in
    let more = length-append lines [] in
    omega arith
count_walked names before lines (n.Sent to frame ∷ after) =
    let rest = count_walked names (before ++ n.Sent to frame ∷ []) (lines ++ []) after in
    let more = length-append lines [] in
    omega arith
count_walked names before lines (n.Published p ∷ after) =
    let rest = count_walked names (before ++ n.Published p ∷ []) (lines ++ lines_in names before (n.Published p)) after in
    let more = length-append lines (lines_in names before (n.Published p)) in
    omega arith
count_walked names before lines (n.Tuned k epsilon ∷ after) =
    let rest = count_walked names (before ++ n.Tuned k epsilon ∷ []) (lines ++ []) after in
    let more = length-append lines [] in
    omega arith

-- there is one line for each publication
pub length-lines_of : (names : List (List ℕ)) (journal : List Noted) → length (lines_of names journal) ≡ length (publications journal)
unfolding lines_of
length-lines_of names journal = count_walked names [] [] journal ∙ zero-add (length (publications journal))

-- ---- the text between two lines

slice_front : (xs rest : List (List ℕ)) (from to : ℕ) → length xs ≡ to → from ≤ to → slice_range (xs ++ rest) from to ≡ drop from xs
slice_front xs rest from to size within =
    let long : from ≤ length xs = omega arith in
    ap (take (to - from)) (drop-append-le from xs rest long) ∙ take_at (drop from xs) rest (to - from) (omega (arith, length-drop from xs))

-- the text of all lines of a front but the first ones
front_text : (names : List (List ℕ)) (before after : List Noted) (from : ℕ) → from ≤ length (publications before)
    → text_between names (before ++ after) from (length (publications before)) ≡ concat (drop from (lines_of names before))
front_text names before after from within =
    let (rest, is) = lines_grow names before after in
    ap (λ xs. concat (slice_range xs from (length (publications before)))) is
    ∙ ap concat (slice_front (lines_of names before) rest from (length (publications before)) (length-lines_of names before) within)

concat_one : (o : Option (List ℕ)) → concat (cons_option o []) ≡ unwrap_or o []
concat_one None = refl
concat_one (Some line) = append-nil line

pub text_none : (names : List (List ℕ)) (journal : List Noted) (at : ℕ) → text_between names journal at at ≡ []
text_none names journal at = let none : at - at ≡ 0 = omega arith in ap (λ k. concat (take k (drop at (lines_of names journal)))) none

-- the text from one line on is that up to another, and that from there on
pub text_split : (names : List (List ℕ)) (journal : List Noted) (from to : ℕ) → from ≤ to → to ≤ length (publications journal)
    → text_from names journal from ≡ text_between names journal from to ++ text_from names journal to
text_split names journal from to below within =
    let all : List (List ℕ) = lines_of names journal in
    let size = length-lines_of names journal in
    let rest : (at : ℕ) → slice_range all at (length (publications journal)) ≡ drop at all = λ at. ap (λ k. take (k - at) (drop at all)) (sym size) ∙ take_rest all at in
    ap concat (rest from ∙ drop_split all from to below) ∙ concat-append (slice_range all from to) (drop to all)
    ∙ ap (λ xs. concat (slice_range all from to) ++ concat xs) (sym (rest to))

-- how many lines the first entries have
abbrev pub lines_before : List Noted → ℕ → ℕ
lines_before journal i = length (publications (take i journal))

pub lines_within : (journal : List Noted) (i : ℕ) → lines_before journal i ≤ length (publications journal)
lines_within journal i =
    let (rest, is) = lines_grow [] (take i journal) (drop i journal) in
    let whole : lines_of [] journal ≡ lines_of [] (take i journal) ++ rest = ap (lines_of []) (sym (take-append-drop i journal)) ∙ is in
    omega (arith, ap length whole, length-append (lines_of [] (take i journal)) rest, length-lines_of [] (take i journal), length-lines_of [] journal)

text_passed : (names : List (List ℕ)) (journal : List Noted) (from i : ℕ) → from ≤ lines_before journal i
    → text_between names journal from (lines_before journal i) ≡ concat (drop from (lines_of names (take i journal)))
text_passed names journal from i within =
    ap (λ j. text_between names j from (lines_before journal i)) (sym (take-append-drop i journal)) ∙ front_text names (take i journal) (drop i journal) from within

-- ---- one more entry

-- the entry at a place of a journal
pub record IsEntryAt (journal : List Noted) (i : ℕ) (e : Noted) : Type 0 where
  pub within : i < length journal
  pub is : e ≡ get_or journal i e

more : (journal : List Noted) (i : ℕ) (e : Noted) → IsEntryAt journal i e → take (i + 1) journal ≡ take i journal ++ e ∷ []
more journal i e here = take_more journal i e here.within ∙ ap (λ x. take i journal ++ x ∷ []) (sym here.is)

lines_more : (names : List (List ℕ)) (journal : List Noted) (i : ℕ) (e : Noted) → IsEntryAt journal i e
    → lines_of names (take (i + 1) journal) ≡ lines_of names (take i journal) ++ lines_in names (take i journal) e
lines_more names journal i e here = ap (lines_of names) (more journal i e here) ∙ lines_next names (take i journal) e

pub count_more : (journal : List Noted) (i : ℕ) (e : Noted) → IsEntryAt journal i e → lines_before journal i ≤ lines_before journal (i + 1)
count_more journal i e here =
    omega (arith, ap length (lines_more [] journal i e here), length-append (lines_of [] (take i journal)) (lines_in [] (take i journal) e), length-lines_of [] (take i journal), length-lines_of [] (take (i + 1) journal))

-- the line of the entry at a place, or nothing
abbrev pub line_of : List (List ℕ) → List Noted → ℕ → Noted → List ℕ
line_of names journal i e = unwrap_or (line_at names (list_any is_tuned (take i journal)) e) []

-- it stands behind the lines of the entries in front
pub text_next : (names : List (List ℕ)) (journal : List Noted) (from i : ℕ) (e : Noted) → IsEntryAt journal i e → from ≤ lines_before journal i
    → text_between names journal from (lines_before journal (i + 1)) ≡ text_between names journal from (lines_before journal i) ++ line_of names journal i e
text_next names journal from i e here within =
    let before : List (List ℕ) = lines_of names (take i journal) in
    let line : List (List ℕ) = lines_in names (take i journal) e in
    let longer = count_more journal i e here in
    let long : from ≤ length before = omega (arith, length-lines_of names (take i journal)) in
    text_passed names journal from (i + 1) (omega arith)
    ∙ ap (λ xs. concat (drop from xs)) (lines_more names journal i e here)
    ∙ ap concat (drop-append-le from before line long)
    ∙ concat-append (drop from before) line
    ∙ ap (λ xs. concat (drop from before) ++ xs) (concat_one (line_at names (list_any is_tuned (take i journal)) e))
    ∙ ap (λ xs. xs ++ line_of names journal i e) (sym (text_passed names journal from i within))

-- and in front of those of the entries behind it
pub due_next : (names : List (List ℕ)) (journal : List Noted) (i : ℕ) (e : Noted) → IsEntryAt journal i e
    → text_from names journal (lines_before journal i) ≡ line_of names journal i e ++ text_from names journal (lines_before journal (i + 1))
due_next names journal i e here =
    let at : ℕ = lines_before journal i in
    text_split names journal at (lines_before journal (i + 1)) (count_more journal i e here) (lines_within journal (i + 1))
    ∙ ap (λ xs. xs ++ text_from names journal (lines_before journal (i + 1)))
    (text_next names journal at i e here (omega arith) ∙ ap (λ xs. xs ++ line_of names journal i e) (text_none names journal at))

-- ---- where lines stand

-- nothing was passed yet
pub at_start : (journal : List Noted) → IsAt journal (record { passed = 0; tuned = false })
at_start journal = record { within = omega arith; tuned = refl }

-- one more entry was passed
pub at_next : (journal : List Noted) (lines : Lines) (e : Noted) → IsAt journal lines → IsEntryAt journal lines.passed e
    → IsAt journal (record { passed = lines.passed + 1; tuned = lines.tuned || is_tuned e })
at_next journal lines e at here = record {
  within = omega (arith, here.within);
  tuned =
      ap (λ b. b || is_tuned e) at.tuned
      ∙ sym (ap (list_any is_tuned) (more journal lines.passed e here) ∙ list_any-append is_tuned (take lines.passed journal) (e ∷ []) ∙ or_one (list_any is_tuned (take lines.passed journal)) (is_tuned e));
}

-- ---- a turn of the loop

-- the line that a pass writes is that of the entry where lines stand
line_here : (names : List (List ℕ)) (journal : List Noted) (lines : Lines) (e : Noted) → IsAt journal lines → unwrap_or (line_at names lines.tuned e) [] ≡ line_of names journal lines.passed e
line_here names journal lines e at = ap (λ b. unwrap_or (line_at names b e) []) at.tuned

-- one more entry was passed, and its line written
pub grown_next : (names : List (List ℕ)) (journal : List Noted) (start was : Lines) (e : Noted) (a b c : Option (List ℕ)) → IsAt journal was → IsEntryAt journal was.passed e
    → written_in journal start ≤ written_in journal was → Grows a b (text_between names journal (written_in journal start) (written_in journal was))
    → Grows b c (unwrap_or (line_at names was.tuned e) [])
    → Grows a c (text_between names journal (written_in journal start) (written_in journal (record { passed = was.passed + 1; tuned = was.tuned || is_tuned e })))
grown_next names journal start was e a b c at here below grown line =
    let both = grows_more a b c (text_between names journal (written_in journal start) (written_in journal was)) (unwrap_or (line_at names was.tuned e) []) grown line in
    let text = ap (λ xs. text_between names journal (written_in journal start) (written_in journal was) ++ xs) (line_here names journal was e at) ∙ sym (text_next names journal (written_in journal start) was.passed e here below) in
    subst (Grows a c) text both

-- its line was cut short
pub cut_next : (names : List (List ℕ)) (journal : List Noted) (start was : Lines) (e : Noted) (a b c : Option (List ℕ)) → IsAt journal was → IsEntryAt journal was.passed e
    → Grows a b (text_between names journal (written_in journal start) (written_in journal was))
    → GrowsByFront b c (unwrap_or (line_at names was.tuned e) [])
    → IsCutShort (text_between names journal (written_in journal start) (written_in journal was)) (text_from names journal (written_in journal was)) a c
cut_next names journal start was e a b c at here grown line =
    let due = due_next names journal was.passed e here ∙ ap (λ xs. xs ++ text_from names journal (lines_before journal (was.passed + 1))) (sym (line_here names journal was e at)) in
    cut_short a b c (text_between names journal (written_in journal start) (written_in journal was)) (unwrap_or (line_at names was.tuned e) []) (text_from names journal (lines_before journal (was.passed + 1)))
    (text_from names journal (written_in journal was)) due grown line

-- ---- a journal that grows, and turn after turn

-- what is written so far stays so as the journal grows
pub text_stays : (names : List (List ℕ)) (old new : List Noted) (lines : Lines) → IsFront old new → IsAt old lines → text_written names new lines ≡ text_written names old lines
text_stays names old new lines front at =
    let n = lines.passed in
    let same : take n new ≡ take n old = sym (ap (take n) front.is ∙ take-take n (length old) new at.within) in
    text_passed names new 0 n (omega arith) ∙ ap (λ j. concat (drop 0 (lines_of names j))) same ∙ sym (text_passed names old 0 n (omega arith))

-- the lines of the first entries, and those of the entries up to further ones
text_add : (names : List (List ℕ)) (journal : List Noted) (i j : ℕ) → i ≤ j
    → text_between names journal 0 (lines_before journal j) ≡ text_between names journal 0 (lines_before journal i) ++ text_between names journal (lines_before journal i) (lines_before journal j)
text_add names journal i j below =
    let front : List Noted = take j journal in
    let at : ℕ = lines_before journal i in
    let all : List (List ℕ) = lines_of names front in
    let again : take i front ≡ take i journal = take-take i j journal below in
    let same : lines_before front i ≡ at = ap (λ xs. length (publications xs)) again in
    let within : at ≤ lines_before journal j = omega (arith, same, lines_within front i) in
    let first : text_between names front 0 at ≡ text_between names journal 0 at =
    ap (text_between names front 0) (sym same) ∙ text_passed names front 0 i (omega arith) ∙ ap (λ xs. concat (drop 0 (lines_of names xs))) again ∙ sym (text_passed names journal 0 i (omega arith)) in
    text_passed names journal 0 j (omega arith) ∙ ap concat (drop_split all 0 at (omega arith)) ∙ concat-append (slice_range all 0 at) (drop at all)
    ∙ ap (λ xs. xs ++ concat (drop at all)) first ∙ ap (λ xs. text_between names journal 0 at ++ xs) (sym (text_passed names journal at j within))

pub lines_add : (names : List (List ℕ)) (journal : List Noted) (from to : Lines) (a b c : Option (List ℕ)) → from.passed ≤ to.passed → Grows a b (text_written names journal from)
    → Grows b c (text_between names journal (written_in journal from) (written_in journal to)) → Grows a c (text_written names journal to)
lines_add names journal from to a b c below first second =
    subst (Grows a c) (sym (text_add names journal from.passed to.passed below))
    (grows_more a b c (text_written names journal from) (text_between names journal (written_in journal from) (written_in journal to)) first second)

pub text_all : (names : List (List ℕ)) (journal : List Noted) (lines : Lines) → lines.passed ≡ length journal → text_written names journal lines ≡ concat (lines_of names journal)
text_all names journal lines all =
    text_passed names journal 0 lines.passed (omega arith) ∙ ap (λ j. concat (drop 0 (lines_of names j))) (ap (λ k. take k journal) all ∙ take-length journal)
