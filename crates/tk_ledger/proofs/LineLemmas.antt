-- The lines of a front of a journal, and what is behind it.
use Rattle.std.proofs.Common.{◌≡◌, ℕ, suc, zero, Bool, true, false, ◌||◌, ◌+◌, ◌≤◌, ◌<◌, List, [], ◌∷◌, ◌++◌, length, take, drop, get_or, refl, ap, sym, subst, ◌∙◌, append_assoc, append-nil, arith, length-append, Option, Some, None, option_map, Vec, Global}
use Rattle.std.specs.Prelude.{flat_map, slice_get, unwrap_or}
use Rattle.std.specs.List.{All, concat, cons_option, enumerate_from, list_any}
use Rattle.std.proofs.lemmas.Option.{get_or_from_slice_get}
use Rattle.std.proofs.lemmas.List.{length-take, take_more, take-append-drop}
use Rattle.std.proofs.lemmas.List.Folds.{concat-append, list_any-append}
use Rattle.std.proofs.lemmas.List.Concat.{flat_map-append}
use Rattle.std.proofs.lemmas.List.Sums.{fold_push}
use Rattle.tk_base.specs.History.{EachFrom, last_of}
use Rattle.tk_base.specs.Settings.{Setup}
use Rattle.tk_journal.specs.Sending.{IsSaidWell}
use Rattle.tk_journal.specs.Walks.{walk}
use Rattle.tk_journal.specs.declared.noted.Noted.{Noted}
use Rattle.tk_journal.specs.declared.noted.Noted.TheVariants as n
use Rattle.tk_journal.proofs.Appends.{walk-append}
use Rattle.tk_journal.proofs.SendTurns.{legal_well}
use Rattle.tk_journal.proofs.StartLemmas.{start_set_up}
use Rattle.tk_journal.specs.Legal.{start}
use Rattle.tk_journal.specs.declared.publication.Publication.{Publication}
use Rattle.tk_story.specs.Story.{IsStory, StoryView}
use Rattle.tk_ledger.specs.Printing.{AreNamed}
use Rattle.tk_ledger.specs.Text.{is_tuned, lines_by, monitor_text, monitors_text}
use Rattle.tk_ledger.specs.declared.counts.Counts.{Counts}

-- ---- publications

module _ (line_of : Bool → Noted → Option (List ℕ)) where
  -- one more entry adds its line, if it has one
  pub lines_more : (journal : List Noted) (i : ℕ) (entry : Noted) → i < length journal → entry ≡ get_or journal i entry
      → lines_by line_of (take (i + 1) journal) ≡ lines_by line_of (take i journal) ++ cons_option (line_of (list_any is_tuned (take i journal)) entry) []
  lines_more journal i entry within at =
      let more : take (i + 1) journal ≡ take i journal ++ entry ∷ [] = take_more journal i entry within ∙ ap (λ (e : Noted). take i journal ++ e ∷ []) (sym at) in
      ap (λ (j : List Noted). lines_by line_of j) more
      ∙ walk-append (λ before lines e. lines ++ cons_option (line_of (list_any is_tuned before) e) []) [] [] (take i journal) (entry ∷ [])

  -- an entry that is no publication adds nothing
  pub no_line : (journal : List Noted) (i : ℕ) (entry : Noted) → i < length journal → entry ≡ get_or journal i entry
      → line_of (list_any is_tuned (take i journal)) entry ≡ None → lines_by line_of (take (i + 1) journal) ≡ lines_by line_of (take i journal)
  no_line journal i entry within at none =
      lines_more journal i entry within at
      ∙ ap (λ (o : Option (List ℕ)). lines_by line_of (take i journal) ++ cons_option o []) none
      ∙ append-nil (lines_by line_of (take i journal))

  -- a publication adds its line
  pub one_line : (journal : List Noted) (i : ℕ) (entry : Noted) (line : List ℕ) → i < length journal → entry ≡ get_or journal i entry
      → line_of (list_any is_tuned (take i journal)) entry ≡ Some line → lines_by line_of (take (i + 1) journal) ≡ lines_by line_of (take i journal) ++ line ∷ []
  one_line journal i entry line within at some =
      lines_more journal i entry within at
      ∙ ap (λ (o : Option (List ℕ)). lines_by line_of (take i journal) ++ cons_option o []) some

pub concat-push : (lines more : List (List ℕ)) (line : List ℕ) → more ≡ lines ++ line ∷ [] → concat more ≡ concat lines ++ line
concat-push lines more line is =
    ap (λ (l : List (List ℕ)). concat l) is ∙ concat-append lines (line ∷ []) ∙ ap (λ (l : List ℕ). concat lines ++ l) (append-nil line)

pub length-push : (lines more : List (List ℕ)) (line : List ℕ) → more ≡ lines ++ line ∷ [] → length more ≡ length lines + 1
length-push lines more line is = omega (arith, ap (λ (l : List (List ℕ)). length l) is, length-append lines (line ∷ []))

-- the last of some lines with one more
pub last-push : (lines more : List (List ℕ)) (line : List ℕ) → more ≡ lines ++ line ∷ [] → unwrap_or (last_of more) [] ≡ line
last-push lines more line is =
    ap (λ (l : List (List ℕ)). unwrap_or (last_of l) []) is ∙ ap (λ (o : Option (List ℕ)). unwrap_or o []) (fold_push (λ _ e. Some e) None lines line)

pub or_one : (a b : Bool) → (a || (b || false)) ≡ (a || b)
or_one true b = refl
or_one false true = refl
or_one false false = refl

-- whether a retune stands in front of what comes next
pub tuned_more : (journal : List Noted) (i : ℕ) (entry : Noted) → i < length journal → entry ≡ get_or journal i entry
    → list_any is_tuned (take (i + 1) journal) ≡ (list_any is_tuned (take i journal) || is_tuned entry)
tuned_more journal i entry within at =
    let more : take (i + 1) journal ≡ take i journal ++ entry ∷ [] = take_more journal i entry within ∙ ap (λ (e : Noted). take i journal ++ e ∷ []) (sym at) in
    ap (λ (j : List Noted). list_any is_tuned j) more
    ∙ list_any-append is_tuned (take i journal) (entry ∷ [])
    ∙ or_one (list_any is_tuned (take i journal)) (is_tuned entry)

-- the same as a loop keeps it
pub tuned_next : (journal : List Noted) (i : ℕ) (entry : Noted) (tuned now : Bool) → i < length journal → entry ≡ get_or journal i entry
    → tuned ≡ list_any is_tuned (take i journal) → now ≡ is_tuned entry → (tuned || now) ≡ list_any is_tuned (take (i + 1) journal)
tuned_next journal i entry tuned now within at was is =
    ap (λ (b : Bool). b || now) was ∙ ap (λ (b : Bool). list_any is_tuned (take i journal) || b) is ∙ sym (tuned_more journal i entry within at)

module _ (line_of : Bool → Noted → Option (List ℕ)) where
  -- what a call that forms lines found
  pub line_is : (journal : List Noted) (i : ℕ) (entry : Noted) (tuned : Bool) (found : Option (Vec ℕ Global)) (line : Vec ℕ Global)
      → tuned ≡ list_any is_tuned (take i journal) → option_map (λ l. l.items) found ≡ line_of tuned entry → found ≡ Some line
      → line_of (list_any is_tuned (take i journal)) entry ≡ Some line.items
  line_is journal i entry tuned found line was is some =
      ap (λ (b : Bool). line_of b entry) (sym was) ∙ sym is ∙ ap (λ (o : Option (Vec ℕ Global)). option_map (λ l. l.items) o) some

  pub no_line_is : (journal : List Noted) (i : ℕ) (entry : Noted) (tuned : Bool) (found : Option (Vec ℕ Global))
      → tuned ≡ list_any is_tuned (take i journal) → option_map (λ l. l.items) found ≡ line_of tuned entry → found ≡ None
      → line_of (list_any is_tuned (take i journal)) entry ≡ None
  no_line_is journal i entry tuned found was is none =
      ap (λ (b : Bool). line_of b entry) (sym was) ∙ sym is ∙ ap (λ (o : Option (Vec ℕ Global)). option_map (λ l. l.items) o) none

  abbrev step : List Noted → List (List ℕ) → Noted → List (List ℕ)
  step before lines e = lines ++ cons_option (line_of (list_any is_tuned before) e) []

  walked : (before : List Noted) (lines : List (List ℕ)) (after : List Noted) → (rest : List (List ℕ)) × (walk step before lines after ≡ lines ++ rest)
  walked before lines [] = ([], sym (append-nil lines))
  walked before lines (e ∷ after) =
      let here = cons_option (line_of (list_any is_tuned before) e) [] in
      let (rest, is) = walked (before ++ e ∷ []) (lines ++ here) after in
      (here ++ rest, is ∙ append_assoc lines here rest)

  -- the text of the first lines stands in front of the whole
  pub lines_split : (journal : List Noted) (i : ℕ) → (rest : List ℕ) × (concat (lines_by line_of journal) ≡ concat (lines_by line_of (take i journal)) ++ rest)
  lines_split journal i =
      let (rest, is) = walked (take i journal) (lines_by line_of (take i journal)) (drop i journal) in
      let whole : lines_by line_of journal ≡ lines_by line_of (take i journal) ++ rest =
      ap (λ (j : List Noted). lines_by line_of j) (sym (take-append-drop i journal)) ∙ walk-append step [] [] (take i journal) (drop i journal) ∙ is in
      (concat rest, ap (λ (l : List (List ℕ)). concat l) whole ∙ concat-append (lines_by line_of (take i journal)) rest)

-- ---- monitors

numbered-append : (n : ℕ) (xs ys : List Counts) → enumerate_from n (xs ++ ys) ≡ enumerate_from n xs ++ enumerate_from (n + length xs) ys
numbered-append n [] ys = ap (λ (m : ℕ). enumerate_from m ys) (omega arith)
numbered-append n (x ∷ xs) ys =
    let next : n + 1 + length xs ≡ n + length (x ∷ xs) = omega arith in
    ap (λ (l : List (ℕ × Counts)). (n, x) ∷ l) (numbered-append (n + 1) xs ys ∙ ap (λ (m : ℕ). enumerate_from (n + 1) xs ++ enumerate_from m ys) next)

monitors-append : (xs ys : List Counts) → monitors_text (xs ++ ys) ≡ monitors_text xs ++ flat_map (λ p. monitor_text p.0 p.1) (enumerate_from (1 + length xs) ys)
monitors-append xs ys =
    ap (λ (l : List (ℕ × Counts)). flat_map (λ p. monitor_text p.0 p.1) l) (numbered-append 1 xs ys)
    ∙ flat_map-append (λ p. monitor_text p.0 p.1) (enumerate_from 1 xs) (enumerate_from (1 + length xs) ys)

-- one more monitor adds its line
pub monitors_more : (per : List Counts) (i : ℕ) (counts : Counts) → i < length per → slice_get per i ≡ Some counts
    → monitors_text (take (i + 1) per) ≡ monitors_text (take i per) ++ monitor_text (i + 1) counts
monitors_more per i counts within here =
    let more : take (i + 1) per ≡ take i per ++ counts ∷ [] =
    take_more per i counts within ∙ ap (λ (x : Counts). take i per ++ x ∷ []) (get_or_from_slice_get per i counts counts here) in
    let number : 1 + length (take i per) ≡ i + 1 = omega (arith, length-take i per, within) in
    ap (λ (l : List Counts). monitors_text l) more
    ∙ monitors-append (take i per) (counts ∷ [])
    ∙ ap (λ (l : List ℕ). monitors_text (take i per) ++ l) (append-nil (monitor_text (1 + length (take i per)) counts))
    ∙ ap (λ (m : ℕ). monitors_text (take i per) ++ monitor_text m counts) number

-- the lines of the first monitors stand in front of all
pub monitors_split : (per : List Counts) (i : ℕ) → (rest : List ℕ) × (monitors_text per ≡ monitors_text (take i per) ++ rest)
monitors_split per i = (
  flat_map (λ p. monitor_text p.0 p.1) (enumerate_from (1 + length (take i per)) (drop i per)),
  ap (λ (l : List Counts). monitors_text l) (sym (take-append-drop i per)) ∙ monitors-append (take i per) (drop i per),
)

-- ---- names

named_one : (s : Setup) (before : List Noted) (entry : Noted) → IsSaidWell s before entry → AreNamed s.objects entry
named_one s before (n.Got from frame) well = tt
named_one s before (n.Sent to frame) well = tt
named_one s before (n.Tuned k epsilon) well = tt
named_one s before (n.Published p) well =
    subst (λ (members : List ℕ). All (λ o. o ≤ s.objects) members) (sym (ap (λ (q : Publication). q.members) well.says)) well.stands.members.within

all_named : (s : Setup) (before after : List Noted) → EachFrom (IsSaidWell s) before after → (k : ℕ) (d : Noted) → k < length after → AreNamed s.objects (get_or after k d)
all_named s before [] each k d within = absurd (omega (arith, within))
all_named s before (e ∷ after) each zero d within = named_one s before e each.0
all_named s before (e ∷ after) each (suc k) d within = all_named s (before ++ e ∷ []) after each.1 k d (omega (arith, within))

-- every member that a story publishes is of its catalogue
pub story_named : (s : StoryView) → IsStory s → All (AreNamed s.settings.objects) s.journal
story_named s is = all_named s.settings [] s.journal (legal_well (start s.settings) s.journal (start_set_up s.settings is.limits) is.journal_legal).each

-- the same of the journal as it is lent, and the names of a catalogue
pub named_at : (s : StoryView) (names : List (List ℕ)) (journal : List Noted) → IsStory s → length names ≡ s.settings.objects → journal ≡ s.journal → All (AreNamed (length names)) journal
named_at s names journal is many lent =
    subst (λ (j : List Noted). All (AreNamed (length names)) j) (sym lent)
    (subst (λ (n : ℕ). All (AreNamed n) s.journal) (sym many) (story_named s is))
