-- Turns of a journal, told one by one.
use Rattle.std.proofs.Common.{◌≡◌, ℕ, ◌+◌, ◌<◌, ◌≤◌, true, false, List, [], ◌++◌, length, drop, get_or, Bool, cond, Option, Some, ap, sym, ◌∙◌, append_assoc, append-nil}
use Rattle.std.specs.Prelude.{slice_get}
use Rattle.std.proofs.lemmas.List.{drop_all}
use Rattle.tk_journal.specs.Legal.{is_input}
use Rattle.tk_journal.specs.declared.noted.Noted.{Noted}
use Rattle.tk_journal.specs.declared.turn.Turn.{Turn}
use Rattle.tk_world.proofs.SerializingLemmas.{left_at}
use Rattle.tk_show.specs.Turned.{batch_length, batch_text, input_text, noted_text, turn_text, turned_after, turned_text, turns_after}
use Rattle.tk_show.specs.declared.turned.Turned.{Turned}

-- nothing stands before an input
pub none_before : (names : List (List ℕ)) (journal : List Noted) (i : ℕ) (e : Noted) → i < length journal → e ≡ get_or journal i e → is_input e ≡ true
    → (batch_text names (drop i journal) ≡ []) × (batch_length (drop i journal) ≡ 0)
none_before names journal i e within at input = (
  ap (batch_text names) (left_at journal i e within at) ∙ ap (λ (b : Bool). cond b [] (noted_text names e ++ batch_text names (drop (i + 1) journal))) input,
  ap batch_length (left_at journal i e within at) ∙ ap (λ (b : Bool). cond b 0 (1 + batch_length (drop (i + 1) journal))) input,
)

-- what is no input stands in front of the rest
pub one_before : (names : List (List ℕ)) (journal : List Noted) (i : ℕ) (e : Noted) → i < length journal → e ≡ get_or journal i e → is_input e ≡ false
    → (batch_text names (drop i journal) ≡ noted_text names e ++ batch_text names (drop (i + 1) journal)) × (batch_length (drop i journal) ≡ 1 + batch_length (drop (i + 1) journal))
one_before names journal i e within at other = (
  ap (batch_text names) (left_at journal i e within at) ∙ ap (λ (b : Bool). cond b [] (noted_text names e ++ batch_text names (drop (i + 1) journal))) other,
  ap batch_length (left_at journal i e within at) ∙ ap (λ (b : Bool). cond b 0 (1 + batch_length (drop (i + 1) journal))) other,
)

-- nor does anything at the end
pub none_left : (names : List (List ℕ)) (journal : List Noted) (i : ℕ) → length journal ≤ i → (batch_text names (drop i journal) ≡ []) × (batch_length (drop i journal) ≡ 0)
none_left names journal i end = (ap (batch_text names) (drop_all i journal end), ap batch_length (drop_all i journal end))

-- a text of which nothing is left is whole
pub is_whole : (now left whole : List ℕ) → left ≡ [] → now ++ left ≡ whole → now ≡ whole
is_whole now left whole none is = sym (append-nil now) ∙ ap (λ (l : List ℕ). now ++ l) (sym none) ∙ is

-- one more text of what is left is written
pub goes_on : (now next text left rest whole : List ℕ) → left ≡ text ++ rest → next ≡ now ++ text → now ++ left ≡ whole → next ++ rest ≡ whole
goes_on now next text left rest whole more put is =
    ap (λ (l : List ℕ). l ++ rest) put ∙ append_assoc now text rest ∙ ap (λ (l : List ℕ). now ++ l) (sym more) ∙ is

-- the text of a turn that there is
pub turned_is : (names : List (List ℕ)) (journal : List Noted) (turns : List Turn) (turned : Turned) (input : Noted) (old new : List ℕ) → slice_get journal turned.entries ≡ Some input
    → new ≡ old ++ ((input_text names input ++ turn_text (slice_get turns turned.turns)) ++ batch_text names (drop (turned.entries + 1) journal))
    → new ≡ old ++ turned_text names journal turns turned (slice_get journal turned.entries)
turned_is names journal turns turned input old new there is =
    is ∙ sym (ap (λ (o : Option Noted). old ++ turned_text names journal turns turned o) there)

-- and how far is told then
pub further_is : (journal : List Noted) (turns : List Turn) (turned : Turned) (input : Noted) (entries next : ℕ) → slice_get journal turned.entries ≡ Some input
    → entries ≡ turned.entries + 1 + batch_length (drop (turned.entries + 1) journal) → next ≡ turns_after turned.turns (slice_get turns turned.turns)
    → record { entries = entries; turns = next } ≡ turned_after journal turns turned (slice_get journal turned.entries)
further_is journal turns turned input entries next there more then =
    let moved : Turned = record { entries = turned.entries + 1 + batch_length (drop (turned.entries + 1) journal); turns = turns_after turned.turns (slice_get turns turned.turns) } in
    let is : record { entries = entries; turns = next } ≡ moved = ap (λ (n : ℕ). record { entries = n; turns = next }) more ∙ ap (λ (n : ℕ). record { entries = turned.entries + 1 + batch_length (drop (turned.entries + 1) journal); turns = n }) then in
    is ∙ sym (ap (λ (o : Option Noted). turned_after journal turns turned o) there)
