-- The parts of a text, and its lines.
use Rattle.std.proofs.Common.{◌≡◌, ℕ, suc, ◌+◌, ◌-◌, ◌<◌, ◌≤◌, Bool, true, false, not, cond, List, [], ◌∷◌, length, take, drop, Some, None, refl, sym, subst, ap, ◌∙◌, arith, Option, Bor}
use Rattle.std.specs.Prelude.{◌==◌, nat_lt, position}
use Rattle.std.specs.List.{onto_first, position_or_len, slice_split}
use Rattle.std.specs.Str.Lines.{lines, lines_of_parts, strip_carriage_return}
use Rattle.std.specs.Option.{option_map_or}
use Rattle.std.proofs.lemmas.Bool.{ltb-false, ne_eqb}
use Rattle.std.proofs.lemmas.List.Splits.{length-slice_split, slice_split_first}
use Rattle.std.proofs.Math.Seq.{drop-length}
use Rattle.tk_base.proofs.ListLemmas.{rest_is}
use Rattle.tk_input.specs.Order.{event_in, words}
use Rattle.tk_input.proofs.CountLemmas.{position_found}

-- a text that is parted at its first such byte
pub split_found : (p : ℕ → Bool) (xs : List ℕ) (i : ℕ) → position p xs ≡ Some i → slice_split p xs ≡ take i xs ∷ slice_split p (take (length xs - (i + 1)) (drop (i + 1) xs))
split_found p xs i is =
    let at = position_found p xs i is in
    let within : position_or_len p xs < length xs = subst (λ (n : ℕ). n < length xs) at.first at.within in
    slice_split_first p xs 0 within
    ∙ ap (λ (n : ℕ). take n xs ∷ slice_split p (drop (n + 1) xs)) (sym at.first)
    ∙ ap (λ (ys : List ℕ). take i xs ∷ slice_split p ys) (sym (rest_is xs (i + 1)))

none_split : (p : ℕ → Bool) (xs : List ℕ) → length xs ≤ position_or_len p xs → slice_split p xs ≡ xs ∷ []
none_split p [] far = refl
none_split p (x ∷ xs) far = by (p x) refl far (none_split p xs) where
  by : (b : Bool) → p x ≡ b → suc (length xs) ≤ cond (not b) (1 + position_or_len p xs) 0 → (length xs ≤ position_or_len p xs → slice_split p xs ≡ xs ∷ []) → cond (p x) ([] ∷ slice_split p xs) (onto_first x (slice_split p xs)) ≡ (x ∷ xs) ∷ []
  by true is far more = absurd (omega arith)
  by false is far more = ap (λ (b : Bool). cond b ([] ∷ slice_split p xs) (onto_first x (slice_split p xs))) is ∙ ap (λ (parts : List (List ℕ)). onto_first x parts) (more (omega arith))

far_none : (b : Bool) (i n : ℕ) → nat_lt i n ≡ b → cond b (Some i) None ≡ None → n ≤ i
far_none true i n is none = absurd (cc)
far_none false i n is none = ltb-false i n is

-- a text without such a byte is one part
pub split_missing : (p : ℕ → Bool) (xs : List ℕ) → position p xs ≡ None → slice_split p xs ≡ xs ∷ []
split_missing p xs is = none_split p xs (far_none (nat_lt (position_or_len p xs) (length xs)) (position_or_len p xs) (length xs) refl is)

more_parts : (x : List ℕ) (parts : List (List ℕ)) → 0 < length parts → lines_of_parts (x ∷ parts) ≡ strip_carriage_return x ∷ lines_of_parts parts
more_parts x [] some = absurd (omega arith)
more_parts x (y ∷ more) some = refl

-- a first line and the others
pub lines_found : (xs : List ℕ) (i : ℕ) → position (λ b. b == 10) xs ≡ Some i → lines xs ≡ strip_carriage_return (take i xs) ∷ lines (take (length xs - (i + 1)) (drop (i + 1) xs))
lines_found xs i is =
    ap (λ (parts : List (List ℕ)). lines_of_parts parts) (split_found (λ b. b == 10) xs i is)
    ∙ more_parts (take i xs) (slice_split (λ b. b == 10) (take (length xs - (i + 1)) (drop (i + 1) xs))) (omega (arith, length-slice_split (λ b. b == 10) (take (length xs - (i + 1)) (drop (i + 1) xs))))

only_part : (xs : List ℕ) → 0 < length xs → lines_of_parts (xs ∷ []) ≡ xs ∷ []
only_part xs some = ap (λ (b : Bool). cond b [] (xs ∷ [])) (ne_eqb (length xs) 0 (λ none. absurd (omega arith)))

-- a last line without its line feed
pub lines_missing : (xs : List ℕ) → 0 < length xs → position (λ b. b == 10) xs ≡ None → lines xs ≡ xs ∷ lines []
lines_missing xs some is = ap (λ (parts : List (List ℕ)). lines_of_parts parts) (split_missing (λ b. b == 10) xs is) ∙ only_part xs some

-- a line of more than three words is no event
pub too_many_words : (verb mon feeder more : List ℕ) → event_in (verb ∷ mon ∷ feeder ∷ words more) ≡ None
too_many_words verb mon feeder more = four (words more) (omega (arith, length-slice_split (λ b. b == 32) more)) where
  four : (parts : List (List ℕ)) → 0 < length parts → event_in (verb ∷ mon ∷ feeder ∷ parts) ≡ None
  four [] some = absurd (omega arith)
  four (word ∷ parts) some = refl

-- nothing follows the whole
pub none_after : (xs : List ℕ) → take (length xs - length xs) (drop (length xs) xs) ≡ []
none_after xs = rest_is xs (length xs) ∙ drop-length xs

-- a line that goes on behind its third word is no event
pub four_words : (line first second third verb mon feeder : List ℕ) → words line ≡ verb ∷ words first → words first ≡ mon ∷ words second → words second ≡ feeder ∷ words third → event_in (words line) ≡ None
four_words line first second third verb mon feeder one two three =
    ap (λ (parts : List (List ℕ)). event_in parts) (one ∙ ap (λ (parts : List (List ℕ)). verb ∷ parts) (two ∙ ap (λ (parts : List (List ℕ)). mon ∷ parts) three))
    ∙ too_many_words verb mon feeder third

-- a word and those of what is left of its line
abbrev pub after : (verb : List ℕ) → Option (Bor (List ℕ)) → List (List ℕ)
after verb rest = verb ∷ option_map_or (λ r. words r.now) rest []
