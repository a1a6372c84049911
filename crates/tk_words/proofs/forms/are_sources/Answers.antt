use Rattle.std.proofs.Common.{◌≡◌, ℕ, Bool, true, false, List, Bor, length, map, refl, sym, ap, ◌∙◌, rules}
use Rattle.std.specs.List.{list_all}
use Rattle.std.specs.Prelude.{◌&&◌, nat_le, nat_lt}
use Rattle.std.proofs.lemmas.List.{length-map}
use Rattle.std.proofs.lemmas.List.Folds.{list_all-map}
use Rattle.tk_words.specs.Forms.{inputs_in}
use Rattle.tk_words.proofs.forms.are_sources.Goals as goal

-- the third of four tests fails
third : (a b d e : Bool) → d ≡ false → false ≡ (a && b && d && e)
third true true true e is = absurd (cc)
third true true false e is = refl
third true false d e is = refl
third false b d e is = refl

-- the first three hold
fourth : (a b d e : Bool) → a ≡ true → b ≡ true → d ≡ true → e ≡ (a && b && d && e)
fourth true true true e is also too = refl
fourth true true false e is also too = absurd (cc)
fourth true false d e is also too = absurd (cc)
fourth false b d e is also too = absurd (cc)

-- each word has a byte or more
named : (words : List (Bor (List ℕ))) → list_all (λ (word : List ℕ). nat_lt 0 (length word)) (map (λ s. s.now) words) ≡ list_all (λ (s : Bor (List ℕ)). nat_lt 0 (length s.now)) words
named words = list_all-map (λ (word : List ℕ). nat_lt 0 (length word)) (λ (s : Bor (List ℕ)). s.now) words

pub returns-then-not-are_named-clause-value : goal.returns-then-not-are_named-clause-value
returns-then-not-are_named-clause-value c =
    let words : List (List ℕ) = map (λ s. s.now) c.args.words.now in
    let unnamed : c.are_named.result ≡ false = search rules in
    third (nat_lt 0 (length words)) (nat_le (length words) 8) (list_all (λ (word : List ℕ). nat_lt 0 (length word)) words) (nat_le (inputs_in words) 1)
    (named c.args.words.now ∙ sym c.are_named.ensures ∙ unnamed)

pub returns-clause-value : goal.returns-clause-value
returns-clause-value c =
    let words : List (List ℕ) = map (λ s. s.now) c.args.words.now in
    let long = length-map c.args.words.now (λ (s : Bor (List ℕ)). s.now) in
    let some : nat_lt 0 (length words) ≡ true = rw long (grind rules) in
    let few : nat_le (length words) 8 ≡ true = rw long (grind rules) in
    let are : c.are_named.result ≡ true = search rules in
    ap (λ n. nat_le n 1) c.inputs.ensures
    ∙ fourth (nat_lt 0 (length words)) (nat_le (length words) 8) (list_all (λ (word : List ℕ). nat_lt 0 (length word)) words) (nat_le (inputs_in words) 1)
    some few (named c.args.words.now ∙ sym c.are_named.ensures ∙ are)
