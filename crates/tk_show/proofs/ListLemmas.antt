-- What one more item adds to a text.
use Rattle.std.proofs.Common.{◌≡◌, ℕ, ◌+◌, ◌<◌, Result, Ok, Err, List, [], ◌∷◌, ◌++◌, length, take, get_or, sym, ap, ◌∙◌, append_assoc, append-nil}
use Rattle.std.specs.Prelude.{OnOk, decimal, flat_map}
use Rattle.std.proofs.lemmas.List.Concat.{flat_map-append}
use Rattle.std.proofs.lemmas.List.{take_more}

-- the text of the first items grows by that of the next
pub more : {X : Type 0} (f : X → List ℕ) (before old new : List ℕ) (xs : List X) (i : ℕ) (x d : X) → i < length xs → get_or xs i d ≡ x
    → old ≡ before ++ flat_map f (take i xs) → new ≡ old ++ f x → new ≡ before ++ flat_map f (take (i + 1) xs)
more {X} f before old new xs i x d within here was put =
    put
    ∙ ap (λ (l : List ℕ). l ++ f x) was
    ∙ append_assoc before (flat_map f (take i xs)) (f x)
    ∙ ap (λ (l : List ℕ). before ++ l)
    (sym (ap (flat_map f) (take_more xs i d within ∙ ap (λ (y : X). take i xs ++ y ∷ []) here)
    ∙ flat_map-append f (take i xs) (x ∷ [])
    ∙ ap (λ (l : List ℕ). flat_map f (take i xs) ++ l) (append-nil (f x))))

-- three texts, one behind the other
pub three : (before a b c x y z : List ℕ) → a ≡ before ++ x → b ≡ a ++ y → c ≡ b ++ z → c ≡ before ++ ((x ++ y) ++ z)
three before a b c x y z first second third =
    third
    ∙ ap (λ (l : List ℕ). l ++ z) (second ∙ ap (λ (l : List ℕ). l ++ y) first ∙ append_assoc before x y)
    ∙ append_assoc before (x ++ y) z

-- the same where the last may have failed
pub three_on : {T E : Type 0} (result : Result T E) (before a b c x y z : List ℕ) → a ≡ before ++ x → b ≡ a ++ y → OnOk result (c ≡ b ++ z) → OnOk result (c ≡ before ++ ((x ++ y) ++ z))
three_on (Ok done) before a b c x y z first second third = three before a b c x y z first second third
three_on (Err fault) before a b c x y z first second third = tt

-- two numbers, each behind its name
pub two_numbers : {T E : Type 0} (result : Result T E) (before a b x y : List ℕ) (m n k l : ℕ) → m ≡ k → n ≡ l → a ≡ before ++ (x ++ decimal m) → OnOk result (b ≡ a ++ (y ++ decimal n))
    → OnOk result (b ≡ before ++ (((x ++ decimal k) ++ y) ++ decimal l))
two_numbers (Ok done) before a b x y m n k l first second was put =
    put
    ∙ ap (λ (t : List ℕ). t ++ (y ++ decimal n)) was
    ∙ append_assoc before (x ++ decimal m) (y ++ decimal n)
    ∙ ap (λ (t : List ℕ). before ++ t)
    (sym (append_assoc (x ++ decimal m) y (decimal n))
    ∙ ap (λ (i : ℕ). ((x ++ decimal i) ++ y) ++ decimal n) first
    ∙ ap (λ (i : ℕ). ((x ++ decimal k) ++ y) ++ decimal i) second)
two_numbers (Err fault) before a b x y m n k l first second was put = tt
