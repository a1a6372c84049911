-- The words of logs, one after the other.
use Rattle.std.proofs.Common.{◌≡◌, ℕ, suc, zero, ◌+◌, ◌<◌, List, [], ◌∷◌, ◌++◌, length, map, take, get_or, Option, Some, None, refl, sym, ap, ◌∙◌, arith}
use Rattle.std.specs.Prelude.{option_map, option_and_then}
use Rattle.std.specs.Borrow.{Bor}
use Rattle.std.proofs.lemmas.List.{take_more, map-append}
use Rattle.tk_base.specs.declared.ids.Mon.{Mon}
use Rattle.tk_words.specs.Asked.{asked_logs}
use Rattle.tk_words.specs.Forms.{log_in, logs_in}

abbrev Log : Type 0
Log = ℕ × List ℕ

-- a log before others
abbrev before : Option Log → Option (List Log) → Option (List Log)
before first rest = option_and_then (λ log. option_map (λ logs. log ∷ logs) rest) first

before_none : (first : Option Log) → before first None ≡ None
before_none None = refl
before_none (Some log) = refl

step : (first : Option Log) (rest more : Option (List Log)) (logs : List Log) (log : Log) → before first rest ≡ Some logs
    → ((tail : List Log) → rest ≡ Some tail → more ≡ Some (tail ++ log ∷ [])) → before first more ≡ Some (logs ++ log ∷ [])
step None rest more logs log is next = absurd (cc)
step (Some l) None more logs log is next = absurd (cc)
step (Some l) (Some tail) more logs log is next =
    let all : l ∷ tail ≡ logs = cc in
    ap (λ (m : Option (List Log)). option_map (λ (ls : List Log). l ∷ ls) m) (next tail refl) ∙ ap (λ (ls : List Log). Some (ls ++ log ∷ [])) all

push : (xs : List (List ℕ)) (w : List ℕ) (logs : List Log) (log : Log) → logs_in xs ≡ Some logs → log_in w ≡ Some log → logs_in (xs ++ w ∷ []) ≡ Some (logs ++ log ∷ [])
push [] w logs log is here =
    let none : [] ≡ logs = cc in
    ap (λ (first : Option Log). before first (Some [])) here ∙ ap (λ (ls : List Log). Some (ls ++ log ∷ [])) none
push (x ∷ xs) w logs log is here = step (log_in x) (logs_in xs) (logs_in (xs ++ w ∷ [])) logs log is (λ tail rest. push xs w tail log rest here)

miss : (xs : List (Bor (List ℕ))) (i : ℕ) (d : Bor (List ℕ)) → i < length xs → log_in (get_or xs i d).now ≡ None → logs_in (map (λ s. s.now) xs) ≡ None
miss [] i d within none = absurd (omega arith)
miss (x ∷ xs) zero d within none = ap (λ (first : Option Log). before first (logs_in (map (λ s. s.now) xs))) none
miss (x ∷ xs) (suc i) d within none = ap (λ (rest : Option (List Log)). before (log_in x.now) rest) (miss xs i d (omega arith) none) ∙ before_none (log_in x.now)

-- one more word that has the form
pub one_more : (words : List (Bor (List ℕ))) (i : ℕ) (d : Bor (List ℕ)) (logs : List (Mon × Bor (List ℕ))) (log : Mon × Bor (List ℕ)) → i < length words
    → logs_in (map (λ s. s.now) (take i words)) ≡ Some (asked_logs logs) → Some (log.0.0, log.1.now) ≡ log_in (get_or words i d).now
    → logs_in (map (λ s. s.now) (take (i + 1) words)) ≡ Some (asked_logs (logs ++ log ∷ []))
one_more words i d logs log within is here =
    ap (λ (ws : List (Bor (List ℕ))). logs_in (map (λ s. s.now) ws)) (take_more words i d within)
    ∙ ap logs_in (map-append (λ (s : Bor (List ℕ)). s.now) (take i words) (get_or words i d ∷ []))
    ∙ push (map (λ s. s.now) (take i words)) (get_or words i d).now (asked_logs logs) (log.0.0, log.1.now) is (sym here)
    ∙ ap (λ (ls : List Log). Some ls) (sym (map-append (λ (l : Mon × Bor (List ℕ)). (l.0.0, l.1.now)) logs (log ∷ [])))

-- one that does not
pub one_wrong : (words : List (Bor (List ℕ))) (i : ℕ) (d : Bor (List ℕ)) → i < length words → None ≡ log_in (get_or words i d).now → logs_in (map (λ s. s.now) words) ≡ None
one_wrong words i d within none = miss words i d within (sym none)
