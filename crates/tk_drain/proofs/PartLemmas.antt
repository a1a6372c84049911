-- The parts of some logs, and the longest of them.
use Rattle.std.proofs.Common.{◌≡◌, ℕ, suc, zero, ◌+◌, List, [], ◌∷◌, ◌++◌, map, sym, ap, ◌∙◌, arith, append_assoc, append-nil, add-one}
use Rattle.std.specs.Prelude.{flat_map}
use Rattle.std.specs.List.{range_with_len}
use Rattle.std.proofs.lemmas.Grind.{flat_map-append}
use Rattle.std.proofs.lemmas.List.{map-append}
use Rattle.std.proofs.lemmas.List.FromFn.{map-range_with_len_more}
use Rattle.tk_base.specs.declared.ids.Feeder.{Feeder}
use Rattle.tk_base.specs.declared.ids.Mon.{Mon}
use Rattle.tk_input.specs.Logs.{LogSet}
use Rattle.tk_input.specs.declared.event.Event.{Event}
use Rattle.tk_world.specs.Events.{raise_at}
use Rattle.tk_drain.specs.Drive.{pass_of, raises_of}
use Rattle.tk_drain.specs.Passing.{raises}

abbrev pub raise_of : Mon × Feeder → Event
raise_of part = raise_at part.0.0 part.1.0

none_more : (a : ℕ) → a ≡ a + 0
none_more a = omega arith

one_more : (a n : ℕ) → a + 1 + n ≡ a + suc n
one_more a n = omega arith

one_and : (k : ℕ) → 1 + k ≡ k + 1
one_and k = omega arith

pub range_more : (a n : ℕ) → range_with_len a (suc n) ≡ range_with_len a n ++ (a + n) ∷ []
range_more a zero = ap (λ x. x ∷ []) (none_more a)
range_more a (suc n) = ap (λ xs. a ∷ xs) (range_more (a + 1) n ∙ ap (λ x. range_with_len (a + 1) n ++ x ∷ []) (one_more a n))

pub raises_push : (parts : List (Mon × Feeder)) (mon : Mon) (f : Feeder) → raises (parts ++ (mon, f) ∷ []) ≡ raises parts ++ raise_at mon.0 f.0 ∷ []
raises_push parts mon f = map-append raise_of parts ((mon, f) ∷ [])

-- one more feeder of a monitor
pub feeder_more : (parts : List (Mon × Feeder)) (before : List Event) (mon : Mon) (f : Feeder) (k : ℕ) → f.0 ≡ k + 1 → raises parts ≡ before ++ map (raise_at mon.0) (range_with_len 1 k)
    → raises (parts ++ (mon, f) ∷ []) ≡ before ++ map (raise_at mon.0) (range_with_len 1 (k + 1))
feeder_more parts before mon f k next is =
    raises_push parts mon f
    ∙ ap (λ (xs : List Event). xs ++ raise_at mon.0 f.0 ∷ []) is
    ∙ append_assoc before (map (raise_at mon.0) (range_with_len 1 k)) (raise_at mon.0 f.0 ∷ [])
    ∙ ap (λ (xs : List Event). before ++ xs) (ap (λ q. map (raise_at mon.0) (range_with_len 1 k) ++ raise_at mon.0 q ∷ []) next ∙ sym (map-range_with_len_more (raise_at mon.0) 1 k (k + 1) (omega arith)))

-- one more monitor of the logs
pub monitor_more : (logs : LogSet) (k : ℕ) → flat_map (raises_of logs) (range_with_len 1 (k + 1)) ≡ flat_map (raises_of logs) (range_with_len 1 k) ++ raises_of logs (k + 1)
monitor_more logs k =
    ap (flat_map (raises_of logs)) (ap (range_with_len 1) (add-one k) ∙ range_more 1 k)
    ∙ flat_map-append (raises_of logs) (range_with_len 1 k) ((1 + k) ∷ [])
    ∙ ap (λ (xs : List Event). flat_map (raises_of logs) (range_with_len 1 k) ++ xs) (append-nil (raises_of logs (1 + k)) ∙ ap (raises_of logs) (one_and k))

-- one more pass
pub pass_again : (logs : LogSet) (k : ℕ) → flat_map (λ (_ : ℕ). pass_of logs) (range_with_len 0 (k + 1)) ≡ flat_map (λ (_ : ℕ). pass_of logs) (range_with_len 0 k) ++ pass_of logs
pass_again logs k =
    ap (flat_map (λ (_ : ℕ). pass_of logs)) (ap (range_with_len 0) (add-one k) ∙ range_more 0 k)
    ∙ flat_map-append (λ (_ : ℕ). pass_of logs) (range_with_len 0 k) ((0 + k) ∷ [])
    ∙ ap (λ (xs : List Event). flat_map (λ (_ : ℕ). pass_of logs) (range_with_len 0 k) ++ xs) (append-nil (pass_of logs))
