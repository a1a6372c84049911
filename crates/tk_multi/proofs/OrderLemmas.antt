-- One more line of an order file of several queries.
use Rattle.std.proofs.Common.{◌≡◌, ℕ, ◌<◌, List, [], ◌∷◌, length, Result, None, refl, ap, sym, subst, ◌∙◌, arith}
use Rattle.std.proofs.lemmas.List.Splits.{length-slice_split}
use Rattle.std.specs.Prelude.{◌==◌}
use Rattle.tk_input.specs.Order.{words}
use Rattle.tk_input.specs.Records.{and_then, through}
use Rattle.tk_input.specs.declared.order.OrderFault.{OrderFault}
use Rattle.tk_input.specs.declared.order.OrderFault.TheVariants.{BadOrder, NoMemory}
use Rattle.tk_multi.specs.Order.{IsFault, MultiOrderView, event_in, line_added}
use Rattle.tk_multi.proofs.ThroughLemmas.{through_first}

too_many : (a b c : List ℕ) (rest : List (List ℕ)) → 0 < length rest → event_in (a ∷ b ∷ c ∷ rest) ≡ None
too_many a b c [] some = absurd (omega (arith, some))
too_many a b c (d ∷ rest) some = refl

-- a line of more than three words is no event
pub four_words : (line one two three a b c : List ℕ) → words line ≡ a ∷ words one → words one ≡ b ∷ words two → words two ≡ c ∷ words three → event_in (words line) ≡ None
four_words line one two three a b c p q r =
    ap event_in (p ∙ ap (λ (w : List (List ℕ)). a ∷ w) (q ∙ ap (λ (w : List (List ℕ)). b ∷ w) r))
    ∙ too_many a b c (words three) (let e = length-slice_split (λ b. b == 32) three in omega (arith, e))

fault_on : (e : OrderFault) (r : Result MultiOrderView OrderFault) (further : MultiOrderView → Result MultiOrderView OrderFault) → IsFault e r → IsFault e (and_then further r)
fault_on (BadOrder n) r further is = ap (and_then further) is
fault_on NoMemory r further is = tt

-- the fault of a line is that of what is left
pub event_fault : (before : MultiOrderView) (line : ℕ × List ℕ) (rest left : List (ℕ × List ℕ)) (e : OrderFault) → left ≡ line ∷ rest → IsFault e (line_added before line) → IsFault e (through line_added before left)
event_fault before line rest left e next fault =
    subst (λ (r : Result MultiOrderView OrderFault). IsFault e r) (sym (through_first line_added before line rest left next))
    (fault_on e (line_added before line) (λ after. through line_added after rest) fault)
