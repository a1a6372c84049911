-- One more line of an order file.
use Rattle.std.proofs.Common.{◌≡◌, ℕ, ◌<◌, Bool, true, false, cond, List, [], ◌∷◌, ◌++◌, length, Option, Some, None, Result, Ok, Err, refl, sym, ap, subst, ◌∙◌, arith}
use Rattle.std.specs.Prelude.{IsSome, IsTrue, is_ok, nat_lt}
use Rattle.std.specs.Str.Lines.{lines}
use Rattle.std.proofs.lemmas.Bool.{lt-ltb, le-ltb}
use Rattle.tk_base.specs.declared.memory.NoMemory.{NoMemory as NoRoom}
use Rattle.tk_input.specs.Order.{AddsLine, IsFault, IsLineFault, IsReadAs, OrderView, event_in, event_taken, filled, left_after, line_added, number_after, numbered, ordered, words}
use Rattle.tk_input.specs.declared.event.Event.{Event}
use Rattle.tk_input.specs.Records.{through}
use Rattle.tk_input.specs.declared.order.OrderFault.{OrderFault}
use Rattle.tk_input.specs.declared.order.OrderFault.TheVariants.{BadOrder, NoMemory}
use Rattle.tk_input.proofs.ThroughLemmas.{through-fault}

kept : (b : Bool) (n number : ℕ) (line : List ℕ) (rest : List (ℕ × List ℕ)) → nat_lt 0 (length line) ≡ b → filled ((number, line) ∷ rest) ≡ cond b ((number, line) ∷ filled rest) (filled rest)
kept b n number line rest is = ap (λ (k : Bool). cond k ((number, line) ∷ filled rest) (filled rest)) is

-- an empty line is passed over
pub line_skipped : (number : ℕ) (text line rest : List ℕ) → lines text ≡ line ∷ lines rest → length line ≡ 0 → left_after number text ≡ left_after (number_after number) rest
line_skipped number text line rest is none =
    ap (λ (ls : List (List ℕ)). filled (numbered (number_after number) ls)) is
    ∙ kept false 0 (number_after number) line (numbered (number_after (number_after number)) (lines rest)) (le-ltb 0 (length line) (omega (arith, none)))

-- another line comes next
pub line_next : (number : ℕ) (text line rest : List ℕ) → lines text ≡ line ∷ lines rest → 0 < length line → left_after number text ≡ (number_after number, line) ∷ left_after (number_after number) rest
line_next number text line rest is some =
    ap (λ (ls : List (List ℕ)). filled (numbered (number_after number) ls)) is
    ∙ kept true 0 (number_after number) line (numbered (number_after (number_after number)) (lines rest)) (lt-ltb 0 (length line) some)

-- after the last line nothing is left
pub none_left : (number : ℕ) (text : List ℕ) → length text ≡ 0 → left_after number text ≡ []
none_left number [] none = refl
none_left number (c ∷ text) none = absurd (omega (arith, none))

-- the fault of a line is that of what is left
pub event_fault : (before : OrderView) (line : ℕ × List ℕ) (rest left : List (ℕ × List ℕ)) (e : OrderFault) → left ≡ line ∷ rest → IsLineFault e (line_added before line) → IsFault e (through line_added before left)
event_fault before line rest left (BadOrder n) next fault = through-fault line_added before line rest left (BadOrder n) next fault
event_fault before line rest left NoMemory next fault = tt

-- an event that was read is the one that is meant
pub event_read : (read : Option (Result Event NoRoom)) (meant : Option Event) (r : Result Event NoRoom) (event : Event) → IsReadAs read meant → read ≡ Some r → r ≡ Ok event → meant ≡ Some event
event_read read meant r event is some ok = subst (λ (o : Option (Result Event NoRoom)). IsReadAs o meant) (some ∙ ap (λ (x : Result Event NoRoom). Some x) ok) is

meant_taken : (before : OrderView) (n : ℕ) (meant : Option Event) → IsSome meant → IsTrue (is_ok (event_taken before n meant))
meant_taken before n None some = absurd (cc)
meant_taken before n (Some event) some = refl

-- a line whose event finds no memory is one
pub line_unread : (before : OrderView) (n : ℕ) (line : List ℕ) (read : Option (Result Event NoRoom)) (r : Result Event NoRoom) (e : NoRoom) → IsReadAs read (event_in (words line)) → read ≡ Some r → r ≡ Err e → IsTrue (is_ok (line_added before (n, line)))
line_unread before n line read r e is some err =
    meant_taken before n (event_in (words line)) (subst (λ (o : Option (Result Event NoRoom)). IsReadAs o (event_in (words line))) (some ∙ ap (λ (x : Result Event NoRoom). Some x) err) is)

-- so is one whose event was read
pub line_read : (before : OrderView) (n : ℕ) (line : List ℕ) (event : Event) → event_in (words line) ≡ Some event → IsTrue (is_ok (line_added before (n, line)))
line_read before n line event is = ap (λ (o : Option Event). is_ok (event_taken before n o)) is

-- its event and its number come behind the others
pub line_taken : (events events_new : List Event) (lines lines_new : List ℕ) (n : ℕ) (line : List ℕ) (event : Event) → event_in (words line) ≡ Some event → events_new ≡ events ++ event ∷ [] → lines_new ≡ lines ++ n ∷ [] → AddsLine (n, line) (ordered events lines) (ordered events_new lines_new)
line_taken events events_new lines lines_new n line event is pushed numbered =
    ap (λ (o : Option Event). event_taken (ordered events lines) n o) is
    ∙ ap (λ (es : List Event). Ok (ordered es (lines ++ n ∷ []))) (sym pushed)
    ∙ ap (λ (ns : List ℕ). Ok (ordered events_new ns)) (sym numbered)
