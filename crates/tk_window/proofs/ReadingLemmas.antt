-- The ticks of a log while it is read.
use Rattle.std.proofs.Common.{◌≡◌, ℕ, ◌+◌, ◌<◌, ◌≤◌, ◌^◌, ℤ, unsigned_abs, List, [], ◌∷◌, ◌++◌, length, map, Ok, Err, refl, sym, ap, ◌∙◌, append_assoc, length-append, arith}
use Rattle.std.specs.Prelude.{All, Option, Some, None, sum_by, IfSome, bytes_eq, codes}
use Rattle.std.proofs.lemmas.List.{append-nil, length-map, length_push, map-append}
use Rattle.std.proofs.lemmas.List.Elements.{All-push, All-weaker}
use Rattle.std.proofs.lemmas.List.Sums.{sum_by-cons}
use Rattle.csv.specs.Records.{field_at}
use Rattle.tk_input.specs.Log.{IsFault}
use Rattle.tk_input.specs.Logs.{IsObject}
use Rattle.tk_input.specs.Records.{and_then, records_in, through}
use Rattle.tk_input.specs.declared.change.Change.{Change}
use Rattle.tk_input.specs.declared.part.PartFault.{PartFault}
use Rattle.tk_input.proofs.ThroughLemmas.{through-fault, through-none}
use Rattle.tk_input.proofs.LogLemmas.{meant_is}
use Rattle.tk_window.specs.Reading.{AreRead, IsChange, Reading, entries_in, entry_of, grown}
use Rattle.tk_window.specs.Ticks.{AreOver, AreTicks, Entry, entry_added, in_first, is_mark, next_entry, ticked_of, ticks_of}
use Rattle.tk_window.specs.Ticks.Entry.{Made, Mark}

-- changes in front of a first tick
ticks_of-made : (tick : List (ℕ × ℤ)) (last : List (ℕ × ℤ)) (rest : List (List (ℕ × ℤ))) (after : List Entry) → ticks_of after ≡ last ∷ rest → ticks_of (map Made tick ++ after) ≡ (tick ++ last) ∷ rest
ticks_of-made [] last rest after is = is
ticks_of-made (c ∷ tick) last rest after is = ap (in_first c) (ticks_of-made tick last rest after is)

-- the ticks of the entries that were read
pub ticks_of-entries_in : (closed : List (List (ℕ × ℤ))) (last : List (ℕ × ℤ)) → ticks_of (entries_in closed last) ≡ closed ++ last ∷ []
ticks_of-entries_in [] last =
    let bare : map Made last ++ [] ≡ map Made last = append-nil (map Made last) in
    sym (ap ticks_of bare) ∙ ticks_of-made last [] [] [] refl ∙ ap (λ (tick : List (ℕ × ℤ)). tick ∷ []) (append-nil last)
ticks_of-entries_in (tick ∷ closed) last =
    ticks_of-made tick [] (ticks_of (entries_in closed last)) (Mark ∷ entries_in closed last) refl
    ∙ ap (λ (t : List (ℕ × ℤ)). t ∷ ticks_of (entries_in closed last)) (append-nil tick)
    ∙ ap (λ (ts : List (List (ℕ × ℤ))). tick ∷ ts) (ticks_of-entries_in closed last)

made_more : (closed : List (List (ℕ × ℤ))) (last : List (ℕ × ℤ)) (c : ℕ × ℤ) → entries_in closed (last ++ c ∷ []) ≡ entries_in closed last ++ Made c ∷ []
made_more [] last c = map-append Made last (c ∷ [])
made_more (tick ∷ closed) last c =
    ap (λ (es : List Entry). map Made tick ++ Mark ∷ es) (made_more closed last c)
    ∙ sym (append_assoc (map Made tick) (Mark ∷ entries_in closed last) (Made c ∷ []))

mark_more : (closed : List (List (ℕ × ℤ))) (last : List (ℕ × ℤ)) → entries_in (closed ++ last ∷ []) [] ≡ entries_in closed last ++ Mark ∷ []
mark_more [] last = refl
mark_more (tick ∷ closed) last =
    ap (λ (es : List Entry). map Made tick ++ Mark ∷ es) (mark_more closed last)
    ∙ sym (append_assoc (map Made tick) (Mark ∷ entries_in closed last) (Mark ∷ []))

-- one entry more
pub entries_in-grown : (r : Reading) (e : Entry) → entries_in (grown r e).closed (grown r e).last ≡ entries_in r.closed r.last ++ e ∷ []
entries_in-grown r Mark = mark_more r.closed r.last
entries_in-grown r (Made c) = made_more r.closed r.last c

-- how many entries there are
pub length-entries_in : (closed : List (List (ℕ × ℤ))) (last : List (ℕ × ℤ)) → length (entries_in closed last) ≡ sum_by length (closed ++ last ∷ []) + length closed
length-entries_in [] last = omega (arith, length-map last Made, sum_by-cons {X = List (ℕ × ℤ)} length last [])
length-entries_in (tick ∷ closed) last =
    omega (arith, length-append (map Made tick) (Mark ∷ entries_in closed last), length-map tick Made, length-entries_in closed last, sum_by-cons {X = List (ℕ × ℤ)} length tick (closed ++ last ∷ []))

-- a change that is within its limits, or a mark
abbrev pub IsEntry : ℕ → Option Change → Type 0
IsEntry n e = IfSome e (λ c. IsChange n (c.obj.0, c.by))

pub grown_within : (n : ℕ) (r : Reading) (e : Option Change) → IsEntry n e → AreRead n r → AreRead n (grown r (entry_of e))
grown_within n r None is all = record {
  closed = All-push (λ (tick : List (ℕ × ℤ)). All (IsChange n) tick) r.closed r.last all.closed all.last;
  last = λ i d within. absurd (omega (arith, within));
}
grown_within n r (Some c) is all = record {
  closed = all.closed;
  last = All-push (IsChange n) r.last (c.obj.0, c.by) all.last is;
}

-- all ticks of a log that was read
pub over_read : (n : ℕ) (r : Reading) → AreRead n r → All (AreOver n) (r.closed ++ r.last ∷ [])
over_read n r all =
    let P : ℕ × ℤ → Type 0 = λ c. IsObject n c.0 in
    let weaker = All-weaker (IsChange n) P (λ c is. is.0) in
    All-push (AreOver n) r.closed r.last (All-weaker (λ (tick : List (ℕ × ℤ)). All (IsChange n) tick) (AreOver n) (λ tick is. weaker tick is) r.closed all.closed) (weaker r.last all.last)

pub ticks_within : (n : ℕ) (r : Reading) → length (entries_in r.closed r.last) ≤ 1000000 → AreRead n r → AreTicks (r.closed ++ r.last ∷ [])
ticks_within n r few all =
    let P : ℕ × ℤ → Type 0 = λ c. unsigned_abs c.1 < 2 ^ 127 in
    let weaker = All-weaker (IsChange n) P (λ c is. is.1) in
    let many : length (r.closed ++ r.last ∷ []) ≡ length r.closed + 1 = length_push r.closed r.last in
    record {
      some_tick = omega (arith, many);
      records = omega (arith, many, few, length-entries_in r.closed r.last);
      sizes = All-push (λ (tick : List (ℕ × ℤ)). All P tick) r.closed r.last (All-weaker (λ (tick : List (ℕ × ℤ)). All (IsChange n) tick) (λ (tick : List (ℕ × ℤ)). All P tick) (λ tick is. weaker tick is) r.closed all.closed) (weaker r.last all.last);
    }

-- ---- records

-- a record of one field has it
pub no_field : (fields : List (List ℕ)) → length fields ≡ 1 → field_at fields 0 ≡ None → ⊥
unfolding field_at
no_field [] one none = absurd (omega (arith, one))
no_field (field ∷ rest) one none = absurd (cc)

-- whether that is the mark
pub mark_found : (fields : List (List ℕ)) (field : List ℕ) → length fields ≡ 1 → Some field ≡ field_at fields 0 → bytes_eq field (codes "tick") ≡ is_mark fields
unfolding field_at
mark_found [] field one found = absurd (omega (arith, one))
mark_found (a ∷ []) field one found = let same : field ≡ a = cc in ap (λ (f : List ℕ). bytes_eq f (codes "tick")) same
mark_found (a ∷ b ∷ rest) field one found = absurd (omega (arith, one))

-- an entry that is read joins the others
pub entry_next : (names : List (List ℕ)) (before : List Entry) (entry : Entry) (n : ℕ) (fields : List (List ℕ)) → n ≡ length before → next_entry names n fields ≡ Ok entry → entry_added names before fields ≡ Ok (before ++ entry ∷ [])
entry_next names before entry n fields so_many read =
    ap (λ (k : ℕ). and_then (λ more. Ok (before ++ more ∷ [])) (next_entry names k fields)) (sym so_many)
    ∙ ap (and_then (λ more. Ok (before ++ more ∷ []))) read

-- after the last record the entries so far are all
pub ticks_end : (names : List (List ℕ)) (bytes : List ℕ) (closed : List (List (ℕ × ℤ))) (last : List (ℕ × ℤ)) (rows : List (List (List ℕ)))
    → through (entry_added names) (entries_in closed last) rows ≡ through (entry_added names) [] (records_in bytes) → rows ≡ [] → ticked_of names bytes ≡ Ok (closed ++ last ∷ [])
ticks_end names bytes closed last rows same is =
    ap (and_then (λ (entries : List Entry). Ok (ticks_of entries))) (sym same ∙ through-none (entry_added names) (entries_in closed last) rows is)
    ∙ ap (λ (ticks : List (List (ℕ × ℤ))). Ok ticks) (ticks_of-entries_in closed last)

-- the fault of a record is that of the file
pub ticks_fault : (names : List (List ℕ)) (bytes : List ℕ) (before : List Entry) (n : ℕ) (fields : List (List ℕ)) (rest rows : List (List (List ℕ))) (e : PartFault)
    → through (entry_added names) before rows ≡ through (entry_added names) [] (records_in bytes) → rows ≡ fields ∷ rest → n ≡ length before → next_entry names n fields ≡ Err e → IsFault e (ticked_of names bytes)
ticks_fault names bytes before n fields rest rows e same is so_many fault =
    let here : entry_added names before fields ≡ Err e =
    ap (λ (k : ℕ). and_then (λ more. Ok (before ++ more ∷ [])) (next_entry names k fields)) (sym so_many) ∙ ap (and_then (λ more. Ok (before ++ more ∷ []))) fault in
    meant_is (ticked_of names bytes) e
    (ap (and_then (λ (entries : List Entry). Ok (ticks_of entries))) (sym same ∙ through-fault (entry_added names) before fields rest rows e is here))
