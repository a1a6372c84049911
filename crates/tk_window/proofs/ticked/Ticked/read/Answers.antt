use Rattle.std.proofs.Common.{◌≡◌, [], ◌∷◌, ◌++◌, ℕ, ℤ, Bool, List, length, Ok, sym, subst, ap, ◌∙◌, arith, length-append}
use Rattle.std.specs.Prelude.{All, MatchBool}
use Rattle.std.proofs.lemmas.Result.{err_from_is_err_and}
use Rattle.csv.specs.Records.{fields_of}
use Rattle.tk_input.specs.Records.{through}
use Rattle.tk_input.proofs.ThroughLemmas.{through-some}
use Rattle.tk_window.specs.Reading.{AreRead, Reading, entries_in, entry_of, grown}
use Rattle.tk_window.specs.Ticks.{AreOver, AreTicks, Entry, entry_added}
use Rattle.tk_window.proofs.ReadingLemmas.{entries_in-grown, entry_next, grown_within, over_read, ticks_end, ticks_fault, ticks_within}
use Rattle.tk_window.proofs.ticked.Ticked.read.Goals as goal

pub returns-in_err-entry-clause-err : goal.returns-in_err-entry-clause-err
returns-in_err-entry-clause-err c =
    let loop = c.loop-last in
    let next : loop.rows ≡ fields_of c.next.new.row ∷ c.next.new.self =
    subst (λ (found : Bool). MatchBool found (loop.rows ≡ fields_of c.next.new.row ∷ c.next.new.self) (loop.rows ≡ [])) c.if-branch.true c.in_ok-next.ensures.found in
    let given = err_from_is_err_and c.from_residual-in_err-entry.result c.from_residual-in_err-entry.ensures.1 in
    rw (given.1, given.2)
    (ticks_fault c.args.names.now c.args.bytes.now (entries_in loop.closed.items loop.last) loop.records (fields_of c.next.new.row) c.next.new.self loop.rows c.in_err-entry.field-0.0 loop.invariant.same next loop.invariant.counted c.in_err-entry.ensures.err)

pub loop-last-preserved : goal.loop-last-preserved
loop-last-preserved c =
    let loop = c.loop-last in
    let names = c.args.names.now in
    let before = entries_in loop.closed.items loop.last in
    let r : Reading = record { closed = loop.closed.items; last = loop.last } in
    let taken : Reading = record { closed = c.take_entry.new.closed.items; last = c.take_entry.new.last } in
    let entry = entry_of c.in_ok-entry.entry in
    let grows : taken ≡ grown r entry = c.in_ok-take_entry.ensures in
    let more : entries_in taken.closed taken.last ≡ before ++ entry ∷ [] = ap (λ (x : Reading). entries_in x.closed x.last) grows ∙ entries_in-grown r entry in
    let next : loop.rows ≡ fields_of c.next.new.row ∷ c.next.new.self =
    subst (λ (found : Bool). MatchBool found (loop.rows ≡ fields_of c.next.new.row ∷ c.next.new.self) (loop.rows ≡ [])) c.if-branch.true c.in_ok-next.ensures.found in
    record {
      same =
          ap (λ (all : List Entry). through (entry_added names) all c.next.new.self) more
          ∙ sym (through-some (entry_added names) before (before ++ entry ∷ []) (fields_of c.next.new.row) c.next.new.self loop.rows next
          (entry_next names before entry loop.records (fields_of c.next.new.row) loop.invariant.counted c.in_ok-entry.ensures.ok))
          ∙ loop.invariant.same;
      counted = omega (arith, loop.invariant.counted, ap (λ (all : List Entry). length all) more, length-append before (entry ∷ []));
      few = omega (arith, c.in_ok-entry.ensures.few);
      within = subst (AreRead (length names)) (sym grows) (grown_within (length names) r c.in_ok-entry.entry c.in_ok-entry.ensures.change loop.invariant.within);
    }

pub invariant_of-result : goal.invariant_of-result
invariant_of-result c =
    let loop = c.loop-last in
    let r : Reading = record { closed = loop.closed.items; last = loop.last } in
    subst AreTicks (ap (λ (tick : List (ℕ × ℤ)). loop.closed.items ++ tick ∷ []) (sym c.new.ensures) ∙ sym c.in_ok-push.ensures.items)
    (ticks_within (length c.args.names.now) r (omega (arith, loop.invariant.counted, loop.invariant.few)) loop.invariant.within)

pub returns-clause-ok : goal.returns-clause-ok
returns-clause-ok c =
    let loop = c.loop-last in
    let ended : loop.rows ≡ [] =
    subst (λ (found : Bool). MatchBool found (loop.rows ≡ fields_of c.next.new.row ∷ c.next.new.self) (loop.rows ≡ [])) c.if-branch.false c.in_ok-next.ensures.found in
    ticks_end c.args.names.now c.args.bytes.now loop.closed.items loop.last loop.rows loop.invariant.same ended
    ∙ ap (λ (tick : List (ℕ × ℤ)). Ok (loop.closed.items ++ tick ∷ [])) (sym c.new.ensures)
    ∙ ap (λ (ticks : List (List (ℕ × ℤ))). Ok ticks) (sym c.in_ok-push.ensures.items)

pub returns-clause-objects : goal.returns-clause-objects
returns-clause-objects c =
    let loop = c.loop-last in
    let n = length c.args.names.now in
    let r : Reading = record { closed = loop.closed.items; last = loop.last } in
    subst (λ (ticks : List (List (ℕ × ℤ))). All (AreOver n) ticks) (ap (λ (tick : List (ℕ × ℤ)). loop.closed.items ++ tick ∷ []) (sym c.new.ensures) ∙ sym c.in_ok-push.ensures.items)
    (over_read n r loop.invariant.within)
