use Rattle.std.proofs.Common.{◌≡◌, ◌∙◌, ◌+◌, ℕ, ℤ, List, ap, refl, arith}
use Rattle.std.proofs.lemmas.List.Elements.{All-push}
use Rattle.tk_rows.specs.Factors.{factor_at}
use Rattle.tk_journal.specs.Entries.{IsEntryOf}
use Rattle.tk_coord.proofs.BeginLemmas.{assigns_by, assigns_more, factors_by, opened_by}
use Rattle.tk_coord.proofs.opening.table_assigns.Goals as goal

pub loop-j-preserved : goal.loop-j-preserved
loop-j-preserved c =
    let s = c.args.settings.now in
    let table = c.args.table.now in record {
      same = assigns_more c.args.members.now (λ mon. factors_by (factor_at table mon) s.objects) c.loop-j.j c.push_reserved.ensures.items c.loop-j.invariant.same
          c.in_ok-assign.ensures.value refl
          (c.in_ok-changes.ensures ∙ ap (factors_by (factor_at table (c.loop-j.j + 1))) c.objects.ensures.value);
      len = omega (arith, c.push_reserved.ensures.len, c.loop-j.invariant.len);
      room = omega (arith, c.push_reserved.ensures.capacity, c.loop-j.invariant.room);
      entries = λ n.
          rw c.push_reserved.ensures.items
          (All-push (IsEntryOf s.monitors n) c.loop-j.entries.items c.in_ok-assign.field-0 (c.loop-j.invariant.entries n)
          (c.in_ok-assign.ensures.monitor s.monitors n (omega arith) (omega arith)));
    }

pub returns-clause-value : goal.returns-clause-value
returns-clause-value c =
    let s = c.args.settings.now in
    let G : ℕ → List (ℕ × ℤ) = λ mon. factors_by (factor_at c.args.table.now mon) s.objects in
    let all : c.loop-j.j ≡ s.monitors = omega (arith, c.loop-j-test.false, c.loop-j.auto.j-end, c.monitors-monitors.ensures.value) in
    c.loop-j.invariant.same ∙ ap (assigns_by c.args.members.now G) all ∙ opened_by s c.args.members.now c.args.table.now
