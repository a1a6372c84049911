use Rattle.std.proofs.Common.{◌≡◌, ◌∙◌, sym, subst, ap}
use Rattle.tk_base.specs.Objects.{objects}
use Rattle.tk_journal.specs.Legal.{IsLegal, opened, start}
use Rattle.tk_coord.specs.Coordinator.{CoordinatorView}
use Rattle.tk_journal.proofs.WholeLemmas.{opened_legal}
use Rattle.tk_coord.proofs.BeginLemmas.{begins_at_start, begun_at_start}
use Rattle.tk_coord.proofs.BegunLemmas.{begun_so}
use Rattle.tk_coord.proofs.coordinator.Coordinator.new.Goals as goal

pub begin-requires : goal.begin-requires
begin-requires c =
    let s = c.args.settings in
    let members = c.in_ok-members.members in
    let journal = c.in_ok-journal.journal.items in
    let named : members ≡ objects s.k = c.in_ok-members.ensures ∙ ap objects c.k.ensures.value in
    begins_at_start s members c.in_ok-table.table journal c.k.ensures.limits named (record {
      objects = c.in_ok-table.ensures.objects ∙ c.objects.ensures.value;
      monitors = c.in_ok-table.ensures.monitors ∙ c.monitors-monitors.ensures.value;
    }) c.promise.ensures c.in_ok-table.ensures.zeros
    (begun_at_start s members journal c.monitors-monitors.result named c.in_ok-journal.ensures.value c.monitors-monitors.ensures.value)

pub returns-clause-journal : goal.returns-clause-journal
returns-clause-journal c =
    let s = c.args.settings in
    let members = c.in_ok-members.members in
    let named : members ≡ objects s.k = c.in_ok-members.ensures ∙ ap objects c.k.ensures.value in
    begun_so c.begin.result _ (λ (x : CoordinatorView). x.journal ≡ opened (start s)) c.begin.ensures
    (begun_at_start s members c.in_ok-journal.journal.items c.monitors-monitors.result named c.in_ok-journal.ensures.value c.monitors-monitors.ensures.value)

pub returns-clause-legal : goal.returns-clause-legal
returns-clause-legal c =
    let s = c.args.settings in
    let members = c.in_ok-members.members in
    let named : members ≡ objects s.k = c.in_ok-members.ensures ∙ ap objects c.k.ensures.value in
    begun_so c.begin.result _ (λ (x : CoordinatorView). IsLegal (start s) x.journal) c.begin.ensures
    (subst (IsLegal (start s))
    (sym (begun_at_start s members c.in_ok-journal.journal.items c.monitors-monitors.result named c.in_ok-journal.ensures.value c.monitors-monitors.ensures.value))
    (opened_legal (start s)))
