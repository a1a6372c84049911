use Rattle.std.proofs.Common.{sym, subst}
use Rattle.tk_base.specs.Ascending.{IsAscending}
use Rattle.tk_journal.specs.Legal.{IsLegal}
use Rattle.tk_coord.specs.Coordinator.{CoordinatorView, with_factors}
use Rattle.tk_journal.proofs.WholeLemmas.{opened_legal}
use Rattle.tk_coord.proofs.BeginLemmas.{can_begin}
use Rattle.tk_coord.proofs.BegunLemmas.{begun_so}
use Rattle.tk_coord.proofs.coordinator.Coordinator.with_table.Goals as goal

pub begin-requires : goal.begin-requires
begin-requires c =
    let up : IsAscending c.args.members = subst IsAscending c.members.view_is c.members.invariant in
    can_begin c.args.settings c.args.members c.args.table c.in_ok-journal.journal.items c.requires up c.promise.ensures c.table_assigns.ensures.limits c.in_ok-journal.ensures.value

pub returns-clause-legal : goal.returns-clause-legal
returns-clause-legal c =
    let o = with_factors c.args.settings c.args.members c.args.table in
    begun_so c.begin.result _ (λ (x : CoordinatorView). IsLegal o x.journal) c.begin.ensures
    (subst (IsLegal o) (sym c.in_ok-journal.ensures.value) (opened_legal o))
