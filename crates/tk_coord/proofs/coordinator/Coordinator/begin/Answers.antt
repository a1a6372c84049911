use Rattle.std.proofs.Common.{ℕ, ◌∙◌, sym, ap, subst}
use Rattle.tk_coord.specs.Coordinator.{Begins}
use Rattle.tk_coord.specs.Board.{BoardView}
use Rattle.tk_coord.specs.Keeping.{HasBegun}
use Rattle.tk_coord.specs.Turns.{TurnsView}
use Rattle.tk_coord.proofs.BegunLemmas.{begun_entries, begun_holds, begun_journal, begun_rows, begun_stands}
use Rattle.tk_coord.proofs.NoteLemmas.{targets_of}
use Rattle.tk_coord.proofs.TurnsLemmas.{begun_turns}
use Rattle.tk_coord.proofs.coordinator.Coordinator.begin.Goals as goal

pub with_entries-requires : goal.with_entries-requires
with_entries-requires c =
    let s = c.args.settings in
    let journal = c.args.journal.items in
    targets_of s.monitors s.objects c.monitors-monitors.result journal c.monitors-monitors.ensures.value (begun_entries s c.args.members c.args.table journal c.requires)

pub new-requires-clause-objects : goal.new-requires-clause-objects
new-requires-clause-objects c = begun_rows c.args.settings c.args.members c.args.table c.args.journal.items c.requires ∙ sym c.objects.ensures.value

pub invariant_of-result : goal.invariant_of-result
invariant_of-result c =
    let s = c.args.settings in
    let members = c.args.members in
    let table = c.args.table in
    let board = c.in_ok-board.board in
    let state = c.in_ok-begun.field-0 in
    let after = c.in_ok-journal.journal.entries in
    let monitors = c.monitors-monitors.ensures.value in
    let begins : Begins s members table after = subst (Begins s members table) (sym c.in_ok-journal.ensures.entries) c.requires in
    let over_board : Begins s board.members board.table after = subst (λ (b : BoardView). Begins s b.members b.table after) (sym c.in_ok-board.ensures) begins in (
      record {
        journal = begun_journal s members table after begins;
        holds = begun_holds s board after state over_board (subst (λ (n : ℕ). HasBegun n board state) monitors c.in_ok-begun.ensures);
        stands = begun_stands s members table after c.new-2.result begins c.new-2.ensures;
        entries = begun_entries s members table after begins;
        turned = ap (λ (v : TurnsView). v.list) c.new-3.ensures ∙ begun_turns s members table after begins;
      },
      c.in_ok-journal.ensures.monitors ∙ monitors,
    )
