use Rattle.std.proofs.Common.{ℕ, length, sym, ap, ◌∙◌, subst}
use Rattle.tk_border.specs.Levels.{AreMembers}
use Rattle.tk_rank.specs.Rank.{RankView}
use Rattle.tk_rows.specs.Replacing.{IsReplacement}
use Rattle.tk_alloc.proofs.BorderLemmas.{factors_count}
use Rattle.tk_coord.specs.Board.{BoardView}
use Rattle.tk_coord.specs.Steps.{IsReplaced}
use Rattle.tk_coord.proofs.BoardLemmas.{length-relevelled, ranks_after}
use Rattle.tk_coord.proofs.board.Board.replace.Goals as goal

pub set_members-requires : goal.set_members-requires
set_members-requires c =
    let f = c.self.inside in
    let change = c.args.reallocation in
    let same = ap (λ (r : RankView). length r.levels) (c.relevel.ensures.value) ∙ length-relevelled change.own f.ranks.levels ∙ ap (λ (r : RankView). length r.levels) c.self.invariant ∙ factors_count f.table in
    subst (λ (n : ℕ). AreMembers n change.members) (sym same) (subst (λ (b : BoardView). AreMembers (length b.table.rows) change.members) (sym c.self.view_is) c.requires.members)

pub invariant_of-self : goal.invariant_of-self
invariant_of-self c =
    let f = c.self.inside in
    let change = c.args.reallocation in
    let fits = subst (λ (b : BoardView). IsReplacement b.table change) (sym c.self.view_is) c.requires.fits in
    let after : IsReplaced f.table change c.replace.new.self = record {
      monitors = c.replace.ensures.monitors;
      objects = c.replace.ensures.objects;
      factors = c.replace.ensures.factors;
      balanced = c.promise.ensures;
    } in
    c.set_members.ensures
    ∙ ap (λ (r : RankView). record r { members = change.members }) c.relevel.ensures.value
    ∙ ranks_after f.table c.replace.new.self f.ranks f.members change after c.relevel.ensures.ascends fits.objects c.self.invariant

pub returns-clause-table : goal.returns-clause-table
returns-clause-table c =
    subst (λ (b : BoardView). IsReplaced b.table c.args.reallocation c.replace.new.self) c.self.view_is (record {
      monitors = c.replace.ensures.monitors;
      objects = c.replace.ensures.objects;
      factors = c.replace.ensures.factors;
      balanced = c.promise.ensures;
    })
