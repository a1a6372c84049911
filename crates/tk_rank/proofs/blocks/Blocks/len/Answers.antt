use Rattle.std.proofs.Common.{◌∙◌, ap, sym, arith, length}
use Rattle.std.proofs.lemmas.List.{length-map}
use Rattle.tk_rank.specs.Tree.{LeavesView}
use Rattle.tk_rank.proofs.blocks.Blocks.len.Goals as goal

pub returns-clause-value : goal.returns-clause-value
returns-clause-value g c =
    let leaves = c.self.inside.leaves in
    c.len.ensures
    ∙ leaves.ok.0
    ∙ sym (length-map leaves.items g.N.Node.number)
    ∙ ap (λ (t : LeavesView). length t.leaves) c.self.view_is

pub returns-clause-few : goal.returns-clause-few
returns-clause-few g c =
    let leaves = c.self.inside.leaves in
    omega (arith, c.len.ensures, leaves.ok.0, length-map leaves.items g.N.Node.number, c.self.invariant.blocks.few)

pub returns-clause-room : goal.returns-clause-room
returns-clause-room g c =
    omega (arith, c.len.ensures, c.self.inside.leaves.ok.1, ap (λ (t : LeavesView). t.room) c.self.view_is)
