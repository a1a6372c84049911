use Rattle.std.proofs.Common.{◌≡◌, get_or, subst, ◌∙◌}
use Rattle.std.proofs.lemmas.List.Elements.{All-more}
use Rattle.tk_input.specs.Changes.{AreSmall}
use Rattle.tk_input.proofs.logs.judging.are_narrow.Goals as goal

pub loop-part-preserved : goal.loop-part-preserved
loop-part-preserved c =
    let loop = c.loop-part in
    let part = c.part-item.result in
    let here : c.changes.result.now ≡ get_or c.args.row.now loop.part-index part = c.changes.ensures ∙ c.part-item.is in
    All-more AreSmall c.args.row.now loop.part-index part c.loop-part-test.true loop.invariant
    (subst AreSmall here (c.are_narrow.ensures c.if-not-are_narrow.false))
