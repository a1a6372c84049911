use Rattle.std.proofs.Common.{◌&&◌, ap₂, ◌∙◌}
use Rattle.tk_base.specs.Pairs.{objects_of}
use Rattle.tk_coord.specs.Checks.{known_in}
use Rattle.tk_coord.proofs.ContentLemmas.{over_both}
use Rattle.tk_coord.proofs.checks.are_over_both.Goals as goal

pub returns : goal.returns
returns c =
    let known = known_in c.args.known in
    c.are_all.ensures
    ∙ ap₂ ◌&&◌ c.are_of_either-either.ensures.value (ap₂ ◌&&◌ c.are_named-members.ensures.value c.are_named-broken.ensures.value)
    ∙ over_both known.objects known.members c.args.failed.now
    (objects_of c.args.values.now) c.are_named-members.ensures.ascends c.are_named-broken.ensures.ascends c.are_of_either-either.ensures.ascends c.requires.members c.requires.failed
