use Rattle.tk_story.specs.Ends.{kept_by}
use Rattle.tk_story.proofs.JoiningLemmas.{are_histories, as_story, ordered_is_story}
use Rattle.tk_story.proofs.KeptLemmas.{nothing_is_odd}
use Rattle.tk_story.proofs.story.join.make.Goals as goal

-- all links are ordered, so the legal histories are those of a story
pub of-requires-clause-story : goal.of-requires-clause-story
of-requires-clause-story c =
    let coordinator = c.args.ends.coordinator in
    let ends = c.args.ends.monitors.items in
    let histories = are_histories coordinator ends c.args.logs c.args.settings c.args.from c.requires.run c.monitors.ensures.limits c.monitors-2.ensures.limits c.journal.ensures.legal c.requires.legal in
    as_story c.args.settings coordinator ends c.args.logs c.args.from _ c.requires.run.made c.into_monitors-monitors.ensures
    (ordered_is_story (kept_by coordinator ends) c.args.logs c.args.from histories c.requires.ordered)

pub returns-clause-nothing_odd : goal.returns-clause-nothing_odd
returns-clause-nothing_odd c =
    let coordinator = c.args.ends.coordinator in
    let ends = c.args.ends.monitors.items in
    let histories = are_histories coordinator ends c.args.logs c.args.settings c.args.from c.requires.run c.monitors.ensures.limits c.monitors-2.ensures.limits c.journal.ensures.legal c.requires.legal in
    nothing_is_odd coordinator ends c.args.logs c.args.settings c.args.from c.requires.run histories c.requires.ordered
