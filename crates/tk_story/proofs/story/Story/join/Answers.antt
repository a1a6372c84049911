use Rattle.std.proofs.Common.{ap, sym, ◌∙◌}
use Rattle.tk_base.specs.Settings.{Setup}
use Rattle.tk_story.proofs.JoiningLemmas.{ends_count}
use Rattle.tk_story.proofs.story.Story.join.Goals as goal

pub check-requires : goal.check-requires
check-requires c = ends_count c.args.monitors.items c.args.logs c.args.settings c.args.from c.requires.monitors ∙ ap (λ (s : Setup). s.monitors) (sym c.requires.made)
