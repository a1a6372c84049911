use Rattle.tk_story.proofs.KeptLemmas.{never_both, ordered_or_different}
use Rattle.tk_story.proofs.kept.ends_agree_or_differ.Goals as goal

pub returns-clause-either : goal.returns-clause-either
returns-clause-either c = ordered_or_different

pub returns-clause-never_both : goal.returns-clause-never_both
returns-clause-never_both c = never_both
