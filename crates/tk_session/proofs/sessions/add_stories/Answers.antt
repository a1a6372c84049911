use Rattle.std.proofs.Common.{rules}
use Rattle.std.proofs.lemmas.List.{append_assoc}
use Rattle.tk_session.proofs.sessions.add_stories.Goals as goal

pub loop-world-preserved : goal.loop-world-preserved
loop-world-preserved c = search (rules, append_assoc)
