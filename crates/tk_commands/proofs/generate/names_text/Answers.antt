use Rattle.std.proofs.Common.{◌∙◌}
use Rattle.tk_commands.proofs.NumberedLemmas.{names_more}
use Rattle.tk_commands.proofs.generate.names_text.Goals as goal

pub loop-j-preserved : goal.loop-j-preserved
loop-j-preserved c = c.in_ok-push_name.ensures ∙ names_more c.loop-j.text.items c.loop-j.j c.loop-j.invariant
