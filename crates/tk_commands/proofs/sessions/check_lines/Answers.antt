use Rattle.std.proofs.Common.{◌∙◌, arith, sym}
use Rattle.tk_load.proofs.RetuneLemmas.{none_of}
use Rattle.tk_commands.proofs.SessionLemmas.{all_pass, one_passes, one_refused}
use Rattle.tk_commands.proofs.sessions.check_lines.Goals as goal

pub returns-in-Some : goal.returns-in-Some
returns-in-Some c = one_refused c.args.settings.now c.args.file.now c.args.order.now c.loop-i.i c.at.result.now c.line-line.result c.at.ensures c.line-line.ensures c.loop-i.invariant c.in-Some.kind c.bad_file.result c.in-Some.ensures c.bad_file.ensures

pub loop-i-preserved : goal.loop-i-preserved
loop-i-preserved c = one_passes c.args.settings.now c.args.file.now c.args.order.now c.loop-i.i c.at.result.now c.line-line.result c.at.ensures c.line-line.ensures c.loop-i.invariant (sym c.line_fault.ensures ∙ none_of c.line_fault.result c.in_default.not-Some)

pub returns : goal.returns
returns c = all_pass c.args.settings.now c.args.file.now c.args.order.now c.loop-i.i (omega arith) c.loop-i.invariant
