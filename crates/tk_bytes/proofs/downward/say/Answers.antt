use Rattle.tk_bytes.proofs.DownLemmas.{told_line}
use Rattle.tk_bytes.proofs.LineLemmas.{admitted}
use Rattle.tk_bytes.proofs.downward.say.Goals as goal

pub push-pushed-requires-clause-admitted : goal.push-pushed-requires-clause-admitted
push-pushed-requires-clause-admitted c = admitted c.args.mon.0 c.args.hub.now c.args.line.now c.requires

pub returns-in_err-pushed-clause-line : goal.returns-in_err-pushed-clause-line
returns-in_err-pushed-clause-line c = told_line c.args.mon.0 c.args.hub.now c.push-pushed.new.self c.args.line.now c.push-pushed.result c.wire_at.result c.requires c.push-pushed.ensures.says c.push-pushed.ensures.rest c.push-pushed.ensures.kept c.wire_at.ensures.tells

pub returns-in-Empty-clause-line : goal.returns-in-Empty-clause-line
returns-in-Empty-clause-line c = told_line c.args.mon.0 c.args.hub.now c.push-pushed.new.self c.args.line.now c.push-pushed.result c.wire_at.result c.requires c.push-pushed.ensures.says c.push-pushed.ensures.rest c.push-pushed.ensures.kept c.wire_at.ensures.tells

pub returns-in-NotYet-clause-line : goal.returns-in-NotYet-clause-line
returns-in-NotYet-clause-line c = told_line c.args.mon.0 c.args.hub.now c.push-pushed.new.self c.args.line.now c.push-pushed.result c.wire_at.result c.requires c.push-pushed.ensures.says c.push-pushed.ensures.rest c.push-pushed.ensures.kept c.wire_at.ensures.tells
