use Rattle.tk_port.proofs.HearLemmas.{counts_turned, ends_turned, exchanges_turned}
use Rattle.tk_port.proofs.exchange.hear.Goals as goal

pub returns-clause-exchanges : goal.returns-clause-exchanges
returns-clause-exchanges g c = exchanges_turned c.hear.result c.turn_of.result c.args.link.now c.hear.new.self c.args.side.now c.hear.new.actor c.turn_of.ensures c.hear.ensures.hears

pub returns-clause-ends : goal.returns-clause-ends
returns-clause-ends g c = ends_turned c.hear.result c.turn_of.result c.hear.new.self c.hear.new.actor c.turn_of.ensures c.hear.ensures.ends c.hear.ensures.part

pub returns-clause-counts : goal.returns-clause-counts
returns-clause-counts g c = counts_turned c.hear.result c.turn_of.result c.args.link.now.counts c.hear.new.self.counts c.turn_of.ensures c.hear.ensures.counted
