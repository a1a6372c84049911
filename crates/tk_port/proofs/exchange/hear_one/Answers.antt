use Rattle.tk_port.proofs.ExchangeLemmas.{exchanges_heard}
use Rattle.tk_port.proofs.HearLemmas.{counts_turned, one_turned, takes_turned}
use Rattle.tk_port.proofs.exchange.hear_one.Goals as goal

pub returns-clause-exchanges : goal.returns-clause-exchanges
returns-clause-exchanges g c = exchanges_heard 0 c.args.link.now c.hear_one.new.self c.args.side.now c.hear_one.new.actor c.hear_one.ensures.hears

pub returns-clause-takes : goal.returns-clause-takes
returns-clause-takes g c = takes_turned c.hear_one.result c.turn_of.result c.hear_one.new.self c.args.side.now c.hear_one.new.actor c.turn_of.ensures c.hear_one.ensures.once c.hear_one.ensures.open c.hear_one.ensures.ends

pub returns-clause-keeps : goal.returns-clause-keeps
returns-clause-keeps g c = c.hear_one.ensures.hears.listens.keeps

pub returns-clause-ends : goal.returns-clause-ends
returns-clause-ends g c = one_turned c.hear_one.result c.turn_of.result c.hear_one.new.self c.hear_one.new.actor c.turn_of.ensures c.hear_one.ensures.ends

pub returns-clause-counts : goal.returns-clause-counts
returns-clause-counts g c = counts_turned c.hear_one.result c.turn_of.result c.args.link.now.counts c.hear_one.new.self.counts c.turn_of.ensures c.hear_one.ensures.counted
