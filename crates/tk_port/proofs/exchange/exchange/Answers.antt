use Rattle.std.proofs.Common.{arith, refl}
use Rattle.tk_port.specs.Turn.{pieces_of}
use Rattle.tk_port.proofs.ExchangeLemmas.{counts_on, counts_then, exchanges_on, exchanges_same, not_on, over, pieces_none, steady_of, still}
use Rattle.tk_port.proofs.exchange.exchange.Goals as goal

pub returns-in-Some-clause-exchanges : goal.returns-in-Some-clause-exchanges
returns-in-Some-clause-exchanges g c = exchanges_on (pieces_of c.in-Some.turn) 0 0 c.args.link.now c.speak.new.link c.speak.new.link c.args.side.now c.args.side.now c.args.side.now (omega (arith, pieces_none c.in-Some.turn c.in-Some.ensures.stops)) c.in-Some.ensures.exchanges (exchanges_same c.speak.new.link c.args.side.now c.args.side.now refl)

pub returns-in-Some-clause-rest : goal.returns-in-Some-clause-rest
returns-in-Some-clause-rest g c = not_on c.in-Some.turn c.in-Some.ensures.stops

pub returns-in-Some-clause-ends : goal.returns-in-Some-clause-ends
returns-in-Some-clause-ends g c = c.in-Some.ensures.ends

pub returns-in-Some-clause-counts : goal.returns-in-Some-clause-counts
returns-in-Some-clause-counts g c = c.in-Some.ensures.counts

pub returns-then-is_over-clause-exchanges : goal.returns-then-is_over-clause-exchanges
returns-then-is_over-clause-exchanges g c = exchanges_on (pieces_of c.hear-heard.result) 0 (pieces_of c.hear-heard.result) c.args.link.now c.speak.new.link c.hear-heard.new.link c.args.side.now c.args.side.now c.hear-heard.new.side (omega arith) c.speak.ensures.exchanges c.hear-heard.ensures.exchanges

pub returns-then-is_over-clause-ends : goal.returns-then-is_over-clause-ends
returns-then-is_over-clause-ends g c = c.hear-heard.ensures.ends

pub returns-then-is_over-clause-counts : goal.returns-then-is_over-clause-counts
returns-then-is_over-clause-counts g c = counts_on c.hear-heard.result c.args.link.now.counts c.speak.new.link.counts c.hear-heard.new.link.counts c.in_default.ensures.counts c.hear-heard.ensures.counts

pub returns-then-is_over-clause-rest : goal.returns-then-is_over-clause-rest
returns-then-is_over-clause-rest g c = not_on c.hear-heard.result (over c.hear-heard.result c.is_over.result c.is_over.ensures c.if-is_over.true)

pub returns-in-None-clause-exchanges : goal.returns-in-None-clause-exchanges
returns-in-None-clause-exchanges g c = exchanges_on (pieces_of c.hear-heard.result) (pieces_of c.hear-heard.result) 0 c.args.link.now c.hear-heard.new.link c.answer.new.link c.args.side.now c.hear-heard.new.side c.answer.new.side (omega arith) (exchanges_on (pieces_of c.hear-heard.result) 0 (pieces_of c.hear-heard.result) c.args.link.now c.speak.new.link c.hear-heard.new.link c.args.side.now c.args.side.now c.hear-heard.new.side (omega arith) c.speak.ensures.exchanges c.hear-heard.ensures.exchanges) c.answer.ensures.exchanges

pub returns-in-None-clause-ends : goal.returns-in-None-clause-ends
returns-in-None-clause-ends g c = c.answer.ensures.on c.hear-heard.result (still c.hear-heard.result c.is_over.result c.is_over.ensures c.if-is_over.false) c.hear-heard.ensures.ends

pub returns-in-None-clause-counts : goal.returns-in-None-clause-counts
returns-in-None-clause-counts g c = counts_then c.hear-heard.result c.args.link.now.counts c.hear-heard.new.link.counts c.answer.new.link.counts (still c.hear-heard.result c.is_over.result c.is_over.ensures c.if-is_over.false) (counts_on c.hear-heard.result c.args.link.now.counts c.speak.new.link.counts c.hear-heard.new.link.counts c.in_default.ensures.counts c.hear-heard.ensures.counts) c.in-None.ensures.counts

pub returns-in-None-clause-rest : goal.returns-in-None-clause-rest
returns-in-None-clause-rest g c = λ _. c.in-None.ensures.rest

pub returns-in-Some-answer-clause-exchanges : goal.returns-in-Some-answer-clause-exchanges
returns-in-Some-answer-clause-exchanges g c = exchanges_on (pieces_of c.in-Some-answer.turn) (pieces_of c.hear-heard.result) 0 c.args.link.now c.hear-heard.new.link c.answer.new.link c.args.side.now c.hear-heard.new.side c.answer.new.side (omega (arith, pieces_none c.in-Some-answer.turn c.in-Some-answer.ensures.stops)) (exchanges_on (pieces_of c.hear-heard.result) 0 (pieces_of c.hear-heard.result) c.args.link.now c.speak.new.link c.hear-heard.new.link c.args.side.now c.args.side.now c.hear-heard.new.side (omega arith) c.speak.ensures.exchanges c.hear-heard.ensures.exchanges) c.answer.ensures.exchanges

pub returns-in-Some-answer-clause-ends : goal.returns-in-Some-answer-clause-ends
returns-in-Some-answer-clause-ends g c = c.in-Some-answer.ensures.ends

pub returns-in-Some-answer-clause-counts : goal.returns-in-Some-answer-clause-counts
returns-in-Some-answer-clause-counts g c = counts_on c.in-Some-answer.turn c.args.link.now.counts c.hear-heard.new.link.counts c.answer.new.link.counts (steady_of c.hear-heard.result c.args.link.now.counts c.hear-heard.new.link.counts (still c.hear-heard.result c.is_over.result c.is_over.ensures c.if-is_over.false) (counts_on c.hear-heard.result c.args.link.now.counts c.speak.new.link.counts c.hear-heard.new.link.counts c.in_default.ensures.counts c.hear-heard.ensures.counts)) c.in-Some-answer.ensures.counts

pub returns-in-Some-answer-clause-rest : goal.returns-in-Some-answer-clause-rest
returns-in-Some-answer-clause-rest g c = not_on c.in-Some-answer.turn c.in-Some-answer.ensures.stops
