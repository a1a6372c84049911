use Rattle.std.proofs.Common.{ap, inl, inr, ◌∙◌}
use Rattle.tk_trail.specs.Readings.{sent_by}
use Rattle.tk_wire.specs.Buffered.{counts_pushed}
use Rattle.tk_port.proofs.ExchangeLemmas.{exchanges_said, on_said, steady}
use Rattle.tk_port.proofs.HearLemmas.{risen}
use Rattle.tk_port.proofs.exchange.speak.Goals as goal

pub returns-in-Ok-Empty-clause-exchanges : goal.returns-in-Ok-Empty-clause-exchanges
returns-in-Ok-Empty-clause-exchanges g c = exchanges_said c.args.link.now c.say.new.self c.args.side.now c.say.ensures.says

pub returns-in-Ok-Empty-clause-on : goal.returns-in-Ok-Empty-clause-on
returns-in-Ok-Empty-clause-on g c = λ turn. on_said (sent_by c.args.side.now.monitor.trail) turn c.args.link.now c.say.new.self c.args.side.now c.say.ensures.says

pub returns-in-Ok-NotYet-clause-exchanges : goal.returns-in-Ok-NotYet-clause-exchanges
returns-in-Ok-NotYet-clause-exchanges g c = exchanges_said c.args.link.now c.say.new.self c.args.side.now c.say.ensures.says

pub returns-in-Ok-NotYet-clause-on : goal.returns-in-Ok-NotYet-clause-on
returns-in-Ok-NotYet-clause-on g c = λ turn. on_said (sent_by c.args.side.now.monitor.trail) turn c.args.link.now c.say.new.self c.args.side.now c.say.ensures.says

pub returns-in-Ok-Failed-clause-exchanges : goal.returns-in-Ok-Failed-clause-exchanges
returns-in-Ok-Failed-clause-exchanges g c = exchanges_said c.args.link.now c.say.new.self c.args.side.now c.say.ensures.says

pub returns-in-Ok-Failed-clause-on : goal.returns-in-Ok-Failed-clause-on
returns-in-Ok-Failed-clause-on g c = λ turn. on_said (sent_by c.args.side.now.monitor.trail) turn c.args.link.now c.say.new.self c.args.side.now c.say.ensures.says

pub returns-in-Err-clause-exchanges : goal.returns-in-Err-clause-exchanges
returns-in-Err-clause-exchanges g c = exchanges_said c.args.link.now c.say.new.self c.args.side.now c.say.ensures.says

pub returns-in-Err-clause-on : goal.returns-in-Err-clause-on
returns-in-Err-clause-on g c = λ turn. on_said (sent_by c.args.side.now.monitor.trail) turn c.args.link.now c.say.new.self c.args.side.now c.say.ensures.says

pub returns-in-Ok-Empty-clause-said : goal.returns-in-Ok-Empty-clause-said
returns-in-Ok-Empty-clause-said g c = record { written = c.in-Ok-Empty.ensures.ok; given = inl (c.in-Ok-Empty.ensures.empty.0 c.in-Ok-Empty.field-0-is) }

pub returns-in-Ok-Empty-clause-counts : goal.returns-in-Ok-Empty-clause-counts
returns-in-Ok-Empty-clause-counts g c = steady c.args.link.now.counts c.say.new.self.counts (c.in-Ok-Empty.ensures.counted ∙ ap (λ p. counts_pushed p c.args.link.now.counts) c.in-Ok-Empty.field-0-is)

pub returns-in-Ok-NotYet-clause-said : goal.returns-in-Ok-NotYet-clause-said
returns-in-Ok-NotYet-clause-said g c = record { written = c.in-Ok-NotYet.ensures.ok; given = inr (c.in-Ok-NotYet.ensures.full c.in-Ok-NotYet.field-0-is) }

pub returns-in-Ok-NotYet-clause-counts : goal.returns-in-Ok-NotYet-clause-counts
returns-in-Ok-NotYet-clause-counts g c = steady c.args.link.now.counts c.say.new.self.counts (c.in-Ok-NotYet.ensures.counted ∙ ap (λ p. counts_pushed p c.args.link.now.counts) c.in-Ok-NotYet.field-0-is)

pub returns-in-Ok-Failed-clause-counts : goal.returns-in-Ok-Failed-clause-counts
returns-in-Ok-Failed-clause-counts g c = inl (risen c.args.link.now.counts.faults c.say.new.self.counts.faults (ap (λ k. k.faults) (c.in-Ok-Failed.ensures.counted ∙ ap (λ p. counts_pushed p c.args.link.now.counts) c.in-Ok-Failed.field-0-is)))

pub returns-in-Err-clause-counts : goal.returns-in-Err-clause-counts
returns-in-Err-clause-counts g c = steady c.args.link.now.counts c.say.new.self.counts (ap (λ l. l.counts) c.in-Err.ensures.err)
