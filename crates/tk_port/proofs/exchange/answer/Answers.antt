use Rattle.std.proofs.Common.{◌≡◌, None, refl, sym, subst, ap, arith}
use Rattle.tk_trail.specs.Frames.{due_at}
use Rattle.tk_trail.specs.Setup.{IsSetup}
use Rattle.tk_port.specs.declared.side.Side.{Side}
use Rattle.tk_port.proofs.ExchangeLemmas.{exchanges_checked, exchanges_on, exchanges_same, none_due, on_aside, rests, steady}
use Rattle.tk_port.proofs.exchange.answer.Goals as goal

pub speak-requires-clause-setup : goal.speak-requires-clause-setup
speak-requires-clause-setup g c = subst (λ m. IsSetup m.setup) (sym c.in-Ok.ensures.ok) c.requires.setup

pub speak-requires-clause-within : goal.speak-requires-clause-within
speak-requires-clause-within g c =
    let before = c.args.side.now in
    let now : Side = record { monitor = c.check.new.self } in
    (exchanges_checked c.args.link.now before now (ap (λ m. record before { monitor = m }) c.in-Ok.ensures.ok)).within c.requires.within

pub returns-in-Ok-clause-exchanges : goal.returns-in-Ok-clause-exchanges
returns-in-Ok-clause-exchanges g c =
    let before = c.args.side.now in
    let now : Side = record { monitor = c.check.new.self } in
    let checked = exchanges_checked c.args.link.now before now (ap (λ m. record before { monitor = m }) c.in-Ok.ensures.ok) in
    exchanges_on 0 0 0 c.args.link.now c.args.link.now c.speak.new.link before now now (omega arith) checked c.speak.ensures.exchanges

pub returns-in-Ok-clause-rest : goal.returns-in-Ok-clause-rest
returns-in-Ok-clause-rest g c =
    let due : due_at c.check.new.self.setup c.check.new.self.trail ≡ None = subst (λ m. due_at m.setup m.trail ≡ None) (sym c.in-Ok.ensures.ok) (none_due c.args.side.now.monitor.setup c.args.side.now.monitor.trail) in
    rests c.speak.result c.speak.new.link c.check.new.self due c.speak.ensures.said

pub returns-in-Err-clause-exchanges : goal.returns-in-Err-clause-exchanges
returns-in-Err-clause-exchanges g c =
    let before = c.args.side.now in
    exchanges_same c.args.link.now before (record { monitor = c.check.new.self }) (ap (λ m. record before { monitor = m }) c.in-Err.ensures.err)

pub returns-in-Ok-clause-ends : goal.returns-in-Ok-clause-ends
returns-in-Ok-clause-ends g c = c.speak.ensures.ends

pub returns-in-Ok-clause-counts : goal.returns-in-Ok-clause-counts
returns-in-Ok-clause-counts g c = c.speak.ensures.counts

pub returns-in-Ok-clause-stops : goal.returns-in-Ok-clause-stops
returns-in-Ok-clause-stops g c = c.speak.ensures.stops

pub returns-in-Ok-clause-on : goal.returns-in-Ok-clause-on
returns-in-Ok-clause-on g c = λ turn goes ends. c.speak.ensures.on turn goes (on_aside turn c.args.link.now c.args.side.now (record { monitor = c.check.new.self }) goes ends)

pub returns-in-Err-clause-on : goal.returns-in-Err-clause-on
returns-in-Err-clause-on g c = λ turn goes ends. on_aside turn c.args.link.now c.args.side.now (record { monitor = c.check.new.self }) goes ends

pub returns-in-Err-clause-counts : goal.returns-in-Err-clause-counts
returns-in-Err-clause-counts g c = steady c.args.link.now.counts c.args.link.now.counts refl
