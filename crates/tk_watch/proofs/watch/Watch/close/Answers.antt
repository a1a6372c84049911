use Rattle.std.proofs.Common.{◌≡◌, ℕ, ◌+◌, ◌-◌, ◌∙◌, refl, sym, ap, subst, arith}
use Rattle.tk_monitor.specs.declared.outcome.Raised.TheVariants as o
use Rattle.tk_trail.specs.Legal.{HasNext}
use Rattle.tk_watch.specs.Told.{Closes, counted}
use Rattle.tk_watch.specs.Watch.{IsWatch, WatchView}
use Rattle.tk_watch.proofs.ToldLemmas.{closed_keeps, closed_stands, closes_by}
use Rattle.tk_watch.proofs.watch.Watch.close.Goals as goal

pub count_one-requires : goal.count_one-requires
count_one-requires g c =
    let answer = rw c.in-Done.is at c.raise.ensures.answer in
    omega (arith, answer.0.from_one, answer.0.one_of, c.self.invariant.counts)

pub invariant_of-self : goal.invariant_of-self
invariant_of-self g c =
    let inside = c.self.inside in
    let w : WatchView _ = record { monitor = inside.standing.monitor; port = inside.standing.port; weight = inside.weight; counts = inside.counts.items; run = inside.run; version = inside.version } in
    let answer = rw c.in-Done.is at c.raise.ensures.answer in
    let at : (c.args.ended.stream.0 - 1) + 1 ≡ c.args.ended.stream.0 = omega (arith, answer.0.from_one) in
    subst (λ (v : WatchView _). IsWatch v)
    (sym (closed_stands w c.raise.new.self c.args.ended.stream c.in-Done.broken _ answer c.raise.ensures.rest (c.count_one.ensures ∙ ap (λ (k : ℕ). counted inside.counts.items k) at)))
    (closed_keeps w c.args.ended.stream c.self.invariant answer.0)

pub returns-then-is_closed : goal.returns-then-is_closed
returns-then-is_closed g c = (c.is_closed.ensures.closed c.if-is_closed.true, refl)

pub unreachable-requires : goal.unreachable-requires
unreachable-requires g c =
    let ended = rw c.in-Ended.is at c.raise.ensures.answer in
    let next = subst (λ (v : WatchView _). HasNext v.monitor.setup v.monitor.trail c.args.ended.stream.0) (sym c.self.view_is) (c.is_closed.ensures.opened c.if-is_closed.false) in
    let at = ended.0 in
    let more = next.not_ended in
    omega (arith, at, more)

pub returns : goal.returns
returns g c =
    let inside = c.self.inside in
    let w : WatchView _ = record { monitor = inside.standing.monitor; port = inside.standing.port; weight = inside.weight; counts = inside.counts.items; run = inside.run; version = inside.version } in
    let answer = rw c.in-Done.is at c.raise.ensures.answer in
    let at : (c.args.ended.stream.0 - 1) + 1 ≡ c.args.ended.stream.0 = omega (arith, answer.0.from_one) in
    let is = closed_stands w c.raise.new.self c.args.ended.stream c.in-Done.broken _ answer c.raise.ensures.rest (c.count_one.ensures ∙ ap (λ (k : ℕ). counted inside.counts.items k) at) in
    let new : WatchView _ = record { monitor = c.raise.new.self.monitor; port = c.raise.new.self.port; weight = inside.weight; counts = c.count_one.new.counts.items; run = inside.run; version = inside.version } in
    subst (λ (v : WatchView _). Closes v c.args.ended.stream (o.Done c.in-Done.broken) new) c.self.view_is (closes_by w new c.raise.new.self.monitor c.args.ended.stream c.in-Done.broken c.self.invariant answer is)
