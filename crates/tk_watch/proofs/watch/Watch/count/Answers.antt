use Rattle.std.proofs.Common.{◌≡◌, ℕ, ◌+◌, ◌-◌, ◌∙◌, refl, sym, ap, subst, arith}
use Rattle.std.specs.Prelude.{ℤ}
use Rattle.tk_watch.specs.Told.{Counts, CountsUnlessMemory, counted}
use Rattle.tk_watch.specs.Watch.{IsWatch, WatchView}
use Rattle.tk_watch.specs.declared.told.Told.TheVariants as t
use Rattle.tk_watch.proofs.ToldLemmas.{after_told, never_ended, ready, ready_limits, stays_feeder, told_counts, told_keeps, told_stands}
use Rattle.tk_watch.proofs.watch.Watch.count.Goals as goal

pub grow-requires-clause-limits : goal.grow-requires-clause-limits
grow-requires-clause-limits g c =
    let inside = c.self.inside in
    let w : WatchView _ = record { monitor = inside.standing.monitor; port = inside.standing.port; weight = inside.weight; counts = inside.counts.items; run = inside.run; version = inside.version } in
    let change : ℕ × ℤ = (c.args.change.obj.0, c.args.change.by) in
    (ready_limits w c.args.f change (ready w c.args.self.now c.args.f change c.self.view_is c.self.invariant c.requires.next c.requires.object c.requires.room)).0

pub raise-requires : goal.raise-requires
raise-requires g c =
    let inside = c.self.inside in
    let w : WatchView _ = record { monitor = inside.standing.monitor; port = inside.standing.port; weight = inside.weight; counts = inside.counts.items; run = inside.run; version = inside.version } in
    let change : ℕ × ℤ = (c.args.change.obj.0, c.args.change.by) in
    stays_feeder w c.args.f change c.grow.new.self.monitor (ready w c.args.self.now c.args.f change c.self.view_is c.self.invariant c.requires.next c.requires.object c.requires.room)
    (ap (λ s. s.monitor) c.in-Ok.ensures.ok)

pub count_one-requires : goal.count_one-requires
count_one-requires g c =
    let inside = c.self.inside in
    let w : WatchView _ = record { monitor = inside.standing.monitor; port = inside.standing.port; weight = inside.weight; counts = inside.counts.items; run = inside.run; version = inside.version } in
    let change : ℕ × ℤ = (c.args.change.obj.0, c.args.change.by) in
    let r = ready w c.args.self.now c.args.f change c.self.view_is c.self.invariant c.requires.next c.requires.object c.requires.room in
    omega (arith, r.next.from_one, r.next.one_of, r.is.counts)

pub unreachable-requires : goal.unreachable-requires
unreachable-requires g c =
    let inside = c.self.inside in
    let w : WatchView _ = record { monitor = inside.standing.monitor; port = inside.standing.port; weight = inside.weight; counts = inside.counts.items; run = inside.run; version = inside.version } in
    let change : ℕ × ℤ = (c.args.change.obj.0, c.args.change.by) in
    never_ended w c.args.f change c.grow.new.self.monitor c.raise.new.self.monitor (ready w c.args.self.now c.args.f change c.self.view_is c.self.invariant c.requires.next c.requires.object c.requires.room)
    (ap (λ s. s.monitor) c.in-Ok.ensures.ok)
    (rw c.in-Ended.is at c.raise.ensures.answer)

pub invariant_of-self-in-Done : goal.invariant_of-self-in-Done
invariant_of-self-in-Done g c =
    let inside = c.self.inside in
    let w : WatchView _ = record { monitor = inside.standing.monitor; port = inside.standing.port; weight = inside.weight; counts = inside.counts.items; run = inside.run; version = inside.version } in
    let change : ℕ × ℤ = (c.args.change.obj.0, c.args.change.by) in
    let r = ready w c.args.self.now c.args.f change c.self.view_is c.self.invariant c.requires.next c.requires.object c.requires.room in
    let at : (c.args.f.0 - 1) + 1 ≡ c.args.f.0 = omega (arith, r.next.from_one) in
    subst (λ (v : WatchView _). IsWatch v)
    (sym (told_stands w c.grow.new.self c.raise.new.self c.args.f change c.in-Done.broken (inside.weight + c.size_of.result) _
    c.in-Ok.ensures.ok (rw c.in-Done.is at c.raise.ensures.answer) c.raise.ensures.rest (ap (λ (n : ℕ). inside.weight + n) c.size_of.ensures)
    (c.count_one.ensures ∙ ap (λ (k : ℕ). counted inside.counts.items k) at)))
    (told_keeps w c.args.f change r)

pub returns : goal.returns
returns g c =
    let inside = c.self.inside in
    let w : WatchView _ = record { monitor = inside.standing.monitor; port = inside.standing.port; weight = inside.weight; counts = inside.counts.items; run = inside.run; version = inside.version } in
    let change : ℕ × ℤ = (c.args.change.obj.0, c.args.change.by) in
    let r = ready w c.args.self.now c.args.f change c.self.view_is c.self.invariant c.requires.next c.requires.object c.requires.room in
    let at : (c.args.f.0 - 1) + 1 ≡ c.args.f.0 = omega (arith, r.next.from_one) in
    let answer = rw c.in-Done.is at c.raise.ensures.answer in
    let counts : Counts w c.args.f change c.in-Done.broken (after_told w c.args.f change) = told_counts w c.args.f change c.grow.new.self.monitor c.raise.new.self.monitor c.in-Done.broken r (ap (λ s. s.monitor) c.in-Ok.ensures.ok) answer in
    let new : WatchView _ = record { monitor = c.raise.new.self.monitor; port = c.raise.new.self.port; weight = inside.weight + c.size_of.result; counts = c.count_one.new.counts.items; run = inside.run; version = inside.version } in
    let same : new ≡ after_told w c.args.f change =
    told_stands w c.grow.new.self c.raise.new.self c.args.f change c.in-Done.broken (inside.weight + c.size_of.result) c.count_one.new.counts.items
    c.in-Ok.ensures.ok answer c.raise.ensures.rest (ap (λ (n : ℕ). inside.weight + n) c.size_of.ensures)
    (c.count_one.ensures ∙ ap (λ (k : ℕ). counted inside.counts.items k) at) in
    subst (λ (v : WatchView _). CountsUnlessMemory v c.args.f change c.args.fresh (t.Done c.in-Done.broken c.args.fresh) new) c.self.view_is
    (refl, subst (λ (v : WatchView _). Counts w c.args.f change c.in-Done.broken v) (sym same) counts)
