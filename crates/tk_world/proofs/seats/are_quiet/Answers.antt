use Rattle.std.proofs.Common.{◌≡◌, ◌<◌, ◌+◌, ◌∙◌, true, false, get_or, length, sym, ap, subst, arith, inl, inr}
use Rattle.std.proofs.lemmas.Bool.{cases_lt}
use Rattle.tk_base.specs.Settings.{Setup}
use Rattle.tk_coord.specs.Coordinator.{CoordinatorView}
use Rattle.tk_world.specs.Nodes.{sent_to}
use Rattle.tk_world.specs.Seats.{is_quiet_at, is_quiet_seat}
use Rattle.tk_world.proofs.NodesLemmas.{next_place, one_of}
use Rattle.tk_world.proofs.seats.are_quiet.Goals as goal

pub returns-then-not-is_quiet-clause-some : goal.returns-then-not-is_quiet-clause-some
returns-then-not-is_quiet-clause-some g c = λ _.
    let v = g.N.Nodes.seen c.args.nodes.now in
    let j = c.loop-j.j in
    let within : j < length v.seats =
    (let count = c.monitors-j-end.ensures.value ∙ ap (λ (s : Setup). s.monitors) (c.settings.ensures ∙ ap (λ (x : CoordinatorView). x.settings) c.coordinator.ensures) in
    let low = c.loop-j-test.true in
    let all = c.requires in
    omega (arith, count, low, all)) in
    let d = one_of v.seats j within in
    (j, d, within, subst (λ i. is_quiet_seat (sent_to v (j + 1)) (get_or v.seats i d) ≡ false) (next_place j) (sym (c.is_quiet.ensures d) ∙ c.if-not-is_quiet.true))

pub loop-j-preserved : goal.loop-j-preserved
loop-j-preserved g c = λ k d below.
    let v = g.N.Nodes.seen c.args.nodes.now in
    let j = c.loop-j.j in
    elim (cases_lt k j) [
      | inl less ↦ c.loop-j.invariant k d less
      | inr least ↦
          let same : j ≡ k = omega (arith, below, least) in
          let quiet : is_quiet_at v.coordinator.journal v.seats j d ≡ true =
          subst (λ i. is_quiet_seat (sent_to v (j + 1)) (get_or v.seats i d) ≡ true) (next_place j) (sym (c.is_quiet.ensures d) ∙ c.if-not-is_quiet.false) in
          subst (λ i. is_quiet_at v.coordinator.journal v.seats i d ≡ true) same quiet
    ]

pub returns-clause-yes : goal.returns-clause-yes
returns-clause-yes g c = λ _ k d within.
    let count = c.monitors-j-end.ensures.value ∙ ap (λ (s : Setup). s.monitors) (c.settings.ensures ∙ ap (λ (x : CoordinatorView). x.settings) c.coordinator.ensures) in
    let all = c.requires in
    let end = c.loop-j-test.false in
    c.loop-j.invariant k d (omega (arith, within, count, all, end))
