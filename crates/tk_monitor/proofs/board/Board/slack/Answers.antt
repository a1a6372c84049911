use Rattle.std.proofs.Common.{◌≡◌, ◌<◌, ◌∙◌, length, Some, arith, ap, ap₂, sym, to_z, of_z}
use Rattle.std.specs.Prelude.{◌-ℤ◌}
use Rattle.std.specs.Int.{w128}
use Rattle.std.proofs.lemmas.Int.{ints}
use Rattle.tk_border.specs.Levels.{least_member, greatest_outside}
use Rattle.tk_trail.specs.Slack.{difference}
use Rattle.tk_monitor.specs.Board.{BoardView, values_under}
use Rattle.tk_monitor.proofs.BoardLemmas.{limits_small, no_members, small_greatest}
use Rattle.tk_monitor.proofs.board.Board.slack.Goals as goal

pub returns-then-len-eq0 : goal.returns-then-len-eq0
returns-then-len-eq0 c =
    let now = c.args.self.now in
    let none : length now.members ≡ 0 = sym (ap (λ (s : BoardView). length s.members) c.self.view_is) ∙ sym c.len.ensures.value ∙ c.if-len-eq0.true in
    sym (ap (λ least. difference least (greatest_outside now.levels now.members)) (no_members now.levels now.members none))

pub overflow_sub-result : goal.overflow_sub-result
overflow_sub-result c =
    let inside = c.self.inside in
    let small = limits_small (values_under inside.rank.levels inside.factors) inside.rank.levels c.self.invariant.0.limits in
    let greatest : greatest_outside inside.rank.levels inside.rank.members ≡ Some c.in_ok-greatest.greatest = sym c.greatest_outsider.ensures ∙ c.in_ok-greatest.was in
    omega (arith, ints, c.least_member.ensures.size, small_greatest inside.rank.levels inside.rank.members c.in_ok-greatest.greatest small greatest)

pub returns : goal.returns
returns c =
    let inside = c.self.inside in
    let x = c.least_member.result in
    let g = c.in_ok-greatest.greatest in
    let small = limits_small (values_under inside.rank.levels inside.factors) inside.rank.levels c.self.invariant.0.limits in
    let some : 0 < length inside.members = omega (arith, c.len.ensures.value, c.if-len-eq0.false) in
    let same : inside.rank.members ≡ inside.members = c.self.invariant.1 some in
    let above : greatest_outside inside.rank.levels inside.rank.members ≡ Some g = sym c.greatest_outsider.ensures ∙ c.in_ok-greatest.was in
    let value : to_z w128 (of_z w128 (to_z w128 (of_z w128 x) -ℤ to_z w128 (of_z w128 g))) ≡ x -ℤ g =
    omega (arith, ints, c.least_member.ensures.size, small_greatest inside.rank.levels inside.rank.members g small above) in
    let least : least_member inside.rank.levels inside.members ≡ Some x = ap (least_member inside.rank.levels) (sym same) ∙ c.least_member.ensures.value in
    let greatest : greatest_outside inside.rank.levels inside.members ≡ Some g = ap (greatest_outside inside.rank.levels) (sym same) ∙ above in
    ap Some value
    ∙ sym (ap₂ difference least greatest)
    ∙ ap (λ (s : BoardView). difference (least_member s.levels s.members) (greatest_outside s.levels s.members)) c.self.view_is
