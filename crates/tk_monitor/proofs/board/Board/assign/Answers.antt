use Rattle.std.proofs.Common.{◌≡◌, ℕ, ◌∙◌, ◌<◌, ◌≤◌, List, length, ap, sym, subst, arith}
use Rattle.std.specs.Prelude.{ℤ, All}
use Rattle.tk_base.proofs.OptionLemmas.{on_err}
use Rattle.tk_monitor.specs.Board.{BoardView, IsBoard, AreLimited, assigned, values_under}
use Rattle.tk_monitor.specs.Factors.{HasFactor}
use Rattle.tk_monitor.proofs.AssignLemmas.{set_levels, set_size, set_values, levels_back, board_taken}
use Rattle.tk_monitor.proofs.ValuesLemmas.{values_same, view_same, board_made}
use Rattle.tk_monitor.proofs.FactorsLemmas.{factors_over-all}
use Rattle.tk_monitor.proofs.board.Board.assign.Goals as goal

pub invariant_of-self : goal.invariant_of-self
invariant_of-self c =
    let own = c.self.inside in
    (subst IsBoard (sym (view_same own.rank.levels own.factors c.keep_over.new.self own.members c.in_err-before.ensures.same)) c.self.invariant.0, c.self.invariant.1)

pub returns-in_err-before-clause-err : goal.returns-in_err-before-clause-err
returns-in_err-before-clause-err c =
    let own = c.self.inside in
    on_err c.from_residual.result _ (view_same own.rank.levels own.factors c.keep_over.new.self own.members c.in_err-before.ensures.same ∙ c.self.view_is)

pub set_factors-requires-clause-limits : goal.set_factors-requires-clause-limits
set_factors-requires-clause-limits c =
    let own = c.self.inside in
    subst (λ (values : List ℤ). AreLimited values own.rank.levels) (sym (values_same own.rank.levels own.factors c.keep_over.new.self c.in_ok-before.ensures.same)) c.self.invariant.0.limits

pub seat-requires : goal.seat-requires
seat-requires c k d below =
    let levels = c.self.inside.rank.levels in
    let size = set_size (values_under levels c.keep_over.new.self) levels c.set_factors.new.rank.levels c.args.changes.now c.set_factors.ensures.levels in
    omega (arith, size, ap (λ (s : BoardView). length s.levels) c.self.view_is, c.requires.members.in_range k d below)

pub invariant_of-self-2 : goal.invariant_of-self-2
invariant_of-self-2 c =
    let levels = c.self.inside.rank.levels in
    let set = c.set_factors.new.rank.levels in
    let size = set_size (values_under levels c.keep_over.new.self) levels set c.args.changes.now c.set_factors.ensures.levels in
    let of_view = ap (λ (s : BoardView). length s.levels) c.self.view_is in (
      board_taken set c.seat.new.rank.levels c.set_factors.new.factors (length c.args.self.now.levels) c.args.members c.replace-old.new.dest
          c.set_factors.ensures.limits (size ∙ of_view) c.seat.ensures.levels c.requires.members.in_range c.replace-old.ensures.after,
      subst (λ (members : List ℕ). 0 < length members → c.seat.new.rank.members ≡ members) (sym c.replace-old.ensures.after) c.seat.ensures.members,
    )

pub invariant_of-self-in-Ok : goal.invariant_of-self-in-Ok
invariant_of-self-in-Ok c =
    let levels = c.self.inside.rank.levels in
    let set = c.set_factors.new.rank.levels in
    let size = set_size (values_under levels c.keep_over.new.self) levels set c.args.changes.now c.set_factors.ensures.levels in
    let of_view = ap (λ (s : BoardView). length s.levels) c.self.view_is in (
      board_taken set c.seat.new.rank.levels c.set_factors.new.factors (length c.args.self.now.levels) c.args.members c.replace-old.new.dest
          c.set_factors.ensures.limits (size ∙ of_view) c.seat.ensures.levels c.requires.members.in_range c.replace-old.ensures.after,
      subst (λ (members : List ℕ). 0 < length members → c.seat.new.rank.members ≡ members) (sym c.replace-old.ensures.after) c.seat.ensures.members,
    )

pub returns-in-Ok-clause-ok : goal.returns-in-Ok-clause-ok
returns-in-Ok-clause-ok c =
    let own = c.self.inside in
    let levels = own.rank.levels in
    let values = values_under levels own.factors in
    let same = c.in_ok-before.ensures.same in
    let is = set_levels levels c.set_factors.new.rank.levels own.factors c.keep_over.new.self c.args.changes.now same c.set_factors.ensures.levels in
    let stay = set_values levels c.set_factors.new.rank.levels c.seat.new.rank.levels own.factors c.keep_over.new.self c.set_factors.new.factors same c.seat.ensures.levels c.set_factors.ensures.values in
    board_made c.seat.new.rank.levels (assigned values levels c.args.changes.now) values c.set_factors.new.factors c.replace-old.new.dest c.args.members stay (c.seat.ensures.levels ∙ is) c.replace-old.ensures.after
    ∙ ap (λ (s : BoardView). record s { levels = assigned s.values s.levels c.args.changes.now; members = c.args.members }) c.self.view_is

pub set_factors-requires-in-Err-clause-changes : goal.set_factors-requires-in-Err-clause-changes
set_factors-requires-in-Err-clause-changes c =
    let levels = c.self.inside.rank.levels in
    let n = length c.seat.new.rank.levels in
    let seats : n ≡ length c.set_factors.new.rank.levels = ap (λ (xs : List ℤ). length xs) c.seat.ensures.levels in
    let size = set_size (values_under levels c.keep_over.new.self) levels c.set_factors.new.rank.levels c.args.changes.now c.set_factors.ensures.levels in
    record {
      within = subst (λ (ps : List (ℕ × ℤ)). All (λ p. p.0 ≤ n) ps) (sym c.in_ok-before.ensures.value)
          (factors_over-all (λ q. q ≤ n) c.self.inside.factors c.args.changes.now
          (λ k d below. omega (arith, seats, size, ap (λ (s : BoardView). length s.levels) c.self.view_is, c.requires.factors.within k d below)));
      small = c.in_ok-before.ensures.sizes;
    }

pub set_factors-requires-in-Err-clause-kept : goal.set_factors-requires-in-Err-clause-kept
set_factors-requires-in-Err-clause-kept c =
    subst (λ (ps : List (ℕ × ℤ)). All (λ p. HasFactor c.set_factors.new.factors p.0) ps) (sym c.in_ok-before.ensures.value)
    (factors_over-all (λ q. HasFactor c.set_factors.new.factors q) c.self.inside.factors c.args.changes.now
    (λ k d below. c.set_factors.ensures.kept _ (c.in_ok-before.ensures.kept k d below)))

pub set_factors-requires-in-Err-clause-limits : goal.set_factors-requires-in-Err-clause-limits
set_factors-requires-in-Err-clause-limits c = rw c.seat.ensures.levels c.set_factors.ensures.limits

pub seat-requires-in-Err : goal.seat-requires-in-Err
seat-requires-in-Err c =
    let own = c.self.inside in
    let levels = own.rank.levels in
    let changes = c.args.changes.now in
    let same = c.in_ok-before.ensures.same in
    let is = set_levels levels c.set_factors.new.rank.levels own.factors c.keep_over.new.self changes same c.set_factors.ensures.levels in
    let stay = set_values levels c.set_factors.new.rank.levels c.seat.new.rank.levels own.factors c.keep_over.new.self c.set_factors.new.factors same c.seat.ensures.levels c.set_factors.ensures.values in
    let back = levels_back levels c.seat.new.rank.levels c.set_factors-in-Err.new.rank.levels own.factors c.set_factors.new.factors changes c.in_ok-before.before (c.seat.ensures.levels ∙ is) stay c.in_ok-before.ensures.value c.set_factors-in-Err.ensures.levels in
    rw c.replace-old.ensures.value (λ k d below. omega (arith, ap (λ (xs : List ℤ). length xs) back, c.self.invariant.0.members k d below))

pub invariant_of-self-in-Err : goal.invariant_of-self-in-Err
invariant_of-self-in-Err c =
    let own = c.self.inside in
    let levels = own.rank.levels in
    let changes = c.args.changes.now in
    let same = c.in_ok-before.ensures.same in
    let is = set_levels levels c.set_factors.new.rank.levels own.factors c.keep_over.new.self changes same c.set_factors.ensures.levels in
    let stay = set_values levels c.set_factors.new.rank.levels c.seat.new.rank.levels own.factors c.keep_over.new.self c.set_factors.new.factors same c.seat.ensures.levels c.set_factors.ensures.values in
    let back = levels_back levels c.seat.new.rank.levels c.set_factors-in-Err.new.rank.levels own.factors c.set_factors.new.factors changes c.in_ok-before.before (c.seat.ensures.levels ∙ is) stay c.in_ok-before.ensures.value c.set_factors-in-Err.ensures.levels in (
      board_taken c.set_factors-in-Err.new.rank.levels c.seat-in-Err.new.rank.levels c.set_factors-in-Err.new.factors (length levels) own.members c.replace-old.result
          c.set_factors-in-Err.ensures.limits (ap (λ (xs : List ℤ). length xs) back) c.seat-in-Err.ensures.levels c.self.invariant.0.members c.replace-old.ensures.value,
      c.seat-in-Err.ensures.members,
    )

pub returns-clause-err : goal.returns-clause-err
returns-clause-err c =
    let own = c.self.inside in
    let levels = own.rank.levels in
    let changes = c.args.changes.now in
    let same = c.in_ok-before.ensures.same in
    let is = set_levels levels c.set_factors.new.rank.levels own.factors c.keep_over.new.self changes same c.set_factors.ensures.levels in
    let stay = set_values levels c.set_factors.new.rank.levels c.seat.new.rank.levels own.factors c.keep_over.new.self c.set_factors.new.factors same c.seat.ensures.levels c.set_factors.ensures.values in
    let back = levels_back levels c.seat.new.rank.levels c.set_factors-in-Err.new.rank.levels own.factors c.set_factors.new.factors changes c.in_ok-before.before (c.seat.ensures.levels ∙ is) stay c.in_ok-before.ensures.value c.set_factors-in-Err.ensures.levels in
    let values : values_under c.seat-in-Err.new.rank.levels c.set_factors-in-Err.new.factors ≡ values_under levels own.factors =
    ap (λ (xs : List ℤ). values_under xs c.set_factors-in-Err.new.factors) c.seat-in-Err.ensures.levels ∙ c.set_factors-in-Err.ensures.values ∙ stay in
    board_made c.seat-in-Err.new.rank.levels levels (values_under levels own.factors) c.set_factors-in-Err.new.factors c.replace-old.result own.members values (c.seat-in-Err.ensures.levels ∙ back) c.replace-old.ensures.value
    ∙ c.self.view_is
