use Rattle.std.proofs.Common.{◌≡◌, ℕ, take}
use Rattle.tk_monitor.specs.Board.{AreLimited, assigned, values_under}
use Rattle.tk_monitor.specs.Factors.{HasFactor}
use Rattle.tk_monitor.proofs.board.assign.set_factors.Given as goal

-- the factors of the changes passed are set, and no value moved
abbrev pub invariant-loop-i : goal.invariant-loop-i
invariant-loop-i l =
    let values = values_under l.fn.rank.levels l.fn.factors in
    record {
      rank : l.rank ≡ record l.fn.rank { levels = assigned values l.fn.rank.levels (take l.i l.changes) };
      limits : AreLimited (values_under l.rank.levels l.factors) l.rank.levels;
      values : values_under l.rank.levels l.factors ≡ values;
      kept : (o : ℕ) → HasFactor l.fn.factors o → HasFactor l.factors o;
    }
