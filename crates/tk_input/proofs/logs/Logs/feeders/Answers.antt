use Rattle.std.proofs.Common.{◌≡◌, ◌<◌, ◌-◌, [], length, get_or, arith, ap, sym, ◌∙◌}
use Rattle.tk_input.specs.Rows.{logs_in}
use Rattle.tk_input.proofs.RowsLemmas.{get_or-logs_in, length-logs_in}
use Rattle.tk_input.proofs.logs.Logs.feeders.Goals as goal

pub overflow_cast-result : goal.overflow_cast-result
overflow_cast-result c =
    let place = c.args.mon.0 - 1 in
    let rows = c.self.inside.rows.items in
    let row = c.index.result.now in
    let shown : length c.args.self.now.logs ≡ length (logs_in rows) = ap (λ s. length s.logs) (sym c.self.view_is) in
    let inside : place < length (logs_in rows) = omega (arith, shown, c.requires) in
    let parts : get_or (logs_in rows) place [] ≡ row.items = get_or-logs_in rows place row (omega (arith, length-logs_in rows)) ∙ ap (λ r. r.items) (sym c.index.ensures) in
    let limits = (c.self.invariant.limits.each place [] inside).feeders in
    omega (arith, limits, ap (λ ps. length ps) parts)
