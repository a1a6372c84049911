use Rattle.std.proofs.Common.{◌≡◌, ◌<◌, [], length, get_or, arith, ap, sym, ◌∙◌}
use Rattle.std.proofs.lemmas.List.Sums.{sum_by_more, sum_by_more_le}
use Rattle.tk_input.specs.Logs.{updates_of}
use Rattle.tk_input.specs.Rows.{logs_in}
use Rattle.tk_input.proofs.RowsLemmas.{get_or-logs_in, length-logs_in}
use Rattle.tk_input.proofs.logs.judging.updates_of.Goals as goal

pub updates_in-updates-requires : goal.updates_in-updates-requires
updates_in-updates-requires c =
    let logs = logs_in c.args.rows.now in
    let i = c.loop-row.row-index in
    let row = c.row-item.result in
    let here : updates_of (get_or logs i []) ≡ updates_of c.as_slice.result.now = ap (λ ps. updates_of ps) (get_or-logs_in c.args.rows.now i row c.loop-row-test.true ∙ ap (λ r. r.items) (sym c.row-item.is) ∙ sym c.as_slice.ensures.value) in
    let within : i < length logs = omega (arith, length-logs_in c.args.rows.now, c.loop-row-test.true) in
    omega (arith, here, sum_by_more_le updates_of logs i [] within, c.requires)

pub overflow_add-updates : goal.overflow_add-updates
overflow_add-updates c =
    let logs = logs_in c.args.rows.now in
    let i = c.loop-row.row-index in
    let row = c.row-item.result in
    let here : updates_of (get_or logs i []) ≡ updates_of c.as_slice.result.now = ap (λ ps. updates_of ps) (get_or-logs_in c.args.rows.now i row c.loop-row-test.true ∙ ap (λ r. r.items) (sym c.row-item.is) ∙ sym c.as_slice.ensures.value) in
    let within : i < length logs = omega (arith, length-logs_in c.args.rows.now, c.loop-row-test.true) in
    omega (arith, here, sum_by_more_le updates_of logs i [] within, c.requires, c.loop-row.invariant, c.updates_in-updates.ensures)

pub loop-row-preserved : goal.loop-row-preserved
loop-row-preserved c =
    let logs = logs_in c.args.rows.now in
    let i = c.loop-row.row-index in
    let row = c.row-item.result in
    let here : updates_of (get_or logs i []) ≡ updates_of c.as_slice.result.now = ap (λ ps. updates_of ps) (get_or-logs_in c.args.rows.now i row c.loop-row-test.true ∙ ap (λ r. r.items) (sym c.row-item.is) ∙ sym c.as_slice.ensures.value) in
    let within : i < length logs = omega (arith, length-logs_in c.args.rows.now, c.loop-row-test.true) in
    omega (arith, here, sum_by_more updates_of logs i [] within, c.loop-row.invariant, c.updates_in-updates.ensures)
