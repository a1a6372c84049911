use Rattle.std.proofs.Common.{arith}
use Rattle.std.proofs.lemmas.Result.{err_from_is_err_and}
use Rattle.std.proofs.lemmas.List.{length-map}
use Rattle.tk_input.specs.Rows.{logs_in}
use Rattle.tk_trace.proofs.LogLemmas.{logs_failed, logs_found, parts_read, rows_failed, rows_read}
use Rattle.tk_trace.proofs.reading.logs.logs.Goals as goal

pub returns-in_err-rows : goal.returns-in_err-rows
returns-in_err-rows c =
    let p = err_from_is_err_and c.from_residual.result c.from_residual.ensures.1 in
    rw (p.1, p.2) (rows_failed c.in_err-rows.field-0.0 c.args.objects c.args.monitors c.args.bytes.now c.in_err-rows.ensures)

pub assigned-requires : goal.assigned-requires
assigned-requires c =
    let rows = rows_read c.args.objects c.args.monitors c.args.bytes.now (logs_in c.in_ok-rows.rows.items) c.in_ok-rows.rest.now c.requires.objects (λ i. omega (arith, c.type_inv.bytes i)) c.in_ok-rows.ensures in
    omega (arith, rows.0, c.requires.monitors, length-map c.in_ok-rows.rows.items (λ row. row.items))

pub made_of-requires-clause-monitors : goal.made_of-requires-clause-monitors
made_of-requires-clause-monitors c =
    let rows = rows_read c.args.objects c.args.monitors c.args.bytes.now (logs_in c.in_ok-rows.rows.items) c.in_ok-rows.rest.now c.requires.objects (λ i. omega (arith, c.type_inv.bytes i)) c.in_ok-rows.ensures in
    (parts_read c.args.objects c.args.monitors (logs_in c.in_ok-rows.rows.items) c.in_ok-parts.parts.items c.requires.monitors rows.0 rows.1 c.in_ok-parts.ensures).0

pub made_of-requires-clause-objects : goal.made_of-requires-clause-objects
made_of-requires-clause-objects c =
    let rows = rows_read c.args.objects c.args.monitors c.args.bytes.now (logs_in c.in_ok-rows.rows.items) c.in_ok-rows.rest.now c.requires.objects (λ i. omega (arith, c.type_inv.bytes i)) c.in_ok-rows.ensures in
    (parts_read c.args.objects c.args.monitors (logs_in c.in_ok-rows.rows.items) c.in_ok-parts.parts.items c.requires.monitors rows.0 rows.1 c.in_ok-parts.ensures).1.0

pub made_of-requires-clause-lengths : goal.made_of-requires-clause-lengths
made_of-requires-clause-lengths c =
    let rows = rows_read c.args.objects c.args.monitors c.args.bytes.now (logs_in c.in_ok-rows.rows.items) c.in_ok-rows.rest.now c.requires.objects (λ i. omega (arith, c.type_inv.bytes i)) c.in_ok-rows.ensures in
    (parts_read c.args.objects c.args.monitors (logs_in c.in_ok-rows.rows.items) c.in_ok-parts.parts.items c.requires.monitors rows.0 rows.1 c.in_ok-parts.ensures).1.1

pub returns-in_err-made_of : goal.returns-in_err-made_of
returns-in_err-made_of c =
    let rows = rows_read c.args.objects c.args.monitors c.args.bytes.now (logs_in c.in_ok-rows.rows.items) c.in_ok-rows.rest.now c.requires.objects (λ i. omega (arith, c.type_inv.bytes i)) c.in_ok-rows.ensures in
    let p = err_from_is_err_and c.from_residual-in_err-made_of.result c.from_residual-in_err-made_of.ensures.1 in
    rw (p.1, p.2) (logs_failed c.in_err-made_of.field-0.0 c.args.objects c.args.monitors c.args.bytes.now (logs_in c.in_ok-rows.rows.items) c.in_ok-rows.rest.now c.in_ok-parts.parts.items c.in_ok-rows.ensures rows.1 c.in_ok-parts.ensures c.in_err-made_of.ensures)

pub returns : goal.returns
returns c =
    let rows = rows_read c.args.objects c.args.monitors c.args.bytes.now (logs_in c.in_ok-rows.rows.items) c.in_ok-rows.rest.now c.requires.objects (λ i. omega (arith, c.type_inv.bytes i)) c.in_ok-rows.ensures in
    logs_found c.args.objects c.args.monitors c.args.bytes.now (logs_in c.in_ok-rows.rows.items) c.in_ok-rows.rest.now c.in_ok-parts.parts.items c.in_ok-made_of.field-0 c.in_ok-rows.ensures rows.1 c.in_ok-parts.ensures c.in_ok-made_of.ensures
