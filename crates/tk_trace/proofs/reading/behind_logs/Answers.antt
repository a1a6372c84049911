use Rattle.tk_verify.specs.Recorded.{trails_in}
use Rattle.tk_trace.proofs.BehindLemmas.{behind_failed, behind_found}
use Rattle.tk_trace.proofs.reading.behind_logs.Goals as goal

pub returns-in-Ok : goal.returns-in-Ok
returns-in-Ok c = behind_found c.args.settings c.args.names c.args.logs c.monitors.result c.args.bytes.now (c.in-Ok.journal.items, trails_in c.in-Ok.trails.items) c.monitors.ensures.value c.in-Ok.ensures

pub returns-in-Err : goal.returns-in-Err
returns-in-Err c = behind_failed c.in-Err.fault c.args.settings c.args.names c.args.logs c.monitors.result c.args.bytes.now c.monitors.ensures.value c.in-Err.ensures
