use Rattle.tk_commands.proofs.traced.trace_of.Goals as goal

pub returns-in-Ok-clause-named : goal.returns-in-Ok-clause-named
returns-in-Ok-clause-named c = c.in-Ok.ensures.spelled.recorded.named

pub returns-in-Ok-clause-traces : goal.returns-in-Ok-clause-traces
returns-in-Ok-clause-traces c =
    let is = c.in-Ok.ensures in
    record { spelled = is.spelled; starts = is.starts; events = is.events; legal = is.legal; finished = is.finished }

pub returns-in-Err-clause-traces : goal.returns-in-Err-clause-traces
returns-in-Err-clause-traces c = c.bad_trace.ensures c.args.bytes.now c.in-Err.ensures.found
