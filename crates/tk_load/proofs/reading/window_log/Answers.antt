use Rattle.std.proofs.Common.{length}
use Rattle.tk_load.proofs.reading.window_log.Goals as goal

pub returns-in-Ok-expand-clause-objects : goal.returns-in-Ok-expand-clause-objects
returns-in-Ok-expand-clause-objects c = c.in-Ok-expand.ensures.objects (length c.args.names.now) c.in-Ok.ensures.objects
