use Rattle.std.proofs.Common.{rules}
use Rattle.tk_ledger.proofs.TextLemmas.{one_monitor}
use Rattle.tk_ledger.proofs.text.monitor_line.Goals as goal

pub returns : goal.returns
returns c =
    one_monitor c.push_named.new.line.items c.push_counts.new.line.items c.from_ref.result.now c.args.monitor c.args.counts.now
    (search rules) c.from_ref.ensures.value c.in_ok-push_counts.ensures
